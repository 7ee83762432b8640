use Rattle.std.proofs.Common.{Some, refl, sym, ap, ◌∙◌}
use Rattle.std.proofs.lemmas.Result.{IfOk-weaker}
use Rattle.wac_types_base.specs.declared.item.ItemKind.{ItemKind}
use Rattle.wac_types_base.specs.declared.item.ValueType.{ValueType}
use Rattle.wac_types_fit.specs.Trees.{tree_in}
use Rattle.wac_types_fit.proofs.Unfolded.{same_tree, end_no_alias, primitive_tree}
use Rattle.wac_graph_bytes.specs.declared.value.ValueType.TheVariants.{Primitive}
use Rattle.wac_graph_scopes.proofs.ValueLaws.{value_there}
use Rattle.wac_graph_scopes.proofs.UsedLaws.{type_of_tree, type_there, type_answered, primitive_defined}
use Rattle.wac_graph_scopes.proofs.RefusedLaws.{if_err_map, alias_refused}
use Rattle.wac_graph_scopes.proofs.value.define_value.Goals as goal

pub define_once-requires-clause-no_alias : goal.define_once-requires-clause-no_alias
define_once-requires-clause-no_alias c = end_no_alias c.args.types.now c.see_acyclic.ensures c.in-Defined.ensures.resolved

pub returns-in-Some-clause-writes : goal.returns-in-Some-clause-writes
returns-in-Some-clause-writes c w outer i h =
    let types = c.args.types.now in
    type_there w types outer i (tree_in types (ItemKind.Value c.args.ty)) c.args.scope.now c.in-Some.index h (c.in-Some.ensures.reads w outer i h)

pub returns-in-Defined-clause-writes : goal.returns-in-Defined-clause-writes
returns-in-Defined-clause-writes c w outer i h =
    let types = c.args.types.now in
    let same = same_tree types c.see_acyclic.ensures (ItemKind.Value (ValueType.Defined c.in-Defined.id)) (ItemKind.Value c.args.ty) c.in-Defined.ensures.stands (c.if-not-has.ensures.0 refl) c.in-Defined.ensures.tree in
    IfOk-weaker c.define_once.result _ _ (λ k a. type_of_tree w types outer i (tree_in types (ItemKind.Value (ValueType.Defined c.in-Defined.id))) (tree_in types (ItemKind.Value c.args.ty)) c.define_once.new.scope k same a) (c.define_once.ensures.writes w outer i h)

pub returns-in-Own-clause-writes : goal.returns-in-Own-clause-writes
returns-in-Own-clause-writes c w outer i h =
    let types = c.args.types.now in
    let end = ItemKind.Value (ValueType.Own c.in-Own.id) in
    let same = same_tree types c.see_acyclic.ensures end (ItemKind.Value c.args.ty) c.in-Own.ensures.stands (c.if-not-has.ensures.0 refl) c.in-Own.ensures.tree in
    let u = c.own_index.new.scope in
    IfOk-weaker c.own_index.result _ _ (λ k a. type_of_tree w types outer i (tree_in types end) (tree_in types (ItemKind.Value c.args.ty)) u k same (type_answered w types outer i (tree_in types end) u k a)) (c.own_index.ensures.writes w outer i h)

pub returns-in-Borrow-clause-writes : goal.returns-in-Borrow-clause-writes
returns-in-Borrow-clause-writes c w outer i h =
    let types = c.args.types.now in
    let end = ItemKind.Value (ValueType.Borrow c.in-Borrow.id) in
    let same = same_tree types c.see_acyclic.ensures end (ItemKind.Value c.args.ty) c.in-Borrow.ensures.stands (c.if-not-has.ensures.0 refl) c.in-Borrow.ensures.tree in
    let u = c.borrow_index.new.scope in
    IfOk-weaker c.borrow_index.result _ _ (λ k a. type_of_tree w types outer i (tree_in types end) (tree_in types (ItemKind.Value c.args.ty)) u k same (type_answered w types outer i (tree_in types end) u k a)) (c.borrow_index.ensures.writes w outer i h)

pub returns-in_ok-define-in-Primitive-clause-writes : goal.returns-in_ok-define-in-Primitive-clause-writes
returns-in_ok-define-in-Primitive-clause-writes c w outer i h =
    let types = c.args.types.now in
    let p = c.in-Primitive.p in
    let t = tree_in types (ItemKind.Value c.args.ty) in
    let same = same_tree types c.see_acyclic.ensures (ItemKind.Value (ValueType.Primitive p)) (ItemKind.Value c.args.ty) c.in-Primitive.ensures.stands (c.if-not-has.ensures.0 refl) c.in-Primitive.ensures.tree in
    primitive_defined w types outer i t p c.args.scope.now c.define.new.self c.in_ok-define-in-Primitive.field-0
    (value_there w types outer i t c.args.scope.now (Primitive p) h (ap Some (sym (primitive_tree types c.see_acyclic.ensures p) ∙ same)))
    (λ j x hs e. c.in_ok-define-in-Primitive.ensures.stands w types outer j x hs e)

pub returns-in-Defined-clause-refused : goal.returns-in-Defined-clause-refused
returns-in-Defined-clause-refused c stands =
    if_err_map c.define_once.result (λ e h. alias_refused c.args.types.now c.see_acyclic.ensures c.args.ty (ValueType.Defined c.in-Defined.id) c.in-Defined.ensures.resolved stands c.args.scope.now c.define_once.new.scope e h) c.define_once.ensures.refused

pub returns-in-Own-clause-refused : goal.returns-in-Own-clause-refused
returns-in-Own-clause-refused c stands =
    if_err_map c.own_index.result (λ e h. alias_refused c.args.types.now c.see_acyclic.ensures c.args.ty (ValueType.Own c.in-Own.id) c.in-Own.ensures.resolved stands c.args.scope.now c.own_index.new.scope e h) c.own_index.ensures.refused

pub returns-in-Borrow-clause-refused : goal.returns-in-Borrow-clause-refused
returns-in-Borrow-clause-refused c stands =
    if_err_map c.borrow_index.result (λ e h. alias_refused c.args.types.now c.see_acyclic.ensures c.args.ty (ValueType.Borrow c.in-Borrow.id) c.in-Borrow.ensures.resolved stands c.args.scope.now c.borrow_index.new.scope e h) c.borrow_index.ensures.refused
