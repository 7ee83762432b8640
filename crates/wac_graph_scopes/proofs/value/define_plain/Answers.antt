use Rattle.std.proofs.Common.{Some, sym, ap, subst, ◌∙◌}
use Rattle.std.proofs.lemmas.Result.{IfOk-weaker}
use Rattle.wac_types_base.specs.declared.item.ItemKind.{ItemKind}
use Rattle.wac_types_base.specs.declared.item.ValueType.{ValueType}
use Rattle.wac_types_base.specs.Collection.{Stands}
use Rattle.wac_types_base.specs.Resolving.{IsNoAlias}
use Rattle.wac_types_fit.specs.Trees.{tree_in}
use Rattle.wac_types_fit.proofs.Unfolded.{primitive_tree}
use Rattle.wac_graph_bytes.specs.declared.value.ValueType.TheVariants.{Primitive}
use Rattle.wac_graph_scopes.specs.Refusals.{RefusedApart}
use Rattle.wac_graph_scopes.proofs.RefusedLaws.{if_err_map, own_refused_apart, borrow_refused_apart, parts_refused_apart}
use Rattle.wac_graph_scopes.proofs.ValueLaws.{value_there}
use Rattle.wac_graph_scopes.proofs.UsedLaws.{type_answered, type_of_tree, primitive_defined}
use Rattle.wac_graph_scopes.proofs.value.define_plain.Goals as goal

pub define_own-requires : goal.define_own-requires
define_own-requires c = subst (λ v. Stands c.args.types.now (ItemKind.Value v)) c.in-Own.is c.requires.stands

pub define_borrow-requires : goal.define_borrow-requires
define_borrow-requires c = subst (λ v. Stands c.args.types.now (ItemKind.Value v)) c.in-Borrow.is c.requires.stands

pub define_anew-requires-clause-stands : goal.define_anew-requires-clause-stands
define_anew-requires-clause-stands c = subst (λ v. Stands c.args.types.now (ItemKind.Value v)) c.in-Defined.is c.requires.stands

pub define_anew-requires-clause-no_alias : goal.define_anew-requires-clause-no_alias
define_anew-requires-clause-no_alias c = subst (IsNoAlias c.args.types.now) c.in-Defined.is c.requires.no_alias

pub returns-in_ok-define-in-Primitive-clause-writes : goal.returns-in_ok-define-in-Primitive-clause-writes
returns-in_ok-define-in-Primitive-clause-writes c w outer i h =
    let types = c.args.types.now in
    let p = c.in-Primitive.p in
    let t = tree_in types (ItemKind.Value c.args.ty) in
    primitive_defined w types outer i t p c.args.scope.now c.define.new.self c.in_ok-define-in-Primitive.field-0
    (value_there w types outer i t c.args.scope.now (Primitive p) h (ap Some (sym (ap (λ v. tree_in types (ItemKind.Value v)) c.in-Primitive.is ∙ primitive_tree types c.see_acyclic.ensures p))))
    (λ j x hs e. c.in_ok-define-in-Primitive.ensures.stands w types outer j x hs e)

pub returns-in_ok-define-in-Primitive-clause-entry : goal.returns-in_ok-define-in-Primitive-clause-entry
returns-in_ok-define-in-Primitive-clause-entry c w outer i h = c.in_ok-define-in-Primitive.ensures.entry c.args.types.now w outer i h

pub returns-in-Own-clause-writes : goal.returns-in-Own-clause-writes
returns-in-Own-clause-writes c w outer i h =
    let types = c.args.types.now in
    let own = tree_in types (ItemKind.Value (ValueType.Own c.in-Own.id)) in
    let s = c.define_own.new.scope in
    IfOk-weaker c.define_own.result _ _ (λ k a. type_of_tree w types outer i own (tree_in types (ItemKind.Value c.args.ty)) s k (ap (λ v. tree_in types (ItemKind.Value v)) (sym c.in-Own.is)) (type_answered w types outer i own s k a))
    (c.define_own.ensures.writes w outer i h)

pub returns-in-Borrow-clause-writes : goal.returns-in-Borrow-clause-writes
returns-in-Borrow-clause-writes c w outer i h =
    let types = c.args.types.now in
    let borrow = tree_in types (ItemKind.Value (ValueType.Borrow c.in-Borrow.id)) in
    let s = c.define_borrow.new.scope in
    IfOk-weaker c.define_borrow.result _ _ (λ k a. type_of_tree w types outer i borrow (tree_in types (ItemKind.Value c.args.ty)) s k (ap (λ v. tree_in types (ItemKind.Value v)) (sym c.in-Borrow.is)) (type_answered w types outer i borrow s k a))
    (c.define_borrow.ensures.writes w outer i h)

pub returns-in-Defined-clause-writes : goal.returns-in-Defined-clause-writes
returns-in-Defined-clause-writes c w outer i h =
    let types = c.args.types.now in
    let defined = tree_in types (ItemKind.Value (ValueType.Defined c.in-Defined.id)) in
    let s = c.define_anew.new.scope in
    IfOk-weaker c.define_anew.result _ _ (λ k a. type_of_tree w types outer i defined (tree_in types (ItemKind.Value c.args.ty)) s k (ap (λ v. tree_in types (ItemKind.Value v)) (sym c.in-Defined.is)) a) (c.define_anew.ensures.writes w outer i h)

pub returns-in-Own-clause-refused : goal.returns-in-Own-clause-refused
returns-in-Own-clause-refused c =
    let types = c.args.types.now in
    let s = c.args.scope.now in
    let u = c.define_own.new.scope in
    if_err_map c.define_own.result (λ e h. subst (λ v. RefusedApart types (ItemKind.Value v) s u e) (sym c.in-Own.is) (own_refused_apart types c.in-Own.id s u e h)) c.define_own.ensures.refused

pub returns-in-Borrow-clause-refused : goal.returns-in-Borrow-clause-refused
returns-in-Borrow-clause-refused c =
    let types = c.args.types.now in
    let s = c.args.scope.now in
    let u = c.define_borrow.new.scope in
    if_err_map c.define_borrow.result (λ e h. subst (λ v. RefusedApart types (ItemKind.Value v) s u e) (sym c.in-Borrow.is) (borrow_refused_apart types c.in-Borrow.id s u e h)) c.define_borrow.ensures.refused

pub returns-in-Defined-clause-refused : goal.returns-in-Defined-clause-refused
returns-in-Defined-clause-refused c =
    let types = c.args.types.now in
    let s = c.args.scope.now in
    let u = c.define_anew.new.scope in
    if_err_map c.define_anew.result (λ e h. subst (λ v. RefusedApart types (ItemKind.Value v) s u e) (sym c.in-Defined.is) (parts_refused_apart types c.in-Defined.id s u e h)) c.define_anew.ensures.refused
