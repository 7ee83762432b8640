use Rattle.std.proofs.Common.{refl, sym, ap, subst, ◌∙◌}
use Rattle.std.proofs.lemmas.Result.{err_from_is_err_and}
use Rattle.wac_types_base.specs.declared.item.ItemKind.{ItemKind}
use Rattle.wac_types_base.specs.declared.item.«Type».{«Type» as TypeKind}
use Rattle.wac_types_base.specs.Collection.{Stands}
use Rattle.wac_types_base.proofs.Slots.{stands_typed_func, stands_typed_value}
use Rattle.wac_types_base.proofs.Standing.{typed_value_stands}
use Rattle.wac_types_fit.specs.Trees.{tree_in}
use Rattle.wac_types_fit.proofs.Unfolded.{type_func, type_value}
use Rattle.wac_graph_bytes.specs.declared.value.Description.TheVariants as desc
use Rattle.wac_graph_scopes.specs.declared.items.ItemScope.{ItemScope}
use Rattle.wac_graph_scopes.specs.ItemRefusals.{RefusedTypeApart}
use Rattle.wac_graph_scopes.proofs.UsedLaws.{func_item, value_item}
use Rattle.wac_graph_scopes.proofs.WritingLaws.{typed_func_stands, gives_of, item_of_type, type_described, describes_kind}
use Rattle.wac_types_parts.specs.Parts.{IsOfInterface}
use Rattle.wac_graph_scopes.proofs.imports.describe_type.Goals as goal

pub returns-in_ok-index-in-Value-clause-describes : goal.returns-in_ok-index-in-Value-clause-describes
returns-in_ok-index-in-Value-clause-describes c w outer i h =
    let types = c.args.types.now in
    let v = c.in-Value.ty in
    let k = c.in_ok-index-in-Value.index in
    let s = c.args.scope.now in
    let u : ItemScope = record s { types = c.define_apart.new.scope } in
    let stands = c.in_ok-index-in-Value.ensures.stands in
    let item = value_item types c.see_acyclic.ensures v stands ∙ sym (type_value types c.see_acyclic.ensures v (typed_value_stands types v ∙ stands)) in
    let a = gives_of w types outer i (tree_in types (ItemKind.Value v)) s c.define_apart.new.scope k h (c.in_ok-index-in-Value.ensures.writes w outer i h.written) in
    let g = item_of_type w types outer i (tree_in types (ItemKind.Ty (TypeKind.Value v))) (tree_in types (ItemKind.Value v)) u k item a in
    describes_kind w types outer i (ItemKind.Ty (TypeKind.Value v)) (ItemKind.Ty c.args.ty) u (desc.Equal k) (ap ItemKind.Ty c.in-Value.is) (type_described w types outer i (TypeKind.Value v) u k g)

pub returns-in_err-index-in-Value-clause-refused : goal.returns-in_err-index-in-Value-clause-refused
returns-in_err-index-in-Value-clause-refused c stands =
    let p = err_from_is_err_and c.from_residual.result c.from_residual.ensures.1 in
    let types = c.args.types.now in
    let s : ItemScope = record c.args.scope.now { types = c.define_apart.new.scope } in
    let e = c.in_err-index-in-Value.field-0.0 in
    let there = stands_typed_value types c.in-Value.ty (subst (λ (t : TypeKind). Stands types (ItemKind.Ty t)) c.in-Value.is stands) in
    rw (p.1, p.2) (subst (λ (t : TypeKind). RefusedTypeApart types t c.args.scope.now s e) (sym c.in-Value.is) (c.in_err-index-in-Value.ensures.refused there))

pub returns-in_ok-index-in-Func-clause-describes : goal.returns-in_ok-index-in-Func-clause-describes
returns-in_ok-index-in-Func-clause-describes c w outer i h =
    let types = c.args.types.now in
    let f = c.in-Func.id in
    let k = c.in_ok-index-in-Func.index in
    let u = c.push_func_type.new.scope in
    let stands = c.in_ok-index-in-Func.ensures.stands in
    let item = func_item types c.see_acyclic.ensures f stands ∙ sym (type_func types c.see_acyclic.ensures f (typed_func_stands types f ∙ stands)) in
    let g = item_of_type w types outer i (tree_in types (ItemKind.Ty (TypeKind.Func f))) (tree_in types (ItemKind.Func f)) u k item (c.in_ok-index-in-Func.ensures.states w outer i h) in
    describes_kind w types outer i (ItemKind.Ty (TypeKind.Func f)) (ItemKind.Ty c.args.ty) u (desc.Equal k) (ap ItemKind.Ty c.in-Func.is) (type_described w types outer i (TypeKind.Func f) u k g)

pub returns-in_err-index-in-Func-clause-refused : goal.returns-in_err-index-in-Func-clause-refused
returns-in_err-index-in-Func-clause-refused c stands =
    let p = err_from_is_err_and c.from_residual-in_err-index-in-Func.result c.from_residual-in_err-index-in-Func.ensures.1 in
    let types = c.args.types.now in
    let s = c.push_func_type.new.scope in
    let e = c.in_err-index-in-Func.field-0.0 in
    let there = stands_typed_func types c.in-Func.id (subst (λ (t : TypeKind). Stands types (ItemKind.Ty t)) c.in-Func.is stands) in
    rw (p.1, p.2) (subst (λ (t : TypeKind). RefusedTypeApart types t c.args.scope.now s e) (sym c.in-Func.is) (c.in_err-index-in-Func.ensures.refused there))

pub returns-in_ok-index-in-Value-clause-own : goal.returns-in_ok-index-in-Value-clause-own
returns-in_ok-index-in-Value-clause-own c own w outer i h = (c.in_ok-index-in-Value.index, refl, c.in_ok-index-in-Value.ensures.entry w outer i h.written)

pub returns-in_ok-index-in-Func-clause-own : goal.returns-in_ok-index-in-Func-clause-own
returns-in_ok-index-in-Func-clause-own c own w outer i h = (c.in_ok-index-in-Func.index, refl, c.in_ok-index-in-Func.ensures.entry w outer i h)

pub returns-in_ok-index-in-Value-clause-instance : goal.returns-in_ok-index-in-Value-clause-instance
returns-in_ok-index-in-Value-clause-instance c stands id is = absurd (subst (λ (t : TypeKind). IsOfInterface (ItemKind.Ty t) id) c.in-Value.is is)

pub returns-in_err-index-in-Value-clause-instance : goal.returns-in_err-index-in-Value-clause-instance
returns-in_err-index-in-Value-clause-instance c stands id is = absurd (subst (λ (t : TypeKind). IsOfInterface (ItemKind.Ty t) id) c.in-Value.is is)

pub returns-in_err-index-in-Func-clause-instance : goal.returns-in_err-index-in-Func-clause-instance
returns-in_err-index-in-Func-clause-instance c stands id is = absurd (subst (λ (t : TypeKind). IsOfInterface (ItemKind.Ty t) id) c.in-Func.is is)

pub returns-in-Module-clause-instance : goal.returns-in-Module-clause-instance
returns-in-Module-clause-instance c stands id is = absurd (subst (λ (t : TypeKind). IsOfInterface (ItemKind.Ty t) id) c.in-Module.is is)
