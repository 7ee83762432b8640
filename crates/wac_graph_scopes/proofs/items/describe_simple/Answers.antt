use Rattle.std.proofs.Common.{subst, sym}
use Rattle.wac_types_base.specs.declared.item.ItemKind.{ItemKind}
use Rattle.wac_types_base.specs.Collection.{Stands}
use Rattle.wac_graph_bytes.specs.declared.value.Description.TheVariants as desc
use Rattle.std.proofs.lemmas.Result.{err_from_is_err_and}
use Rattle.wac_graph_scopes.specs.ItemRefusals.{RefusedItem}
use Rattle.wac_graph_scopes.proofs.WritingLaws.{type_described, func_described, module_described, describes_kind}
use Rattle.wac_graph_scopes.proofs.items.describe_simple.Goals as goal

pub returns-in_ok-index-in-Ty-clause-describes : goal.returns-in_ok-index-in-Ty-clause-describes
returns-in_ok-index-in-Ty-clause-describes c w outer i h =
    let types = c.args.types.now in
    let k = c.in_ok-index-in-Ty.index in
    describes_kind w types outer i (ItemKind.Ty c.in-Ty.ty) c.args.kind c.push_type.new.scope (desc.Equal k) c.in-Ty.is (type_described w types outer i c.in-Ty.ty c.push_type.new.scope k (c.in_ok-index-in-Ty.ensures.states w outer i h))

pub returns-in_ok-index-in-Func-clause-describes : goal.returns-in_ok-index-in-Func-clause-describes
returns-in_ok-index-in-Func-clause-describes c w outer i h =
    let types = c.args.types.now in
    let k = c.in_ok-index-in-Func.index in
    let stands = subst (Stands types) c.in-Func.is c.requires in
    describes_kind w types outer i (ItemKind.Func c.in-Func.id) c.args.kind c.push_func_type.new.scope (desc.Func k) c.in-Func.is
    (func_described w types outer i c.see_acyclic.ensures c.in-Func.id c.push_func_type.new.scope k stands (c.in_ok-index-in-Func.ensures.states w outer i h))

pub returns-in_ok-index-in-Module-clause-describes : goal.returns-in_ok-index-in-Module-clause-describes
returns-in_ok-index-in-Module-clause-describes c w outer i h =
    let types = c.args.types.now in
    let k = c.in_ok-index-in-Module.index in
    describes_kind w types outer i (ItemKind.Module c.in-Module.id) c.args.kind c.push_module_type.new.scope (desc.Module k) c.in-Module.is
    (module_described w types outer i c.in-Module.id c.push_module_type.new.scope k (c.in_ok-index-in-Module.ensures.states w outer i h))

pub returns-in_err-index-in-Ty-clause-refused : goal.returns-in_err-index-in-Ty-clause-refused
returns-in_err-index-in-Ty-clause-refused c =
    let p = err_from_is_err_and c.from_residual.result c.from_residual.ensures.1 in
    let e = c.in_err-index-in-Ty.field-0.0 in
    rw (p.1, p.2) (subst (λ (k : ItemKind). RefusedItem c.args.types.now k c.args.scope.now c.push_type.new.scope e) (sym c.in-Ty.is) c.in_err-index-in-Ty.ensures.refused)

pub returns-in_err-index-in-Func-clause-refused : goal.returns-in_err-index-in-Func-clause-refused
returns-in_err-index-in-Func-clause-refused c =
    let p = err_from_is_err_and c.from_residual-in_err-index-in-Func.result c.from_residual-in_err-index-in-Func.ensures.1 in
    let e = c.in_err-index-in-Func.field-0.0 in
    let stands = subst (Stands c.args.types.now) c.in-Func.is c.requires in
    rw (p.1, p.2) (subst (λ (k : ItemKind). RefusedItem c.args.types.now k c.args.scope.now c.push_func_type.new.scope e) (sym c.in-Func.is) (c.in_err-index-in-Func.ensures.refused stands))

pub returns-in_err-index-in-Module-clause-refused : goal.returns-in_err-index-in-Module-clause-refused
returns-in_err-index-in-Module-clause-refused c =
    let p = err_from_is_err_and c.from_residual-in_err-index-in-Module.result c.from_residual-in_err-index-in-Module.ensures.1 in
    let e = c.in_err-index-in-Module.field-0.0 in
    let stands = subst (Stands c.args.types.now) c.in-Module.is c.requires in
    rw (p.1, p.2) (subst (λ (k : ItemKind). RefusedItem c.args.types.now k c.args.scope.now c.push_module_type.new.scope e) (sym c.in-Module.is) (c.in_err-index-in-Module.ensures.refused stands))
