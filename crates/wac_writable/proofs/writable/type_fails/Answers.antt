use Rattle.std.proofs.Common.{ap, ◌∙◌}
use Rattle.std.proofs.lemmas.Result.{IfOk-weaker}
use Rattle.wac_types_base.specs.declared.item.ItemKind.{ItemKind}
use Rattle.wac_types_base.specs.declared.item.«Type».{«Type» as TypeKind}
use Rattle.wac_writable.proofs.SimpleLaws.{of_kind, func_stands, func_type_unwritable, value_stands, value_type_unwritable, module_type_unwritable, no_simple_interface, no_simple_world}
use Rattle.wac_writable.proofs.writable.type_fails.Goals as goal

pub returns-in-Func-clause-fails : goal.returns-in-Func-clause-fails
returns-in-Func-clause-fails c =
    let C = c.args.test.types.now in
    let o = c.args.test.is_outer in
    let n = c.args.item.name.now in
    IfOk-weaker c.places_fail.result _ _ (λ b f i s h w. of_kind C o n h c.args.item.kind (ItemKind.Ty (TypeKind.Func c.in-Func.id)) b (c.requires ∙ ap ItemKind.Ty c.in-Func.is) s
    (λ t. f (func_stands C c.see_acyclic.ensures o n h c.in-Func.id t) h w ∙ func_type_unwritable C c.see_acyclic.ensures o n h c.in-Func.id t)) c.places_fail.ensures.fails

pub returns-in-Value-clause-fails : goal.returns-in-Value-clause-fails
returns-in-Value-clause-fails c =
    let C = c.args.test.types.now in
    let o = c.args.test.is_outer in
    let n = c.args.item.name.now in
    IfOk-weaker c.value_fails.result _ _ (λ b f i s h w. of_kind C o n h c.args.item.kind (ItemKind.Ty (TypeKind.Value c.in-Value.ty)) b (c.requires ∙ ap ItemKind.Ty c.in-Value.is) s
    (λ t. f (value_stands C c.see_acyclic.ensures o n h c.in-Value.ty t) h w ∙ value_type_unwritable C c.see_acyclic.ensures o n h c.in-Value.ty t)) c.value_fails.ensures.fails

pub returns-in-Interface-clause-fails : goal.returns-in-Interface-clause-fails
returns-in-Interface-clause-fails c i s h w = absurd (no_simple_interface c.args.item.kind c.in-Interface.field-0 i (c.requires ∙ ap ItemKind.Ty c.in-Interface.is))

pub returns-in-World-clause-fails : goal.returns-in-World-clause-fails
returns-in-World-clause-fails c i s h w = absurd (no_simple_world c.args.item.kind c.in-World.field-0 i (c.requires ∙ ap ItemKind.Ty c.in-World.is))

pub returns-in-Module-clause-fails : goal.returns-in-Module-clause-fails
returns-in-Module-clause-fails c i s h w =
    let C = c.args.test.types.now in
    of_kind C c.args.test.is_outer c.args.item.name.now h c.args.item.kind (ItemKind.Ty (TypeKind.Module c.in-Module.field-0)) _ (c.requires ∙ ap ItemKind.Ty c.in-Module.is) s
    (module_type_unwritable C c.see_acyclic.ensures c.args.test.is_outer c.args.item.name.now h c.in-Module.field-0)
