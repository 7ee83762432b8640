use Rattle.std.proofs.Common.{◌∙◌}
use Rattle.std.proofs.lemmas.Result.{IfOk-weaker}
use Rattle.wac_types_base.specs.declared.item.ItemKind.{ItemKind}
use Rattle.wac_writable.proofs.SimpleLaws.{of_kind, func_unwritable, value_unwritable, module_item, no_simple_instance, no_simple_component}
use Rattle.wac_writable.proofs.writable.simple_fails.Goals as goal

pub returns-in-Func-clause-fails : goal.returns-in-Func-clause-fails
returns-in-Func-clause-fails c =
    let C = c.args.test.types.now in
    let o = c.args.test.is_outer in
    let n = c.args.item.name.now in
    IfOk-weaker c.places_fail.result _ _ (λ b f i s h w. of_kind C o n h c.args.item.kind (ItemKind.Func c.in-Func.id) b c.in-Func.is s
    (λ t. f t h w ∙ func_unwritable C c.see_acyclic.ensures o n h c.in-Func.id t)) c.places_fail.ensures.fails

pub returns-in-Instance-clause-fails : goal.returns-in-Instance-clause-fails
returns-in-Instance-clause-fails c i s h w = absurd (no_simple_instance c.args.item.kind c.in-Instance.field-0 i c.in-Instance.is)

pub returns-in-Component-clause-fails : goal.returns-in-Component-clause-fails
returns-in-Component-clause-fails c i s h w = absurd (no_simple_component c.args.item.kind c.in-Component.field-0 i c.in-Component.is)

pub returns-in-Module-clause-fails : goal.returns-in-Module-clause-fails
returns-in-Module-clause-fails c i s h w =
    let C = c.args.test.types.now in
    of_kind C c.args.test.is_outer c.args.item.name.now h c.args.item.kind (ItemKind.Module c.in-Module.id) c.module_fails.result c.in-Module.is s
    (λ t. c.module_fails.ensures t ∙ module_item C c.see_acyclic.ensures c.args.test.is_outer c.args.item.name.now h c.in-Module.id t)

pub returns-in-Value-clause-fails : goal.returns-in-Value-clause-fails
returns-in-Value-clause-fails c i s h w =
    let C = c.args.test.types.now in
    of_kind C c.args.test.is_outer c.args.item.name.now h c.args.item.kind (ItemKind.Value c.in-Value.field-0) _ c.in-Value.is s
    (value_unwritable C c.see_acyclic.ensures c.args.test.is_outer c.args.item.name.now h c.in-Value.field-0)
