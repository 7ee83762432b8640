use Rattle.std.proofs.Common.{ap, ◌∙◌}
use Rattle.wac_types_base.specs.Collection.{func_entry, interface_entry, world_entry, module_entry}
use Rattle.wac_types_base.specs.Stated.{IsFunction, IsInstance, IsComponent, IsModule, IsValue}
use Rattle.wac_types_base.proofs.Telling.{item_kind}
use Rattle.wac_types_fit.proofs.ItemKinds.{is_type, types_are_types, not_instance, not_type, not_component, not_func, not_module}
use Rattle.wac_types_same.specs.Same.{label_of}
use Rattle.wac_types_same.proofs.EqualLabels.{through_same, func_label, instance_label, component_label, module_label, item_other, type_other}
use Rattle.wac_types_fit.proofs.ItemKinds.{not_value}
use Rattle.wac_types_same.proofs.same.same_labels.Goals as goal

pub returns-in-Func-b : goal.returns-in-Func-b
returns-in-Func-b c =
    through_same c.same_funcs.result (func_entry c.func_type.result.now).0 (func_entry c.func_type-in-Func-b.result.now).0 _ _
    (ap (λ k. label_of c.args.types.now k) c.in-Func.is ∙ func_label c.args.types.now c.in-Func.f c.func_type.result.now c.func_type.ensures.entry c.func_type.ensures.own)
    (ap (λ k. label_of c.args.types.now k) c.in-Func-b.is ∙ func_label c.args.types.now c.in-Func-b.g c.func_type-in-Func-b.result.now c.func_type-in-Func-b.ensures.entry c.func_type-in-Func-b.ensures.own)
    c.same_funcs.ensures

pub returns-in-Instance-b : goal.returns-in-Instance-b
returns-in-Instance-b c =
    through_same c.same_interfaces.result (interface_entry c.interface.result.now).0 (interface_entry c.interface-in-Instance-b.result.now).0 _ _
    (ap (λ k. label_of c.args.types.now k) c.in-Instance.is ∙ instance_label c.args.types.now c.in-Instance.i c.interface.result.now c.interface.ensures.entry c.interface.ensures.own)
    (ap (λ k. label_of c.args.types.now k) c.in-Instance-b.is ∙ instance_label c.args.types.now c.in-Instance-b.j c.interface-in-Instance-b.result.now c.interface-in-Instance-b.ensures.entry c.interface-in-Instance-b.ensures.own)
    c.same_interfaces.ensures

pub returns-in-Component-b : goal.returns-in-Component-b
returns-in-Component-b c =
    through_same c.same_worlds.result (world_entry c.world.result.now).0 (world_entry c.world-in-Component-b.result.now).0 _ _
    (ap (λ k. label_of c.args.types.now k) c.in-Component.is ∙ component_label c.args.types.now c.in-Component.w c.world.result.now c.world.ensures.entry c.world.ensures.own)
    (ap (λ k. label_of c.args.types.now k) c.in-Component-b.is ∙ component_label c.args.types.now c.in-Component-b.x c.world-in-Component-b.result.now c.world-in-Component-b.ensures.entry c.world-in-Component-b.ensures.own)
    c.same_worlds.ensures

pub returns-in-Module-b : goal.returns-in-Module-b
returns-in-Module-b c =
    through_same c.same_module_labels.result (module_entry c.module_type.result.now).0 (module_entry c.module_type-in-Module-b.result.now).0 _ _
    (ap (λ k. label_of c.args.types.now k) c.in-Module.is ∙ module_label c.args.types.now c.in-Module.m c.module_type.result.now c.module_type.ensures.entry c.module_type.ensures.own)
    (ap (λ k. label_of c.args.types.now k) c.in-Module-b.is ∙ module_label c.args.types.now c.in-Module-b.n c.module_type-in-Module-b.result.now c.module_type-in-Module-b.ensures.entry c.module_type-in-Module-b.ensures.own)
    c.same_module_labels.ensures

pub returns-in_default : goal.returns-in_default
returns-in_default c = type_other c.args.types.now c.args.a c.args.b c.requires.first c.requires.second (ap (λ k. is_type (item_kind k)) c.in-Ty.is ∙ types_are_types c.in-Ty.s) (not_type c.args.b c.in_default.not-Ty)

pub returns-in_default-b : goal.returns-in_default-b
returns-in_default-b c = item_other c.args.types.now c.args.a c.args.b c.requires.first c.requires.second IsFunction (ap item_kind c.in-Func.is) (not_func c.args.b c.in_default-b.not-Func)

pub returns-in_default-b-2 : goal.returns-in_default-b-2
returns-in_default-b-2 c = item_other c.args.types.now c.args.a c.args.b c.requires.first c.requires.second IsInstance (ap item_kind c.in-Instance.is) (not_instance c.args.b c.in_default-b-2.not-Instance)

pub returns-in_default-b-3 : goal.returns-in_default-b-3
returns-in_default-b-3 c = item_other c.args.types.now c.args.a c.args.b c.requires.first c.requires.second IsComponent (ap item_kind c.in-Component.is) (not_component c.args.b c.in_default-b-3.not-Component)

pub returns-in_default-b-4 : goal.returns-in_default-b-4
returns-in_default-b-4 c = item_other c.args.types.now c.args.a c.args.b c.requires.first c.requires.second IsModule (ap item_kind c.in-Module.is) (not_module c.args.b c.in_default-b-4.not-Module)

pub returns-in_default-b-5 : goal.returns-in_default-b-5
returns-in_default-b-5 c = item_other c.args.types.now c.args.a c.args.b c.requires.first c.requires.second IsValue (ap item_kind c.in-Value.is) (not_value c.args.b c.in_default-b-5.not-Value)
