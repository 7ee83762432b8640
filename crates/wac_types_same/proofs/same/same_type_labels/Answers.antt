use Rattle.std.proofs.Common.{ap, subst, ◌∙◌}
use Rattle.wac_types_base.specs.declared.item.ItemKind.{ItemKind}
use Rattle.wac_types_base.specs.Collection.{Stands, type_of, resource_entry, func_entry, interface_entry, world_entry, module_entry}
use Rattle.wac_types_base.specs.Stated.{IsResource, IsFunctionType, IsValueType, IsInterface, IsWorld, IsModuleType}
use Rattle.wac_types_base.proofs.Slots.{stands_typed_func, stands_typed_value, stands_typed_interface, stands_typed_world, stands_typed_module}
use Rattle.wac_types_base.proofs.Telling.{item_kind}
use Rattle.wac_types_same.specs.Same.{label_of}
use Rattle.wac_types_same.proofs.EqualLabels.{through, through_same, one_type, resource_label, typed_func_label, typed_value_label, typed_interface_label, typed_world_label, typed_module_label, item_other, type_not_resource, type_not_func, type_not_value, type_not_interface, type_not_world, type_not_module}
use Rattle.wac_types_same.proofs.same.same_type_labels.Goals as goal

pub func_type-requires : goal.func_type-requires
func_type-requires c = stands_typed_func c.args.types.now c.in-Func.f (subst (λ t. Stands c.args.types.now (ItemKind.Ty t)) c.in-Func.is c.requires.first)

pub func_type-requires-in-Func-b : goal.func_type-requires-in-Func-b
func_type-requires-in-Func-b c = stands_typed_func c.args.types.now c.in-Func-b.g (subst (λ t. Stands c.args.types.now (ItemKind.Ty t)) c.in-Func-b.is c.requires.second)

pub interface-requires : goal.interface-requires
interface-requires c = stands_typed_interface c.args.types.now c.in-Interface.i (subst (λ t. Stands c.args.types.now (ItemKind.Ty t)) c.in-Interface.is c.requires.first)

pub interface-requires-in-Interface-b : goal.interface-requires-in-Interface-b
interface-requires-in-Interface-b c = stands_typed_interface c.args.types.now c.in-Interface-b.j (subst (λ t. Stands c.args.types.now (ItemKind.Ty t)) c.in-Interface-b.is c.requires.second)

pub world-requires : goal.world-requires
world-requires c = stands_typed_world c.args.types.now c.in-World.w (subst (λ t. Stands c.args.types.now (ItemKind.Ty t)) c.in-World.is c.requires.first)

pub world-requires-in-World-b : goal.world-requires-in-World-b
world-requires-in-World-b c = stands_typed_world c.args.types.now c.in-World-b.x (subst (λ t. Stands c.args.types.now (ItemKind.Ty t)) c.in-World-b.is c.requires.second)

pub module_type-requires : goal.module_type-requires
module_type-requires c = stands_typed_module c.args.types.now c.in-Module.m (subst (λ t. Stands c.args.types.now (ItemKind.Ty t)) c.in-Module.is c.requires.first)

pub module_type-requires-in-Module-b : goal.module_type-requires-in-Module-b
module_type-requires-in-Module-b c = stands_typed_module c.args.types.now c.in-Module-b.n (subst (λ t. Stands c.args.types.now (ItemKind.Ty t)) c.in-Module-b.is c.requires.second)

pub same_value_labels-requires-clause-first : goal.same_value_labels-requires-clause-first
same_value_labels-requires-clause-first c = stands_typed_value c.args.types.now c.in-Value.v (subst (λ t. Stands c.args.types.now (ItemKind.Ty t)) c.in-Value.is c.requires.first)

pub same_value_labels-requires-clause-second : goal.same_value_labels-requires-clause-second
same_value_labels-requires-clause-second c = stands_typed_value c.args.types.now c.in-Value-b.w (subst (λ t. Stands c.args.types.now (ItemKind.Ty t)) c.in-Value-b.is c.requires.second)

pub returns-in-Func-b : goal.returns-in-Func-b
returns-in-Func-b c =
    through type_of one_type c.same_funcs.result (func_entry c.func_type.result.now).0 (func_entry c.func_type-in-Func-b.result.now).0 _ _
    (ap (λ t. label_of c.args.types.now (ItemKind.Ty t)) c.in-Func.is ∙ typed_func_label c.args.types.now c.in-Func.f c.func_type.result.now c.func_type.ensures.entry c.func_type.ensures.own)
    (ap (λ t. label_of c.args.types.now (ItemKind.Ty t)) c.in-Func-b.is ∙ typed_func_label c.args.types.now c.in-Func-b.g c.func_type-in-Func-b.result.now c.func_type-in-Func-b.ensures.entry c.func_type-in-Func-b.ensures.own)
    c.same_funcs.ensures

pub returns-in-Interface-b : goal.returns-in-Interface-b
returns-in-Interface-b c =
    through type_of one_type c.same_interfaces.result (interface_entry c.interface.result.now).0 (interface_entry c.interface-in-Interface-b.result.now).0 _ _
    (ap (λ t. label_of c.args.types.now (ItemKind.Ty t)) c.in-Interface.is ∙ typed_interface_label c.args.types.now c.in-Interface.i c.interface.result.now c.interface.ensures.entry c.interface.ensures.own)
    (ap (λ t. label_of c.args.types.now (ItemKind.Ty t)) c.in-Interface-b.is ∙ typed_interface_label c.args.types.now c.in-Interface-b.j c.interface-in-Interface-b.result.now c.interface-in-Interface-b.ensures.entry c.interface-in-Interface-b.ensures.own)
    c.same_interfaces.ensures

pub returns-in-World-b : goal.returns-in-World-b
returns-in-World-b c =
    through type_of one_type c.same_worlds.result (world_entry c.world.result.now).0 (world_entry c.world-in-World-b.result.now).0 _ _
    (ap (λ t. label_of c.args.types.now (ItemKind.Ty t)) c.in-World.is ∙ typed_world_label c.args.types.now c.in-World.w c.world.result.now c.world.ensures.entry c.world.ensures.own)
    (ap (λ t. label_of c.args.types.now (ItemKind.Ty t)) c.in-World-b.is ∙ typed_world_label c.args.types.now c.in-World-b.x c.world-in-World-b.result.now c.world-in-World-b.ensures.entry c.world-in-World-b.ensures.own)
    c.same_worlds.ensures

pub returns-in-Module-b : goal.returns-in-Module-b
returns-in-Module-b c =
    through type_of one_type c.same_module_labels.result (module_entry c.module_type.result.now).0 (module_entry c.module_type-in-Module-b.result.now).0 _ _
    (ap (λ t. label_of c.args.types.now (ItemKind.Ty t)) c.in-Module.is ∙ typed_module_label c.args.types.now c.in-Module.m c.module_type.result.now c.module_type.ensures.entry c.module_type.ensures.own)
    (ap (λ t. label_of c.args.types.now (ItemKind.Ty t)) c.in-Module-b.is ∙ typed_module_label c.args.types.now c.in-Module-b.n c.module_type-in-Module-b.result.now c.module_type-in-Module-b.ensures.entry c.module_type-in-Module-b.ensures.own)
    c.same_module_labels.ensures

pub returns-in-Resource-b : goal.returns-in-Resource-b
returns-in-Resource-b c =
    through_same c.same_resources.result (resource_entry c.resource.result.now).0 (resource_entry c.resource-in-Resource-b.result.now).0 _ _
    (ap (λ t. label_of c.args.types.now (ItemKind.Ty t)) c.in-Resource.is ∙ resource_label c.args.types.now c.in-Resource.r c.resource.result.now c.resource.ensures.entry c.resource.ensures.own)
    (ap (λ t. label_of c.args.types.now (ItemKind.Ty t)) c.in-Resource-b.is ∙ resource_label c.args.types.now c.in-Resource-b.s c.resource-in-Resource-b.result.now c.resource-in-Resource-b.ensures.entry c.resource-in-Resource-b.ensures.own)
    c.same_resources.ensures

pub returns-in-Value-b : goal.returns-in-Value-b
returns-in-Value-b c =
    through type_of one_type c.same_value_labels.result (label_of c.args.types.now (ItemKind.Value c.in-Value.v)) (label_of c.args.types.now (ItemKind.Value c.in-Value-b.w)) _ _
    (ap (λ t. label_of c.args.types.now (ItemKind.Ty t)) c.in-Value.is ∙ typed_value_label c.args.types.now c.in-Value.v (subst (λ t. Stands c.args.types.now (ItemKind.Ty t)) c.in-Value.is c.requires.first))
    (ap (λ t. label_of c.args.types.now (ItemKind.Ty t)) c.in-Value-b.is ∙ typed_value_label c.args.types.now c.in-Value-b.w (subst (λ t. Stands c.args.types.now (ItemKind.Ty t)) c.in-Value-b.is c.requires.second))
    c.same_value_labels.ensures

pub returns-in_default : goal.returns-in_default
returns-in_default c = item_other c.args.types.now (ItemKind.Ty c.args.a) (ItemKind.Ty c.args.b) c.requires.first c.requires.second IsResource (ap (λ t. item_kind (ItemKind.Ty t)) c.in-Resource.is) (type_not_resource c.args.b c.in_default.not-Resource)

pub returns-in_default-b : goal.returns-in_default-b
returns-in_default-b c = item_other c.args.types.now (ItemKind.Ty c.args.a) (ItemKind.Ty c.args.b) c.requires.first c.requires.second IsFunctionType (ap (λ t. item_kind (ItemKind.Ty t)) c.in-Func.is) (type_not_func c.args.b c.in_default-b.not-Func)

pub returns-in_default-b-2 : goal.returns-in_default-b-2
returns-in_default-b-2 c = item_other c.args.types.now (ItemKind.Ty c.args.a) (ItemKind.Ty c.args.b) c.requires.first c.requires.second IsValueType (ap (λ t. item_kind (ItemKind.Ty t)) c.in-Value.is) (type_not_value c.args.b c.in_default-b-2.not-Value)

pub returns-in_default-b-3 : goal.returns-in_default-b-3
returns-in_default-b-3 c = item_other c.args.types.now (ItemKind.Ty c.args.a) (ItemKind.Ty c.args.b) c.requires.first c.requires.second IsInterface (ap (λ t. item_kind (ItemKind.Ty t)) c.in-Interface.is) (type_not_interface c.args.b c.in_default-b-3.not-Interface)

pub returns-in_default-b-4 : goal.returns-in_default-b-4
returns-in_default-b-4 c = item_other c.args.types.now (ItemKind.Ty c.args.a) (ItemKind.Ty c.args.b) c.requires.first c.requires.second IsWorld (ap (λ t. item_kind (ItemKind.Ty t)) c.in-World.is) (type_not_world c.args.b c.in_default-b-4.not-World)

pub returns-in_default-b-5 : goal.returns-in_default-b-5
returns-in_default-b-5 c = item_other c.args.types.now (ItemKind.Ty c.args.a) (ItemKind.Ty c.args.b) c.requires.first c.requires.second IsModuleType (ap (λ t. item_kind (ItemKind.Ty t)) c.in-Module.is) (type_not_module c.args.b c.in_default-b-5.not-Module)
