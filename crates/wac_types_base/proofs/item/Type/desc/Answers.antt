use Rattle.std.proofs.Common.{◌∙◌, sym, ap}
use Rattle.wac_types_base.specs.declared.item.ItemKind.{ItemKind}
use Rattle.wac_types_base.specs.declared.item.«Type».{«Type» as TypeKind}
use Rattle.wac_types_base.proofs.Telling.{desc_word, value_type_desc, value_type_stands}
use Rattle.wac_types_base.proofs.item.Type.desc.Goals as goal

pub desc-requires : goal.desc-requires
desc-requires c = value_type_stands c.args.types.now (ItemKind.Ty c.args.self.now) c.in-Value.ty (ap ItemKind.Ty c.in-Value.is) c.requires

pub returns-in-Value : goal.returns-in-Value
returns-in-Value c = c.desc.ensures ∙ sym (value_type_desc c.args.types.now c.see_acyclic.ensures (ItemKind.Ty c.args.self.now) c.in-Value.ty (ap ItemKind.Ty c.in-Value.is) c.requires)

pub returns-in-Resource : goal.returns-in-Resource
returns-in-Resource c = sym (desc_word c.args.types.now c.see_acyclic.ensures (ItemKind.Ty c.args.self.now) (ItemKind.Ty (TypeKind.Resource c.in-Resource.field-0)) (ap ItemKind.Ty c.in-Resource.is) c.requires)

pub returns-in-Func : goal.returns-in-Func
returns-in-Func c = sym (desc_word c.args.types.now c.see_acyclic.ensures (ItemKind.Ty c.args.self.now) (ItemKind.Ty (TypeKind.Func c.in-Func.field-0)) (ap ItemKind.Ty c.in-Func.is) c.requires)

pub returns-in-Interface : goal.returns-in-Interface
returns-in-Interface c = sym (desc_word c.args.types.now c.see_acyclic.ensures (ItemKind.Ty c.args.self.now) (ItemKind.Ty (TypeKind.Interface c.in-Interface.field-0)) (ap ItemKind.Ty c.in-Interface.is) c.requires)

pub returns-in-World : goal.returns-in-World
returns-in-World c = sym (desc_word c.args.types.now c.see_acyclic.ensures (ItemKind.Ty c.args.self.now) (ItemKind.Ty (TypeKind.World c.in-World.field-0)) (ap ItemKind.Ty c.in-World.is) c.requires)

pub returns-in-Module : goal.returns-in-Module
returns-in-Module c = sym (desc_word c.args.types.now c.see_acyclic.ensures (ItemKind.Ty c.args.self.now) (ItemKind.Ty (TypeKind.Module c.in-Module.field-0)) (ap ItemKind.Ty c.in-Module.is) c.requires)
