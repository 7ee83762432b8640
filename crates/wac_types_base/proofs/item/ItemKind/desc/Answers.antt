use Rattle.std.proofs.Common.{sym}
use Rattle.wac_types_base.specs.declared.item.ItemKind.{ItemKind}
use Rattle.wac_types_base.proofs.Telling.{desc_word}
use Rattle.wac_types_base.proofs.item.ItemKind.desc.Goals as goal

pub returns-in-Func : goal.returns-in-Func
returns-in-Func c = sym (desc_word c.args.types.now c.see_acyclic.ensures c.args.self.now (ItemKind.Func c.in-Func.field-0) c.in-Func.is c.requires)

pub returns-in-Instance : goal.returns-in-Instance
returns-in-Instance c = sym (desc_word c.args.types.now c.see_acyclic.ensures c.args.self.now (ItemKind.Instance c.in-Instance.field-0) c.in-Instance.is c.requires)

pub returns-in-Component : goal.returns-in-Component
returns-in-Component c = sym (desc_word c.args.types.now c.see_acyclic.ensures c.args.self.now (ItemKind.Component c.in-Component.field-0) c.in-Component.is c.requires)

pub returns-in-Module : goal.returns-in-Module
returns-in-Module c = sym (desc_word c.args.types.now c.see_acyclic.ensures c.args.self.now (ItemKind.Module c.in-Module.field-0) c.in-Module.is c.requires)

pub returns-in-Value : goal.returns-in-Value
returns-in-Value c = sym (desc_word c.args.types.now c.see_acyclic.ensures c.args.self.now (ItemKind.Value c.in-Value.field-0) c.in-Value.is c.requires)
