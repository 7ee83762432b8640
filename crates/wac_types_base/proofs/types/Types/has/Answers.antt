use Rattle.wac_types_base.proofs.Slots.{has_func, has_interface, has_world, has_module}
use Rattle.wac_types_base.proofs.types.Types.has.Goals as goal

pub returns-in-Func : goal.returns-in-Func
returns-in-Func c = has_func c.args.self.now c.args.kind c.in-Func.id c.contains-in-Func.result c.in-Func.is c.contains-in-Func.ensures

pub returns-in-Instance : goal.returns-in-Instance
returns-in-Instance c = has_interface c.args.self.now c.args.kind c.in-Instance.id c.contains-in-Instance.result c.in-Instance.is c.contains-in-Instance.ensures

pub returns-in-Component : goal.returns-in-Component
returns-in-Component c = has_world c.args.self.now c.args.kind c.in-Component.id c.contains-in-Component.result c.in-Component.is c.contains-in-Component.ensures

pub returns-in-Module : goal.returns-in-Module
returns-in-Module c = has_module c.args.self.now c.args.kind c.in-Module.id c.contains-in-Module.result c.in-Module.is c.contains-in-Module.ensures
