use Rattle.wac_types_base.proofs.Shared.{within_resource, within_func, within_interface, within_world, within_module, value_inside}
use Rattle.wac_types_base.proofs.types.Types.share.Goals as goal

pub same_place-requires-clause-first : goal.same_place-requires-clause-first
same_place-requires-clause-first c = within_resource c.self.view_is c.in-Resource-Resource.is-0 c.requires.first

pub same_place-requires-clause-second : goal.same_place-requires-clause-second
same_place-requires-clause-second c = within_resource c.self.view_is c.in-Resource-Resource.is-1 c.requires.second

pub same_place-requires-in-Func-Func-clause-first : goal.same_place-requires-in-Func-Func-clause-first
same_place-requires-in-Func-Func-clause-first c = within_func c.self.view_is c.in-Func-Func.is-0 c.requires.first

pub same_place-requires-in-Func-Func-clause-second : goal.same_place-requires-in-Func-Func-clause-second
same_place-requires-in-Func-Func-clause-second c = within_func c.self.view_is c.in-Func-Func.is-1 c.requires.second

pub share_value-requires-clause-first : goal.share_value-requires-clause-first
share_value-requires-clause-first c = value_inside c.args.self.now c.in-Value-Value.is-0 c.requires.first

pub share_value-requires-clause-second : goal.share_value-requires-clause-second
share_value-requires-clause-second c = value_inside c.args.self.now c.in-Value-Value.is-1 c.requires.second

pub same_place-requires-in-Interface-Interface-clause-first : goal.same_place-requires-in-Interface-Interface-clause-first
same_place-requires-in-Interface-Interface-clause-first c = within_interface c.self.view_is c.in-Interface-Interface.is-0 c.requires.first

pub same_place-requires-in-Interface-Interface-clause-second : goal.same_place-requires-in-Interface-Interface-clause-second
same_place-requires-in-Interface-Interface-clause-second c = within_interface c.self.view_is c.in-Interface-Interface.is-1 c.requires.second

pub same_place-requires-in-World-World-clause-first : goal.same_place-requires-in-World-World-clause-first
same_place-requires-in-World-World-clause-first c = within_world c.self.view_is c.in-World-World.is-0 c.requires.first

pub same_place-requires-in-World-World-clause-second : goal.same_place-requires-in-World-World-clause-second
same_place-requires-in-World-World-clause-second c = within_world c.self.view_is c.in-World-World.is-1 c.requires.second

pub same_place-requires-in-Module-Module-clause-first : goal.same_place-requires-in-Module-Module-clause-first
same_place-requires-in-Module-Module-clause-first c = within_module c.self.view_is c.in-Module-Module.is-0 c.requires.first

pub same_place-requires-in-Module-Module-clause-second : goal.same_place-requires-in-Module-Module-clause-second
same_place-requires-in-Module-Module-clause-second c = within_module c.self.view_is c.in-Module-Module.is-1 c.requires.second
