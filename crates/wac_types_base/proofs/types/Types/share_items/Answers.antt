use Rattle.wac_types_base.proofs.Shared.{within_func_item, within_instance, within_component, within_module_item}
use Rattle.wac_types_base.proofs.types.Types.share_items.Goals as goal

pub same_place-requires-clause-first : goal.same_place-requires-clause-first
same_place-requires-clause-first c = within_func_item c.self.view_is c.in-Func-Func.is-0 c.requires.first

pub same_place-requires-clause-second : goal.same_place-requires-clause-second
same_place-requires-clause-second c = within_func_item c.self.view_is c.in-Func-Func.is-1 c.requires.second

pub same_place-requires-in-Instance-Instance-clause-first : goal.same_place-requires-in-Instance-Instance-clause-first
same_place-requires-in-Instance-Instance-clause-first c = within_instance c.self.view_is c.in-Instance-Instance.is-0 c.requires.first

pub same_place-requires-in-Instance-Instance-clause-second : goal.same_place-requires-in-Instance-Instance-clause-second
same_place-requires-in-Instance-Instance-clause-second c = within_instance c.self.view_is c.in-Instance-Instance.is-1 c.requires.second

pub same_place-requires-in-Component-Component-clause-first : goal.same_place-requires-in-Component-Component-clause-first
same_place-requires-in-Component-Component-clause-first c = within_component c.self.view_is c.in-Component-Component.is-0 c.requires.first

pub same_place-requires-in-Component-Component-clause-second : goal.same_place-requires-in-Component-Component-clause-second
same_place-requires-in-Component-Component-clause-second c = within_component c.self.view_is c.in-Component-Component.is-1 c.requires.second

pub same_place-requires-in-Module-Module-clause-first : goal.same_place-requires-in-Module-Module-clause-first
same_place-requires-in-Module-Module-clause-first c = within_module_item c.self.view_is c.in-Module-Module.is-0 c.requires.first

pub same_place-requires-in-Module-Module-clause-second : goal.same_place-requires-in-Module-Module-clause-second
same_place-requires-in-Module-Module-clause-second c = within_module_item c.self.view_is c.in-Module-Module.is-1 c.requires.second
