use Rattle.wac_types_base.proofs.Shared.{within_borrow, within_own, within_defined}
use Rattle.wac_types_base.proofs.types.Types.share_value.Goals as goal

pub same_place-requires-clause-first : goal.same_place-requires-clause-first
same_place-requires-clause-first c = within_borrow c.self.view_is c.in-Borrow-Borrow.is-0 c.requires.first

pub same_place-requires-clause-second : goal.same_place-requires-clause-second
same_place-requires-clause-second c = within_borrow c.self.view_is c.in-Borrow-Borrow.is-1 c.requires.second

pub same_place-requires-in-Own-Own-clause-first : goal.same_place-requires-in-Own-Own-clause-first
same_place-requires-in-Own-Own-clause-first c = within_own c.self.view_is c.in-Own-Own.is-0 c.requires.first

pub same_place-requires-in-Own-Own-clause-second : goal.same_place-requires-in-Own-Own-clause-second
same_place-requires-in-Own-Own-clause-second c = within_own c.self.view_is c.in-Own-Own.is-1 c.requires.second

pub same_place-requires-in-Defined-Defined-clause-first : goal.same_place-requires-in-Defined-Defined-clause-first
same_place-requires-in-Defined-Defined-clause-first c = within_defined c.self.view_is c.in-Defined-Defined.is-0 c.requires.first

pub same_place-requires-in-Defined-Defined-clause-second : goal.same_place-requires-in-Defined-Defined-clause-second
same_place-requires-in-Defined-Defined-clause-second c = within_defined c.self.view_is c.in-Defined-Defined.is-1 c.requires.second
