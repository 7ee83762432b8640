use Rattle.std.proofs.Common.{◌≡◌, ℕ, ◌<◌, ◌-◌, length, Some, slice_get}
use Rattle.wac_types_base.specs.declared.item.ItemKind.{ItemKind}
use Rattle.wac_types_base.specs.Collection.{Stands}
use Rattle.wac_types_base.proofs.types.Types.has_ids_of.Given as goal

-- what is in the places before this one stands
abbrev pub invariant-loop-place : goal.invariant-loop-place
invariant-loop-place g l = (i : ℕ) (j : ItemKind) → i < l.at → slice_get (g.E.Places.entry l.entry).1 i ≡ Some (Some j) → Stands l.self j

abbrev pub decreases-loop-place : goal.decreases-loop-place
decreases-loop-place g l = length (g.E.Places.entry l.entry).1 - l.at
