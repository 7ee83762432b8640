use Rattle.std.proofs.Common.{◌≡◌, ℕ, ◌+◌, ◌-◌, ◌*◌, ◌<◌, length, slice_get}
use Rattle.wac_types_base.specs.declared.item.ItemKind.{ItemKind}
use Rattle.wac_types_base.specs.Collection.{size_of, slots_of}
use Rattle.wac_types_fit.specs.Checking.{place_trees}
use Rattle.wac_types_fit.proofs.ValueTrees.{place_size}
use Rattle.wac_types_fit.proofs.values.+values.Given as goal

abbrev pub decreases-same_values : goal.decreases-same_values
decreases-same_values l = 4 * (size_of l.at.now (ItemKind.Value l.a) + size_of l.bt.now (ItemKind.Value l.b)) + 3

abbrev pub decreases-same_resolved : goal.decreases-same_resolved
decreases-same_resolved l = 4 * (size_of l.at.now (ItemKind.Value l.a) + size_of l.bt.now (ItemKind.Value l.b)) + 2

abbrev pub decreases-same_places : goal.decreases-same_places
decreases-same_places l = 4 * (size_of l.at.now l.a + size_of l.bt.now l.b) + 1

abbrev pub decreases-same_place : goal.decreases-same_place
decreases-same_place l = 4 * (place_size l.at.now l.a + place_size l.bt.now l.b) + 4

-- the places before this one have the same trees
abbrev pub invariant-same_places-loop-given : goal.invariant-same_places-loop-given
invariant-same_places-loop-given l = (i : ℕ) → i < l.index → slice_get (place_trees l.at l.a) i ≡ slice_get (place_trees l.bt l.b) i

abbrev pub decreases-same_places-loop-given : goal.decreases-same_places-loop-given
decreases-same_places-loop-given l = length (slots_of l.at l.a) - l.index
