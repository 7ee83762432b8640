use Rattle.std.proofs.Common.{◌≡◌, ℕ, ◌+◌, ◌-◌, ◌*◌, ◌<◌, length, slice_get}
use Rattle.wac_types_base.specs.Collection.{size_of, slots_of}
use Rattle.wac_types_same.specs.Same.{places_stated}
use Rattle.wac_types_same.proofs.Places.{slot_size}
use Rattle.wac_types_same.proofs.same.+stating.Given as goal

abbrev pub decreases-states_same : goal.decreases-states_same
decreases-states_same l = 4 * (size_of l.types.now l.a + size_of l.types.now l.b) + 2

abbrev pub decreases-same_places : goal.decreases-same_places
decreases-same_places l = 4 * (size_of l.types.now l.a + size_of l.types.now l.b) + 1

abbrev pub decreases-same_place : goal.decreases-same_place
decreases-same_place l = 4 * (slot_size l.types.now l.a + slot_size l.types.now l.b) + 3

abbrev pub decreases-same_places-loop-first : goal.decreases-same_places-loop-first
decreases-same_places-loop-first l = length (slots_of l.types l.a) - l.at

-- the places agree so far
abbrev pub invariant-same_places-loop-first : goal.invariant-same_places-loop-first
invariant-same_places-loop-first l = (i : ℕ) → i < l.at → slice_get (places_stated l.types l.a) i ≡ slice_get (places_stated l.types l.b) i
