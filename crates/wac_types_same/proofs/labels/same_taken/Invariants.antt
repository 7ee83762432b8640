use Rattle.std.proofs.Common.{◌≡◌, ℕ, ◌<◌, slice_get}
use Rattle.wac_types_same.specs.Same.{names_taken}
use Rattle.wac_types_same.proofs.labels.same_taken.Given as goal

-- the lists agree so far
abbrev pub invariant-loop-at : goal.invariant-loop-at
invariant-loop-at l = (i : ℕ) → i < l.at → slice_get (names_taken l.a) i ≡ slice_get (names_taken l.b) i
