use Rattle.std.proofs.Common.{◌≡◌, ℕ, ◌<◌, slice_get}
use Rattle.wac_types_fit.proofs.same_core.same_lists.Given as goal

-- the lists agree so far
abbrev pub invariant-loop-at : goal.invariant-loop-at
invariant-loop-at l = (i : ℕ) → i < l.at → slice_get l.a i ≡ slice_get l.b i
