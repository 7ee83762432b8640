use Rattle.std.proofs.Common.{◌≡◌, ◌+◌, ◌*◌}
use Rattle.wac_reader.proofs.wiring.Told.+bundles.Given as goal

abbrev pub decreases-items : goal.decreases-items
decreases-items l = 2 * l.depth + 1

abbrev pub decreases-source : goal.decreases-source
decreases-source l = 2 * l.depth

abbrev pub invariant-items-loop-at : goal.invariant-items-loop-at
invariant-items-loop-at l = l.depth ≡ l.fn.depth
