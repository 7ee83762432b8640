use Rattle.std.proofs.Common.{◌≡◌, length}
use Rattle.wac_graph_core.specs.Listing.{held_list}
use Rattle.wac_graph_core.proofs.iter.PackageIterIterator.next.Given as goal

-- only empty places were passed over
abbrev pub invariant-loop-place : goal.invariant-loop-place
invariant-loop-place l = held_list l.self-inside.places.now ≡ l.fn.self

abbrev pub decreases-loop-place : goal.decreases-loop-place
decreases-loop-place l = length l.self-inside.places.now
