use Rattle.std.proofs.Common.{◌≡◌, take}
use Rattle.wac_graph_core.proofs.ties.copy_ties.Given as goal

abbrev pub invariant-loop-tie : goal.invariant-loop-tie
invariant-loop-tie l = l.copies.items ≡ take l.tie-index l.list.items
