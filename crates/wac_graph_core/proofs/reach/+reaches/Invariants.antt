use Rattle.std.proofs.Common.{◌-◌, length}
use Rattle.wac_types_base.specs.Collection.{size_of, slots_of}
use Rattle.wac_graph_core.proofs.Reached.{Sought}
use Rattle.wac_graph_core.proofs.reach.+reaches.Given as goal

abbrev pub decreases-reaches : goal.decreases-reaches
decreases-reaches l = size_of l.types.now l.kind

abbrev pub invariant-loop-place : goal.invariant-loop-place
invariant-loop-place l = Sought l.types l.kind l.wanted l.at l.without

abbrev pub decreases-loop-place : goal.decreases-loop-place
decreases-loop-place l = length (slots_of l.types l.kind) - l.at
