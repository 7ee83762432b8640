use Rattle.std.proofs.Common.{◌-◌, length}
use Rattle.wac_types_base.specs.Collection.{size_of, slots_of}
use Rattle.wac_graph_core.proofs.Reached.{Gathered}
use Rattle.wac_graph_core.proofs.reach.+mark_reached.Given as goal

abbrev pub decreases-mark_reached : goal.decreases-mark_reached
decreases-mark_reached l = size_of l.types.now l.kind

abbrev pub invariant-loop-place : goal.invariant-loop-place
invariant-loop-place l = Gathered l.types l.kind l.initial.marks l.at l.marks

abbrev pub decreases-loop-place : goal.decreases-loop-place
decreases-loop-place l = length (slots_of l.types l.kind) - l.at
