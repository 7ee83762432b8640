use Rattle.std.proofs.Common.{take}
use Rattle.wac_types_base.specs.Collection.{Grows}
use Rattle.wac_graph_causes.specs.Late.{AddsLate}
use Rattle.wac_graph_causes.proofs.CircleLaws.{inside_of}
use Rattle.wac_graph_causes.proofs.circles.add_inside.Given as goal

-- those of the component types so far are added
abbrev pub invariant-loop-world : goal.invariant-loop-world
invariant-loop-world l = record {
  grows : Grows l.fn.types l.types;
  adds : AddsLate l.fn.types l.types l.fn.all.items l.all.items (inside_of l.fn.types l.name (take l.world-index l.world-items));
}
