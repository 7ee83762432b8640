use Rattle.std.specs.List.{flat_map}
use Rattle.std.proofs.Common.{take}
use Rattle.wac_types_base.specs.Collection.{Grows}
use Rattle.wac_types_written.specs.Forms.{stated_items}
use Rattle.wac_composition.specs.Circles.{written_inside}
use Rattle.wac_graph_causes.specs.Late.{AddsLate}
use Rattle.wac_graph_causes.proofs.circles.add_all_inside.Given as goal

-- those of the items so far are added
abbrev pub invariant-loop-at : goal.invariant-loop-at
invariant-loop-at l = record {
  grows : Grows l.fn.types l.types;
  adds : AddsLate l.fn.types l.types l.fn.all.items l.all.items (flat_map written_inside (stated_items l.fn.types (take l.at l.items)));
}
