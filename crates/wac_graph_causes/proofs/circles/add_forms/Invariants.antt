use Rattle.std.specs.List.{flat_map}
use Rattle.std.proofs.Common.{take}
use Rattle.wac_types_base.specs.Collection.{Grows}
use Rattle.wac_composition.specs.Circles.{written_whole}
use Rattle.wac_graph_causes.specs.Circling.{forms_in}
use Rattle.wac_graph_causes.specs.Late.{AddsLate}
use Rattle.wac_graph_causes.proofs.circles.add_forms.Given as goal

-- those of the definitions so far are added
abbrev pub invariant-loop-definition : goal.invariant-loop-definition
invariant-loop-definition l = record {
  grows : Grows l.fn.types l.types;
  adds : AddsLate l.fn.types l.types l.fn.all.items l.all.items (flat_map written_whole (forms_in l.fn.types (take l.definition-index l.definitions)));
}
