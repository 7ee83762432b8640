use Rattle.std.proofs.Common.{take}
use Rattle.wac_types_base.specs.Collection.{Grows}
use Rattle.wac_graph_encode.specs.Worlds.{AreCopies, AreExported}
use Rattle.wac_graph_encode.proofs.world.add_exports.Given as goal

-- those so far are exported
abbrev pub invariant-loop-at : goal.invariant-loop-at
invariant-loop-at l = record {
  grows : Grows l.fn.types l.types;
  copies : AreCopies l.graph.types l.types l.copies;
  exported : AreExported l.graph l.types (take l.at l.graph.exports) l.exports;
}
