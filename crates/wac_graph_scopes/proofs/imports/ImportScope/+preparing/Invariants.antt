use Rattle.std.proofs.Common.{◌+◌, ◌*◌, ◌<◌, ℕ, List}
use Rattle.wac_types_base.specs.declared.item.ItemKind.{ItemKind}
use Rattle.wac_types_base.specs.Entries.{Name}
use Rattle.wac_types_base.specs.Collection.{size_of}
use Rattle.wac_graph_bytes.specs.Typing.{Worlds, Scope, Inside}
use Rattle.wac_graph_scopes.specs.Imports.{WritesOn}
use Rattle.wac_graph_scopes.specs.Prepared.{KeepsUsed, StandsUsedAt, IsPreparedAt}
use Rattle.wac_graph_scopes.proofs.imports.ImportScope.+preparing.Given as goal

abbrev pub decreases-prepare : goal.decreases-prepare
decreases-prepare l = 4 * size_of l.all.types.now l.kind + 2

abbrev pub decreases-prepare_interface : goal.decreases-prepare_interface
decreases-prepare_interface l = 4 * size_of l.all.types.now (ItemKind.Instance l.id) + 1

abbrev pub decreases-prepare_export : goal.decreases-prepare_export
decreases-prepare_export l = 4 * size_of l.all.types.now (ItemKind.Instance l.id)

-- the world is written on, and the uses of the interface and of the exports so far stand around
abbrev pub invariant-prepare_interface-loop-at : goal.invariant-prepare_interface-loop-at
invariant-prepare_interface-loop-at l = record {
  goes : (w : Worlds) (outer : List Scope) (i : Inside) (imported exported : List Name) → WritesOn w l.all.types.now outer l.all.world i l.fn.self imported exported
      → WritesOn w l.all.types.now outer l.all.world i l.self imported exported;
  kept : KeepsUsed l.all l.fn.self l.self;
  uses : (m : ℕ) → StandsUsedAt l.all l.self l.id m;
  exports : (m : ℕ) → m < l.at → IsPreparedAt l.all l.self l.id m;
}
