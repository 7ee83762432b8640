use Rattle.std.proofs.Common.{◌<◌, ℕ, List}
use Rattle.wac_types_base.specs.Entries.{Name}
use Rattle.wac_graph_bytes.specs.Typing.{Worlds, Scope, Inside}
use Rattle.wac_graph_scopes.specs.Imports.{WritesOn}
use Rattle.wac_graph_scopes.specs.Prepared.{KeepsUsed, StandsUsedAt}
use Rattle.wac_graph_scopes.proofs.imports.ImportScope.alias_uses.Given as goal

-- the world is written on, and the uses so far stand around
abbrev pub invariant-loop-at : goal.invariant-loop-at
invariant-loop-at l = record {
  goes : (w : Worlds) (outer : List Scope) (i : Inside) (imported exported : List Name) → WritesOn w l.all.types.now outer l.all.world i l.fn.self imported exported
      → WritesOn w l.all.types.now outer l.all.world i l.self imported exported;
  kept : KeepsUsed l.all l.fn.self l.self;
  stand : (m : ℕ) → m < l.at → StandsUsedAt l.all l.self l.id m;
}
