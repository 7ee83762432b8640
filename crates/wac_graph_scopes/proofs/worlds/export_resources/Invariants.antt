use Rattle.std.proofs.Common.{List}
use Rattle.wac_types_base.specs.Entries.{Name}
use Rattle.wac_graph_bytes.specs.Typing.{Worlds, Scope}
use Rattle.wac_graph_scopes.specs.Imports.{WritesWorld}
use Rattle.wac_graph_scopes.proofs.worlds.export_resources.Given as goal

abbrev pub invariant-loop-at : goal.invariant-loop-at
invariant-loop-at l = (w : Worlds) (outer : List Scope) (imported : List Name) → WritesWorld w l.all.types.now outer l.all.world l.fn.scope imported l.fn.exported → WritesWorld w l.all.types.now outer l.all.world l.scope imported l.exported
