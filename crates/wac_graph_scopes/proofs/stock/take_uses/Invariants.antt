use Rattle.std.proofs.Common.{List, []}
use Rattle.wac_graph_bytes.specs.Typing.{Worlds, Scope}
use Rattle.wac_graph_scopes.specs.Items.{StandsAround, WritesSome, UsesTaken}
use Rattle.wac_graph_scopes.specs.Stock.{HoldsUses, HoldsExports}
use Rattle.wac_graph_scopes.proofs.stock.take_uses.Given as goal

abbrev pub invariant-loop-at : goal.invariant-loop-at
invariant-loop-at l = record {
  written : (w : Worlds) (outer : List Scope) → StandsAround w outer l.all → WritesSome w l.all.types.now outer l.all.id l.fn.scope [] → UsesTaken w l.all.types.now outer l.all.id l.at l.scope l.given;
  held : HoldsUses l.all.types.now l.all.around.used.now l.all.id l.at l.scope.types;
  given : HoldsExports l.all.types.now l.all.id l.scope.types l.given;
}
