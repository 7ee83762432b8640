use Rattle.wac_graph_scopes.specs.Items.{WritesSome}
use Rattle.std.proofs.Common.{List}
use Rattle.wac_graph_bytes.specs.Typing.{Worlds, Scope}
use Rattle.wac_graph_scopes.specs.Stock.{KeepsTypes, HoldsExports, HoldsOwn}
use Rattle.wac_graph_scopes.proofs.stock.export_resources.Given as goal

abbrev pub invariant-loop-at : goal.invariant-loop-at
invariant-loop-at l = record {
  written : (w : Worlds) (outer : List Scope) → WritesSome w l.types outer l.id l.fn.scope l.fn.given → WritesSome w l.types outer l.id l.scope l.given;
  keeps : KeepsTypes l.fn.scope.types l.scope.types;
  given : HoldsExports l.types l.id l.fn.scope.types l.fn.given → HoldsExports l.types l.id l.scope.types l.given;
  own : HoldsExports l.types l.id l.fn.scope.types l.fn.given → HoldsOwn l.types l.id l.at l.scope.types;
}
