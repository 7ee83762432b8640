use Rattle.wac_graph_causes.specs.Implicit.{AreMade}
use Rattle.wac_graph_causes.proofs.Clashes.{ClashesLeft}
use Rattle.wac_graph_causes.proofs.implicit.check_asks.Given as goal

-- none so far clashes
abbrev pub invariant-loop-ask : goal.invariant-loop-ask
invariant-loop-ask l = AreMade l.graph l.asks → ClashesLeft l.imports l.asks l.ask-index
