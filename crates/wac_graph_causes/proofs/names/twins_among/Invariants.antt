use Rattle.wac_graph_causes.proofs.Twins.{TwinsLeft}
use Rattle.wac_graph_causes.proofs.names.twins_among.Given as goal

abbrev pub invariant-loop-at : goal.invariant-loop-at
invariant-loop-at l = TwinsLeft l.validate l.names l.at l.firsts
