use Rattle.std.proofs.Common.{◌≡◌, length}
use Rattle.wac_graph_asks.specs.Named.{all_words}
use Rattle.wac_graph_asks.proofs.Spelling.{AreLed}
use Rattle.wac_graph_asks.proofs.classes.push_spellings.Given as goal

abbrev pub invariant-loop-at : goal.invariant-loop-at
invariant-loop-at l = record {
  as_many : length l.best.items ≡ l.at;
  led : AreLed (all_words l.names) l.labels l.best.items l.at;
}
