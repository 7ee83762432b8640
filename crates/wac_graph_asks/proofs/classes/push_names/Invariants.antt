use Rattle.std.proofs.Common.{◌≡◌, ◌++◌, map, take}
use Rattle.wac_graph_asks.specs.AsksIn.{ask_in}
use Rattle.wac_graph_asks.specs.Words.{words_of}
use Rattle.wac_graph_asks.specs.Named.{all_words}
use Rattle.wac_graph_asks.proofs.classes.push_names.Given as goal

abbrev pub invariant-loop-ask : goal.invariant-loop-ask
invariant-loop-ask l = all_words l.names.items ≡ all_words l.fn.names.items ++ map (λ a. words_of (ask_in l.types a)) (take l.ask-index l.asks)
