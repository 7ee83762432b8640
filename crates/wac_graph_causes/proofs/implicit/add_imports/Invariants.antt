use Rattle.std.proofs.Common.{take}
use Rattle.wac_graph_causes.specs.Firsts.{AddsFirst}
use Rattle.wac_graph_causes.specs.Implicit.{all_named}
use Rattle.wac_graph_causes.proofs.implicit.add_imports.Given as goal

-- those so far that ask by name are added
abbrev pub invariant-loop-ask : goal.invariant-loop-ask
invariant-loop-ask l = AddsFirst l.initial.imports l.imports (all_named (take l.ask-index l.asks))
