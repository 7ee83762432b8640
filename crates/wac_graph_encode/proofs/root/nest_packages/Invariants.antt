use Rattle.wac_types_base.specs.Entries.{names_of}
use Rattle.wac_graph_encode.proofs.Nesting.{Nesting}
use Rattle.wac_graph_encode.proofs.root.nest_packages.Given as goal

abbrev pub invariant-loop-id : goal.invariant-loop-id
invariant-loop-id l = Nesting l.graph (names_of l.worlds.entries) l.id-iterator l.fn.root l.root
