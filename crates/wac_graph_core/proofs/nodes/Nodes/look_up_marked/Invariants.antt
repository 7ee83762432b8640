use Rattle.std.proofs.Common.{take}
use Rattle.wac_graph_core.proofs.Noting.{FoundMarked}
use Rattle.wac_graph_core.proofs.nodes.Nodes.look_up_marked.Given as goal

-- the definitions of the types so far are found
abbrev pub invariant-loop-ty : goal.invariant-loop-ty
invariant-loop-ty l = FoundMarked l.self l.marks (take l.ty-index l.marks) l.found.items
