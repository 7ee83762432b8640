use Rattle.std.proofs.Common.{take}
use Rattle.wac_graph_encode.proofs.Forming.{FormsThese}
use Rattle.wac_graph_encode.proofs.forms.push_all_formed.Given as goal

-- those so far are formed
abbrev pub invariant-loop-definition : goal.invariant-loop-definition
invariant-loop-definition l = FormsThese l.fn.types l.types l.definitions (take l.definition-index l.definitions) l.fn.written.items l.written.items
