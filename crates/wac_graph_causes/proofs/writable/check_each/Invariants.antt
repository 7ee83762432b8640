use Rattle.wac_graph_causes.specs.Unwritable.{IfAllCopied}
use Rattle.wac_graph_causes.proofs.DefinitionCauses.{DefinitionsLeft}
use Rattle.wac_graph_causes.proofs.writable.check_each.Given as goal

-- no definition so far is a cause
abbrev pub invariant-loop-definition : goal.invariant-loop-definition
invariant-loop-definition l = IfAllCopied l.types l.asked l.unnamed l.fn.outers l.definitions (λ os. DefinitionsLeft l.types l.asked os l.definitions l.outers l.definition-index)
