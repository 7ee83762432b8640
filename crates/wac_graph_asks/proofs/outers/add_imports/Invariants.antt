use Rattle.wac_graph_asks.proofs.Importing.{ImportedSoFar}
use Rattle.wac_graph_asks.proofs.outers.add_imports.Given as goal

-- the imports of those so far are added
abbrev pub invariant-loop-class : goal.invariant-loop-class
invariant-loop-class l = ImportedSoFar l.fn.types l.asks l.classes l.taken.entries l.class-iterator l.types l.imports
