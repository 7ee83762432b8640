use Rattle.std.proofs.Common.{◌≡◌, drop}
use Rattle.wac_types_base.specs.Entries.{texts_of}
use Rattle.wac_graph_scopes.specs.Prints.{names_print}
use Rattle.wac_graph_scopes.proofs.prints.names_print.Given as goal

-- what is left comes behind the number so far
abbrev pub invariant-loop-name : goal.invariant-loop-name
invariant-loop-name l = names_print l.print (texts_of (drop l.name-index l.names)) ≡ names_print l.before (texts_of l.names)
