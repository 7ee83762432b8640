use Rattle.std.proofs.Common.{◌++◌, take}
use Rattle.wac_graph_scopes.specs.Imports.{FindsFirst}
use Rattle.wac_graph_scopes.proofs.import_places.add_asked_names.Given as goal

abbrev pub invariant-loop-at : goal.invariant-loop-at
invariant-loop-at l = FindsFirst l.found (l.fn.found ++ take l.at l.all.places.now)
