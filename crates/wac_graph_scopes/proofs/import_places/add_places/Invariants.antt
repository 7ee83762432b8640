use Rattle.std.proofs.Common.{◌++◌, take}
use Rattle.wac_types_base.specs.Entries.{names_of}
use Rattle.wac_graph_scopes.specs.Imports.{all_imports, own_places, FindsFirst}
use Rattle.wac_graph_scopes.proofs.import_places.add_places.Given as goal

abbrev pub invariant-loop-at : goal.invariant-loop-at
invariant-loop-at l = FindsFirst l.found (l.fn.found ++ own_places 0 (take l.at (names_of (all_imports l.all))))
