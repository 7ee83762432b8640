use Rattle.std.proofs.Common.{◌≡◌}
use Rattle.wac_types_base.specs.Entries.{names_of}
use Rattle.wac_graph_encode.proofs.Importing.{Importing}
use Rattle.wac_graph_encode.proofs.Readying.{AddedSoFar}
use Rattle.wac_graph_encode.proofs.root.import_packages.Given as goal

abbrev pub invariant-loop-id : goal.invariant-loop-id
invariant-loop-id l = Importing l.graph l.types l.worlds.entries l.id-iterator l.fn.scope.scope l.fn.packages.entries l.scope.scope l.packages.entries × (l.scope.places ≡ l.fn.scope.places) × AddedSoFar (names_of l.worlds.entries) (names_of l.id-iterator) (names_of l.fn.packages.entries) (names_of l.packages.entries)
