use Rattle.std.proofs.Common.{◌≡◌, length}
use Rattle.wac_graph_scopes.specs.Imports.{NoneWritten}
use Rattle.wac_graph_scopes.proofs.import_places.add_empty.Given as goal

abbrev pub invariant-loop-at : goal.invariant-loop-at
invariant-loop-at l = record { none : NoneWritten l.places.items; many : length l.places.items ≡ l._at }
