use Rattle.std.specs.Map.{keys_of}
use Rattle.wac_graph_asks.proofs.Naming.{PlacedSoFar}
use Rattle.wac_graph_asks.proofs.outers.put_places.Given as goal

-- the names so far have their places
abbrev pub invariant-loop-at : goal.invariant-loop-at
invariant-loop-at l = PlacedSoFar l.asks l.labels (keys_of l.taken.entries) l.at l.places
