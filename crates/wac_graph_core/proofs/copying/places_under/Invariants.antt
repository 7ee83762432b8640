use Rattle.std.proofs.Common.{◌≡◌, map, take}
use Rattle.wac_graph_core.specs.Copying.{place_under}
use Rattle.wac_graph_core.proofs.copying.places_under.Given as goal

abbrev pub invariant-loop-place : goal.invariant-loop-place
invariant-loop-place l = l.copies.items ≡ map (place_under l.number) (take l.place-index l.places)
