use Rattle.std.proofs.Common.{◌≡◌, map, take}
use Rattle.wac_graph_scopes.specs.Forms.{value_or}
use Rattle.wac_graph_scopes.proofs.entry.values_of.Given as goal

abbrev pub invariant-loop-place : goal.invariant-loop-place
invariant-loop-place l = l.all.items ≡ map value_or (take l.place-index l.places)
