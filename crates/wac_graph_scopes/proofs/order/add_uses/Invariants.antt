use Rattle.std.proofs.Common.{◌≡◌, ◌++◌, take}
use Rattle.std.specs.Prelude.{filter_map}
use Rattle.wac_types_parts.specs.Parts.{uses_of}
use Rattle.wac_graph_scopes.specs.UsePlaces.{place_of}
use Rattle.wac_graph_scopes.proofs.order.add_uses.Given as goal

-- those of the uses so far
abbrev pub invariant-loop-at : goal.invariant-loop-at
invariant-loop-at l = l.needs.items ≡ l.fn.needs.items ++ filter_map (λ u. place_of l.types l.found u.1.interface) (take l.at (uses_of l.types l.id))
