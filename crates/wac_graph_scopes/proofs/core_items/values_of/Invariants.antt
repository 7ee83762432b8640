use Rattle.std.proofs.Common.{◌≡◌, map, take}
use Rattle.wac_graph_bytes.specs.Typing.{core_type}
use Rattle.wac_graph_scopes.proofs.core_items.values_of.Given as goal

abbrev pub invariant-loop-ty : goal.invariant-loop-ty
invariant-loop-ty l = map core_type l.all.items ≡ take l.ty-index l.types
