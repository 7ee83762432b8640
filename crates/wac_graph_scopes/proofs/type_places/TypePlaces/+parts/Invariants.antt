use Rattle.std.proofs.Common.{◌+◌, ◌-◌, ◌*◌, length}
use Rattle.wac_types_base.specs.Collection.{size_of, slots_of}
use Rattle.wac_graph_scopes.proofs.type_places.TypePlaces.+parts.Given as goal

abbrev pub decreases-add_parts : goal.decreases-add_parts
decreases-add_parts l = 2 * size_of l.types.now l.kind

abbrev pub decreases-add_part : goal.decreases-add_part
decreases-add_part l = 2 * size_of l.types.now l.part + 1

abbrev pub decreases-add_parts-loop-place : goal.decreases-add_parts-loop-place
decreases-add_parts-loop-place l = length (slots_of l.types l.kind) - l.at
