use Rattle.std.proofs.Common.{◌≡◌, ◌+◌, ◌-◌, ◌*◌, length}
use Rattle.wac_types_base.specs.declared.item.ValueType.{ValueType}
use Rattle.wac_types_base.specs.declared.item.ItemKind.{ItemKind}
use Rattle.wac_types_base.specs.Collection.{size_of, slots_of}
use Rattle.wac_graph_encode.proofs.copying.Copies.+resources.Given as goal

abbrev pub decreases-in_value : goal.decreases-in_value
decreases-in_value l = 4 * size_of l.from.now (ItemKind.Value l.ty) + 3

abbrev pub decreases-in_defined : goal.decreases-in_defined
decreases-in_defined l = 4 * size_of l.from.now (ItemKind.Value (ValueType.Defined l.id)) + 2

abbrev pub decreases-in_parts : goal.decreases-in_parts
decreases-in_parts l = 4 * size_of l.from.now l.kind + 1

-- what is copied stays
abbrev pub invariant-in_parts-loop-place : goal.invariant-in_parts-loop-place
invariant-in_parts-loop-place l = l.self.copier ≡ l.fn.self.copier

abbrev pub decreases-in_parts-loop-place : goal.decreases-in_parts-loop-place
decreases-in_parts-loop-place l = length (slots_of l.from l.kind) - l.at
