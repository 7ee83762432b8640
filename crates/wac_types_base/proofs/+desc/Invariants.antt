use Rattle.std.proofs.Common.{◌+◌, ◌*◌}
use Rattle.wac_types_base.specs.declared.item.ItemKind.{ItemKind}
use Rattle.wac_types_base.specs.Collection.{size_of, defined_entry}
use Rattle.wac_types_base.proofs.Telling.{row_size}
use Rattle.wac_types_base.proofs.+desc.Given as goal

abbrev pub decreases-defined::DefinedType::desc : goal.decreases-defined::DefinedType::desc
decreases-defined::DefinedType::desc l = 2 * row_size l.types.now (defined_entry l.self.now).1 + 1

abbrev pub decreases-item::ValueType::desc : goal.decreases-item::ValueType::desc
decreases-item::ValueType::desc l = 2 * size_of l.types.now (ItemKind.Value l.self.now)
