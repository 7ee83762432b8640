use Rattle.std.proofs.Common.{◌+◌, ◌*◌, take}
use Rattle.wac_types_base.specs.declared.item.ItemKind.{ItemKind}
use Rattle.wac_types_base.specs.Collection.{Grows, items, size_of}
use Rattle.wac_types_base.proofs.Telling.{row_size}
use Rattle.wac_graph_causes.specs.Beside.{AreBeside}
use Rattle.wac_graph_causes.specs.Standing.{stands_by}
use Rattle.wac_graph_causes.proofs.beside.+beside.Given as goal

abbrev pub decreases-beside_items : goal.decreases-beside_items
decreases-beside_items l = 4 * row_size l.types.now (items l.items.now) + 4

abbrev pub decreases-beside : goal.decreases-beside
decreases-beside l = 4 * size_of l.types.now l.item + 3

abbrev pub decreases-beside_type : goal.decreases-beside_type
decreases-beside_type l = 4 * size_of l.types.now (ItemKind.Ty l.ty) + 2

abbrev pub decreases-beside_interface : goal.decreases-beside_interface
decreases-beside_interface l = 4 * size_of l.types.now (ItemKind.Instance l.id) + 1

-- so are those so far
abbrev pub invariant-beside_items-loop-at : goal.invariant-beside_items-loop-at
invariant-beside_items-loop-at l = record { beside : AreBeside (stands_by l.standing) l.fn.types l.types (take l.at l.items) l.all; grows : Grows l.fn.types l.types }
