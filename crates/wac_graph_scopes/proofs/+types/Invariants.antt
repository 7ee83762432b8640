use Rattle.std.proofs.Common.{◌+◌, ◌*◌, ℕ, List, ◌++◌, take}
use Rattle.wac_types_base.specs.declared.item.ItemKind.{ItemKind}
use Rattle.wac_types_base.specs.Graph.{Among}
use Rattle.wac_types_base.specs.Entries.{Name, names_of, AreDistinct}
use Rattle.wac_types_base.specs.Collection.{Stands, size_of}
use Rattle.wac_types_parts.specs.Parts.{imports_of}
use Rattle.wac_graph_scopes.specs.Imports.{IsNewAt, names_at, WritesWorld, ExportsWritten}
use Rattle.wac_graph_bytes.specs.Typing.{Worlds, Scope}
use Rattle.wac_graph_scopes.specs.Items.{StandsAround, WritesSome, ItemsWritten}
use Rattle.wac_graph_scopes.specs.Stock.{KeepsTypes}
use Rattle.wac_graph_scopes.proofs.+types.Given as goal

abbrev pub decreases-imports::ImportScope::describe : goal.decreases-imports::ImportScope::describe
decreases-imports::ImportScope::describe l = 16 * size_of l.types.now l.kind + 8

abbrev pub decreases-imports::ImportScope::describe_import : goal.decreases-imports::ImportScope::describe_import
decreases-imports::ImportScope::describe_import l = 16 * size_of l.all.types.now l.import.kind + 9

abbrev pub decreases-imports::ImportScope::export : goal.decreases-imports::ImportScope::export
decreases-imports::ImportScope::export l = 16 * size_of l.all.types.now l.item.kind + 9

abbrev pub decreases-imports::ImportScope::write_import : goal.decreases-imports::ImportScope::write_import
decreases-imports::ImportScope::write_import l = 16 * size_of l.all.types.now (ItemKind.Component l.all.world) + 0

abbrev pub decreases-worlds::component_type : goal.decreases-worlds::component_type
decreases-worlds::component_type l = 16 * size_of l.types.now (ItemKind.Component l.id) + 4

abbrev pub decreases-worlds::write_before_others : goal.decreases-worlds::write_before_others
decreases-worlds::write_before_others l = 16 * size_of l.all.types.now (ItemKind.Component l.all.world) + 2

abbrev pub decreases-worlds::write_component : goal.decreases-worlds::write_component
decreases-worlds::write_component l = 16 * size_of l.all.types.now (ItemKind.Component l.all.world) + 3

abbrev pub decreases-worlds::export_other : goal.decreases-worlds::export_other
decreases-worlds::export_other l = 16 * size_of l.all.types.now l.item.kind + 10

abbrev pub decreases-worlds::export_other_at : goal.decreases-worlds::export_other_at
decreases-worlds::export_other_at l = 16 * size_of l.all.types.now (ItemKind.Component l.all.world) + 0

abbrev pub decreases-worlds::export_in_order : goal.decreases-worlds::export_in_order
decreases-worlds::export_in_order l = 16 * size_of l.all.types.now (ItemKind.Component l.all.world) + 1

abbrev pub decreases-worlds::export_others : goal.decreases-worlds::export_others
decreases-worlds::export_others l = 16 * size_of l.all.types.now (ItemKind.Component l.all.world) + 2

abbrev pub decreases-worlds::write_imports : goal.decreases-worlds::write_imports
decreases-worlds::write_imports l = 16 * size_of l.all.types.now (ItemKind.Component l.all.world) + 1

abbrev pub decreases-items::describe : goal.decreases-items::describe
decreases-items::describe l = 16 * size_of l.types.now l.kind + 6

abbrev pub decreases-items::export_item : goal.decreases-items::export_item
decreases-items::export_item l = 16 * size_of l.types.now l.item.kind + 7

abbrev pub decreases-items::export_other_at : goal.decreases-items::export_other_at
decreases-items::export_other_at l = 16 * size_of l.all.types.now (ItemKind.Instance l.all.id) + 0

abbrev pub invariant-items::export_others-loop-at : goal.invariant-items::export_others-loop-at
invariant-items::export_others-loop-at l = record {
  written : Stands l.all.types.now (ItemKind.Instance l.all.id) → (w : Worlds) (outer : List Scope) → StandsAround w outer l.all
      → WritesSome w l.all.types.now outer l.all.id l.fn.scope l.fn.given → ItemsWritten w l.all.types.now outer l.all.id l.at l.scope l.given;
  keeps : KeepsTypes l.fn.scope.types l.scope.types;
}

abbrev pub decreases-items::export_others : goal.decreases-items::export_others
decreases-items::export_others l = 16 * size_of l.all.types.now (ItemKind.Instance l.all.id) + 1

abbrev pub decreases-items::write_instance : goal.decreases-items::write_instance
decreases-items::write_instance l = 16 * size_of l.all.types.now (ItemKind.Instance l.all.id) + 2

abbrev pub decreases-items::instance_type : goal.decreases-items::instance_type
decreases-items::instance_type l = 16 * size_of l.all.types.now (ItemKind.Instance l.all.id) + 3

abbrev pub decreases-items::push_component_type : goal.decreases-items::push_component_type
decreases-items::push_component_type l = 16 * size_of l.types.now (ItemKind.Component l.id) + 5

abbrev pub decreases-items::push_instance_type : goal.decreases-items::push_instance_type
decreases-items::push_instance_type l = 16 * size_of l.types.now (ItemKind.Instance l.id) + 4

-- the imports before this one are written
abbrev pub invariant-worlds::write_imports-loop-at : goal.invariant-worlds::write_imports-loop-at
invariant-worlds::write_imports-loop-at l = (w : Worlds) (outer : List Scope) (imported exported : List Name) → AreDistinct (names_of (imports_of l.all.types.now l.all.world)) → AreDistinct l.order → ((k : ℕ) → Among k l.order → IsNewAt (names_of (imports_of l.all.types.now l.all.world)) k imported)
    → WritesWorld w l.all.types.now outer l.all.world l.fn.scope imported exported
    → WritesWorld w l.all.types.now outer l.all.world l.scope (imported ++ names_at (names_of (imports_of l.all.types.now l.all.world)) (take l.at-index l.order)) exported

abbrev pub invariant-worlds::export_in_order-loop-at : goal.invariant-worlds::export_in_order-loop-at
invariant-worlds::export_in_order-loop-at l = (w : Worlds) (outer : List Scope) (imported : List Name) → WritesWorld w l.all.types.now outer l.all.world l.fn.scope imported l.fn.exported
    → ExportsWritten w l.all.types.now outer l.all.world (take l.at-index l.order) l.scope imported l.exported
