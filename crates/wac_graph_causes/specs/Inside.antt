-- The component types that stand in an item, and what they import.
use Rattle.std.specs.Prelude.{◌≡◌, List, ◌++◌, map}
use Rattle.std.specs.List.{flat_map}
use Rattle.wac_types_base.specs.declared.ids.WorldId.{WorldId}
use Rattle.wac_types_base.specs.declared.item.ItemKind.{ItemKind}
use Rattle.wac_types_base.specs.Record.{Collection}
use Rattle.wac_types_base.specs.Entries.{Name}
use Rattle.wac_types_base.specs.Graph.{Among}
use Rattle.wac_types_base.specs.Collection.{Stands}
use Rattle.wac_types_base.specs.Stated.{Stated, stated_of}
use Rattle.wac_types_written.specs.Forms.{stated_items}
use Rattle.wac_composition.specs.Circles.{Imports, imports_inside}
use Rattle.wac_types_parts.specs.Parts.{imports_of}

abbrev pub world_imports : Collection → WorldId → List (Name × Stated)
world_imports c w = stated_items c (imports_of c w)

-- those of the component types that stand in these items
abbrev pub inside_items : Collection → List (Name × ItemKind) → Imports
inside_items c xs = flat_map (λ e. imports_inside e.1) (stated_items c xs)

abbrev pub WorldsStand : Collection → List WorldId → Type 0
WorldsStand c ws = (w : WorldId) → Among w ws → Stands c (ItemKind.Component w)

-- component types with these imports are added
pub record AddsWorlds (c : Collection) (xs : Imports) (old new : List WorldId) : Type 0 where
  pub stand : WorldsStand c new
  pub imports : map (world_imports c) new ≡ map (world_imports c) old ++ xs

-- those of the component types that stand in an item
abbrev pub AddsInside : Collection → ItemKind → (old new : List WorldId) → Type 0
AddsInside c k old new = AddsWorlds c (imports_inside (stated_of c k)) old new
