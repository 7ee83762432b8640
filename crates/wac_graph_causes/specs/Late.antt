-- Interfaces that are imported, each as it is written, as they are held.
use Rattle.std.specs.Prelude.{◌≡◌, Bool, true, false, List, [], ◌++◌, map, filter, option_map}
use Rattle.wac_types_base.specs.declared.ids.WorldId.{WorldId}
use Rattle.wac_types_base.specs.declared.item.ItemKind.{ItemKind}
use Rattle.wac_types_base.specs.declared.item.«Type».{«Type» as TypeKind}
use Rattle.wac_types_base.specs.Record.{Collection}
use Rattle.wac_types_base.specs.Entries.{Name, value_at}
use Rattle.wac_types_base.specs.Graph.{Among}
use Rattle.wac_types_base.specs.Collection.{Stands}
use Rattle.wac_types_base.specs.Stated.{Stated, stated_of}
use Rattle.wac_types_written.specs.Forms.{stated_items}
use Rattle.wac_composition.specs.Circles.{beside, interfaces_written, under, written_from}
use Rattle.wac_types_parts.specs.Parts.{imports_of}
use Rattle.wac_graph_causes.specs.declared.late.Late.{Late}
use Rattle.wac_graph_causes.specs.declared.standing.Standing.{Standing}
use Rattle.wac_graph_causes.specs.Standing.{spelled_in, stands_by}

-- ---- imports that are interfaces

abbrev pub is_interface_item : ItemKind → Bool
is_interface_item (ItemKind.Instance i) = true
is_interface_item (ItemKind.Ty (TypeKind.Interface i)) = true
is_interface_item k = false

abbrev pub interface_items : List (Name × ItemKind) → List (Name × ItemKind)
interface_items xs = filter (λ x. is_interface_item x.1) xs

-- ---- what is held

abbrev pub late_in : Collection → List Late → List (Name × Stated)
late_in c ls = map (λ l. (l.name, stated_of c l.item)) ls

-- they stand, and are these
pub record AreLate (c : Collection) (ls : List Late) (es : List (Name × Stated)) : Type 0 where
  pub stand : (l : Late) → Among l ls → Stands c l.item
  pub are : late_in c ls ≡ es

-- these are added behind the others
abbrev pub AddsLate : (old new : Collection) → (before after : List Late) → List (Name × Stated) → Type 0
AddsLate old new before after more = (es : List (Name × Stated)) → AreLate old before es → AreLate new after (es ++ more)

-- the import of a name as it is written beside what stands
abbrev pub written_beside : Collection → Standing → List (Name × ItemKind) → Name → List (Name × Stated)
written_beside c s xs n = under (spelled_in s.placed) [] n (option_map (beside (stands_by s)) (value_at (stated_items c xs) n))

-- interfaces of these names one after another, where some stand already
abbrev pub written_after : Collection → (Name → Name) → List (Name × ItemKind) → (standing names : List Name) → List (Name × Stated)
written_after c spell xs before ns = written_from spell (stated_items c xs) before ns

-- the interfaces that a world imports, each as it is written
abbrev pub world_written : Collection → (Name → Name) → WorldId → List (Name × Stated)
world_written c spell w = interfaces_written spell (stated_items c (imports_of c w))
