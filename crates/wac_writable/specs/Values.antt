-- Value types in places, and whether they fail in a holder.
use Rattle.std.specs.Prelude.{◌≡◌, ◌⊎◌, ◌&&◌, not, Bool, false, Option, Some, None}
use Rattle.std.specs.List.{list_any}
use Rattle.wac_types_base.specs.declared.ids.ResourceId.{ResourceId}
use Rattle.wac_types_base.specs.declared.item.«Type».{«Type» as TypeKind}
use Rattle.wac_types_base.specs.declared.item.ValueType.{ValueType}
use Rattle.wac_types_base.specs.declared.item.ItemKind.{ItemKind}
use Rattle.wac_types_base.specs.Record.{Collection}
use Rattle.wac_types_base.specs.Entries.{has_name}
use Rattle.wac_types_base.specs.Collection.{Slot, Stands, slots_of}
use Rattle.wac_types_base.specs.Stated.{stated_of, root_name}
use Rattle.wac_composition.specs.Writable.{value_fails, is_used_value}
use Rattle.wac_composition.specs.Writable.{Holder as Held}
use Rattle.wac_writable.specs.declared.holder.Holder.{Holder}
use Rattle.wac_writable.specs.Holders.{Shows, TellsIn}

abbrev pub value_in_slot : Slot → Option ValueType
value_in_slot (Some (ItemKind.Value v)) = Some v
value_in_slot o = None

-- a value type is a handle of a resource
abbrev pub IsHandleOf : ValueType → ResourceId → Type 0
IsHandleOf v r = (v ≡ ValueType.Own r) ⊎ (v ≡ ValueType.Borrow r)

-- a resource whose root does not stand there
abbrev pub lacks_root : Collection → ResourceId → Held → Bool
lacks_root c r h = not (has_name h.roots (root_name (stated_of c (ItemKind.Ty (TypeKind.Resource r)))))

-- a value type fails that fails as such and is none that is used
abbrev pub fails_unused : Collection → ValueType → Bool → Held → Bool
fails_unused c v fails h = not (is_used_value h (stated_of c (ItemKind.Value v))) && fails

-- the value type of an id, and what is in a place, fails
abbrev pub id_fails : Collection → ValueType → Held → Bool
id_fails c v h = value_fails h (stated_of c (ItemKind.Value v))

abbrev pub some_id_fails : Collection → Held → Option ValueType → Bool
some_id_fails c h None = false
some_id_fails c h (Some v) = id_fails c v h

abbrev pub slot_fails : Collection → Held → Slot → Bool
slot_fails c h o = some_id_fails c h (value_in_slot o)

-- a value type in one of an item's places fails
abbrev pub places_fail : Collection → ItemKind → Held → Bool
places_fail c k h = list_any (slot_fails c h) (slots_of c k)

-- ---- answers

-- of a resource that stands, whether its root does not stand there
abbrev pub TellsRoot : Collection → Holder → ResourceId → Bool → Type 0
TellsRoot c s r b = Stands c (ItemKind.Ty (TypeKind.Resource r)) → (h : Held) → Shows c s h → b ≡ lacks_root c r h

-- of a value type that stands, whether it fails as none that is used
abbrev pub TellsUnused : Collection → Holder → ValueType → Bool → Bool → Type 0
TellsUnused c s v fails b = Stands c (ItemKind.Value v) → (h : Held) → Shows c s h → b ≡ fails_unused c v fails h

-- whether it fails
abbrev pub TellsValue : Collection → Holder → ValueType → Bool → Type 0
TellsValue c s v b = TellsIn c s (ItemKind.Value v) (id_fails c v) b

-- whether one in a place of an item fails
abbrev pub TellsPlaces : Collection → Holder → ItemKind → Bool → Type 0
TellsPlaces c s k b = TellsIn c s k (places_fail c k) b
