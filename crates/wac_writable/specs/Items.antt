-- Items that cannot be written, by their ids.
use Rattle.std.specs.Prelude.{Bool, true, not, Option, Some, None, slice_get}
use Rattle.wac_types_base.specs.declared.ids.InterfaceId.{InterfaceId}
use Rattle.wac_types_base.specs.declared.ids.WorldId.{WorldId}
use Rattle.wac_types_base.specs.declared.ids.ModuleTypeId.{ModuleTypeId}
use Rattle.wac_types_base.specs.declared.core_types.ModuleType.{ModuleType}
use Rattle.wac_types_base.specs.declared.item.ItemKind.{ItemKind}
use Rattle.wac_types_base.specs.Record.{Collection}
use Rattle.wac_types_base.specs.Entries.{Name}
use Rattle.wac_types_base.specs.Stated.{stated_of}
use Rattle.wac_composition.specs.Writable.{unwritable, writable_module}
use Rattle.wac_composition.specs.Writable.{Holder as Held}
use Rattle.wac_types_parts.specs.Parts.{IsOfInterface, IsOfWorld}

-- the item of an id cannot be written under a name in a holder
abbrev pub item_unwritable : Collection → Bool → Name → ItemKind → Held → Bool
item_unwritable c outer n k h = unwritable (stated_of c k) n h outer

-- an item that is of no interface and of no world
pub record IsSimple (k : ItemKind) : Type 0 where
  pub no_interface : (i : InterfaceId) → IsOfInterface k i → ⊥
  pub no_world : (w : WorldId) → IsOfWorld k w → ⊥

abbrev pub not_writable : Option ModuleType → Bool
not_writable None = true
not_writable (Some m) = not (writable_module m)

abbrev pub module_unwritable : Collection → ModuleTypeId → Bool
module_unwritable c m = not_writable (slice_get c.modules m.index)
