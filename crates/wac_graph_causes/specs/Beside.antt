-- Items with the uses of those interfaces alone that stand, as a walk makes them.
use Rattle.std.specs.Prelude.{◌≡◌, Bool, List, filter}
use Rattle.wac_types_base.specs.declared.ids.InterfaceId.{InterfaceId}
use Rattle.wac_types_base.specs.declared.item.ItemKind.{ItemKind}
use Rattle.wac_types_base.specs.declared.defined.UsedType.{UsedType}
use Rattle.wac_types_base.specs.Record.{Collection}
use Rattle.wac_types_base.specs.Entries.{Name, with_values}
use Rattle.wac_types_base.specs.Parts.{identifier_in}
use Rattle.wac_types_base.specs.Stated.{stated_of}
use Rattle.wac_types_written.specs.Forms.{IsOf, ItemsStand, stated_items}
use Rattle.wac_composition.specs.Circles.{beside, is_standing}
use Rattle.wac_types_parts.specs.Parts.{interface_in}

module _ (stands : Name → Bool) where
  -- the item is what the other was, with the uses of those interfaces alone that stand
  abbrev pub IsBeside : Collection → Collection → ItemKind → ItemKind → Type 0
  IsBeside old new k j = IsOf new (beside stands (stated_of old k)) j

  -- the items under their names, each so
  pub record AreBeside (old new : Collection) (xs ys : List (Name × ItemKind)) : Type 0 where
    pub stand : ItemsStand new ys
    pub state : stated_items new ys ≡ with_values (beside stands) (stated_items old xs)

  -- the interface has no identifier, or it stands
  abbrev pub stands_named : Collection → InterfaceId → Bool
  stands_named c i = is_standing stands (identifier_in (interface_in c i))

  -- the uses of such interfaces
  abbrev pub standing_uses : Collection → List (Name × UsedType) → List (Name × UsedType)
  standing_uses c us = filter (λ u. stands_named c u.1.interface) us
