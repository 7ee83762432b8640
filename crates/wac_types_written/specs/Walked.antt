-- What a walk over the interfaces that are used adds.
use Rattle.std.specs.Prelude.{◌≡◌, List, [], ◌++◌, Option, Some, None}
use Rattle.std.specs.List.{flat_map}
use Rattle.wac_types_base.specs.declared.item.ItemKind.{ItemKind}
use Rattle.wac_types_base.specs.declared.item.«Type».{«Type» as TypeKind}
use Rattle.wac_types_base.specs.declared.ids.InterfaceId.{InterfaceId}
use Rattle.wac_types_base.specs.declared.defined.UsedType.{UsedType}
use Rattle.wac_types_base.specs.Record.{Collection}
use Rattle.wac_types_base.specs.Entries.{Name}
use Rattle.wac_types_base.specs.Stated.{Stated, stated_of, identifier_of}
use Rattle.wac_types_written.specs.declared.uses.Walk.{Walk}
use Rattle.wac_types_written.specs.Forms.{AreWalked, FoundStand, stated_found, stated_items, stated_uses}
use Rattle.wac_types_written.specs.Written.{dependencies, under_identifier, used_through, with_firsts}

-- what was found stands, and what those use that were walked was found
pub record IsWalk (c : Collection) (w : Walk) : Type 0 where
  pub stand : FoundStand c w.found
  pub walked : AreWalked c w.found w.walked

-- these interfaces are added, of several under one name the first
pub record Walks (c : Collection) (xs : List (Name × Stated)) (old new : Walk) : Type 0 where
  pub found : stated_found c new.found ≡ with_firsts (stated_found c old.found) xs
  pub is : IsWalk c new

-- ---- what is below

-- an interface under its identifier, if it has one
abbrev pub named_at : Collection → InterfaceId → List (Name × Stated)
named_at c i = under_identifier (stated_of c (ItemKind.Instance i)) (identifier_of (stated_of c (ItemKind.Instance i)))

abbrev pub interface_in : ItemKind → Option InterfaceId
interface_in (ItemKind.Instance i) = Some i
interface_in (ItemKind.Ty (TypeKind.Interface i)) = Some i
interface_in k = None

abbrev pub below_uses : Collection → List (Name × UsedType) → List (Name × Stated)
below_uses c us = flat_map used_through (stated_uses c us)

abbrev pub below_items : Collection → List (Name × ItemKind) → List (Name × Stated)
below_items c xs = flat_map (λ e. dependencies e.1) (stated_items c xs)

-- what a world of these uses, imports and exports uses
pub record AreUsed (c : Collection) (uses : List (Name × UsedType)) (imports exports : List (Name × ItemKind))
    (es : List (Name × InterfaceId)) : Type 0 where
  pub stand : FoundStand c es
  pub are : stated_found c es ≡ with_firsts [] (below_uses c uses ++ (below_items c imports ++ below_items c exports))
