-- Worlds as component types.
use Rattle.std.specs.Prelude.{◌≡◌, List, [], ◌∷◌, ◌++◌, not, is_some, filter, Option}
use Rattle.wac_types_base.specs.declared.item.ItemKind.{ItemKind}
use Rattle.wac_types_base.specs.declared.ids.InterfaceId.{InterfaceId}
use Rattle.wac_types_base.specs.declared.ids.WorldId.{WorldId}
use Rattle.wac_types_base.specs.declared.defined.UsedType.{UsedType}
use Rattle.wac_types_base.specs.Record.{Collection}
use Rattle.wac_types_base.specs.Entries.{Name, names_of, value_at, with_values}
use Rattle.wac_types_base.specs.Graph.{Among}
use Rattle.wac_types_base.specs.Stated.{Stated, world_of}
use Rattle.wac_types_written.specs.Forms.{IsOf, ItemsStand, stated_found, stated_items, stated_uses}
use Rattle.wac_types_written.specs.Written.{WorldMaker, as_component_type, types_only}

-- the interfaces that no import is named as
abbrev pub not_imported : List (Name × ItemKind) → List (Name × InterfaceId) → List (Name × InterfaceId)
not_imported imports used = filter (λ e. not (is_some (value_at imports e.0))) used

-- these have the types of the interfaces that no import is named as
pub record AreMissing (old new : Collection) (used : List (Name × InterfaceId))
    (imports all : List (Name × ItemKind)) : Type 0 where
  pub stand : ItemsStand new all
  pub are : stated_items new all ≡ with_values types_only (stated_found old (not_imported imports used))

-- one more of these, unless an import has its name
pub record AddsMissing (old new : Collection) (e : Name × InterfaceId) (imports all more : List (Name × ItemKind))
    : Type 0 where
  pub stand : ItemsStand new more
  pub are : stated_items new more
      ≡ stated_items new all ++ with_values types_only (stated_found old (not_imported imports (e ∷ [])))

-- no name of the one is a name of the other
abbrev pub AreApart : List (Name × ItemKind) → List (Name × ItemKind) → Type 0
AreApart xs ys = (n : Name) → Among n (names_of xs) → Among n (names_of ys) → ⊥

abbrev pub component_of : Collection → Option Name → List (Name × UsedType) → List (Name × ItemKind)
    → List (Name × ItemKind) → Stated
component_of c id uses imports exports =
    as_component_type (world_of id (stated_uses c uses) (stated_items c imports) (stated_items c exports))

-- the world is made of these
abbrev pub IsMadeOf : WorldMaker → Collection → Collection → Option Name → List (Name × UsedType) → List (Name × ItemKind)
    → List (Name × ItemKind) → WorldId → Type 0
IsMadeOf make old new id uses imports exports w =
    IsOf new (make id (stated_uses old uses) (stated_items old imports) (stated_items old exports)) (ItemKind.Component w)

-- the world is that component type
abbrev pub IsComponentOf : Collection → Collection → Option Name → List (Name × UsedType) → List (Name × ItemKind)
    → List (Name × ItemKind) → WorldId → Type 0
IsComponentOf old new id uses imports exports w = IsOf new (component_of old id uses imports exports) (ItemKind.Component w)
