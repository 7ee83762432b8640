-- Interfaces without identifiers that are reached by uses, and what is remembered of interfaces.
use Rattle.std.specs.Prelude.{◌≡◌, ◌||◌, Bool, false, List, Option, Some, is_none, unwrap_or}
use Rattle.std.specs.Map.{lookup}
use Rattle.wac_types_base.specs.declared.ids.InterfaceId.{InterfaceId}
use Rattle.wac_types_base.specs.declared.ids.WorldId.{WorldId}
use Rattle.wac_types_base.specs.declared.item.ItemKind.{ItemKind}
use Rattle.wac_types_base.specs.contracts.ids.InterfaceIdPartialEq.TheImpl.{eq-value}
use Rattle.wac_types_base.specs.Record.{Collection}
use Rattle.wac_types_base.specs.Stated.{stated_of, uses_of, identifier_of}
use Rattle.wac_composition.specs.Writable.{some_unnamed}

module _ (c : Collection) where
  -- an interface without identifier is reached by the uses of an interface, or of a world
  abbrev pub uses_unnamed : InterfaceId → Bool
  uses_unnamed id = some_unnamed (uses_of (stated_of c (ItemKind.Instance id)))

  abbrev pub world_uses_unnamed : WorldId → Bool
  world_uses_unnamed id = some_unnamed (uses_of (stated_of c (ItemKind.Component id)))

  -- an interface that is used has no identifier, or reaches one without
  abbrev pub is_unnamed : InterfaceId → Bool
  is_unnamed id = is_none (identifier_of (stated_of c (ItemKind.Instance id))) || uses_unnamed id

-- what is remembered of an interface
abbrev pub found_of : List (InterfaceId × Bool) → InterfaceId → Option Bool
found_of es id = lookup (eq-value.it id) es

abbrev pub is_found : List (InterfaceId × Bool) → InterfaceId → Bool
is_found es id = unwrap_or (found_of es id) false

-- what is remembered is true
abbrev pub Knows : Collection → List (InterfaceId × Bool) → Type 0
Knows c es = (id : InterfaceId) (b : Bool) → found_of es id ≡ Some b → b ≡ uses_unnamed c id

-- what is found of each interface is true
abbrev pub KnowsAll : Collection → List (InterfaceId × Bool) → Type 0
KnowsAll c es = (id : InterfaceId) → is_found es id ≡ uses_unnamed c id

-- what is true is remembered, and what was stays
pub record Learns (c : Collection) (old new : List (InterfaceId × Bool)) : Type 0 where
  pub knows : Knows c new
  pub keeps : (id : InterfaceId) (b : Bool) → found_of old id ≡ Some b → found_of new id ≡ Some b
