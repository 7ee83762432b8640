-- The plain order of the writer, and the order in which the causes write interfaces: both are one.
use Rattle.std.specs.Prelude.{◌≡◌, ℕ, Bool, true, List, ◌∷◌, ◌++◌, Option, Some, None, filter, filter_map, option_and_then, slice_get, if◌then◌else◌}
use Rattle.wac_types_base.specs.declared.ids.WorldId.{WorldId}
use Rattle.wac_types_base.specs.declared.item.ItemKind.{ItemKind}
use Rattle.wac_types_base.specs.Record.{Collection}
use Rattle.wac_types_base.specs.Entries.{Name, AreDistinct, has_name, names_of, value_at}
use Rattle.wac_types_base.specs.Graph.{Among}
use Rattle.wac_types_base.specs.Collection.{IsAcyclic}
use Rattle.wac_types_base.specs.Stated.{Stated, stated_of, identifier_of}
use Rattle.wac_types_written.specs.Forms.{ItemsStand, stated_items}
use Rattle.wac_types_parts.specs.Parts.{imports_of}
use Rattle.wac_composition.specs.Asks.{Ask}
use Rattle.wac_composition.specs.Classes.{spelling}
use Rattle.wac_composition.specs.Circles.{used_inside, written_names, interfaces_in}
use Rattle.wac_graph_scopes.specs.declared.imports.Importing.{Importing}
use Rattle.wac_graph_scopes.specs.Behind.{places_in_order}
use Rattle.wac_graph_scopes.specs.Imports.{all_imports, own_places, FindsFirst}
use Rattle.wac_graph_scopes.specs.UsePlaces.{AllUses, IsSourceAt, SourcesBehind}
use Rattle.wac_graph_asks.specs.Outers.{AreOuters}
use Rattle.wac_graph_causes.specs.Late.{is_interface_item, interface_items}

-- ---- sources: imports that are instances or interfaces

-- the import's name, if it is one
abbrev pub source_name : Name × ItemKind → Option Name
source_name e = if is_interface_item e.1 then Some e.0 else None

module _ (is : List (Name × ItemKind)) where
  -- that of the import at the place
  abbrev pub source_at : ℕ → Option Name
  source_at m = option_and_then source_name (slice_get is m)

  -- those of the sources at these places
  abbrev pub source_names : List ℕ → List Name
  source_names ks = filter_map source_at ks

  abbrev pub is_source_name : Name → Bool
  is_source_name n = has_name (names_of (interface_items is)) n

  -- under each identifier that import is found which is asked under it
  abbrev pub FindsSpelled : (spell : Name → Name) → (found : List (Name × ℕ)) → Type 0
  FindsSpelled spell found = (i : Name) → value_at found i ≡ value_at (own_places 0 (names_of is)) (spell i)

-- So it is of outer imports that are found under the names under which they are asked, and then under their own: each is asked
-- under the name that is its spelling.
abbrev pub Outer_imports_are_found : Type 0
Outer_imports_are_found = (asks : List (Ask ℕ)) (c : Collection) (world : WorldId) (places : List (Name × ℕ))
    → AreOuters asks c world places → (found : List (Name × ℕ))
    → FindsFirst found (places ++ own_places 0 (names_of (imports_of c world)))
    → FindsSpelled (imports_of c world) (spelling asks) found

-- ---- the order of the causes

-- the names under which interfaces are written, with some under which none is imported
abbrev pub names_in_order : Collection → (spell : Name → Name) → List (Name × ItemKind) → List Name
names_in_order c spell is = written_names spell (interfaces_in (stated_items c is))

-- The sources among places in plain order are, by their names, those of the causes' order.
abbrev pub Plain_order_is_written : Type 0
Plain_order_is_written = (c : Collection) → IsAcyclic c → (is : List (Name × ItemKind)) → AreDistinct (names_of is)
    → ItemsStand c is → (spell : Name → Name) (found : List (Name × ℕ)) → FindsSpelled is spell found
    → (uses : List (List ℕ)) → AllUses c is found uses
    → source_names is (places_in_order uses) ≡ filter (is_source_name is) (names_in_order c spell is)

-- ---- what stands before a source

-- The import at the place is a source of that name, before which these names stand in the causes' order.
pub record IsTurnOf (c : Collection) (spell : Name → Name) (is : List (Name × ItemKind)) (standing : List Name) (at : ℕ)
    (n : Name) (k : ItemKind) : Type 0 where
  pub import_is : slice_get is at ≡ Some (n, k)
  pub source : is_interface_item k ≡ true
  pub rest : List Name
  pub order : names_in_order c spell is ≡ standing ++ n ∷ rest
  pub first : Among n standing → ⊥

-- each instance or interface has its turn
abbrev pub Each_source_has_its_turn : Type 0
Each_source_has_its_turn = (c : Collection) → IsAcyclic c → (is : List (Name × ItemKind)) → AreDistinct (names_of is)
    → ItemsStand c is → (spell : Name → Name) (at : ℕ) (n : Name) (k : ItemKind) → slice_get is at ≡ Some (n, k)
    → is_interface_item k ≡ true
    → (standing : List Name) × IsTurnOf c spell is standing at n k

-- an import uses an interface with that identifier, which is asked under one of these names
abbrev pub UsesStanding : Collection → (spell : Name → Name) → (standing : List Name) → ItemKind → Name → Type 0
UsesStanding c spell standing k i =
    (x : Stated) × Among x (used_inside (stated_of c k)) × (identifier_of x ≡ Some i) × (has_name standing (spell i) ≡ true)

-- In each order in which sources are behind those that they use, what stands before a source in the causes' order, and is used
-- by it, is before it.
abbrev pub Standing_is_before : Type 0
Standing_is_before = (a : Importing) → IsAcyclic a.types.now → AreDistinct (names_of (all_imports a))
    → ItemsStand a.types.now (all_imports a) → (spell : Name → Name) (found : List (Name × ℕ))
    → FindsSpelled (all_imports a) spell found
    → (ks before after : List ℕ) (at : ℕ) → SourcesBehind a found ks → ks ≡ before ++ at ∷ after
    → (standing : List Name) (n : Name) (k : ItemKind) → IsTurnOf a.types.now spell (all_imports a) standing at n k
    → (i : Name) → UsesStanding a.types.now spell standing k i
    → (m : ℕ) → value_at found i ≡ Some m → IsSourceAt a m → Among m before
