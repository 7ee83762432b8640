-- Imports that the writer refuses though all that they use is prepared, in the order of the causes.
use Rattle.std.specs.Prelude.{◌≡◌, ◌≤◌, ◌-◌, ◌^◌, ℕ, Bool, true, List, [], ◌∷◌, ◌++◌, length, Some, slice_get, unwrap_or}
use Rattle.wac_types_base.specs.declared.ids.InterfaceId.{InterfaceId}
use Rattle.wac_types_base.specs.declared.ids.WorldId.{WorldId}
use Rattle.wac_types_base.specs.declared.item.ItemKind.{ItemKind}
use Rattle.wac_types_base.specs.declared.defined.UsedType.{UsedType}
use Rattle.wac_types_base.specs.Record.{Collection}
use Rattle.wac_types_base.specs.Entries.{Name, AreDistinct, has_name, names_of, value_at}
use Rattle.wac_types_base.specs.Graph.{Among}
use Rattle.wac_types_base.specs.Parts.{identifier_in}
use Rattle.wac_types_base.specs.Collection.{IsAcyclic}
use Rattle.wac_types_base.specs.Stated.{Stated, stated_of}
use Rattle.wac_types_parts.specs.Parts.{interface_in, imports_of, IsOfInterface}
use Rattle.wac_types_parts.specs.Parts.{uses_of as uses_in}
use Rattle.wac_types_written.specs.Forms.{ItemsStand, stated_items}
use Rattle.wac_composition.specs.Composition.{Composition}
use Rattle.wac_composition.specs.Asks.{asks_of}
use Rattle.wac_composition.specs.Classes.{spelling}
use Rattle.wac_composition.specs.Writable.{holder}
use Rattle.wac_composition.specs.Circles.{interfaces_written}
use Rattle.wac_composition.specs.NotWritten.{CannotBeWritten, ComponentFails}
use Rattle.wac_graph_bytes.specs.Typing.{Worlds, Scope}
use Rattle.wac_graph_scopes.specs.declared.imports.Importing.{Importing}
use Rattle.wac_graph_scopes.specs.declared.imports.ImportScope.{ImportScope}
use Rattle.wac_graph_scopes.specs.Imports.{all_imports, own_places, FindsFirst, GivesAt}
use Rattle.wac_graph_scopes.specs.UsePlaces.{SourcesBehind}
use Rattle.wac_graph_scopes.specs.Prepared.{IsWithin, taken_by}
use Rattle.wac_graph_scopes.specs.ImportRefusals.{IsRefusedThen}
use Rattle.wac_graph_asks.specs.Outers.{AreOuters}
use Rattle.wac_graph_encode.specs.PlainOrders.{FindsSpelled, IsTurnOf}
use Rattle.wac_graph_encode.specs.RefusedInstances.{HasNoWorld}

module _ (a : Importing) (spell : Name → Name) where
  -- What the interface takes by uses, or one within it, the imports give, where the used interface is asked under one of these
  -- names.
  abbrev pub GiveStanding : (found : List (Name × ℕ)) → (standing : List Name) → InterfaceId → Type 0
  GiveStanding found standing id = (j : InterfaceId) → IsWithin a.types.now id j → (u : Name × UsedType)
      → Among u (uses_in a.types.now j) → (i : Name) → identifier_in (interface_in a.types.now u.1.interface) ≡ Some i
      → has_name standing (spell i) ≡ true → (item : ItemKind) → taken_by a.types.now u ≡ Some item
      → (m : ℕ) × (value_at found i ≡ Some m) × GivesAt a.types.now (all_imports a) m (unwrap_or u.1.name u.0) item

  -- The import at the place is of that interface, and its turn is behind these names; so is its place behind those that are
  -- imported.
  pub record IsTurnAt (found : List (Name × ℕ)) (standing imported : List Name) (at : ℕ) (n : Name) (k : ItemKind)
      (id : InterfaceId) : Type 0 where
    pub turn : IsTurnOf a.types.now spell (all_imports a) standing at n k
    pub interface : IsOfInterface k id
    pub order : List ℕ
    pub before : List ℕ
    pub after : List ℕ
    pub behind : SourcesBehind a found order
    pub place : order ≡ before ++ at ∷ after
    pub imported_are : (m : ℕ) (x : Name × ItemKind) → Among m before → slice_get (all_imports a) m ≡ Some x → Among x.0 imported

-- An import of an instance or an interface that is refused once what it uses is prepared is one that cannot be written as causes
-- write it.
abbrev pub Refused_import_is_unwritable : Type 0
Refused_import_is_unwritable = (w : Worlds) (a : Importing) (outer : List Scope) (imported exported : List Name)
    (old new : ImportScope) → IsAcyclic a.types.now → AreDistinct (names_of (all_imports a))
    → ItemsStand a.types.now (all_imports a) → length a.types.now.interfaces ≤ 2 ^ 64 - 1
    → (spell : Name → Name) → FindsSpelled (all_imports a) spell old.found
    → (standing : List Name) (at : ℕ) (n : Name) (k : ItemKind) (id : InterfaceId)
    → IsTurnAt a spell old.found standing imported at n k id → HasNoWorld a.types.now id
    → GiveStanding a spell old.found standing id → IsRefusedThen w a outer imported exported k old new
    → (is_outer : Bool) → (x : Stated)
    × Among (n, x) (interfaces_written spell (stated_items a.types.now (all_imports a)))
    × CannotBeWritten is_outer (holder [] []) n x

-- The imports of a component type against which no cause stands, in an outer import, give what is used of them.
abbrev pub Accepted_imports_give : Type 0
Accepted_imports_give = (a : Importing) → IsAcyclic a.types.now → AreDistinct (names_of (all_imports a))
    → ItemsStand a.types.now (all_imports a) → (found : List (Name × ℕ)) → FindsSpelled (all_imports a) (λ n. n) found
    → (ComponentFails true (stated_of a.types.now (ItemKind.Component a.world)) → ⊥)
    → (n : Name) (k : ItemKind) (id : InterfaceId) → Among (n, k) (all_imports a) → IsOfInterface k id
    → (standing : List Name) → GiveStanding a (λ n. n) found standing id

-- The outer imports of a composition give what is used of them, whichever names stand: what the type of an ask uses is asked too,
-- and each ask is met.
abbrev pub Outer_imports_give : Type 0
Outer_imports_give = (k : Composition ℕ ℕ) (c : Collection) (world : WorldId) (places : List (Name × ℕ)) → IsAcyclic c
    → AreOuters (asks_of k) c world places → (a : Importing) → a.types.now ≡ c → all_imports a ≡ imports_of c world
    → (found : List (Name × ℕ)) → FindsFirst found (places ++ own_places 0 (names_of (imports_of c world)))
    → (n : Name) (kind : ItemKind) (id : InterfaceId) → Among (n, kind) (all_imports a) → IsOfInterface kind id
    → (standing : List Name) → GiveStanding a (spelling (asks_of k)) found standing id
