-- Asks of used interfaces, while they are listed.
use Rattle.std.specs.Prelude.{◌≡◌, ◌⊎◌, ℕ, ◌<◌, List, [], ◌∷◌, ◌++◌, Bool, true, false, Option, Some, None, option_map, option_to_list, IfSome}
use Rattle.std.specs.List.{flat_map}
use Rattle.wac_types_base.specs.declared.ids.InterfaceId.{InterfaceId}
use Rattle.wac_types_base.specs.declared.ids.WorldId.{WorldId}
use Rattle.wac_types_base.specs.declared.item.ItemKind.{ItemKind}
use Rattle.wac_types_base.specs.declared.defined.UsedType.{UsedType}
use Rattle.wac_types_base.specs.Entries.{values_of}
use Rattle.wac_types_base.specs.Graph.{Among}
use Rattle.wac_types_base.specs.Record.{Collection}
use Rattle.wac_types_base.specs.Collection.{Stands, size_of}
use Rattle.wac_types_base.specs.Stated.{Stated, stated_of, identifier_of, uses_of as stated_uses}
use Rattle.wac_types_parts.specs.Parts.{uses_of, exports_of}
use Rattle.wac_composition.specs.Asks.{Ask, used_by, used_by_definition, asked_for}
use Rattle.wac_graph_asks.specs.declared.asks.Asking.{Asking as HeldAsking}
use Rattle.wac_graph_asks.specs.declared.asks.Ask.{Ask as HeldAsk}
use Rattle.wac_graph_asks.specs.declared.asks.Definition.{Definition}
use Rattle.wac_graph_asks.specs.declared.asks.Asked.{Asked}
use Rattle.wac_graph_asks.specs.declared.asks.UseAsks.{UseAsks}
use Rattle.wac_graph_asks.specs.AsksIn.{asks_in}
use Rattle.wac_graph_asks.specs.Asked.{IsAskedBehind, IsAskedOnce}
use Rattle.wac_graph_asks.specs.AskedNodes.{held_ask}

-- what is asked for what asks use
abbrev pub uses_of_asks : {A : Type 0} → List (Ask A) → List (Ask A)
uses_of_asks asks = flat_map (λ a. asked_for a.by (used_by a.item)) asks

-- one of the asks has its name and its item
pub record HasSame {A : Type 0} (asks : List (Ask A)) (a : Ask A) : Type 0 where
  pub other : Ask A
  pub among : Among other asks
  pub name : other.name ≡ a.name
  pub item : other.item ≡ a.item

module _ (c : Collection) where
  -- an interface, before those that it uses itself
  abbrev pub with_used : InterfaceId → List Stated
  with_used id = stated_of c (ItemKind.Instance id) ∷ used_by (stated_of c (ItemKind.Instance id))

  abbrev pub all_with_used : List UsedType → List Stated
  all_with_used us = flat_map (λ u. with_used u.interface) us

  -- what an interface uses directly, each before what that uses; likewise of a world
  abbrev pub used_directly : InterfaceId → List Stated
  used_directly id = all_with_used (values_of (uses_of c id))

  abbrev pub used_by_world : WorldId → List Stated
  used_by_world id = flat_map (λ u. u.interface ∷ used_by u.interface) (stated_uses (stated_of c (ItemKind.Component id)))

  abbrev pub used_by_items : List ItemKind → List Stated
  used_by_items ks = flat_map (λ k. used_by (stated_of c k)) ks

  abbrev pub used_by_exports : InterfaceId → List Stated
  used_by_exports id = used_by_items (values_of (exports_of c id))

  -- the ask of an interface, under its identifier
  abbrev pub use_asks : ℕ → InterfaceId → List HeldAsk
  use_asks by id =
      option_to_list (option_map (λ n. held_ask HeldAsking.ToUse by n (ItemKind.Instance id))
      (identifier_of (stated_of c (ItemKind.Instance id))))

  -- the interface is seen, and asked where it is new
  abbrev pub NotesUse : (old new : UseAsks) → ℕ → InterfaceId → Bool → Type 0
  NotesUse old new by id true = (new.asks.items ≡ old.asks.items ++ use_asks by id) × (new.seen.keys ≡ old.seen.keys ++ id ∷ [])
  NotesUse old new by id false = (new.asks.items ≡ old.asks.items) × (new.seen.keys ≡ old.seen.keys) × Among id old.seen.keys

  -- the interface is asked, and each that it uses
  pub record AllAsked (asks : List HeldAsk) (id : InterfaceId) : Type 0 where
    pub each : (by : ℕ) (a : Ask ℕ) → Among a (asked_for by (with_used id)) → HasSame (asks_in c asks) a

  -- of the interfaces that were seen those below this size are asked, with all that they use
  pub record AskedBelow (all : UseAsks) (size : ℕ) : Type 0 where
    pub each : (id : InterfaceId) → Among id all.seen.keys → size_of c (ItemKind.Instance id) < size → AllAsked all.asks.items id

  pub record AllSeenAsked (all : UseAsks) : Type 0 where
    pub each : (id : InterfaceId) → Among id all.seen.keys → AllAsked all.asks.items id

  -- These asks are added behind the others, without some that ask what an earlier one asks. Each interface that was seen
  -- meanwhile is asked, with all that it uses.
  pub record AddsUses (old new : UseAsks) (asks : List (Ask ℕ)) : Type 0 where
    pub added : List HeldAsk
    pub are : new.asks.items ≡ old.asks.items ++ added
    pub once : IsAskedBehind (asks_in c old.asks.items) asks (asks_in c added)
    pub stand : (a : HeldAsk) → Among a added → Stands c a.item
    pub seen : (id : InterfaceId) → Among id new.seen.keys → Among id old.seen.keys ⊎ AllAsked new.asks.items id

  -- ---- all

  abbrev pub AskedStand : List HeldAsk → Type 0
  AskedStand asks = (a : HeldAsk) → Among a asks → Stands c a.item

  abbrev pub CopiesStand : List Definition → Type 0
  CopiesStand ds = (d : Definition) → Among d ds → IfSome d.copy (Stands c)

  -- what is asked for what copies of definitions use
  abbrev pub uses_of_copy : ℕ → Option ItemKind → List (Ask ℕ)
  uses_of_copy by None = []
  uses_of_copy by (Some k) = asked_for by (used_by_definition (stated_of c k))

  abbrev pub uses_of_copies : List Definition → List (Ask ℕ)
  uses_of_copies ds = flat_map (λ d. uses_of_copy d.node d.copy) ds

-- what asks and definitions use is asked, without what is asked before
pub record AreUses (a : Asked) (uses : List HeldAsk) : Type 0 where
  pub stand : AskedStand a.types uses
  pub once : IsAskedOnce (uses_of_asks (asks_in a.types a.asks.items) ++ uses_of_copies a.types a.definitions.items)
      (asks_in a.types uses)
