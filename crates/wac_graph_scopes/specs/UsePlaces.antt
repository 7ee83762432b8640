-- Where those imports stand that an import uses, and which of them are written before it.
use Rattle.std.specs.Prelude.{option_to_list, ◌≡◌, ◌<◌, ℕ, List, [], ◌∷◌, ◌++◌, nat_eq, length, Option, Some, option_and_then, slice_get, filter_map}
use Rattle.std.specs.List.{position}
use Rattle.wac_types_base.specs.declared.ids.InterfaceId.{InterfaceId}
use Rattle.wac_types_base.specs.declared.item.ItemKind.{ItemKind}
use Rattle.wac_types_base.specs.declared.defined.UsedType.{UsedType}
use Rattle.wac_types_base.specs.Record.{Collection}
use Rattle.wac_types_base.specs.Entries.{Name, names_of, values_of, value_at}
use Rattle.wac_types_base.specs.Graph.{Among}
use Rattle.wac_types_base.specs.Parts.{identifier_in}
use Rattle.wac_types_base.specs.Collection.{Stands}
use Rattle.wac_types_parts.specs.declared.parts.Item.{Item}
use Rattle.wac_types_parts.specs.Parts.{interface_in, exports_of, uses_of, IsOfInterface}
use Rattle.wac_graph_scopes.specs.declared.imports.Importing.{Importing}
use Rattle.wac_graph_scopes.specs.declared.imports.TakenUse.{TakenUse}
use Rattle.wac_graph_scopes.specs.Behind.{places_in_order}
use Rattle.wac_graph_scopes.specs.Orders.{IsSource}
use Rattle.wac_graph_scopes.specs.Imports.{all_imports, all_exports, own_places, FindsFirst, IsGivenBy}

-- by which names imports are found, with their places
module _ (c : Collection) (found : List (Name × ℕ)) where
  -- where the import of an interface stands
  abbrev pub place_of : InterfaceId → Option ℕ
  place_of id = option_and_then (value_at found) (identifier_in (interface_in c id))

  -- where those of the interfaces stand that one uses itself
  abbrev pub places_used : InterfaceId → List ℕ
  places_used id = filter_map (λ u. place_of u.1.interface) (uses_of c id)

  -- These are the places of the interfaces that items use, in them and in their exports, one after another.
  pub data UsePlaces : List ItemKind → List ℕ → Type 0 where
    nothing : UsePlaces [] []
    other_item : {k : ItemKind} {ks : List ItemKind} {ns : List ℕ} → (Stands c k → (i : InterfaceId) → IsOfInterface k i → ⊥) → UsePlaces ks ns
        → UsePlaces (k ∷ ks) ns
    interface_item : {k : ItemKind} {ks : List ItemKind} {inner ns : List ℕ} (id : InterfaceId) → IsOfInterface k id → Stands c k
        → UsePlaces (values_of (exports_of c id)) inner → UsePlaces ks ns → UsePlaces (k ∷ ks) (places_used id ++ inner ++ ns)

  -- the place of the one that is used at a place
  abbrev pub AddsUseAt : InterfaceId → ℕ → (old new : List ℕ) → Type 0
  AddsUseAt id at old new = (u : Name × UsedType) → slice_get (uses_of c id) at ≡ Some u → new ≡ old ++ option_to_list (place_of u.1.interface)

  abbrev pub AddsUses : List ItemKind → (old new : List ℕ) → Type 0
  AddsUses ks old new = (ns : List ℕ) × UsePlaces ks ns × (new ≡ old ++ ns)

-- the item at the place uses those at these
abbrev pub ItemUses : Collection → (items : List (Name × ItemKind)) → (found : List (Name × ℕ)) → ℕ → List ℕ → Type 0
ItemUses c items found at ns = (n : Name) (k : ItemKind) → slice_get items at ≡ Some (n, k) → UsePlaces c found (k ∷ []) ns

abbrev pub AllUses : Collection → (items : List (Name × ItemKind)) → (found : List (Name × ℕ)) → List (List ℕ) → Type 0
AllUses c items found uses =
    (length uses ≡ length items) × ((at : ℕ) (ns : List ℕ) → slice_get uses at ≡ Some ns → ItemUses c items found at ns)

-- ---- exports

-- exports are found by their names
abbrev pub HaveExportUses : Importing → List (List ℕ) → Type 0
HaveExportUses a uses = (found : List (Name × ℕ)) × FindsFirst found (own_places 0 (names_of (all_exports a)))
    × AllUses a.types.now (all_exports a) found uses

-- each export is behind those that it uses, but for one that waits for it
abbrev pub IsExportOrder : Importing → List ℕ → Type 0
IsExportOrder a order = (uses : List (List ℕ)) × HaveExportUses a uses × (order ≡ places_in_order uses)

-- ---- imports

-- one place stands before another
pub record ComesBefore (ks : List ℕ) (one other : ℕ) : Type 0 where
  pub first : ℕ
  pub second : ℕ
  pub one_is : position (nat_eq one) ks ≡ Some first
  pub other_is : position (nat_eq other) ks ≡ Some second
  pub less : first < second

module _ (a : Importing) where
  -- the import at the place is an instance or an interface
  abbrev pub IsSourceAt : ℕ → Type 0
  IsSourceAt at = (n : Name) × (k : ItemKind) × (slice_get (all_imports a) at ≡ Some (n, k)) × IsSource k

  -- and comes before another one
  abbrev pub IsSourceBefore : (order : List ℕ) → ℕ → ℕ → Type 0
  IsSourceBefore order m at = IsSourceAt m × ComesBefore order m at

  -- just those of the places that are so
  abbrev pub AddsSources : (order : List ℕ) → ℕ → (uses old new : List ℕ) → Type 0
  AddsSources order at uses old new = (ns : List ℕ) × (new ≡ old ++ ns)
      × ((m : ℕ) → Among m ns → Among m uses × IsSourceBefore order m at)
      × ((m : ℕ) → Among m uses → IsSourceBefore order m at → Among m ns)

module _ (a : Importing) (found : List (Name × ℕ)) where
  -- the import at the place uses those at these
  abbrev pub HasUses : ℕ → List ℕ → Type 0
  HasUses at ns = ItemUses a.types.now (all_imports a) found at ns

  abbrev pub AreUses : List (List ℕ) → Type 0
  AreUses uses = AllUses a.types.now (all_imports a) found uses

  -- each place is behind those that its import uses, but for those that wait for it; nothing else is asked
  abbrev pub IsPlainOrder : List ℕ → Type 0
  IsPlainOrder order = (uses : List (List ℕ)) × AreUses uses × (order ≡ places_in_order uses)

  -- the place is that of the interface whose use gives the import
  abbrev pub IsGivenAt : Item → ℕ → Type 0
  IsGivenAt x m = (t : TakenUse) × IsGivenBy a x t × (place_of a.types.now found t.used.interface ≡ Some m)

  -- ---- what is asked of an order

  -- an instance or an interface uses another one, which comes before it in the plain order
  pub record UsesBefore (plain : List ℕ) (at m : ℕ) : Type 0 where
    pub source : IsSourceAt a at
    pub before : IsSourceBefore a plain m at
    pub uses : List ℕ
    pub are : HasUses at uses
    pub among : Among m uses

  -- a use gives the import at the place, and the other is an import of its interface
  pub record IsTakenFrom (at m : ℕ) : Type 0 where
    pub item : Item
    pub import_is : slice_get (all_imports a) at ≡ Some (item.name.now, item.kind)
    pub given : IsGivenAt item m
    pub source : IsSourceAt a m

  -- Instances and interfaces stand behind those that they use and that come before them in the plain order, and an import
  -- that a use gives stands behind that of its interface.
  pub record SourcesBehind (ks : List ℕ) : Type 0 where
    pub plain : List ℕ
    pub plain_is : IsPlainOrder plain
    pub interfaces : (before rest : List ℕ) (at m : ℕ) → ks ≡ before ++ at ∷ rest → UsesBefore plain at m → Among m before
    pub given : (before rest : List ℕ) (at m : ℕ) → ks ≡ before ++ at ∷ rest → IsTakenFrom at m → Among m before

  -- ---- what a place needs

  -- the sources that it uses and that come before it in the plain order
  abbrev pub AddsBefore : (plain : List ℕ) → ℕ → (old new : List ℕ) → Type 0
  AddsBefore plain at old new = at < length (all_imports a) → (uses : List ℕ) → HasUses at uses → AddsSources a plain at uses old new

  -- a source needs these alone; what a use gives needs the import of the interface
  pub record IsNeeds (plain : List ℕ) (at : ℕ) (ns : List ℕ) : Type 0 where
    pub source : IsSourceAt a at → AddsBefore plain at [] ns
    pub given : (m : ℕ) → IsTakenFrom at m → ns ≡ m ∷ []

  abbrev pub AreNeeds : (plain : List ℕ) → List (List ℕ) → Type 0
  AreNeeds plain needs = (at : ℕ) (ns : List ℕ) → slice_get needs at ≡ Some ns → IsNeeds plain at ns

  abbrev pub HaveNeeds : List (List ℕ) → Type 0
  HaveNeeds needs = (plain : List ℕ) × IsPlainOrder plain × AreNeeds plain needs
