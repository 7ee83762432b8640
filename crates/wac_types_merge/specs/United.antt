-- The stated type of what merging makes of two.
use Rattle.std.specs.Prelude.{◌≡◌, ◌⊎◌, List, [], ◌∷◌, ◌++◌, map, Option, Some, None, is_some}
use Rattle.wac_types_base.specs.declared.item.ItemKind.{ItemKind}
use Rattle.wac_types_base.specs.declared.ids.InterfaceId.{InterfaceId}
use Rattle.wac_types_base.specs.declared.defined.Interface.{Interface}
use Rattle.wac_types_base.specs.Record.{Collection}
use Rattle.wac_types_base.specs.Entries.{Name, value_at, with_values}
use Rattle.wac_types_base.specs.Stated.{Stated, Used, kind_of, IsInstance, IsInterface, uses_of, exports_of, identifier_of, stated_of}
use Rattle.wac_types_names.specs.Tracks.{lookup_key}
use Rattle.wac_types_merge.specs.Imports.{spelled_if}
use Rattle.wac_types_merge.specs.Interfaces.{new_in, joined, merged_interface, IsAt}

-- uses under their names
abbrev pub by_name : List Used → List (Name × Used)
by_name us = map (λ u. (u.name, u)) us

-- both are instances, or both the types of instances
abbrev pub AreBoth : Stated → Stated → Type 0
AreBoth t u = ((kind_of t ≡ IsInstance) × (kind_of u ≡ IsInstance)) ⊎ ((kind_of t ≡ IsInterface) × (kind_of u ≡ IsInterface))

mutual
  -- the third is what merging makes of the first two
  pub data Unites : Stated → Stated → Stated → Type 0 where
    -- of other items that is the first, owners and all
    the_first : (t u : Stated) → (AreBoth t u → ⊥) → Unites t u t
    -- of two instances one with the identifier of the first, the uses of both and the exports of both, those of the first before
    -- others
    of_instances : (t u v : Stated) → AreBoth t u → kind_of v ≡ kind_of t → identifier_of v ≡ identifier_of t
        → by_name (uses_of v) ≡ joined (by_name (uses_of t)) (by_name (uses_of u))
        → (es : List (Name × Stated)) → ExportsUnite (exports_of u) (exports_of t) es
        → exports_of v ≡ es ++ new_in (exports_of t) (exports_of u) → Unites t u v

  -- each of the first with what the others have under its name
  pub data ExportsUnite : List (Name × Stated) → List (Name × Stated) → List (Name × Stated) → Type 0 where
    none_united : {others : List (Name × Stated)} → ExportsUnite others [] []
    one_alone : {others : List (Name × Stated)} (n : Name) (t : Stated) (es fs : List (Name × Stated)) → value_at others n ≡ None
        → ExportsUnite others es fs → ExportsUnite others ((n, t) ∷ es) ((n, t) ∷ fs)
    one_united : {others : List (Name × Stated)} (n : Name) (t u v : Stated) (es fs : List (Name × Stated))
        → value_at others n ≡ Some u → Unites t u v → ExportsUnite others es fs → ExportsUnite others ((n, t) ∷ es) ((n, v) ∷ fs)

-- k of d is what merging makes of a and b of c
abbrev pub UnitesIn : Collection → ItemKind → ItemKind → Collection → ItemKind → Type 0
UnitesIn c a b d k = Unites (stated_of c a) (stated_of c b) (stated_of d k)

-- k is what merging makes of two; where the name asked is on a track, an instance under this spelling as its identifier
pub record KeepsUnited (a b : Stated) (name spelling : Name) (k : Stated) : Type 0 where
  pub united : Stated
  pub is : Unites a b united
  pub spelled : k ≡ spelled_if (is_some (lookup_key name)) spelling united

-- ---- single steps

-- the same of an item kept and the one asked, if there is one
abbrev pub OtherUnites : Collection → ItemKind → Option ItemKind → Collection → ItemKind → Type 0
OtherUnites c a None d k = stated_of d k ≡ stated_of c a
OtherUnites c a (Some b) d k = UnitesIn c a b d k

abbrev pub ItemsUnite : Collection → List (Name × ItemKind) → Collection → List (Name × ItemKind) → List (Name × ItemKind)
    → Type 0
ItemsUnite c asked d kept both =
    ExportsUnite (with_values (stated_of c) asked) (with_values (stated_of c) kept) (with_values (stated_of d) both)

-- the interface of d has the uses and the exports of both, those of the first united
pub record InterfacesUnite (c : Collection) (x y : Interface) (d : Collection) (i : InterfaceId) : Type 0 where
  pub both : List (Name × ItemKind)
  pub at : IsAt d i (merged_interface x y both)
  pub united : ItemsUnite c y.exports d x.exports both
