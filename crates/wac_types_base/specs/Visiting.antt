-- The defined types below a type, and what it means that a visitor is called on each.
use Rattle.std.specs.Prelude.{◌≡◌, ℕ, List, [], ◌∷◌, ◌++◌, length, drop, Option, Some, None, Result, Ok, Err, slice_get, ⊤}
use Rattle.std.specs.Borrow.{Bor}
use Rattle.wac_types_base.specs.declared.ids.DefinedTypeId.{DefinedTypeId}
use Rattle.wac_types_base.specs.declared.item.ValueType.{ValueType}
use Rattle.wac_types_base.specs.declared.item.«Type».{«Type» as TypeKind}
use Rattle.wac_types_base.specs.declared.item.ItemKind.{ItemKind}
use Rattle.wac_types_base.specs.declared.defined.Interface.{Interface}
use Rattle.wac_types_base.specs.declared.defined.World.{World}
use Rattle.wac_types_base.specs.Record.{Collection}
use Rattle.wac_types_base.specs.Collection.{Slot, slots_of}

-- the defined type that a kind names
abbrev pub defined_in : ItemKind → Option DefinedTypeId
defined_in (ItemKind.Value (ValueType.Defined d)) = Some d
defined_in (ItemKind.Ty (TypeKind.Value (ValueType.Defined d))) = Some d
defined_in k = None

abbrev pub own_visit : Option DefinedTypeId → List DefinedTypeId
own_visit None = []
own_visit (Some d) = d ∷ []

-- how many uses
abbrev pub interface_uses : Option Interface → ℕ
interface_uses None = 0
interface_uses (Some i) = length i.uses

abbrev pub world_uses : Option World → ℕ
world_uses None = 0
world_uses (Some w) = length w.uses

-- the places of a kind that are not below it: the uses, and what a resource is made of
abbrev pub value_skipped : ValueType → ℕ
value_skipped (ValueType.Primitive p) = 0
value_skipped (ValueType.Borrow r) = 2
value_skipped (ValueType.Own r) = 2
value_skipped (ValueType.Defined d) = 0

abbrev pub type_skipped : Collection → TypeKind → ℕ
type_skipped c (TypeKind.Resource r) = 2
type_skipped c (TypeKind.Func f) = 0
type_skipped c (TypeKind.Value v) = value_skipped v
type_skipped c (TypeKind.Interface i) = interface_uses (slice_get c.interfaces i.index)
type_skipped c (TypeKind.World w) = world_uses (slice_get c.worlds w.index)
type_skipped c (TypeKind.Module m) = 0

abbrev pub skipped : Collection → ItemKind → ℕ
skipped c (ItemKind.Ty t) = type_skipped c t
skipped c (ItemKind.Func f) = 0
skipped c (ItemKind.Instance i) = interface_uses (slice_get c.interfaces i.index)
skipped c (ItemKind.Component w) = world_uses (slice_get c.worlds w.index)
skipped c (ItemKind.Module m) = 0
skipped c (ItemKind.Value v) = value_skipped v

abbrev pub below : Collection → ItemKind → List Slot
below c k = drop (skipped c k) (slots_of c k)

-- the defined types of a kind: its own, then those below it, once for each place, in order
mutual
  pub data Visits (c : Collection) : ItemKind → List DefinedTypeId → Type 0 where
    visits : {k : ItemKind} {ds : List DefinedTypeId} → VisitsAll c (below c k) ds → Visits c k (own_visit (defined_in k) ++ ds)

  pub data VisitsAll (c : Collection) : List Slot → List DefinedTypeId → Type 0 where
    visits_none : VisitsAll c [] []
    visits_hole : {xs : List Slot} {ds : List DefinedTypeId} → VisitsAll c xs ds → VisitsAll c (None ∷ xs) ds
    visits_place : {k : ItemKind} {xs : List Slot} {ds es : List DefinedTypeId} → Visits c k ds → VisitsAll c xs es
        → VisitsAll c (Some k ∷ xs) (ds ++ es)

-- calls, each from the state that the one before left, on each of a list until one is refused
pub data CalledOn {F D E : Type 0} (call : F → D → Result ⊤ E → F → Type 0) : F → List D → Result ⊤ E → F → Type 0 where
  called_on_all : {f : F} → CalledOn call f [] (Ok tt) f
  called_on_first : {f g h : F} {d : D} {ds : List D} {r : Result ⊤ E} → call f d (Ok tt) g → CalledOn call g ds r h
      → CalledOn call f (d ∷ ds) r h
  refused_first : {f g : F} {d : D} {ds : List D} {e : E} → call f d (Err e) g → CalledOn call f (d ∷ ds) (Err e) g

-- a call with a reference to the collection
abbrev pub call_with : {F E : Type 0} → (F → Bor Collection → DefinedTypeId → Result ⊤ E → F → Type 0) → Collection → F
    → DefinedTypeId → Result ⊤ E → F → Type 0
call_with step c f d r g = (t : Bor Collection) × (t.now ≡ c) × step f t d r g

-- calls on each of the defined types of a kind, until one is refused
pub record IsVisited {F E : Type 0} (call : F → DefinedTypeId → Result ⊤ E → F → Type 0) (c : Collection) (k : ItemKind) (f : F)
    (r : Result ⊤ E) (g : F) : Type 0 where
  pub ids : List DefinedTypeId
  pub all : Visits c k ids
  pub called : CalledOn call f ids r g
