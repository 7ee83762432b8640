-- The types that are known in a scope, and how they are found: by id, or by the tree of a type that has a name there.
use Rattle.std.specs.Prelude.{◌≡◌, ℕ, true, List, Some, slice_get, nat_eq, ◌⊎◌}
use Rattle.std.specs.Map.{lookup}
use Rattle.wac_types_base.specs.contracts.item.ValueTypePartialEq.TheImpl.{eq-value}
use Rattle.wac_types_base.specs.declared.ids.DefinedTypeId.{DefinedTypeId}
use Rattle.wac_types_base.specs.declared.item.ValueType.{ValueType}
use Rattle.wac_types_base.specs.declared.item.ItemKind.{ItemKind}
use Rattle.wac_types_base.specs.Record.{Collection}
use Rattle.wac_types_base.specs.Graph.{Among}
use Rattle.wac_types_base.specs.Collection.{Stands}
use Rattle.wac_types_base.specs.Tree.{Tree}
use Rattle.wac_types_fit.specs.Trees.{tree_in}
use Rattle.wac_graph_scopes.specs.declared.scope.KnownType.{KnownType}
use Rattle.wac_graph_scopes.specs.declared.scope.KnownTypes.{KnownTypes}
use Rattle.wac_graph_scopes.specs.Prints.{value_print, ArePrints}

abbrev pub type_tree : Collection → ValueType → Tree
type_tree c v = tree_in c (ItemKind.Value v)

-- by its id the type is found in the list
pub record HasPlace (places : List (ValueType × ℕ)) (ks : List KnownType) (v : ValueType) : Type 0 where
  pub place : ℕ
  pub there : KnownType
  pub found : lookup (eq-value.it v) places ≡ Some place
  pub stands : slice_get ks place ≡ Some there
  pub same : there.ty ≡ v

-- the number is found
abbrev pub FindsPrint : List (ℕ × ℕ) → ℕ → Type 0
FindsPrint places n = (place : ℕ) × (lookup (nat_eq n) places ≡ Some place)

-- the type stands, and its number is found
abbrev pub HasPrint : Collection → List (ℕ × ℕ) → ValueType → Type 0
HasPrint c places v = Stands c (ItemKind.Value v) × FindsPrint places (value_print c v)

-- Each type is found by its id, and each with a name by its number; the numbers are true.
pub record ArePlaces (c : Collection) (ks : KnownTypes) : Type 0 where
  pub ids : (k : KnownType) → Among k ks.all.items → HasPlace ks.places.by_id.entries ks.all.items k.ty
  pub names : (k : KnownType) → Among k ks.all.items → k.named ≡ true → HasPrint c ks.places.by_print.entries k.ty
  pub prints : ArePrints c ks.places.prints

-- the index that is remembered of a defined type's id
pub record IsIndexOf (ks : KnownTypes) (id : DefinedTypeId) (k : ℕ) : Type 0 where
  pub place : HasPlace ks.places.by_id.entries ks.all.items (ValueType.Defined id)
  pub index : place.there.index ≡ k

-- a type is known by its own id
abbrev pub HasId : List KnownType → ValueType → Type 0
HasId ks v = (k : KnownType) × Among k ks × (k.ty ≡ v)

-- and has a name
abbrev pub IsNamed : ValueType → List KnownType → Type 0
IsNamed v ks = (k : KnownType) × Among k ks × (k.named ≡ true) × (k.ty ≡ v)

-- a type with that tree is known, and has a name
abbrev pub HasTree : Collection → List KnownType → Tree → Type 0
HasTree c ks t = (k : KnownType) × Among k ks × (k.named ≡ true) × (type_tree c k.ty ≡ t)

-- the defined type is known: by its id, or by its tree, which is that of a type with a name
abbrev pub IsFound : Collection → List KnownType → DefinedTypeId → Type 0
IsFound c ks id = HasId ks (ValueType.Defined id) ⊎ HasTree c ks (type_tree c (ValueType.Defined id))

-- what is known at a place of the list has another tree, if it stands
abbrev pub DiffersAt : Collection → List KnownType → Tree → ℕ → Type 0
DiffersAt c ks t n =
    (k : KnownType) → slice_get ks n ≡ Some k → Stands c (ItemKind.Value k.ty) → type_tree c k.ty ≡ t → ⊥

-- what was known is known
abbrev pub KeepsKnown : List KnownType → List KnownType → Type 0
KeepsKnown old new = (k : KnownType) → Among k old → Among k new
