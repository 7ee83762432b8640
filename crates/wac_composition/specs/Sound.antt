-- When a composition speaks of what is there alone, and gives each import what fits it; and what its wiring then is.
use Rattle.std.specs.Prelude.{◌≡◌, ℕ, ◌<◌, true, List, [], ◌∷◌, Some, slice_get}
use Rattle.wac_types_base.specs.Entries.{Name, value_at}
use Rattle.wac_types_base.specs.Graph.{Among}
use Rattle.wac_types_base.specs.Stated.{Stated, kind_of, imports_of, exports_of, instance_type}
use Rattle.wac_types_base.specs.Tree.{Tree, Fields, no_fields, put, tree}
use Rattle.wac_types_base.specs.Fits.{Fits}
use Rattle.wac_types_names.specs.Keys.{Key}
use Rattle.wac_graph_bytes.specs.Wirings.{Tag, IsOrdered}
use Rattle.wac_nesting.specs.Given.{World, IsDefinition, IsBound, IsTrueWorld}
use Rattle.wac_composition.specs.Composition.{Origin, imported, projected, defined, Placed, Made, Composition}
use Rattle.wac_composition.specs.Asks.{Ask, asks_of}
use Rattle.wac_composition.specs.Classes.{is_instance_kind}
use Rattle.wac_types_written.specs.Written.{is_type, written_definition}
use Rattle.wac_composition.specs.Worlds.{composed_world}
use Rattle.wac_composition.specs.Wired.{composed_wiring}

-- ---- stated worlds as maps

-- the map that named items are
abbrev pub fields_of : List (Name × Stated) → Fields
fields_of [] = no_fields
fields_of (e ∷ es) = put e.0 (tree e.1) (fields_of es)

-- what a world imports and exports
abbrev pub maps_of : Stated → World
maps_of x = record { imports = fields_of (imports_of x); exports = fields_of (exports_of x) }

-- What has the tree of an instance is one, and so is all that it exports: aliases are of values and resources.
pub data IsStraight : Stated → Type 0 where
  an_instance : {x : Stated} → is_instance_kind (kind_of x) ≡ true
      → ((n : Name) (y : Stated) → Among (n, y) (exports_of x) → IsStraight y) → IsStraight x
  no_instance : {x : Stated} → ((xs : Fields) → tree x ≡ Tree.instance xs → ⊥) → IsStraight x

-- ---- what an origin is

-- an origin, and the type by which steps from it go
pub data HasType {A : Type 0} (c : Composition A ℕ) : Origin ℕ → Stated → Type 0 where
  of_import : (i : Placed A) → Among i c.imports → HasType c (imported i.name) i.item
  of_instance : (k : ℕ) (m : Made A ℕ) → slice_get c.made k ≡ Some m → HasType c (Origin.instance k) (instance_type m.world)
  of_export : (o : Origin ℕ) (x : Stated) (n : Name) (y : Stated) → HasType c o x → is_instance_kind (kind_of x) ≡ true
      → value_at (exports_of x) n ≡ Some y → HasType c (projected o n) y
  of_definition : (n : Name) (x : Stated) → is_type (kind_of x) ≡ true → IsDefinition (tree (written_definition x))
      → HasType c (defined n x) x

-- a definition is given as it is written
abbrev pub given_as : Origin ℕ → Stated → Stated
given_as (defined n y) x = written_definition y
given_as o x = x

-- it speaks of instances of lower numbers
abbrev pub IsBefore : ℕ → Origin ℕ → Type 0
IsBefore k (imported n) = Unit {0}
IsBefore k (Origin.instance j) = j < k
IsBefore k (projected o n) = IsBefore k o
IsBefore k (defined n x) = Unit {0}

-- an argument of the instance k, for an import of this type
pub record IsGiven {A : Type 0} (c : Composition A ℕ) (k : ℕ) (o : Origin ℕ) (asked : Stated) : Type 0 where
  pub item : Stated
  pub has : HasType c o item
  pub fits : Fits (tree (given_as o item)) (tree asked)
  pub before : IsBefore k o

pub record IsSound {A : Type 0} (c : Composition A ℕ) : Type 0 where
  pub given : (k : ℕ) (m : Made A ℕ) (n : Name) (o : Origin ℕ) (x : Stated) → slice_get c.made k ≡ Some m
      → value_at m.arguments n ≡ Some o → value_at (imports_of m.world) n ≡ Some x → IsGiven c k o x
  pub exported : (n : Name) (o : Origin ℕ) (x : Stated) → Among (n, o, x) c.exports → HasType c o x
  pub straight : (a : Ask A) → Among a (asks_of c) → IsStraight a.item

-- ---- what its wiring is

-- the instance k is one of a component of this world
pub record IsMade {A : Type 0} (c : Composition A ℕ) (k : ℕ) (world : World) : Type 0 where
  pub made : Made A ℕ
  pub there : slice_get c.made k ≡ Some made
  pub says : world ≡ maps_of made.world

-- each import of each instance is bound once, to what fits it and was there before, and the world that is handed out is true
pub record IsWired {A : Type 0} (tag_of : Key → Tag) (c : Composition A ℕ) : Type 0 where
  pub ordered : IsOrdered (composed_wiring tag_of c)
  pub bound : IsBound (IsMade c) (composed_wiring tag_of c)
  pub true_world : IsTrueWorld (IsMade c) (maps_of (composed_world c)) (composed_wiring tag_of c)
