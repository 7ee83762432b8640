-- The tree of a source, and when sources give what is asked.
use Rattle.std.specs.Prelude.{◌≡◌, ℕ, Option, Some}
use Rattle.wac_types_base.specs.Entries.{Name}
use Rattle.wac_types_base.specs.Collection.{resource}
use Rattle.wac_types_base.specs.Tree.{Tree, rigid, instance, type_item, Fields}
use Rattle.wac_types_base.specs.Fits.{HasField, Fits}
use Rattle.wac_graph_bytes.specs.Wirings.{Source, Absent, Outer, Inst, Projection, Bundle, Definition, Instantiation, Wiring}

-- what a component imports and exports
pub record World : Type 0 where
  pub imports : Fields
  pub exports : Fields

abbrev pub HasNone : Name → Fields → Type 0
HasNone n xs = (t : Tree) → HasField n t xs → ⊥

-- a type definition is a type item, or a resource
abbrev pub IsDefinition : Tree → Type 0
IsDefinition (type_item t) = Unit {0}
IsDefinition (rigid (resource n) r) = Unit {0}
IsDefinition t = ⊥

-- the tree of a source, from those of the outer imports and the worlds of the instances
abbrev pub HasTree : {I : Type 0} → (Name → Option Tree) → (I → World → Type 0) → Source I → Tree → Type 0
HasTree outers IsOf Absent t = ⊥
HasTree outers IsOf (Outer n) t = outers n ≡ Some t
HasTree outers IsOf (Inst k) t = (w : World) × IsOf k w × (t ≡ instance w.exports)
HasTree outers IsOf (Projection s n) t = (xs : Fields) × HasTree outers IsOf s (instance xs) × HasField n t xs
HasTree outers IsOf (Bundle f) t = (xs : Fields) × (t ≡ instance xs)
    × ((n : Name) (u : Tree) → HasField n u xs → HasTree outers IsOf (f n) u) × ((n : Name) → HasNone n xs → f n ≡ Absent)
HasTree outers IsOf (Definition d) t = (d ≡ t) × IsDefinition d

-- a source that fits what is asked
pub record Gives {I : Type 0} (outers : Name → Option Tree) (IsOf : I → World → Type 0) (s : Source I)
    (asked : Tree) : Type 0 where
  pub given : Tree
  pub has : HasTree outers IsOf s given
  pub fits : Fits given asked

-- each name that is asked is bound to a source that fits, and no other name is bound
pub record Provides {I : Type 0} (outers : Name → Option Tree) (IsOf : I → World → Type 0) (sources : Name → Source I)
    (asked : Fields) : Type 0 where
  pub each : (n : Name) (t : Tree) → HasField n t asked → Gives outers IsOf (sources n) t
  pub only : (n : Name) → HasNone n asked → sources n ≡ Absent

-- likewise, where each source has exactly the tree
pub record States {I : Type 0} (outers : Name → Option Tree) (IsOf : I → World → Type 0) (sources : Name → Source I)
    (stated : Fields) : Type 0 where
  pub each : (n : Name) (t : Tree) → HasField n t stated → HasTree outers IsOf (sources n) t
  pub only : (n : Name) → HasNone n stated → sources n ≡ Absent

-- the outer imports are these
pub record AreOuters (outers : Name → Option Tree) (imports : Fields) : Type 0 where
  pub each : (n : Name) (t : Tree) → HasField n t imports → outers n ≡ Some t
  pub only : (n : Name) (t : Tree) → outers n ≡ Some t → HasField n t imports

-- an instance of a component of this world, whose imports are all bound to what fits
pub record IsBoundInstance {I : Type 0} (IsOf : I → World → Type 0) (W : Wiring I) (k : I) (x : Instantiation I) : Type 0 where
  pub world : World
  pub is : IsOf k world
  pub bound : Provides W.outers IsOf x.args world.imports

-- each import of each instance is bound once, to what fits it, and nothing else is bound
abbrev pub IsBound : {I : Type 0} → (I → World → Type 0) → Wiring I → Type 0
IsBound IsOf W = (k : _) (x : Instantiation _) → W.at k ≡ Some x → IsBoundInstance IsOf W k x

-- the world says exactly what the wiring imports and exports
pub record IsTrueWorld {I : Type 0} (IsOf : I → World → Type 0) (world : World) (W : Wiring I) : Type 0 where
  pub imports : AreOuters W.outers world.imports
  pub exports : States W.outers IsOf W.exports world.exports
