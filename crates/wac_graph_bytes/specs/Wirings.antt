-- Sources and wirings, and when two wirings are the same. A map from names to sources is a function that is `Absent`
-- at each name that the map hasn't, and a map to trees one that is None there.
use Rattle.std.specs.Prelude.{◌≡◌, ℕ, ◌<◌, List, Option, Some, IsSome, slice_get}
use Rattle.wac_types_base.specs.Tree.{Tree}
use Rattle.wac_types_base.specs.Entries.{Name}

-- a source, over the names `I` of instances
pub data Source (I : Type 0) : Type 0 where
  -- no source
  Absent : Source I
  -- an outer import
  Outer : Name → Source I
  -- an instance
  Inst : I → Source I
  -- an export of a source
  Projection : Source I → Name → Source I
  -- an instance made of sources
  Bundle : (Name → Source I) → Source I
  -- a type definition, as an item
  Definition : Tree → Source I

-- a projection of a bundle is its entry
abbrev pub project : {I : Type 0} → Source I → Name → Source I
project (Bundle f) n = f n
project Absent n = Absent
project s n = Projection s n

-- the source with others for its outer imports and its instances
abbrev pub replace : {I J : Type 0} → (Name → Source J) → (I → Source J) → Source I → Source J
replace o i Absent = Absent
replace o i (Outer n) = o n
replace o i (Inst k) = i k
replace o i (Projection s n) = project (replace o i s) n
replace o i (Bundle f) = Bundle (λ n. replace o i (f n))
replace o i (Definition t) = Definition t

-- the source with its instances renamed
abbrev pub rename : {I J : Type 0} → (I → J) → Source I → Source J
rename f s = replace Outer (λ k. Inst (f k)) s

-- P holds of each instance in the source
abbrev pub Uses : {I : Type 0} → (I → Type 0) → Source I → Type 0
Uses P Absent = Unit {0}
Uses P (Outer n) = Unit {0}
Uses P (Inst k) = P k
Uses P (Projection s n) = Uses P s
Uses P (Bundle f) = (n : Name) → Uses P (f n)
Uses P (Definition t) = Unit {0}

-- P holds of the name of each outer import in the source
abbrev pub Asks : {I : Type 0} → (Name → Type 0) → Source I → Type 0
Asks P Absent = Unit {0}
Asks P (Outer n) = P n
Asks P (Inst k) = Unit {0}
Asks P (Projection s n) = Asks P s
Asks P (Bundle f) = (n : Name) → Asks P (f n)
Asks P (Definition t) = Unit {0}

-- what an instance is made of: a component with these bytes, or one that is imported under this name
pub data Tag : Type 0 where
  OfBytes : List ℕ → Tag
  OfDependency : Name → Tag

-- an instance: what it is made of, and what its imports are bound to
pub record Instantiation (I : Type 0) : Type 0 where
  pub tag : Tag
  pub args : Name → Source I

-- outer imports with what they ask, instances, exports
pub record Wiring (I : Type 0) : Type 0 where
  pub outers : Name → Option Tree
  pub at : I → Option (Instantiation I)
  pub exports : Name → Source I

abbrev pub renamed : {I J : Type 0} → (I → J) → Instantiation I → Instantiation J
renamed f x = record { tag = x.tag; args = λ n. rename f (x.args n) }

-- a one-to-one renaming of instances turns one wiring into the other
pub record Same {I J : Type 0} (V : Wiring I) (W : Wiring J) : Type 0 where
  pub to : I → J
  pub from : J → I
  pub outers : (n : Name) → V.outers n ≡ W.outers n
  pub there : (k : I) (x : Instantiation I) → V.at k ≡ Some x → (from (to k) ≡ k) × (W.at (to k) ≡ Some (renamed to x))
  pub back : (j : J) (y : Instantiation J) → W.at j ≡ Some y
      → (x : Instantiation I) × (V.at (from j) ≡ Some x) × (to (from j) ≡ j)
  pub exports : (n : Name) → rename to (V.exports n) ≡ W.exports n

-- a source that is there, with no bundle in it
abbrev pub IsNamed : {I : Type 0} → Source I → Type 0
IsNamed Absent = ⊥
IsNamed (Outer n) = Unit {0}
IsNamed (Inst k) = Unit {0}
IsNamed (Projection s n) = IsNamed s
IsNamed (Bundle f) = ⊥
IsNamed (Definition t) = Unit {0}

-- a source with no bundle in it, or none
abbrev pub IsPlain : {I : Type 0} → Source I → Type 0
IsPlain Absent = Unit {0}
IsPlain (Outer n) = Unit {0}
IsPlain (Inst k) = Unit {0}
IsPlain (Projection s n) = IsNamed s
IsPlain (Bundle f) = ⊥
IsPlain (Definition t) = Unit {0}

-- one level: no bundles, and no instance is named that isn't there
pub record IsClosed {I : Type 0} (W : Wiring I) : Type 0 where
  pub args_plain : (k : I) (x : Instantiation I) → W.at k ≡ Some x → (n : Name) → IsPlain (x.args n)
  pub args_there : (k : I) (x : Instantiation I) → W.at k ≡ Some x → (n : Name)
      → Uses (λ j. (y : Instantiation I) × (W.at j ≡ Some y)) (x.args n)
  pub exports_plain : (n : Name) → IsPlain (W.exports n)
  pub exports_there : (n : Name) → Uses (λ j. (y : Instantiation I) × (W.at j ≡ Some y)) (W.exports n)

-- An instance's sources name instances that are there and have lower numbers; the exports' name instances that are there.
pub record IsOrdered (W : Wiring ℕ) : Type 0 where
  pub args : (k : ℕ) (x : Instantiation ℕ) → W.at k ≡ Some x → (n : Name) → Uses (λ j. (j < k) × IsSome (W.at j)) (x.args n)
  pub exports : (n : Name) → Uses (λ j. IsSome (W.at j)) (W.exports n)

-- A wiring's instances written in an order: `order` lists the instances of V as they were written, `to` is the place of each in
-- W.
pub record IsWritten (V W : Wiring ℕ) (order : List ℕ) (to : ℕ → ℕ) : Type 0 where
  pub outers : (n : Name) → V.outers n ≡ W.outers n
  pub each : (k : ℕ) (x : Instantiation ℕ) → V.at k ≡ Some x
      → (slice_get order (to k) ≡ Some k) × (W.at (to k) ≡ Some (renamed to x))
  pub only : (j : ℕ) (y : Instantiation ℕ) → W.at j ≡ Some y
      → (k : ℕ) × (x : Instantiation ℕ) × (slice_get order j ≡ Some k) × (V.at k ≡ Some x) × (to k ≡ j)
  pub exports : (n : Name) → rename to (V.exports n) ≡ W.exports n
