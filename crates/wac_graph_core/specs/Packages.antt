-- Packages of a graph, and their places over time.
use Rattle.std.specs.Prelude.{◌≡◌, ℕ, ◌+◌, ◌<◌, ◌≤◌, List, [], ◌∷◌, ◌++◌, length, Option, Some, None, slice_get, slice_set}
use Rattle.std.specs.Option.{option_copied, option_map}
use Rattle.std.specs.Borrow.{Bor}
use Rattle.semver.specs.declared.Version.{Version}
use Rattle.semver.specs.Identifiers.{parts_of}
use Rattle.wac_types_base.specs.declared.item.ItemKind.{ItemKind}
use Rattle.wac_types_base.specs.declared.defined.World.{World}
use Rattle.wac_types_base.specs.Record.{Collection}
use Rattle.wac_types_base.specs.Collection.{Stands}
use Rattle.wac_types_base.specs.Entries.{Name}
use Rattle.wac_types_names.specs.Packaged.{Packaged}
use Rattle.wac_types_names.specs.Packages.{interface_of}
use Rattle.wac_types_names.specs.Keys.{Key, package_key, owned_key}
use Rattle.wac_graph_core.specs.declared.ids.PackageId.{PackageId}
use Rattle.wac_graph_core.specs.declared.package.Place.{Place}
use Rattle.wac_graph_core.specs.declared.error.RegisterPackageError.{RegisterPackageError}
use Rattle.wac_graph_core.specs.NodeMaps.{AreInstances}
use Rattle.wac_graph_core.specs.Graph.{Graph, ContainsPackage, package_of}
use Rattle.wac_graph_core.specs.Removing.{RemovesNodes}

-- the place holds a package of this key
pub record HoldsKey (p : Place) (key : Key) : Type 0 where
  pub held : Packaged
  pub is : p.held ≡ Some held
  pub keyed : package_key held ≡ key

-- the place of this index holds a package of this key
abbrev pub HoldsKeyAt : List Place → Key → ℕ → Type 0
HoldsKeyAt places key i = (p : Place) × (slice_get places i ≡ Some p) × HoldsKey p key

-- no place holds a package of this key
abbrev pub NoneHoldsKey : List Place → Key → Type 0
NoneHoldsKey places key = (i : ℕ) (p : Place) → slice_get places i ≡ Some p → HoldsKey p key → ⊥

-- a package may be put there: none is there, and the generation can be raised
pub record IsFree (p : Place) : Type 0 where
  pub empty : p.held ≡ None
  pub low : p.generation < 18446744073709551615

-- the key of a name, and of a version that is lent
abbrev pub key_of : Name → Option (Bor Version) → Key
key_of n v = (n, option_map parts_of (option_copied v))

-- the graph has this package under this id, and its key is this one
abbrev pub HasPackage : Graph → PackageId → Packaged → Key → Type 0
HasPackage g id p key = (package_of g id ≡ Some p) × (package_key p ≡ key)

-- no package of the graph has this key
abbrev pub NoKey : Graph → Key → Type 0
NoKey g key = (id : PackageId) (p : Packaged) → package_of g id ≡ Some p → package_key p ≡ key → ⊥

-- a new place
pub record IsNewPlace (old : List Place) (id : PackageId) : Type 0 where
  pub place : id.place ≡ length old
  pub first : id.generation ≡ 0

-- a place that is free
pub record IsFreePlace (old : List Place) (id : PackageId) : Type 0 where
  pub place : Place
  pub there : slice_get old id.place ≡ Some place
  pub free : IsFree place
  pub now : id.generation ≡ place.generation

abbrev pub held_place : ℕ → Packaged → Place
held_place n p = record { generation = n; held = Some p }

-- the places with the package in this one
pub data PutsPlace (old : List Place) (id : PackageId) (p : Packaged) : List Place → Type 0 where
  put_last : IsNewPlace old id → PutsPlace old id p (old ++ held_place 0 p ∷ [])
  put_free : IsFreePlace old id → PutsPlace old id p (slice_set old id.place (held_place id.generation p))

-- the package is registered in a place that was free
pub record Registers (old new : Graph) (p : Packaged) (id : PackageId) : Type 0 where
  pub none : NoKey old (package_key p)
  pub put : PutsPlace old.places id p new.places
  pub made : new ≡ record old { places = new.places }

abbrev pub RegisterRefused : Graph → Packaged → RegisterPackageError → Type 0
RegisterRefused g p (RegisterPackageError.PackageAlreadyRegistered key) =
    (owned_key key ≡ package_key p) × (id : PackageId) × (q : Packaged) × (package_of g id ≡ Some q)
    × (package_key q ≡ package_key p)
RegisterRefused g p RegisterPackageError.Memory = Unit {0}

-- its world and the interface of its instances stand, and that is the one that is made of the world
pub record HasInstanceType (c : Collection) (p : Packaged) : Type 0 where
  pub world : Stands c (ItemKind.Component p.ty)
  pub instance : Stands c (ItemKind.Instance p.instance_type)
  pub value : World
  pub there : slice_get c.worlds p.ty.index ≡ Some value
  pub made : slice_get c.interfaces p.instance_type.index ≡ Some (interface_of value)

-- the place is empty, with a generation one higher
abbrev pub left_place : ℕ → Place
left_place n = record { generation = n + 1; held = None }

-- the package's instances are removed, and then it is away
pub record Unregisters (old new : Graph) (id : PackageId) : Type 0 where
  pub instances : List ℕ
  pub are : AreInstances old.nodes id instances
  pub removed : RemovesNodes old (record new { places = old.places }) instances
  pub places : new.places ≡ slice_set old.places id.place (left_place id.generation)

-- what a place holds, under its id
abbrev pub shown_at : ℕ → Option Place → Option (PackageId × Packaged)
shown_at i None = None
shown_at i (Some p) = option_map (λ q. (record { place = i; generation = p.generation }, q)) p.held

-- each place is still there, and its generation is no lower
abbrev pub PlacesGrow : List Place → List Place → Type 0
PlacesGrow old new =
    (i : ℕ) (p : Place) → slice_get old i ≡ Some p → (q : Place) × (slice_get new i ≡ Some q) × (p.generation ≤ q.generation)

-- the id was given up: its place is of a later generation
pub record IsStale (g : Graph) (id : PackageId) : Type 0 where
  pub place : Place
  pub there : slice_get g.places id.place ≡ Some place
  pub later : id.generation < place.generation

-- the id was given up, and no package stands under it
abbrev pub IsGone : Graph → PackageId → Type 0
IsGone g id = IsStale g id × (ContainsPackage g id → ⊥)
