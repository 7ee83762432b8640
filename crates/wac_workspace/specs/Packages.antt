-- A workspace: the next number, and the packages in the order in which they came.
use Rattle.std.specs.Prelude.{◌≡◌, ℕ, List, [], ◌∷◌, ◌++◌, true, false, Bool}
use Rattle.std.specs.Option.{option_copied, option_map}
use Rattle.semver.specs.Identifiers.{parts_of}
use Rattle.wac_types_base.specs.declared.ids.WorldId.{WorldId}
use Rattle.wac_types_base.specs.declared.item.ItemKind.{ItemKind}
use Rattle.wac_types_base.specs.Record.{Collection}
use Rattle.wac_types_base.specs.Graph.{Among}
use Rattle.wac_types_base.specs.Copying.{IsCopy}
use Rattle.wac_types_base.specs.Stated.{stated_of}
use Rattle.wac_types_names.specs.Keys.{Key, package_key}
use Rattle.wac_types_names.specs.Packages.{AddsInterfaceOf, DefinitionsOf}
use Rattle.wac_workspace.specs.declared.entries.Entry.{Entry}
use Rattle.wac_workspace.specs.declared.entries.Parts.{Parts}

pub record Held : Type 0 where
  pub next : ℕ
  pub packages : List Entry

abbrev pub key_of : Entry → Key
key_of e = package_key e.package

-- the package stands there under this key
abbrev pub IsUnder : Key → List Entry → Entry → Type 0
IsUnder k es e = Among e es × (key_of e ≡ k)

-- the key is a package's
abbrev pub HasKey : List Entry → Key → Type 0
HasKey es k = (e : Entry) × Among e es × (key_of e ≡ k)

-- the bytes are a package's
abbrev pub HasBytes : List Entry → List ℕ → Type 0
HasBytes es bytes = (e : Entry) × Among e es × (e.package.bytes ≡ bytes)

-- the bytes are a handed component's
abbrev pub HasHanded : List Entry → List ℕ → Type 0
HasHanded es bytes = (e : Entry) × Among e es × ((e.is_handed ≡ true) × (e.package.bytes ≡ bytes))

-- two packages have different keys, and where they have the same bytes both are outputs
pub record IsApart (p q : Entry) : Type 0 where
  pub keys : key_of p ≡ key_of q → ⊥
  pub outputs : p.package.bytes ≡ q.package.bytes → (p.is_handed ≡ false) × (q.is_handed ≡ false)

-- each two of them are apart
abbrev pub AreApart : List Entry → Type 0
AreApart [] = Unit {0}
AreApart (p ∷ ps) = ((q : Entry) → Among q ps → IsApart q p) × AreApart ps

-- what a package is made of: a key, bytes, a world of a collection, and a number
pub record PackageParts : Type 0 where
  pub key : Key
  pub bytes : List ℕ
  pub types : Collection
  pub world : WorldId
  pub number : ℕ

-- the parts as the code hands them on
abbrev pub parts_in : Parts → PackageParts
parts_in p = record {
  key = (p.name.now, option_map parts_of (option_copied p.version));
  bytes = p.bytes.items;
  types = p.types.now;
  world = p.world;
  number = p.number;
}

-- The package has that key and those bytes, and in a collection of its own, under that number, a copy of the world, which states
-- the same; its definitions and the interface of its instances are those of the copy.
pub record IsEntryMade (m : PackageParts) (e : Entry) : Type 0 where
  pub key : key_of e ≡ m.key
  pub bytes : e.package.bytes ≡ m.bytes
  pub states : stated_of e.types (ItemKind.Component e.package.ty) ≡ stated_of m.types (ItemKind.Component m.world)
  pub copy : Collection
  pub number : copy.number ≡ m.number
  pub same : IsCopy m.types copy (ItemKind.Component m.world) (ItemKind.Component e.package.ty)
  pub interface : AddsInterfaceOf copy e.types e.package.ty e.package.instance_type
  pub definitions : DefinitionsOf copy e.package.ty e.package.definitions

-- one more package, which is handed in or an output
pub record AddsPackage (old new : List Entry) (is_handed : Bool) (m : PackageParts) : Type 0 where
  pub entry : Entry
  pub origin : entry.is_handed ≡ is_handed
  pub made : IsEntryMade m entry
  pub packages : new ≡ old ++ entry ∷ []
