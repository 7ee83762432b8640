-- The definitions of a package, and the interface of its instances.
use Rattle.std.specs.Prelude.{◌≡◌, List, [], ◌∷◌, ◌++◌, Option, Some, None, slice_get, length}
use Rattle.wac_types_base.specs.declared.ids.WorldId.{WorldId}
use Rattle.wac_types_base.specs.declared.ids.InterfaceId.{InterfaceId}
use Rattle.wac_types_base.specs.declared.item.«Type».{«Type» as TypeKind}
use Rattle.wac_types_base.specs.declared.item.ItemKind.{ItemKind}
use Rattle.wac_types_base.specs.declared.defined.Interface.{Interface}
use Rattle.wac_types_base.specs.declared.defined.World.{World}
use Rattle.wac_types_base.specs.Entries.{Name}
use Rattle.wac_types_base.specs.Record.{Collection}
use Rattle.wac_types_base.specs.Kept.{keeping}
use Rattle.wac_names.specs.ComponentNames.{IsInterfaceName}

-- the type that the one export of a definition's world stands for
abbrev pub meaning : ItemKind → Option ItemKind
meaning (ItemKind.Instance i) = Some (ItemKind.Ty (TypeKind.Interface i))
meaning (ItemKind.Component w) = Some (ItemKind.Ty (TypeKind.World w))
meaning k = None

-- the item is the type of a world with one export, under the name of an interface, an instance or a component, and means
-- the type of that
pub record Defines (c : Collection) (item means : ItemKind) : Type 0 where
  pub id : WorldId
  pub world : World
  pub is : item ≡ ItemKind.Ty (TypeKind.World id)
  pub stands : slice_get c.worlds id.index ≡ Some world
  pub name : Name
  pub inner : ItemKind
  pub one : world.exports ≡ (name, inner) ∷ []
  pub interface : IsInterfaceName name
  pub meant : meaning inner ≡ Some means

-- what an item means, if it defines something
abbrev pub IsMeaning : Collection → ItemKind → Option ItemKind → Type 0
IsMeaning c item None = (k : ItemKind) → Defines c item k → ⊥
IsMeaning c item (Some k) = Defines c item k

-- the names of the exports that define something, in order, with what they mean
pub data AreDefinitions (c : Collection) : List (Name × ItemKind) → List (Name × ItemKind) → Type 0 where
  no_exports : AreDefinitions c [] []
  defined : (n : Name) (item k : ItemKind) {es ds : List (Name × ItemKind)} → Defines c item k → AreDefinitions c es ds
      → AreDefinitions c ((n, item) ∷ es) ((n, k) ∷ ds)
  passed : (n : Name) (item : ItemKind) {es ds : List (Name × ItemKind)} → ((k : ItemKind) → Defines c item k → ⊥)
      → AreDefinitions c es ds → AreDefinitions c ((n, item) ∷ es) ds

-- the world of an id, and its definitions
pub record DefinitionsOf (c : Collection) (id : WorldId) (ds : List (Name × ItemKind)) : Type 0 where
  pub world : World
  pub stands : slice_get c.worlds id.index ≡ Some world
  pub definitions : AreDefinitions c world.exports ds

-- the interface without identifier that has the world's uses and exports
abbrev pub interface_of : World → Interface
interface_of w = record { id = None; uses = w.uses; exports = w.exports }

pub record IsInterfaceOf (c : Collection) (id : WorldId) (i : Interface) : Type 0 where
  pub world : World
  pub stands : slice_get c.worlds id.index ≡ Some world
  pub is : i ≡ interface_of world

-- the collection has that interface as its last entry, under this id
pub record AddsInterfaceOf (old new : Collection) (id : WorldId) (added : InterfaceId) : Type 0 where
  pub interface : Interface
  pub of : IsInterfaceOf old id interface
  pub collection : new ≡ keeping new.kept (record old { interfaces = old.interfaces ++ interface ∷ [] })
  pub number : added ≡ record { collection = old.number; index = length old.interfaces }
