-- What became of items, and what is added for it.
use Rattle.std.specs.Prelude.{◌≡◌, ℕ, nat_eq, Bool, true, false, List, [], map, filter, Some, None, is_some}
use Rattle.std.specs.HashMap.{HashMap, get}
use Rattle.std.specs.HashSet.{HashSet, contains}
use Rattle.wac_types_base.specs.declared.item.ItemKind.{ItemKind}
use Rattle.wac_types_base.specs.declared.ids.InterfaceId.{InterfaceId}
use Rattle.wac_types_base.specs.declared.defined.UsedType.{UsedType}
use Rattle.wac_types_base.specs.Record.{Collection}
use Rattle.wac_types_base.specs.Entries.{Name, value_at, with_values}
use Rattle.wac_types_base.specs.Graph.{Among}
use Rattle.wac_types_base.specs.Collection.{Stands}
use Rattle.wac_types_base.specs.Stated.{Stated, Used, stated_of, stated_use}
use Rattle.wac_types_base.specs.Copies.{interface_at, world_at}
use Rattle.wac_types_written.specs.declared.forms.Forms.{Forms}
use Rattle.wac_types_written.specs.declared.worlds.WorldForm.{WorldForm}
use Rattle.wac_types_written.specs.Written.{WorldMaker, bare_world, component_type, formed, used_through, without_uses, written_definition}

-- ---- items

-- the item stands, and states this
pub record IsOf (c : Collection) (x : Stated) (k : ItemKind) : Type 0 where
  pub stands : Stands c k
  pub states : stated_of c k ≡ x

-- what is made of each world
abbrev pub maker : WorldForm → WorldMaker
maker WorldForm.ComponentType = component_type
maker WorldForm.WithoutUses = bare_world

-- the item is what the other is, with what is made of each world in it
abbrev pub IsFormed : WorldMaker → Collection → ItemKind → ItemKind → Type 0
IsFormed make c k j = IsOf c (formed make (stated_of c k)) j

-- the same, as the other was before the collection grew
abbrev pub IsFormedOf : WorldMaker → Collection → Collection → ItemKind → ItemKind → Type 0
IsFormedOf make old new k j = IsOf new (formed make (stated_of old k)) j

-- the item is what a definition of the other is written as
abbrev pub IsDefinitionOf : Collection → Collection → ItemKind → ItemKind → Type 0
IsDefinitionOf old new k j = IsOf new (written_definition (stated_of old k)) j

-- the item is what the other was, with each world in it without its uses
abbrev pub IsWithoutUses : Collection → Collection → ItemKind → ItemKind → Type 0
IsWithoutUses old new k j = IsOf new (without_uses (stated_of old k)) j

abbrev pub is_type_item : ItemKind → Bool
is_type_item (ItemKind.Ty t) = true
is_type_item k = false

abbrev pub type_items : List (Name × ItemKind) → List (Name × ItemKind)
type_items xs = filter (λ x. is_type_item x.1) xs

-- ---- maps of items and of uses

abbrev pub ItemsStand : Collection → List (Name × ItemKind) → Type 0
ItemsStand c xs = (x : Name × ItemKind) → Among x xs → Stands c x.1

abbrev pub UsesStand : Collection → List (Name × UsedType) → Type 0
UsesStand c us = (u : Name × UsedType) → Among u us → Stands c (ItemKind.Instance u.1.interface)

abbrev pub stated_items : Collection → List (Name × ItemKind) → List (Name × Stated)
stated_items c xs = with_values (stated_of c) xs

abbrev pub stated_uses : Collection → List (Name × UsedType) → List Used
stated_uses c us = map (stated_use c) us

-- the items under their names, each with what is made of its worlds
pub record AreFormed (make : WorldMaker) (c : Collection) (xs ys : List (Name × ItemKind)) : Type 0 where
  pub stand : ItemsStand c ys
  pub state : stated_items c ys ≡ with_values (formed make) (stated_items c xs)

abbrev pub formed_use : WorldMaker → Used → Used
formed_use make u = record { name = u.name; there = u.there; interface = formed make u.interface }

pub record UsesFormed (make : WorldMaker) (c : Collection) (us vs : List (Name × UsedType)) : Type 0 where
  pub stand : UsesStand c vs
  pub state : stated_uses c vs ≡ map (formed_use make) (stated_uses c us)

-- ---- what became of interfaces and worlds

pub record EachFormed {S : Type 0} (make : WorldMaker) (c : Collection) (kind : ℕ → ℕ → ItemKind) (t : HashMap ℕ ℕ S)
    : Type 0 where
  pub stand : (i j : ℕ) → get nat_eq t i ≡ Some j → Stands c (kind c.number i)
  pub formed : (i j : ℕ) → get nat_eq t i ≡ Some j → IsFormed make c (kind c.number i) (kind c.number j)

pub record AreForms (make : WorldMaker) (c : Collection) (f : Forms) : Type 0 where
  pub interfaces : EachFormed make c interface_at f.interfaces
  pub worlds : EachFormed make c world_at f.worlds

-- ---- interfaces that are used

abbrev pub stated_found : Collection → List (Name × InterfaceId) → List (Name × Stated)
stated_found c es = with_values (λ i. stated_of c (ItemKind.Instance i)) es

abbrev pub FoundStand : Collection → List (Name × InterfaceId) → Type 0
FoundStand c es = (e : Name × InterfaceId) → Among e es → Stands c (ItemKind.Instance e.1)

-- each has a name that was found
abbrev pub Covers : List (Name × Stated) → List (Name × Stated) → Type 0
Covers seen xs = (x : Name × Stated) → Among x xs → is_some (value_at seen x.0) ≡ true

-- an interface, behind those that it uses
abbrev pub through : Stated → List (Name × Stated)
through x = used_through (record { name = []; there = None; interface = x })

-- the interfaces that were walked: what they use was found, and they were
abbrev pub AreWalked : {S : Type 0} → Collection → List (Name × InterfaceId) → HashSet ℕ S → Type 0
AreWalked c es walked = (i : ℕ) → contains nat_eq walked i ≡ true → Stands c (interface_at c.number i)
    → Covers (stated_found c es) (through (stated_of c (interface_at c.number i)))
