-- What a holder of ids has, as a holder of stated types.
use Rattle.std.specs.Prelude.{◌≡◌, ◌&&◌, ◌||◌, Bool, false, List, [], map, Option, Some, None, filter, if◌then◌else◌}
use Rattle.std.specs.Map.{lookup}
use Rattle.wac_types_base.specs.declared.ids.DefinedTypeId.{DefinedTypeId}
use Rattle.wac_types_base.specs.declared.ids.ResourceId.{ResourceId}
use Rattle.wac_types_base.specs.declared.ids.InterfaceId.{InterfaceId}
use Rattle.wac_types_base.specs.declared.item.ValueType.{ValueType}
use Rattle.wac_types_base.specs.declared.item.«Type».{«Type» as TypeKind}
use Rattle.wac_types_base.specs.declared.item.ItemKind.{ItemKind}
use Rattle.wac_types_base.specs.contracts.ids.DefinedTypeIdPartialEq.TheImpl.{eq-value}
use Rattle.wac_types_base.specs.Record.{Collection}
use Rattle.wac_types_base.specs.Entries.{Name, with_values, has_name, put_name, put_entry}
use Rattle.wac_types_base.specs.Graph.{Among}
use Rattle.wac_types_base.specs.Collection.{Stands}
use Rattle.wac_types_base.specs.Stated.{Stated, kind_of, untyped, stated_of, uses_of, exports_of, root_name}
use Rattle.wac_types_base.specs.Tree.{tree}
use Rattle.wac_types_fit.specs.Trees.{OneOrApart}
use Rattle.wac_composition.specs.Tests.{same_tree}
use Rattle.wac_composition.specs.Writable.{is_resource, is_fresh, is_value_type, root_of, is_given, is_used_value, holder, value_fails}
use Rattle.wac_composition.specs.Writable.{Holder as Held}
use Rattle.wac_types_parts.specs.declared.parts.Use.{Use}
use Rattle.wac_types_parts.specs.declared.parts.Item.{Item}
use Rattle.wac_types_parts.specs.Parts.{taken_in}
use Rattle.wac_writable.specs.declared.holder.Holder.{Holder}

-- the items that are used, in their order, and the same root names
pub record Shows (c : Collection) (s : Holder) (h : Held) : Type 0 where
  pub used : with_values (stated_of c) s.used ≡ h.used
  pub stand : (n : Name) (k : ItemKind) → Among (n, k) s.used → Stands c k
  pub roots : (n : Name) → has_name s.roots n ≡ has_name h.roots n

-- what is remembered of a value type
abbrev pub tested_of : List (DefinedTypeId × Bool) → DefinedTypeId → Option Bool
tested_of es id = lookup (eq-value.it id) es

abbrev pub stated_value : Collection → DefinedTypeId → Stated
stated_value c d = stated_of c (ItemKind.Value (ValueType.Defined d))

-- what is remembered of value types that stand is true there
abbrev pub KnowsValues : Collection → List (DefinedTypeId × Bool) → Held → Type 0
KnowsValues c es h =
    (d : DefinedTypeId) (b : Bool) → Stands c (ItemKind.Value (ValueType.Defined d)) → tested_of es d ≡ Some b
    → b ≡ value_fails h (stated_value c d)

pub record Holds (c : Collection) (s : Holder) (h : Held) : Type 0 where
  pub shows : Shows c s h
  pub knows : KnowsValues c s.tested.entries h

-- what it has of a collection, and of those with other numbers, stays
abbrev pub Keeps : Collection → Holder → Holder → Type 0
Keeps c old new = (d : Collection) → OneOrApart c d → (h : Held) → Holds d old h → Holds d new h

-- of an item that stands, the answer is this one of what the holder has
abbrev pub TellsIn : Collection → Holder → ItemKind → (Held → Bool) → Bool → Type 0
TellsIn c s k f b = Stands c k → (h : Held) → Holds c s h → b ≡ f h

-- nothing is remembered yet
pub record IsFilled (c : Collection) (s : Holder) (h : Held) : Type 0 where
  pub shows : Shows c s h
  pub untested : s.tested.entries ≡ []

-- what stands in an interface
abbrev pub interface_holder : Stated → Held
interface_holder x = holder (uses_of x) (exports_of x)

abbrev pub fresh_roots : List (Name × Stated) → List Name
fresh_roots es = map root_of (filter is_fresh es)

-- ---- items

-- the value type, or the resource, that an item is the type of
abbrev pub value_in : ItemKind → Option ValueType
value_in (ItemKind.Ty (TypeKind.Value v)) = Some v
value_in k = None

abbrev pub resource_in : ItemKind → Option ResourceId
resource_in (ItemKind.Ty (TypeKind.Resource r)) = Some r
resource_in k = None

abbrev pub instance_in : ItemKind → Option InterfaceId
instance_in (ItemKind.Instance i) = Some i
instance_in k = None

-- a type that is used, as an item, is that of a value type, by its tree
abbrev pub is_used_as : Stated → Stated → Bool
is_used_as x v = is_value_type (kind_of x) && same_tree (tree (untyped x)) (tree v)

-- one item has the tree of another
abbrev pub same_item : Collection → ItemKind → ItemKind → Bool
same_item c a b = same_tree (tree (stated_of c a)) (tree (stated_of c b))

-- ---- steps

-- the roots with that of an item, if it is a resource
abbrev pub resource_roots : Collection → ItemKind → List Name → List Name
resource_roots c k ns = if is_resource (kind_of (stated_of c k)) then put_name ns (root_name (stated_of c k)) else ns

-- and with a name, if the item is a resource of that name
abbrev pub named_roots : Collection → Name → ItemKind → List Name → List Name
named_roots c n k ns = if is_fresh (n, stated_of c k) then put_name ns n else ns

-- the holder with what a use takes
abbrev pub with_use : Collection → Holder → Name → Option ItemKind → Holder
with_use c s n None = s
with_use c s n (Some k) = record s { used = put_entry s.used n k; roots = resource_roots c k s.roots }

-- with what a use takes, and with the root of a resource under its own name
abbrev pub with_taken : Collection → Holder → Use → Holder
with_taken c s u = with_use c s u.name.now (taken_in c u)

abbrev pub with_fresh : Collection → Holder → Item → Holder
with_fresh c s x = record s { roots = named_roots c x.name.now x.kind s.roots }

-- ---- answers

-- of what stands, whether a used item is the type of a value type
abbrev pub TellsUsedAs : Collection → ItemKind → ValueType → Bool → Type 0
TellsUsedAs c k v b =
    Stands c k → Stands c (ItemKind.Value v) → b ≡ is_used_as (stated_of c k) (stated_of c (ItemKind.Value v))

-- whether a value type is one that is used
abbrev pub TellsUsed : Collection → Holder → ValueType → Bool → Type 0
TellsUsed c s v b =
    Stands c (ItemKind.Value v) → (h : Held) → Shows c s h → b ≡ is_used_value h (stated_of c (ItemKind.Value v))

-- whether a use gives the item
abbrev pub TellsGiven : Collection → Holder → Item → Bool → Type 0
TellsGiven c s x b = Stands c x.kind → (h : Held) → Shows c s h → b ≡ is_given h x.name.now (stated_of c x.kind)

-- ---- what is added

-- the root names with those of the resources among items, and all else as it was
pub record AddsRoots (c : Collection) (old : Holder) (es : List (Name × Stated)) (new : Holder) : Type 0 where
  pub used : new.used ≡ old.used
  pub tested : new.tested ≡ old.tested
  pub roots : (n : Name) → has_name new.roots n ≡ (has_name old.roots n || has_name (fresh_roots es) n)

-- one more value type is remembered, and all else is as it was
pub record Remembers (old : Holder) (id : DefinedTypeId) (fails : Bool) (new : Holder) : Type 0 where
  pub used : new.used ≡ old.used
  pub roots : new.roots ≡ old.roots
  pub own : tested_of new.tested.entries id ≡ Some fails
  pub others : (d : DefinedTypeId) → eq-value.it id d ≡ false → tested_of new.tested.entries d ≡ tested_of old.tested.entries d
