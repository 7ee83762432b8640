-- A collection as a graph: the label and the children of what an item kind names, and its unfolding.
use Rattle.std.specs.Prelude.{◌≡◌, ℕ, ◌+◌, List, [], ◌∷◌, ◌++◌, map, length, Option, Some, None, IsSome, Bool, ◌==◌, slice_get, if◌then◌else◌, All}
use Rattle.std.specs.Option.{option_map}
use Rattle.wac_types_base.specs.declared.item.PrimitiveType.{PrimitiveType}
use Rattle.wac_types_base.specs.declared.item.ValueType.{ValueType}
use Rattle.wac_types_base.specs.declared.item.«Type».{«Type» as TypeKind}
use Rattle.wac_types_base.specs.declared.item.ItemKind.{ItemKind}
use Rattle.wac_types_base.specs.declared.defined.DefinedType.{DefinedType}
use Rattle.wac_types_base.specs.declared.defined.Resource.{Resource}
use Rattle.wac_types_base.specs.declared.defined.ResourceAlias.{ResourceAlias}
use Rattle.wac_types_base.specs.declared.defined.UsedType.{UsedType}
use Rattle.wac_types_base.specs.declared.defined.FuncType.{FuncType}
use Rattle.wac_types_base.specs.declared.defined.Interface.{Interface}
use Rattle.wac_types_base.specs.declared.defined.World.{World}
use Rattle.wac_types_base.specs.declared.core_types.ModuleType.{ModuleType}
use Rattle.wac_types_base.specs.Record.{Collection, Kept}
use Rattle.wac_types_base.specs.Entries.{Name, names_of, values_of}
use Rattle.wac_types_base.specs.Graph.{Whole, whole, UnfoldsWithin, nodes}

-- what an entry says, but for the ids in it
pub data Shape : Type 0 where
  primitive : PrimitiveType → Shape
  tuple : Shape
  list : Shape
  fixed_size_list : ℕ → Shape
  option : Shape
  result : Shape
  variant : List Name → Shape
  record_of : List Name → Shape
  flags : List Name → Shape
  enum : List Name → Shape
  alias : Shape
  stream : Shape
  future : Shape
  resource : Name → Shape
  -- another resource under a name
  resource_alias : Name → Shape
  -- the parameters, and whether it is async
  func : List Name → Bool → Shape
  -- the identifier, the uses with the names that they take, the exports
  interface : Option Name → List (Name × Option Name) → List Name → Shape
  -- likewise, and the imports before the exports
  world : Option Name → List (Name × Option Name) → List Name → List Name → Shape
  module_type : ModuleType → Shape
  -- a type as an item, a handle of a resource
  type_of : Shape → Shape
  borrow_of : Shape → Shape
  own_of : Shape → Shape
  deriving Discrete as Shape-discrete

-- a label and children
abbrev pub Entry : Type 0
Entry = Shape × List (Option ItemKind)

abbrev pub Slot : Type 0
Slot = Option ItemKind

abbrev pub value_slot : ValueType → Slot
value_slot t = Some (ItemKind.Value t)

abbrev pub option_slot : Option ValueType → Slot
option_slot o = option_map ItemKind.Value o

abbrev pub defined_entry : DefinedType → Entry
defined_entry (DefinedType.Tuple ts) = (tuple, map value_slot ts)
defined_entry (DefinedType.List t) = (list, value_slot t ∷ [])
defined_entry (DefinedType.FixedSizeList t n) = (fixed_size_list n, value_slot t ∷ [])
defined_entry (DefinedType.Option t) = (option, value_slot t ∷ [])
defined_entry (DefinedType.Result ok err) = (result, option_slot ok ∷ option_slot err ∷ [])
defined_entry (DefinedType.Variant v) = (variant (names_of v.cases), map option_slot (values_of v.cases))
defined_entry (DefinedType.Record r) = (record_of (names_of r.fields), map value_slot (values_of r.fields))
defined_entry (DefinedType.Flags f) = (flags f.0, [])
defined_entry (DefinedType.Enum e) = (enum e.0, [])
defined_entry (DefinedType.Alias t) = (alias, value_slot t ∷ [])
defined_entry (DefinedType.Stream o) = (stream, option_slot o ∷ [])
defined_entry (DefinedType.Future o) = (future, option_slot o ∷ [])

abbrev pub resource_entry_at : Name → Option ResourceAlias → Entry
resource_entry_at n None = (resource n, [])
resource_entry_at n (Some a) =
    (resource_alias n, Some (ItemKind.Ty (TypeKind.Resource a.source)) ∷ option_map ItemKind.Instance a.owner ∷ [])

abbrev pub resource_entry : Resource → Entry
resource_entry r = resource_entry_at r.name r.alias

abbrev pub func_entry : FuncType → Entry
func_entry f = (func (names_of f.params) f.is_async, map value_slot (values_of f.params) ++ option_slot f.result ∷ [])

abbrev pub use_names : List (Name × UsedType) → List (Name × Option Name)
use_names us = map (λ u. (u.0, u.1.name)) us

abbrev pub used : List (Name × UsedType) → List Slot
used us = map (λ u. Some (ItemKind.Instance u.interface)) (values_of us)

abbrev pub items : List (Name × ItemKind) → List Slot
items xs = map Some (values_of xs)

abbrev pub interface_entry : Interface → Entry
interface_entry i = (interface i.id (use_names i.uses) (names_of i.exports), used i.uses ++ items i.exports)

abbrev pub world_entry : World → Entry
world_entry w = (
  world w.id (use_names w.uses) (names_of w.imports) (names_of w.exports),
  used w.uses
      ++ (items w.imports ++ items w.exports),
)

abbrev pub module_entry : ModuleType → Entry
module_entry m = (module_type m, [])

-- the entry at an index, under the collection's own number
abbrev pub entry_at : {E : Type 0} → (E → Entry) → ℕ → List E → ℕ → ℕ → Option Entry
entry_at f number es collection index = if collection == number then option_map f (slice_get es index) else None

abbrev pub labelled : (Shape → Shape) → Option Entry → Option Entry
labelled l None = None
labelled l (Some e) = Some (l e.0, e.1)

module _ (c : Collection) where
  abbrev pub value_node : ValueType → Option Entry
  value_node (ValueType.Primitive p) = Some (primitive p, [])
  value_node (ValueType.Borrow r) = labelled borrow_of (entry_at resource_entry c.number c.resources r.collection r.index)
  value_node (ValueType.Own r) = labelled own_of (entry_at resource_entry c.number c.resources r.collection r.index)
  value_node (ValueType.Defined d) = entry_at defined_entry c.number c.defined_types d.collection d.index

  abbrev pub type_node : TypeKind → Option Entry
  type_node (TypeKind.Resource r) = entry_at resource_entry c.number c.resources r.collection r.index
  type_node (TypeKind.Func f) = labelled type_of (entry_at func_entry c.number c.func_types f.collection f.index)
  type_node (TypeKind.Value v) = labelled type_of (value_node v)
  type_node (TypeKind.Interface i) = labelled type_of (entry_at interface_entry c.number c.interfaces i.collection i.index)
  type_node (TypeKind.World w) = labelled type_of (entry_at world_entry c.number c.worlds w.collection w.index)
  type_node (TypeKind.Module m) = labelled type_of (entry_at module_entry c.number c.modules m.collection m.index)

  -- the label and the children of what an item kind names, if it stands
  unfoldable pub item_node : ItemKind → Option Entry
  item_node (ItemKind.Ty t) = type_node t
  item_node (ItemKind.Func f) = entry_at func_entry c.number c.func_types f.collection f.index
  item_node (ItemKind.Instance i) = entry_at interface_entry c.number c.interfaces i.collection i.index
  item_node (ItemKind.Component w) = entry_at world_entry c.number c.worlds w.collection w.index
  item_node (ItemKind.Module m) = entry_at module_entry c.number c.modules m.collection m.index
  item_node (ItemKind.Value v) = value_node v

  -- the children of each entry
  unfoldable pub rows : List (List Slot)
  rows = map (λ e. (defined_entry e).1) c.defined_types ++ (map (λ e. (resource_entry e).1) c.resources
      ++ (map (λ e. (func_entry e).1) c.func_types ++ (map (λ e. (interface_entry e).1) c.interfaces
      ++ (map (λ e. (world_entry e).1) c.worlds ++ map (λ e. (module_entry e).1) c.modules))))

  -- a bound on how deep trees are: one more than the entries, and a leaf
  abbrev pub depth : ℕ
  depth = length rows + 2

  -- the kind stands: its id is of this collection, and has an entry
  abbrev pub Stands : ItemKind → Type 0
  Stands k = IsSome (item_node k)

  -- the finite unfolding of an id, with identifiers, uses and owners
  unfoldable pub unfolding_of : ItemKind → Option (Whole Shape)
  unfolding_of k = whole item_node depth k

  -- every id that stands has a finite unfolding: no id reaches itself, and each id inside stands
  unfoldable pub IsAcyclic : Type 0
  IsAcyclic = UnfoldsWithin item_node depth

abbrev pub none_kept : Kept
none_kept = record { defined_types = []; resources = []; func_types = []; interfaces = []; worlds = []; modules = [] }

-- a collection with no entries
abbrev pub empty : ℕ → Collection
empty n = record {
  number = n;
  defined_types = [];
  resources = [];
  func_types = [];
  interfaces = [];
  worlds = [];
  modules = [];
  kept = none_kept;
}

-- what is in a place stands
abbrev pub SlotStands : Collection → Slot → Type 0
SlotStands c None = Unit {0}
SlotStands c (Some k) = Stands c k

abbrev pub StandsIf : Collection → Option ValueType → Type 0
StandsIf c None = Unit {0}
StandsIf c (Some v) = Stands c (ItemKind.Value v)

-- each id inside an entry stands
abbrev pub HasChildren : Collection → Entry → Type 0
HasChildren c e = All (SlotStands c) e.1

-- each id that stood keeps its tree
abbrev pub KeepsTrees : Collection → Collection → Type 0
KeepsTrees old new = (k : ItemKind) → Stands old k → unfolding_of new k ≡ unfolding_of old k

-- c, with the entries of d after its own, where what d keeps is kept
abbrev pub plus : Collection → Collection → Collection
plus c d = record {
  number = c.number;
  defined_types = c.defined_types ++ d.defined_types;
  resources = c.resources ++ d.resources;
  func_types = c.func_types ++ d.func_types;
  interfaces = c.interfaces ++ d.interfaces;
  worlds = c.worlds ++ d.worlds;
  modules = c.modules ++ d.modules;
  kept = d.kept;
}

abbrev pub slots_in : Option Entry → List Slot
slots_in None = []
slots_in (Some e) = e.1

-- the places of what a kind names
abbrev pub slots_of : Collection → ItemKind → List Slot
slots_of c k = slots_in (item_node c k)

abbrev pub size_in : Option (Whole Shape) → ℕ
size_in None = 0
size_in (Some t) = nodes t

-- how large the unfolding of a kind is
abbrev pub size_of : Collection → ItemKind → ℕ
size_of c k = size_in (unfolding_of c k)

-- what stood still stands with its tree
pub record Grows (old new : Collection) : Type 0 where
  pub number : new.number ≡ old.number
  pub stand : (k : ItemKind) → Stands old k → Stands new k
  pub keep : KeepsTrees old new
  pub acyclic : IsAcyclic new
