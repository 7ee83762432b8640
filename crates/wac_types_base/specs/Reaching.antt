-- Which nodes of a graph lead to one that passes a test, and what replacing an entry may change.
use Rattle.std.specs.Prelude.{◌≡◌, ℕ, List, Option, Some, slice_set}
use Rattle.wac_types_base.specs.declared.defined.DefinedType.{DefinedType}
use Rattle.wac_types_base.specs.declared.defined.Resource.{Resource}
use Rattle.wac_types_base.specs.declared.defined.FuncType.{FuncType}
use Rattle.wac_types_base.specs.declared.defined.Interface.{Interface}
use Rattle.wac_types_base.specs.declared.defined.World.{World}
use Rattle.wac_types_base.specs.declared.core_types.ModuleType.{ModuleType}
use Rattle.wac_types_base.specs.declared.item.ValueType.{ValueType}
use Rattle.wac_types_base.specs.declared.item.«Type».{«Type» as TypeKind}
use Rattle.wac_types_base.specs.declared.item.ItemKind.{ItemKind}
use Rattle.wac_types_base.specs.Graph.{Among}
use Rattle.wac_types_base.specs.Record.{Collection}
use Rattle.wac_types_base.specs.Collection.{Entry, item_node, Stands, unfolding_of}

-- r passes the test, or one of its children reaches such a node
pub data Reaches {R S : Type 0} (g : R → Option (S × List (Option R))) (P : R → Type 0) : R → Type 0 where
  here : {r : R} → P r → Reaches g P r
  below : {r c : R} {s : S} {rs : List (Option R)} → g r ≡ Some (s, rs) → Among (Some c) rs → Reaches g P c → Reaches g P r

-- the kind of the entry that a kind names: of a handle its resource, of a type item the thing itself
abbrev pub value_entry_kind : ValueType → ItemKind
value_entry_kind (ValueType.Primitive p) = ItemKind.Value (ValueType.Primitive p)
value_entry_kind (ValueType.Borrow r) = ItemKind.Ty (TypeKind.Resource r)
value_entry_kind (ValueType.Own r) = ItemKind.Ty (TypeKind.Resource r)
value_entry_kind (ValueType.Defined d) = ItemKind.Value (ValueType.Defined d)

abbrev pub entry_kind : ItemKind → ItemKind
entry_kind (ItemKind.Ty (TypeKind.Resource r)) = ItemKind.Ty (TypeKind.Resource r)
entry_kind (ItemKind.Ty (TypeKind.Func f)) = ItemKind.Func f
entry_kind (ItemKind.Ty (TypeKind.Value v)) = value_entry_kind v
entry_kind (ItemKind.Ty (TypeKind.Interface i)) = ItemKind.Instance i
entry_kind (ItemKind.Ty (TypeKind.World w)) = ItemKind.Component w
entry_kind (ItemKind.Ty (TypeKind.Module m)) = ItemKind.Module m
entry_kind (ItemKind.Value v) = value_entry_kind v
entry_kind k = k

-- k names the entry of t
abbrev pub NamesEntry : ItemKind → ItemKind → Type 0
NamesEntry t k = entry_kind k ≡ t

-- the entry of t would reach itself if it were e
abbrev pub LeadsBack : Collection → ItemKind → Entry → Type 0
LeadsBack c t e = (j : ItemKind) × Among (Some j) e.1 × Reaches (item_node c) (NamesEntry t) j

-- what does not reach the entry of t keeps its tree
abbrev pub KeepsOthers : Collection → Collection → ItemKind → Type 0
KeepsOthers old new t =
    (k : ItemKind) → Stands old k → (Reaches (item_node old) (NamesEntry t) k → ⊥) → unfolding_of new k ≡ unfolding_of old k

-- what stood stands
abbrev pub KeepsStanding : Collection → Collection → Type 0
KeepsStanding old new = (k : ItemKind) → Stands old k → Stands new k

-- c, with another entry at an index
abbrev pub with_defined_type : Collection → ℕ → DefinedType → Collection
with_defined_type c i x = record c { defined_types = slice_set c.defined_types i x }

abbrev pub with_resource : Collection → ℕ → Resource → Collection
with_resource c i x = record c { resources = slice_set c.resources i x }

abbrev pub with_func_type : Collection → ℕ → FuncType → Collection
with_func_type c i x = record c { func_types = slice_set c.func_types i x }

abbrev pub with_interface : Collection → ℕ → Interface → Collection
with_interface c i x = record c { interfaces = slice_set c.interfaces i x }

abbrev pub with_world : Collection → ℕ → World → Collection
with_world c i x = record c { worlds = slice_set c.worlds i x }

abbrev pub with_module_type : Collection → ℕ → ModuleType → Collection
with_module_type c i x = record c { modules = slice_set c.modules i x }
