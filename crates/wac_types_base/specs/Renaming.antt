-- Types with other ids, and a collection under another number.
use Rattle.std.specs.Prelude.{ℕ, map, Option, option_map}
use Rattle.wac_types_base.specs.declared.ids.DefinedTypeId.{DefinedTypeId}
use Rattle.wac_types_base.specs.declared.ids.ResourceId.{ResourceId}
use Rattle.wac_types_base.specs.declared.ids.FuncTypeId.{FuncTypeId}
use Rattle.wac_types_base.specs.declared.ids.InterfaceId.{InterfaceId}
use Rattle.wac_types_base.specs.declared.ids.WorldId.{WorldId}
use Rattle.wac_types_base.specs.declared.ids.ModuleTypeId.{ModuleTypeId}
use Rattle.wac_types_base.specs.declared.item.ValueType.{ValueType}
use Rattle.wac_types_base.specs.declared.item.«Type».{«Type» as TypeKind}
use Rattle.wac_types_base.specs.declared.item.ItemKind.{ItemKind}
use Rattle.wac_types_base.specs.declared.defined.DefinedType.{DefinedType}
use Rattle.wac_types_base.specs.declared.defined.Resource.{Resource}
use Rattle.wac_types_base.specs.declared.defined.ResourceAlias.{ResourceAlias}
use Rattle.wac_types_base.specs.declared.defined.UsedType.{UsedType}
use Rattle.wac_types_base.specs.declared.defined.FuncType.{FuncType}
use Rattle.wac_types_base.specs.declared.defined.Interface.{Interface}
use Rattle.wac_types_base.specs.declared.defined.World.{World}
use Rattle.wac_types_base.specs.Entries.{with_values}
use Rattle.wac_types_base.specs.Record.{Collection}

-- what becomes of each id
pub record Renaming : Type 0 where
  pub defined_type : DefinedTypeId → DefinedTypeId
  pub resource : ResourceId → ResourceId
  pub func_type : FuncTypeId → FuncTypeId
  pub interface : InterfaceId → InterfaceId
  pub world : WorldId → WorldId
  pub module_type : ModuleTypeId → ModuleTypeId

-- ---- kinds with other ids

abbrev pub value_renamed : Renaming → ValueType → ValueType
value_renamed m (ValueType.Primitive p) = ValueType.Primitive p
value_renamed m (ValueType.Borrow r) = ValueType.Borrow (m.resource r)
value_renamed m (ValueType.Own r) = ValueType.Own (m.resource r)
value_renamed m (ValueType.Defined d) = ValueType.Defined (m.defined_type d)

abbrev pub option_renamed : Renaming → Option ValueType → Option ValueType
option_renamed m o = option_map (value_renamed m) o

abbrev pub type_renamed : Renaming → TypeKind → TypeKind
type_renamed m (TypeKind.Resource r) = TypeKind.Resource (m.resource r)
type_renamed m (TypeKind.Func f) = TypeKind.Func (m.func_type f)
type_renamed m (TypeKind.Value v) = TypeKind.Value (value_renamed m v)
type_renamed m (TypeKind.Interface i) = TypeKind.Interface (m.interface i)
type_renamed m (TypeKind.World w) = TypeKind.World (m.world w)
type_renamed m (TypeKind.Module n) = TypeKind.Module (m.module_type n)

abbrev pub kind_renamed : Renaming → ItemKind → ItemKind
kind_renamed m (ItemKind.Ty t) = ItemKind.Ty (type_renamed m t)
kind_renamed m (ItemKind.Func f) = ItemKind.Func (m.func_type f)
kind_renamed m (ItemKind.Instance i) = ItemKind.Instance (m.interface i)
kind_renamed m (ItemKind.Component w) = ItemKind.Component (m.world w)
kind_renamed m (ItemKind.Module n) = ItemKind.Module (m.module_type n)
kind_renamed m (ItemKind.Value v) = ItemKind.Value (value_renamed m v)

-- ---- entries with other ids

abbrev pub defined_renamed : Renaming → DefinedType → DefinedType
defined_renamed m (DefinedType.Tuple ts) = DefinedType.Tuple (map (value_renamed m) ts)
defined_renamed m (DefinedType.List t) = DefinedType.List (value_renamed m t)
defined_renamed m (DefinedType.FixedSizeList t n) = DefinedType.FixedSizeList (value_renamed m t) n
defined_renamed m (DefinedType.Option t) = DefinedType.Option (value_renamed m t)
defined_renamed m (DefinedType.Result ok err) = DefinedType.Result (option_renamed m ok) (option_renamed m err)
defined_renamed m (DefinedType.Variant v) = DefinedType.Variant (record { cases = with_values (option_renamed m) v.cases })
defined_renamed m (DefinedType.Record r) = DefinedType.Record (record { fields = with_values (value_renamed m) r.fields })
defined_renamed m (DefinedType.Flags f) = DefinedType.Flags f
defined_renamed m (DefinedType.Enum e) = DefinedType.Enum e
defined_renamed m (DefinedType.Alias t) = DefinedType.Alias (value_renamed m t)
defined_renamed m (DefinedType.Stream o) = DefinedType.Stream (option_renamed m o)
defined_renamed m (DefinedType.Future o) = DefinedType.Future (option_renamed m o)

abbrev pub alias_renamed : Renaming → ResourceAlias → ResourceAlias
alias_renamed m a = record { owner = option_map m.interface a.owner; source = m.resource a.source }

abbrev pub resource_renamed : Renaming → Resource → Resource
resource_renamed m r = record { name = r.name; alias = option_map (alias_renamed m) r.alias }

abbrev pub func_renamed : Renaming → FuncType → FuncType
func_renamed m f =
    record { params = with_values (value_renamed m) f.params; result = option_renamed m f.result; is_async = f.is_async }

abbrev pub used_renamed : Renaming → UsedType → UsedType
used_renamed m u = record { interface = m.interface u.interface; name = u.name }

abbrev pub interface_renamed : Renaming → Interface → Interface
interface_renamed m i =
    record { id = i.id; uses = with_values (used_renamed m) i.uses; exports = with_values (kind_renamed m) i.exports }

abbrev pub world_renamed : Renaming → World → World
world_renamed m w =
    record {
      id = w.id;
      uses = with_values (used_renamed m) w.uses;
      imports = with_values
          (kind_renamed m) w.imports;
      exports = with_values (kind_renamed m) w.exports;
    }

-- ---- another number

-- each id with this number, at its index
abbrev pub under : ℕ → Renaming
under n = record {
  defined_type = λ i. record { collection = n; index = i.index };
  resource = λ i. record { collection = n; index = i.index };
  func_type = λ i. record { collection = n; index = i.index };
  interface = λ i. record { collection = n; index = i.index };
  world = λ i. record { collection = n; index = i.index };
  module_type = λ i. record { collection = n; index = i.index };
}

-- the kind with this number
abbrev pub kind_under : ℕ → ItemKind → ItemKind
kind_under n k = kind_renamed (under n) k

-- the same lists under this number, each id in them with it, over what was kept
abbrev pub renumbered : ℕ → Collection → Collection
renumbered n c = record {
  number = n;
  defined_types = map (defined_renamed (under n)) c.defined_types;
  resources = map (resource_renamed (under n)) c.resources;
  func_types = map (func_renamed (under n)) c.func_types;
  interfaces = map (interface_renamed (under n)) c.interfaces;
  worlds = map (world_renamed (under n)) c.worlds;
  modules = c.modules;
  kept = c.kept;
}
