-- A graph whose collection grows.
use Rattle.std.specs.Prelude.{◌≡◌, [], ◌∷◌, ◌++◌, length}
use Rattle.wac_types_base.specs.declared.ids.DefinedTypeId.{DefinedTypeId}
use Rattle.wac_types_base.specs.declared.ids.ResourceId.{ResourceId}
use Rattle.wac_types_base.specs.declared.ids.FuncTypeId.{FuncTypeId}
use Rattle.wac_types_base.specs.declared.ids.InterfaceId.{InterfaceId}
use Rattle.wac_types_base.specs.declared.ids.WorldId.{WorldId}
use Rattle.wac_types_base.specs.declared.ids.ModuleTypeId.{ModuleTypeId}
use Rattle.wac_types_base.specs.declared.item.ItemKind.{ItemKind}
use Rattle.wac_types_base.specs.declared.defined.DefinedType.{DefinedType}
use Rattle.wac_types_base.specs.declared.defined.Resource.{Resource}
use Rattle.wac_types_base.specs.declared.defined.FuncType.{FuncType}
use Rattle.wac_types_base.specs.declared.defined.Interface.{Interface}
use Rattle.wac_types_base.specs.declared.defined.World.{World}
use Rattle.wac_types_base.specs.declared.core_types.ModuleType.{ModuleType}
use Rattle.wac_types_base.specs.Record.{Collection}
use Rattle.wac_types_base.specs.Kept.{keeping}
use Rattle.wac_types_base.specs.Collection.{Grows}
use Rattle.wac_types_base.specs.Copying.{IsCopy}
use Rattle.wac_types_names.specs.Packaged.{Packaged}
use Rattle.wac_types_names.specs.Packages.{AddsInterfaceOf}
use Rattle.wac_graph_core.specs.Graph.{Graph}

-- the same graph over another collection
abbrev pub with_collection : Graph → Collection → Graph
with_collection g c = record g { types = c }

-- the collection has grown, and nothing else is changed
pub record Enlarges (old new : Graph) : Type 0 where
  pub grows : Grows old.types new.types
  pub same : new ≡ with_collection old new.types

-- ---- one entry more, behind the others of its sort, and nothing else is changed

abbrev pub AddsDefinedType : Graph → Graph → DefinedType → Type 0
AddsDefinedType old new t =
    new ≡ with_collection old (keeping new.types.kept (record old.types { defined_types = old.types.defined_types ++ t ∷ [] }))

abbrev pub AddsResource : Graph → Graph → Resource → Type 0
AddsResource old new r =
    new ≡ with_collection old (keeping new.types.kept (record old.types { resources = old.types.resources ++ r ∷ [] }))

abbrev pub AddsFuncType : Graph → Graph → FuncType → Type 0
AddsFuncType old new f =
    new ≡ with_collection old (keeping new.types.kept (record old.types { func_types = old.types.func_types ++ f ∷ [] }))

abbrev pub AddsInterface : Graph → Graph → Interface → Type 0
AddsInterface old new i =
    new ≡ with_collection old (keeping new.types.kept (record old.types { interfaces = old.types.interfaces ++ i ∷ [] }))

abbrev pub AddsWorld : Graph → Graph → World → Type 0
AddsWorld old new w =
    new ≡ with_collection old (keeping new.types.kept (record old.types { worlds = old.types.worlds ++ w ∷ [] }))

abbrev pub AddsModuleType : Graph → Graph → ModuleType → Type 0
AddsModuleType old new m =
    new ≡ with_collection old (keeping new.types.kept (record old.types { modules = old.types.modules ++ m ∷ [] }))

-- ---- the id that the next entry gets

abbrev pub next_defined_type : Collection → DefinedTypeId
next_defined_type c = record { collection = c.number; index = length c.defined_types }

abbrev pub next_resource : Collection → ResourceId
next_resource c = record { collection = c.number; index = length c.resources }

abbrev pub next_func_type : Collection → FuncTypeId
next_func_type c = record { collection = c.number; index = length c.func_types }

abbrev pub next_interface : Collection → InterfaceId
next_interface c = record { collection = c.number; index = length c.interfaces }

abbrev pub next_world : Collection → WorldId
next_world c = record { collection = c.number; index = length c.worlds }

abbrev pub next_module_type : Collection → ModuleTypeId
next_module_type c = record { collection = c.number; index = length c.modules }

-- ---- worlds and packages

-- the interface of the package's instances is added: that of the world
abbrev pub AddsInstanceType : Graph → Graph → WorldId → Packaged → Type 0
AddsInstanceType old new world p = AddsInterfaceOf old.types new.types world p.instance_type

-- the second world, in the second collection, is a copy of the first in the first
abbrev pub IsWorldCopy : Collection → Collection → WorldId → WorldId → Type 0
IsWorldCopy from to world copy = IsCopy from to (ItemKind.Component world) (ItemKind.Component copy)
