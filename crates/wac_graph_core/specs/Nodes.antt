-- What contracts see of a node.
use Rattle.std.specs.Prelude.{◌≡◌, Option, Some, None, string_bytes}
use Rattle.wac_types_base.specs.declared.ids.ResourceId.{ResourceId}
use Rattle.wac_types_base.specs.declared.item.ItemKind.{ItemKind}
use Rattle.wac_types_base.specs.declared.item.«Type».{«Type» as TypeKind}
use Rattle.wac_types_base.specs.Entries.{Name}
use Rattle.wac_graph_core.specs.declared.ids.PackageId.{PackageId}
use Rattle.wac_graph_core.specs.declared.node.NodeKind.{NodeKind}

-- what a node is
pub data Role : Type 0 where
  Defined : Role
  -- under this name
  Imported : Name → Role
  Instance : Role
  Aliased : Role

-- what it is, what it is an instance of, the kind of its item, its name, the name that it was exported under last
pub record NodeData : Type 0 where
  pub role : Role
  pub of : Option PackageId
  pub item_kind : ItemKind
  pub name : Option Name
  pub export : Option Name

abbrev pub role_of : NodeKind → Role
role_of NodeKind.Definition = Defined
role_of (NodeKind.Import n) = Imported (string_bytes n)
role_of NodeKind.Instantiation = Instance
role_of NodeKind.Alias = Aliased

-- the name of an import
abbrev pub imported_as : Role → Option Name
imported_as (Imported n) = Some n
imported_as r = None

abbrev pub IsResource : TypeKind → Type 0
IsResource t = (r : ResourceId) × (t ≡ TypeKind.Resource r)

-- what can be defined: a type that is no resource
pub record IsDefinedType (k : ItemKind) : Type 0 where
  pub type : TypeKind
  pub is : k ≡ ItemKind.Ty type
  pub no_resource : IsResource type → ⊥

-- a node without names
abbrev pub plain_node : Role → Option PackageId → ItemKind → NodeData
plain_node r p k = record { role = r; of = p; item_kind = k; name = None; export = None }

-- a definition that is exported under a name
abbrev pub defined_node : TypeKind → Name → NodeData
defined_node t n = record { role = Defined; of = None; item_kind = ItemKind.Ty t; name = None; export = Some n }
