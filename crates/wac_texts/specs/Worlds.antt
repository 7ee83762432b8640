-- Worlds of packages, and those that documents declare.
use Rattle.std.specs.Prelude.{◌≡◌, ◌⊎◌, ℕ, Some}
use Rattle.wac_types_base.specs.declared.ids.WorldId.{WorldId}
use Rattle.wac_types_base.specs.declared.item.ItemKind.{ItemKind}
use Rattle.wac_types_base.specs.declared.item.«Type».{«Type» as TypeKind}
use Rattle.wac_types_base.specs.Record.{Collection}
use Rattle.wac_types_base.specs.Collection.{Stands}
use Rattle.wac_types_base.specs.Copying.{IsCopy}
use Rattle.wac_types_base.specs.Entries.{Name, value_at}
use Rattle.wac_graph_core.specs.Graph.{Graph, node_at}
use Rattle.wac_graph_core.specs.Nodes.{NodeData, Role}
use Rattle.wac_parser_resolve.specs.declared.packages.PackageRef.{PackageRef}
use Rattle.wac_texts.specs.declared.declared.Declares.{Declares}
use Rattle.wac_texts.specs.declared.declared.DeclaredWorldError.{DeclaredWorldError}

-- the node defines the type
abbrev pub DefinesType : NodeData → TypeKind → Type 0
DefinesType n t = (n.role ≡ Role.Defined) × (n.item_kind ≡ ItemKind.Ty t)

-- the graph has a definition of the world under that name
pub record IsDefined (g : Graph) (name : Name) (world : WorldId) : Type 0 where
  pub node : ℕ
  pub exported : value_at g.exports name ≡ Some node
  pub found : NodeData
  pub there : node_at g node ≡ Some found
  pub defined : found.role ≡ Role.Defined
  pub item : found.item_kind ≡ ItemKind.Ty (TypeKind.World world)
  pub stands : Stands g.types (ItemKind.Component world)

-- why no world is given: the document declares nothing under the name, or something else, or the graph defines no such world
abbrev pub IsNotGiven : Graph → Declares → (name : Name) → DeclaredWorldError → Type 0
IsNotGiven g declares name DeclaredWorldError.NotDeclared =
    (declares ≡ Declares.Nothing) ⊎ ((declares ≡ Declares.World) × ((w : WorldId) → IsDefined g name w → ⊥))
IsNotGiven g declares name DeclaredWorldError.NotWorld = declares ≡ Declares.Other
IsNotGiven g declares name DeclaredWorldError.Memory = ⊥

-- the same, or memory was short
abbrev pub RefusesWorld : Graph → Declares → (name : Name) → DeclaredWorldError → Type 0
RefusesWorld g declares name DeclaredWorldError.Memory = Unit {0}
RefusesWorld g declares name fault = IsNotGiven g declares name fault

-- a copy of a world that the graph defines under that name, in a collection of this number
pub record IsDeclared (g : Graph) (name : Name) (number : ℕ) (types : Collection) (world : WorldId) : Type 0 where
  pub origin : WorldId
  pub defined : IsDefined g name origin
  pub numbered : types.number ≡ number
  pub copy : IsCopy g.types types (ItemKind.Component origin) (ItemKind.Component world)

-- the world of a package stands in its collection
abbrev pub HasWorld : PackageRef → Type 0
HasWorld r = Stands r.types.now (ItemKind.Component r.package.now.ty)
