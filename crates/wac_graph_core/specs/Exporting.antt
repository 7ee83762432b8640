-- Exports and names of nodes.
use Rattle.std.specs.Prelude.{◌≡◌, ◌==◌, ◌⊎◌, ℕ, suc, List, [], ◌∷◌, ◌++◌, Option, Some, None, slice_get, string_bytes, if◌then◌else◌}
use Rattle.std.specs.Option.{option_map}
use Rattle.std.specs.List.{swap_remove}
use Rattle.std.specs.Cmp.Lexicographic.{pointwise}
use Rattle.std.specs.FinMap as map
use Rattle.wac_types_base.specs.Entries.{Name, value_at}
use Rattle.wac_graph_core.specs.declared.error.ExportError.{ExportError}
use Rattle.wac_graph_core.specs.declared.error.UnexportError.{UnexportError}
use Rattle.wac_graph_core.specs.Nodes.{NodeData, Role, imported_as}
use Rattle.wac_graph_core.specs.Graph.{Graph, node_at}
use Rattle.wac_names.specs.declared.names.NameKind.{NameKind}
use Rattle.wac_names.specs.declared.names.NameKind.TheVariants as kind
use Rattle.wac_names.specs.ComponentNames.{IsName}
use Rattle.wac_graph_core.specs.Steps.{with_node}

-- the name of an import
abbrev pub import_name_of : Option NodeData → Option Name
import_name_of None = None
import_name_of (Some n) = imported_as n.role

-- where the name stands
abbrev pub place_of : List (Name × ℕ) → Name → Option ℕ
place_of [] n = None
place_of (e ∷ es) n = if pointwise ◌==◌ n e.0 then Some 0 else option_map suc (place_of es n)

-- exports have plain names, and names of interfaces
abbrev pub IsExportKind : NameKind → Type 0
IsExportKind kind.Plain = Unit {0}
IsExportKind kind.Interface = Unit {0}
IsExportKind k = ⊥

abbrev pub IsExportName : Name → Type 0
IsExportName n = (k : NameKind) × IsExportKind k × IsName k n

-- a node is exported under a name that was free, and tells that name
pub record Exports (old new : Graph) (k : ℕ) (n : Name) : Type 0 where
  pub none : value_at old.exports n ≡ None
  pub valid : IsExportName n
  pub node : NodeData
  pub there : node_at old k ≡ Some node
  pub made : new
      ≡ record old { nodes = map.insert old.nodes k (record node { export = Some n }); exports = old.exports ++ (n, k) ∷ [] }

abbrev pub ExportRefused : Graph → Name → ExportError → Type 0
ExportRefused g n (ExportError.ExportAlreadyExists m k) = (string_bytes m ≡ n) × (value_at g.exports n ≡ Some k)
ExportRefused g n (ExportError.InvalidExportName m source) =
    (string_bytes m ≡ n) × (value_at g.exports n ≡ None) × (IsExportName n → ⊥)
ExportRefused g n ExportError.Memory = Unit {0}

-- where the export stands that the node tells, if it tells one
pub record IsTold (g : Graph) (k : ℕ) (at : Option ℕ) : Type 0 where
  pub node : NodeData
  pub there : node_at g k ≡ Some node
  pub none : at ≡ None → node.export ≡ None
  pub some : (i : ℕ) → at ≡ Some i → (n : Name) × (node.export ≡ Some n) × (slice_get g.exports i ≡ Some (n, k))

-- the node tells no export, and nothing is changed
pub record TellsNone (old new : Graph) (node : NodeData) : Type 0 where
  pub none : node.export ≡ None
  pub same : new ≡ old

-- the export that the node tells is away, and the last one is in its place
pub record TakesExport (old new : Graph) (k : ℕ) (node : NodeData) : Type 0 where
  pub name : Name
  pub told : node.export ≡ Some name
  pub place : ℕ
  pub at : slice_get old.exports place ≡ Some (name, k)
  pub made : new
      ≡ record old {
        nodes = map.insert old.nodes k (record node { export = None });
        exports = swap_remove old.exports place
            (name, k);
      }

pub record Unexports (old new : Graph) (k : ℕ) : Type 0 where
  pub node : NodeData
  pub there : node_at old k ≡ Some node
  pub role : node.role ≡ Role.Defined → ⊥
  pub step : TellsNone old new node ⊎ TakesExport old new k node

-- definitions are refused
abbrev pub UnexportRefused : Graph → ℕ → UnexportError → Type 0
UnexportRefused g k UnexportError.MustExportDefinition =
    (node : NodeData) × (node_at g k ≡ Some node) × (node.role ≡ Role.Defined)

-- a node gets a name
pub record Names (old new : Graph) (k : ℕ) (n : Name) : Type 0 where
  pub node : NodeData
  pub there : node_at old k ≡ Some node
  pub made : new ≡ with_node old k (record node { name = Some n })
