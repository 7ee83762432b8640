-- Nodes under their indexes.
use Rattle.std.specs.Prelude.{◌≡◌, ◌↔◌, ◌⊎◌, ◌<◌, ℕ, List, [], ◌∷◌, ◌++◌, true, Option, Some, IsSome}
use Rattle.std.specs.Ordering.{nat_cmp}
use Rattle.std.specs.FinMap as map
use Rattle.wac_types_base.specs.declared.item.ItemKind.{ItemKind}
use Rattle.wac_types_base.specs.Entries.{Name}
use Rattle.wac_types_base.specs.Graph.{Among}
use Rattle.wac_graph_core.specs.declared.ids.PackageId.{PackageId}
use Rattle.wac_graph_core.specs.Nodes.{NodeData, Role}
use Rattle.wac_graph_core.specs.Edges.{has}

abbrev pub NodeMap : Type 0
NodeMap = map.FinMap nat_cmp NodeData

-- the index is above those of all nodes
abbrev pub AreBelow : NodeMap → ℕ → Type 0
AreBelow nodes k = (j : ℕ) → IsSome (map.get nodes j) → j < k

-- each index is below those behind it
abbrev pub Rises : List ℕ → Type 0
Rises [] = Unit {0}
Rises (k ∷ ks) = ((j : ℕ) → Among j ks → k < j) × Rises ks

-- the node, once it is in, is listed behind all others
abbrev pub IsListedLast : NodeMap → ℕ → NodeData → Type 0
IsListedLast nodes k x = map.entries (map.insert nodes k x) ≡ map.entries nodes ++ (k, x) ∷ []

-- the node, where it is there, gets this name
abbrev pub SetsName : NodeMap → NodeMap → ℕ → Name → Type 0
SetsName old new k n = (x : NodeData) → map.get old k ≡ Some x → new ≡ map.insert old k (record x { name = Some n })

-- the node, where it is there, tells this export, or none
abbrev pub SetsExport : NodeMap → NodeMap → ℕ → Option Name → Type 0
SetsExport old new k n = (x : NodeData) → map.get old k ≡ Some x → new ≡ map.insert old k (record x { export = n })

-- the node is an import of this name
pub record IsImport (nodes : NodeMap) (k : ℕ) (n : Name) : Type 0 where
  pub node : NodeData
  pub there : map.get nodes k ≡ Some node
  pub role : node.role ≡ Role.Imported n

abbrev pub NoImport : NodeMap → Name → Type 0
NoImport nodes n = (k : ℕ) → IsImport nodes k n → ⊥

-- the node is a definition of this type
pub record IsDefinition (nodes : NodeMap) (k : ℕ) (item : ItemKind) : Type 0 where
  pub node : NodeData
  pub there : map.get nodes k ≡ Some node
  pub role : node.role ≡ Role.Defined
  pub type : node.item_kind ≡ item

abbrev pub NoDefinition : NodeMap → ItemKind → Type 0
NoDefinition nodes item = (k : ℕ) → IsDefinition nodes k item → ⊥

-- a name is that of one import, and a type has one definition
pub record AreOnce (nodes : NodeMap) : Type 0 where
  pub imports : (j k : ℕ) (n : Name) → IsImport nodes j n → IsImport nodes k n → j ≡ k
  pub definitions : (j k : ℕ) (item : ItemKind) → IsDefinition nodes j item → IsDefinition nodes k item → j ≡ k

-- the list has exactly the nodes that are so
abbrev pub AreThose : NodeMap → (NodeData → Type 0) → List ℕ → Type 0
AreThose nodes IsSo ks = (k : ℕ) → (has ks k ≡ true) ↔ ((x : NodeData) × (map.get nodes k ≡ Some x) × IsSo x)

-- the list has exactly the instances of the package
abbrev pub AreInstances : NodeMap → PackageId → List ℕ → Type 0
AreInstances nodes id ks = AreThose nodes (λ x. x.of ≡ Some id) ks

-- one more, where that is so
abbrev pub AddsIf : Type 0 → List ℕ → List ℕ → ℕ → Type 0
AddsIf P old new k = (P × (new ≡ old ++ k ∷ [])) ⊎ ((P → ⊥) × (new ≡ old))
