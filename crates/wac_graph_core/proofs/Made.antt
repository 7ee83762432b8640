-- A node that is made stands, and an alias has its edge.
use Rattle.std.proofs.Common.{◌≡◌, ℕ, Some, None, IsSome, refl, sym, ap, subst, ◌∙◌, inl, inr}
use Rattle.std.specs.FinMap as map
use Rattle.wac_types_base.specs.declared.item.ItemKind.{ItemKind}
use Rattle.wac_types_base.specs.declared.item.«Type».{«Type» as TypeKind}
use Rattle.wac_types_base.specs.Entries.{Name}
use Rattle.wac_types_base.specs.Graph.{Among}
use Rattle.wac_graph_core.specs.declared.ids.PackageId.{PackageId}
use Rattle.wac_graph_core.specs.Nodes.{NodeData, Role, plain_node, defined_node}
use Rattle.wac_graph_core.specs.NodeMaps.{NodeMap}
use Rattle.wac_graph_core.specs.Edges.{alias_edge, HasAlias}
use Rattle.wac_graph_core.specs.Graph.{Graph, ContainsNode, IsGraph}
use Rattle.wac_graph_core.specs.Steps.{Imports, Instantiates, Aliases}
use Rattle.wac_graph_core.specs.Defining.{DefinesType}
use Rattle.wac_graph_core.proofs.NodeMap.{get-insert_same}

there : (h : Graph) (m : NodeMap) (k : ℕ) (n : NodeData) → h.nodes ≡ map.insert m k n → ContainsNode h k
there h m k n nodes = subst IsSome (sym (ap (λ l. map.get l k) nodes ∙ get-insert_same m k n)) refl

pub import_there : (g h : Graph) (n : Name) (kind : ItemKind) (k : ℕ) → Imports g h n kind k → ContainsNode h k
import_there g h n kind k s = there h g.nodes k (plain_node (Role.Imported n) None kind) (ap (λ (x : Graph). x.nodes) s.made)

pub instance_there : (g h : Graph) (id : PackageId) (k : ℕ) → Instantiates g h id k → ContainsNode h k
instance_there g h id k s = there h g.nodes k (plain_node Role.Instance (Some id) (ItemKind.Instance s.of.instance_type)) (ap (λ (x : Graph). x.nodes) s.made)

pub definition_there : (g h : Graph) (n : Name) (t : TypeKind) (k : ℕ) → DefinesType g h n t k → ContainsNode h k
definition_there g h n t k s = there h g.nodes k (defined_node t n) (ap (λ (x : Graph). x.nodes) s.made)

pub alias_here : (g h : Graph) (i : ℕ) (n : Name) (k : ℕ) → Aliases g h i n k → HasAlias h.edges i n k
alias_here g h i n k (inl again) = subst (Among (alias_edge i k n)) (sym (ap (λ (x : Graph). x.edges) again.same)) again.there
alias_here g h i n k (inr made) = (made.edges (alias_edge i k n)).1 (inr refl)

pub alias_there : (g h : Graph) (i : ℕ) (n : Name) (k : ℕ) → IsGraph h → Aliases g h i n k → ContainsNode h k
alias_there g h i n k is a = (is.wired.edges (alias_edge i k n) (alias_here g h i n k a)).to
