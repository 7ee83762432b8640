-- What the code's state holds of what was said: the graph, the nodes and items of the root's names, and where things stand.
use Rattle.std.specs.Prelude.{◌≡◌, ◌==◌, ℕ, List, [], ◌∷◌, Option, Some, None, if◌then◌else◌}
use Rattle.wac_types_base.specs.Entries.{Name, names_of}
use Rattle.wac_types_base.specs.Graph.{Among}
use Rattle.wac_types_base.specs.Stated.{Stated}
use Rattle.wac_types_names.specs.Keys.{Key}
use Rattle.wac_graph_core.specs.Nodes.{NodeData, Role}
use Rattle.wac_graph_core.specs.NodeMaps.{IsImport, Rises}
use Rattle.wac_graph_core.specs.Graph.{Graph, node_at}
use Rattle.wac_parser_tree.specs.Trees as t
use Rattle.wac_parser_tree.specs.Trees.{Span}
use Rattle.wac_parser_declare.specs.Holding.{NamesStand, scope_of}
use Rattle.wac_parser_declare.specs.Scope.{package_under}
use Rattle.wac_parser_resolve.specs.declared.board.Board.{Board}
use Rattle.wac_parser_resolve.specs.declared.state.State.{State as Held}
use Rattle.wac_parser_resolve.specs.Ascribing.{Bound, Denoted, Import, State, root_scope}
use Rattle.std.specs.Option.{option_or}
use Rattle.wac_parser_resolve.specs.Holding.{AreNamed, Denotes, HasItem, InTurn, IsDefinition, Says}
use Rattle.wac_parser_resolve.specs.Knowing.{handed_keys, known_in}

-- ---- what expressions stand on

-- the graph with its instances, over the names of the root and the packages that are known, in a document of this package
pub record IsOnBoard (name : Name) (names : List (Name × ℕ)) (b : Board) (s : State) : Type 0 where
  pub says : Says b.types.graph b.instances.noted.items names s
  pub known : (k : Key) → known_in b.types k ≡ package_under s.packages k
  pub handed : handed_keys b.types ≡ names_of s.packages
  pub own : s.own.name ≡ name

-- what is denoted, over what is said then
pub record IsDenoted (own : Name) (names : List (Name × ℕ)) (b : Board) (q : State × Denoted) (k : ℕ) : Type 0 where
  pub on : IsOnBoard own names b q.0
  pub denotes : Denotes b.types.graph (names_of b.instances.noted.items) q.1 k

-- ---- where things stand

-- what is noted last of a node
abbrev pub last_noted : List (ℕ × Span) → ℕ → Option Span
last_noted [] k = None
last_noted (e ∷ es) k = option_or (last_noted es k) (if e.0 == k then Some e.1 else None)

-- ---- imports, definitions, exports

-- the node, noted with the place of its name, is what an import statement asks
pub record IsAsked (g : Graph) (ids : List (ℕ × Span)) (i : Import) (e : ℕ × Span) : Type 0 where
  pub import : IsImport g.nodes e.0 i.name
  pub item : HasItem g e.0 i.item
  pub span : e.1 ≡ i.span
  pub id : last_noted ids e.0 ≡ Some i.id_span

-- the imports of the graph are those of the statements, in the order of their nodes
pub record AreAsked (g : Graph) (noted ids : List (ℕ × Span)) (is : List Import) : Type 0 where
  pub rising : Rises (names_of noted)
  pub are : InTurn (IsAsked g ids) is noted
  pub all : (k : ℕ) (n : Name) → IsImport g.nodes k n → Among k (names_of noted)

-- the node of a declaration
pub record IsDeclared (g : Graph) (d : Name × Stated) (k : ℕ) : Type 0 where
  pub definition : IsDefinition g k d.0
  pub item : HasItem g k d.1

-- the definitions of the graph are those that are declared, in the order of their nodes
pub record AreDeclared (g : Graph) (ds : List (Name × Stated)) : Type 0 where
  pub nodes : List ℕ
  pub rising : Rises nodes
  pub are : InTurn (IsDeclared g) ds nodes
  pub all : (k : ℕ) (x : NodeData) → node_at g k ≡ Some x → x.role ≡ Role.Defined → Among k nodes

-- the node is noted with the place of the name under which it is exported
pub record IsNoted (g : Graph) (ms : List ℕ) (b : Name × Bound) (e : ℕ × Span) : Type 0 where
  pub denotes : Denotes g ms b.1.denoted e.0
  pub span : e.1 ≡ b.1.span

-- the exports of the graph are those that were said, in order
pub record AreExported (g : Graph) (ms : List ℕ) (spans : List (ℕ × Span)) (es : List (Name × Bound)) : Type 0 where
  pub are : AreNamed g ms es g.exports
  pub noted : InTurn (IsNoted g ms) es spans

-- ---- the state

-- the code's state is what was said, in a document of this package
pub record IsSaid (p : t.PackageName) (b : Held) (s : State) : Type 0 where
  pub board : IsOnBoard p.name b.nodes b.board s
  pub own : s.own ≡ p
  pub stand : NamesStand b.board.types.graph.types b.names
  pub scope : scope_of b.board.types.graph.types b.names ≡ root_scope s
  pub imports : AreAsked b.board.types.graph b.imports.noted.items b.ids.noted.items s.imports
  pub definitions : AreDeclared b.board.types.graph s.definitions
  pub exports : AreExported b.board.types.graph (names_of b.board.instances.noted.items) b.exports.noted.items s.exports
