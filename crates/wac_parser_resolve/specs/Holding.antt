-- What a graph holds of what a document says: the node of each thing that is denoted, the instances with their arguments, the
-- aliases, and the nodes of the root's names.
use Rattle.std.specs.Prelude.{◌≡◌, ℕ, List, [], ◌∷◌, true, Some, IsSome, map, slice_get, string_bytes}
use Rattle.wac_types_base.specs.declared.item.ItemKind.{ItemKind}
use Rattle.wac_types_base.specs.declared.item.«Type».{«Type» as TypeKind}
use Rattle.wac_types_base.specs.Entries.{Name, AreDistinct, names_of, value_at}
use Rattle.wac_types_base.specs.Graph.{Among}
use Rattle.wac_types_base.specs.Stated.{Stated, exports_of}
use Rattle.wac_types_names.specs.Packaged.{Packaged}
use Rattle.wac_types_names.specs.Keys.{package_key}
use Rattle.wac_graph_core.specs.Nodes.{NodeData, Role}
use Rattle.wac_graph_core.specs.NodeMaps.{IsImport, Rises}
use Rattle.wac_graph_core.specs.Edges.{HasAlias, HasArgument}
use Rattle.wac_graph_core.specs.Graph.{Graph, IsOfKind, instantiated, is_instance, node_at}
use Rattle.wac_composition.specs.Composition.{Origin, imported, instance, projected, defined}
use Rattle.wac_parser_tree.specs.Trees.{Span}
use Rattle.wac_parser_declare.specs.Holding.{Holds}
use Rattle.wac_parser_resolve.specs.declared.arguments.Given.{Given}
use Rattle.wac_parser_resolve.specs.Ascribing.{Denoted, Made, Bound, State}
use Rattle.wac_parser_resolve.specs.Denoting as stated
use Rattle.wac_parser_resolve.specs.Denoting.{given_names}
use Rattle.wac_parser_resolve.specs.Later.{first_name}

-- each of the first list with the one of the second in its place, and no others
abbrev pub InTurn : {A B : Type 0} → (A → B → Type 0) → List A → List B → Type 0
InTurn R [] [] = Unit {0}
InTurn R (x ∷ xs) (y ∷ ys) = R x y × InTurn R xs ys
InTurn R [] (y ∷ ys) = ⊥
InTurn R (x ∷ xs) [] = ⊥

-- ---- nodes

-- the item of the node states this
abbrev pub HasItem : Graph → ℕ → Stated → Type 0
HasItem g k t = IsOfKind g k (Holds g.types t)

-- the definition of this name, under which it is exported first
pub record IsDefinition (g : Graph) (k : ℕ) (n : Name) : Type 0 where
  pub node : NodeData
  pub there : node_at g k ≡ Some node
  pub role : node.role ≡ Role.Defined
  pub type : TypeKind
  pub item : node.item_kind ≡ ItemKind.Ty type
  pub named : value_at g.exports n ≡ Some k
  pub first : first_name g.exports k ≡ Some n

-- the node is what the origin says, where the instances that a document makes are these, in order
abbrev pub IsNode : Graph → List ℕ → Origin ℕ → ℕ → Type 0
IsNode g ms (imported n) k = IsImport g.nodes k n
IsNode g ms (instance i) k = (slice_get ms i ≡ Some k) × IsSome (instantiated g k)
IsNode g ms (projected o n) k = (j : ℕ) × IsNode g ms o j × IsOfKind g j (λ x. is_instance x ≡ true) × HasAlias g.edges j n k
IsNode g ms (defined n x) k = IsDefinition g k n

-- the node is what is denoted, with an item that states its type
pub record Denotes (g : Graph) (ms : List ℕ) (d : Denoted) (k : ℕ) : Type 0 where
  pub node : IsNode g ms d.origin k
  pub item : HasItem g k d.item

-- ---- instances

-- what is passed to an instance
pub record ArePassed (g : Graph) (ms : List ℕ) (i : ℕ) (as_ : List (Name × Denoted)) : Type 0 where
  pub passed : (n : Name) (d : Denoted) → value_at as_ n ≡ Some d → (a : ℕ) × HasArgument g.edges i n a × Denotes g ms d a
  pub only : (n : Name) (a : ℕ) → HasArgument g.edges i n a → IsSome (value_at as_ n)

-- the node, noted with the place of its package's name, is the instance that a `new` makes
pub record IsMade (g : Graph) (ms : List ℕ) (m : Made) (e : ℕ × Span) : Type 0 where
  pub of : Packaged
  pub is : instantiated g e.0 ≡ Some of
  pub key : package_key of ≡ m.key
  pub world : Holds g.types m.world (ItemKind.Component of.ty)
  pub arguments : ArePassed g ms e.0 m.arguments
  pub span : e.1 ≡ m.span

-- ---- aliases

-- the node has the item that an export of the instance states
pub record IsExported (g : Graph) (i : ℕ) (n : Name) (k : ℕ) : Type 0 where
  pub from : Stated
  pub is : HasItem g i from
  pub item : Stated
  pub at : value_at (exports_of from) n ≡ Some item
  pub there : HasItem g k item

-- the aliases are those that were spoken of, in the order of their nodes, and no others
pub record AreSpoken (g : Graph) (ms : List ℕ) (ds : List Denoted) : Type 0 where
  pub nodes : List ℕ
  pub rising : Rises nodes
  pub are : InTurn (Denotes g ms) ds nodes
  pub only : (k : ℕ) → Among k nodes → (i : ℕ) × (n : Name) × HasAlias g.edges i n k
  pub all : (k : ℕ) (x : NodeData) → node_at g k ≡ Some x → x.role ≡ Role.Aliased → Among k nodes
  pub exports : (i k : ℕ) (n : Name) → HasAlias g.edges i n k → IsExported g i n k

-- ---- names

-- the node of a name of the root
pub record IsNamed (g : Graph) (ms : List ℕ) (b : Name × Bound) (e : Name × ℕ) : Type 0 where
  pub name : e.0 ≡ b.0
  pub denotes : Denotes g ms b.1.denoted e.1

abbrev pub AreNamed : Graph → List ℕ → List (Name × Bound) → List (Name × ℕ) → Type 0
AreNamed g ms = InTurn (IsNamed g ms)

-- ---- arguments that are given

abbrev pub names_given : List Given → List Name
names_given xs = map (λ (one : Given). string_bytes one.name) xs

pub record IsGiven (g : Graph) (ms : List ℕ) (a : stated.Given) (one : Given) : Type 0 where
  pub name : string_bytes one.name ≡ a.name
  pub denotes : Denotes g ms a.denoted one.node
  pub span : one.span ≡ a.span

-- those that are stated, each under a name of its own
pub record AreGiven (g : Graph) (ms : List ℕ) (as_ : List stated.Given) (xs : List Given) : Type 0 where
  pub are : InTurn (IsGiven g ms) as_ xs
  pub apart : AreDistinct (given_names as_)

-- ---- what was said

-- the graph holds the instances, which are noted with their places, the aliases and the names of the root
pub record Says (g : Graph) (noted : List (ℕ × Span)) (names : List (Name × ℕ)) (s : State) : Type 0 where
  pub rising : Rises (names_of noted)
  pub made : InTurn (IsMade g (names_of noted)) s.made noted
  pub all : (k : ℕ) → IsSome (instantiated g k) → Among k (names_of noted)
  pub aliases : AreSpoken g (names_of noted) s.aliases
  pub root : AreNamed g (names_of noted) s.root names
