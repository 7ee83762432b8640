-- What stands at the root of a component while the instances of a graph are written.
use Rattle.std.specs.Prelude.{◌≡◌, ◌==◌, ◌<◌, ℕ, ◌+◌, Bool, true, if◌then◌else◌, List, [], map, Option, Some, IsSome, option_and_then, slice_get}
use Rattle.std.specs.List.{AllZip, position_or_len}
use Rattle.wac_types_base.specs.declared.item.ItemKind.{ItemKind}
use Rattle.wac_types_base.specs.Entries.{Name, AreDistinct, names_of, value_at}
use Rattle.wac_types_base.specs.Graph.{Among}
use Rattle.wac_types_base.specs.Stated.{stated_of}
use Rattle.wac_types_base.specs.Tree.{Tree, tree}
use Rattle.wac_types_base.specs.Fits.{Fits}
use Rattle.wac_types_fit.specs.Ordered.{InOrder}
use Rattle.wac_types_names.specs.Packaged.{Packaged}
use Rattle.wac_graph_bytes.specs.declared.value.Sort.{Sort}
use Rattle.wac_graph_bytes.specs.declared.value.Sort.TheVariants as sort
use Rattle.wac_graph_bytes.specs.declared.entry.Entry.{Entry}
use Rattle.wac_graph_bytes.specs.Counting.{count_of, same_sort}
use Rattle.wac_graph_bytes.specs.Typing.{Worlds, Meaning, space, item_tree}
use Rattle.wac_graph_bytes.specs.Wirings.{Tag, Source, Outer, Instantiation, rename, Uses}
use Rattle.wac_graph_bytes.specs.Meaning as bytes
use Rattle.wac_graph_bytes.specs.Meaning.{State, start, steps, source_of, source_at}
use Rattle.wac_graph_bytes.specs.Views.{view}
use Rattle.wac_graph_core.specs.declared.ids.PackageId.{PackageId}
use Rattle.wac_graph_core.specs.Nodes.{NodeData, Role}
use Rattle.wac_graph_core.specs.Edges.{HasArgument}
use Rattle.wac_graph_core.specs.Graph.{Graph, node_at, instantiated, is_instance, package_of}
use Rattle.wac_graph_core.specs.GraphWiring as wired
use Rattle.wac_graph_scopes.specs.declared.imports.SortIndex.{SortIndex}
use Rattle.wac_graph_scopes.specs.Items.{sort_of}
use Rattle.wac_composition.specs.Asks.{asks_of}
use Rattle.wac_composition.specs.Classes.{spelling}
use Rattle.wac_graph_encode.specs.declared.root.Counts.{Counts}
use Rattle.wac_graph_asks.specs.Graphs.{composition_of}
use Rattle.wac_graph_asks.specs.Wirings.{written_tree}
use Rattle.wac_graph_encode.specs.Encoding.{tag_of}

-- how many indexes of a sort are counted
abbrev pub counted : Counts → Sort → ℕ
counted c sort.Func = c.funcs
counted c sort.Ty = c.types
counted c sort.Component = c.components
counted c sort.Instance = c.instances
counted c sort.Module = c.modules

-- one more index of the sort is counted
abbrev pub CountsOne : Sort → Counts → Counts → Type 0
CountsOne s c d = (t : Sort) → counted d t ≡ counted c t + (if same_sort t s then 1 else 0)

-- so it is where a number counts it
abbrev pub CountsNext : Sort → Counts → Counts → Type 0
CountsNext s c d = counted c s < 18446744073709551615 → CountsOne s c d

-- the place of a type
abbrev pub type_place : ℕ → SortIndex
type_place k = record { sort = sort.Ty; index = k }

-- the number of an instance: its place in the order in which instances were written
abbrev pub number_in : List ℕ → ℕ → ℕ
number_in order k = position_or_len (λ j. j == k) order

-- a source over nodes, by the numbers of its instances
abbrev pub by_number : List ℕ → Source ℕ → Source ℕ
by_number order s = rename (number_in order) s

-- the same under each name, in some order
pub record Rearranges (xs ys : List (Name × ℕ)) : Type 0 where
  pub distinct : AreDistinct (names_of ys)
  pub kept : (n : Name) → value_at ys n ≡ value_at xs n

-- exports that are written before the others: some of these, each once
pub record AreFirst (given exports : List (Name × ℕ)) : Type 0 where
  pub once : AreDistinct (names_of given)
  pub there : (e : Name × ℕ) → Among e given → value_at exports e.0 ≡ Some e.1

-- what is written of the import at the place of the name
abbrev pub written_under : (places : List (Name × ℕ)) → (imports : List (Option SortIndex)) → Name → Option SortIndex
written_under places imports n = option_and_then (λ at. option_and_then (λ p. p) (slice_get imports at)) (value_at places n)

module _ (g : Graph) where
  abbrev pub spelled : Name → Name
  spelled = spelling (asks_of (composition_of g))

  -- what a node stands for
  abbrev pub StandsFor : ℕ → Source ℕ → Type 0
  StandsFor = wired.Denotes spelled (written_tree g) g

  abbrev pub IsInstanceOf : ℕ → Packaged → Instantiation ℕ → Type 0
  IsInstanceOf = wired.IsInstance spelled (written_tree g) g

  -- what is passed to an instance under a name: its argument, where that stands, or else the outer import of the name
  pub data IsGivenAt (found : Name → Option SortIndex) (nodes : List (ℕ × SortIndex)) (k : ℕ) (n : Name)
      (p : SortIndex) : Type 0 where
    argument : (a : ℕ) → HasArgument g.edges k n a → Among (a, p) nodes → IsGivenAt found nodes k n p
    outer : ((a : ℕ) → HasArgument g.edges k n a → ⊥) → found n ≡ Some p → IsGivenAt found nodes k n p

  module _ (worlds : Worlds) where
    -- where the item is an instance, the tree of what is meant is known, and gives all that is asked of the item
    abbrev pub GivesItem : Meaning → ItemKind → Type 0
    GivesItem m item =
        is_instance item ≡ true → (t : Tree) × (item_tree worlds m ≡ Some t) × InOrder t × Fits t (tree (stated_of g.types item))

    -- the index stands for the source that the node denotes, whose instances are written
    pub record StandsAt (st : State) (order : List ℕ) (k : ℕ) (p : SortIndex) : Type 0 where
      pub node : NodeData
      pub there : node_at g k ≡ Some node
      pub sort : sort_of node.item_kind ≡ Some p.sort
      pub source : Source ℕ
      pub denotes : StandsFor k source
      pub written : Uses (λ i. Among i order) source
      pub meaning : Meaning
      pub at : slice_get (space p.sort st.scope) p.index ≡ Some meaning
      pub means : source_of meaning ≡ Some (by_number order source)
      pub gives : GivesItem meaning node.item_kind

    -- the index stands for the outer import that is asked under the name
    pub record IsOuterAt (st : State) (n : Name) (p : SortIndex) : Type 0 where
      pub meaning : Meaning
      pub at : slice_get (space p.sort st.scope) p.index ≡ Some meaning
      pub means : source_of meaning ≡ Some (Outer (spelled n))
      pub asked : (k : ℕ) (x : NodeData) → node_at g k ≡ Some x → x.role ≡ Role.Imported n
          → (sort_of x.item_kind ≡ Some p.sort) × GivesItem meaning x.item_kind

    module _ (define : Bool) where
      -- the index stands for the package's component, and the worlds say what its instances are
      pub record IsPackageAt (st : State) (id : PackageId) (index : ℕ) : Type 0 where
        pub of : Packaged
        pub is : package_of g id ≡ Some of
        pub meaning : Meaning
        pub at : slice_get st.scope.components index ≡ Some meaning
        pub tag : bytes.tag_of meaning ≡ Some (tag_of define of)
        pub world : worlds (tag_of define of) ≡ Some (tree (stated_of g.types (ItemKind.Instance of.instance_type)))

      -- the node's instance as it is listed: of its package, with what each of its imports is bound to
      pub record IsListed (order : List ℕ) (k : ℕ) (x : Tag × List (Name × Source ℕ)) : Type 0 where
        pub of : Packaged
        pub is : instantiated g k ≡ Some of
        pub instance : Instantiation ℕ
        pub bound : IsInstanceOf k of instance
        pub tag : x.0 ≡ tag_of define of
        pub once : AreDistinct (names_of x.1)
        pub written : (n : Name) → Uses (λ i. Among i order) (instance.args n)
        pub given : (n : Name) → source_at x.1 n ≡ by_number order (instance.args n)

      -- an export of the graph as it is listed: what its node denotes
      pub record IsExported (order : List ℕ) (x : Name × ℕ) (e : Name × Source ℕ) : Type 0 where
        pub name : e.0 ≡ x.0
        pub source : Source ℕ
        pub denotes : StandsFor x.1 source
        pub written : Uses (λ i. Among i order) source
        pub is : e.1 ≡ by_number order source

      -- The entries can be read, and their indexes are counted. The outer imports, the packages and these nodes stand, and these
      -- exports are written; the instances are those of the nodes that were written, in that order.
      pub record IsWritten (asked : List (Name × Tree)) (found : Name → Option SortIndex) (held : List (PackageId × ℕ))
          (given : List (Name × ℕ)) (es : List Entry) (c : Counts) (nodes : List (ℕ × SortIndex)) : Type 0 where
        pub state : State
        pub reads : steps worlds start (map view es) ≡ Some state
        pub counts : (s : Sort) → counted c s ≡ count_of s es
        pub imports : state.listed.imports ≡ asked
        pub firsts : AreFirst given g.exports
        pub stated : state.stated ≡ []
        pub outers : (n : Name) (p : SortIndex) → found n ≡ Some p → IsOuterAt state n p
        pub packages : (id : PackageId) (index : ℕ) → Among (id, index) held → IsPackageAt state id index
        pub order : List ℕ
        pub once : AreDistinct order
        pub stand : (k : ℕ) (p : SortIndex) → Among (k, p) nodes → StandsAt state order k p
        pub exports : AllZip (IsExported order) given state.listed.exports
        pub noted : (k : ℕ) → Among k order → Among k (names_of nodes)
        pub instances : AllZip (IsListed order) order state.listed.instances

      -- All is written: the instances are those of the graph, in the order in which they were written, and the exports are the
      -- graph's, in some order.
      pub record IsFinished (asked : List (Name × Tree)) (es : List Entry) : Type 0 where
        pub state : State
        pub reads : steps worlds start (map view es) ≡ Some state
        pub imports : state.listed.imports ≡ asked
        pub stated : state.stated ≡ []
        pub order : List ℕ
        pub once : AreDistinct order
        pub all : (k : ℕ) → IsSome (instantiated g k) → Among k order
        pub instances : AllZip (IsListed order) order state.listed.instances
        pub listing : List (Name × ℕ)
        pub rearranged : Rearranges g.exports listing
        pub exports : AllZip (IsExported order) listing state.listed.exports
