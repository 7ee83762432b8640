-- What each node keeps of the edges that leave it and enter it, in lists in order.
use Rattle.std.specs.Prelude.{◌≡◌, ◌↔◌, ◌+◌, ℕ, List, [], ◌∷◌, ◌++◌, map, Option, Some, None, slice_get, string_bytes}
use Rattle.std.specs.Global.{Global}
use Rattle.std.specs.declared.string.String.{String}
use Rattle.std.specs.Ordering.{nat_cmp}
use Rattle.std.specs.declared.cmp.Ordering.{Ordering}
use Rattle.std.specs.Cmp.{IsTotalOrder, on_total}
use Rattle.std.specs.Cmp.Lexicographic.{slice_cmp, nat_list_cmp_total}
use Rattle.wac_types_base.specs.Entries.{Name}
use Rattle.wac_types_base.specs.Graph.{Among}
use Rattle.wac_graph_core.specs.declared.edge.Edge.{Edge}
use Rattle.wac_graph_core.specs.declared.edge.Label.{Label}
use Rattle.wac_graph_core.specs.declared.tie.Tie.{Tie}
use Rattle.wac_graph_core.specs.declared.ties.Ties.{Ties}
use Rattle.wac_graph_core.specs.Edges.{HasAlias, HasArgument, AddsEach, dependency_edge}

-- ---- in which order ties are kept

abbrev pub tie_code : Tie → List ℕ
tie_code (Tie.Alias n) = 0 ∷ n
tie_code (Tie.Argument k n) = 1 ∷ k ∷ n
tie_code (Tie.Dependency k) = 2 ∷ k ∷ []

abbrev pub tie_cmp : Tie → Tie → Ordering
tie_cmp s t = slice_cmp nat_cmp (tie_code s) (tie_code t)

pub tie_cmp_total : IsTotalOrder tie_cmp
tie_cmp_total = on_total tie_code nat_list_cmp_total

-- ---- the edges

abbrev pub label_of : Tie → Label
label_of (Tie.Alias n) = Label.Alias n
label_of (Tie.Argument k n) = Label.Argument n
label_of (Tie.Dependency k) = Label.Dependency

-- which node hangs by it, where this is the node of an alias
abbrev pub end_of : Tie → ℕ → ℕ
end_of (Tie.Alias n) k = k
end_of (Tie.Argument k n) j = k
end_of (Tie.Dependency k) j = k

-- the edge from the node to one that hangs on it
abbrev pub edge_of : ℕ → Tie × ℕ → Edge
edge_of i x = record { from = i; to = end_of x.0 x.1; label = label_of x.0 }

-- of the nodes from that index on
abbrev pub edges_from : ℕ → List Ties → List Edge
edges_from i [] = []
edges_from i (t ∷ ts) = map (edge_of i) t.dependants.items ++ edges_from (i + 1) ts

abbrev pub edges_in : List Ties → List Edge
edges_in ts = edges_from 0 ts

-- ---- what is kept of a node

abbrev pub dependants_in : Option Ties → List (Tie × ℕ)
dependants_in None = []
dependants_in (Some t) = t.dependants.items

abbrev pub dependants_at : List Ties → ℕ → List (Tie × ℕ)
dependants_at ts i = dependants_in (slice_get ts i)

abbrev pub Passed : Type 0
Passed = String Global × ℕ

abbrev pub arguments_in : Option Ties → List Passed
arguments_in None = []
arguments_in (Some t) = t.arguments.items

abbrev pub arguments_at : List Ties → ℕ → List Passed
arguments_at ts i = arguments_in (slice_get ts i)

abbrev pub source_in : Option Ties → Option (ℕ × Name)
source_in None = None
source_in (Some t) = t.source

abbrev pub source_at : List Ties → ℕ → Option (ℕ × Name)
source_at ts k = source_in (slice_get ts k)

-- the node is passed under this name
pub record Passes (xs : List Passed) (n : Name) (a : ℕ) : Type 0 where
  pub name : String Global
  pub is : string_bytes name ≡ n
  pub there : Among (name, a) xs

-- the arguments and the sources are those that the edges tell
pub record AreTied (es : List Edge) (arguments : ℕ → List Passed) (sources : ℕ → Option (ℕ × Name)) : Type 0 where
  pub passed : (i a : ℕ) (n : Name) → HasArgument es i n a ↔ Passes (arguments i) n a
  pub aliased : (i k : ℕ) (n : Name) → HasAlias es i n k ↔ (sources k ≡ Some (i, n))

-- ---- single steps

-- exactly the edges from the node
abbrev pub AreFrom : List Edge → ℕ → List (Tie × ℕ) → Type 0
AreFrom es i xs = (d : Edge) → (Among d es × (d.from ≡ i)) ↔ Among d (map (edge_of i) xs)

-- exactly the dependencies of the node on the one, and those of the others on it
pub record AddsDependencies (old new : List Edge) (k : ℕ) (sources targets : List ℕ) : Type 0 where
  pub mid : List Edge
  pub first : AddsEach (λ a. dependency_edge a k) old mid sources
  pub second : AddsEach (λ b. dependency_edge k b) mid new targets
