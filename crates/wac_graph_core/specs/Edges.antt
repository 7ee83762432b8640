-- Edges, read as a set, and what is reached over them. No clause reads their order.
use Rattle.std.specs.Prelude.{◌≡◌, ◌↔◌, ℕ, ◌<◌, ◌⊎◌, List, [], ◌∷◌, Bool, true, false, ◌==◌, if◌then◌else◌}
use Rattle.wac_types_base.specs.Entries.{Name}
use Rattle.wac_types_base.specs.Graph.{Among}
use Rattle.wac_graph_core.specs.declared.edge.Edge.{Edge}
use Rattle.wac_graph_core.specs.declared.edge.Label.{Label}
use Rattle.wac_graph_core.specs.declared.edge.Follow.{Follow}

-- k is the export n of i
abbrev pub alias_edge : ℕ → ℕ → Name → Edge
alias_edge i k n = record { from = i; to = k; label = Label.Alias n }

-- a is passed to i as n
abbrev pub argument_edge : ℕ → ℕ → Name → Edge
argument_edge a i n = record { from = a; to = i; label = Label.Argument n }

-- the type of b uses the type that a defines
abbrev pub dependency_edge : ℕ → ℕ → Edge
dependency_edge a b = record { from = a; to = b; label = Label.Dependency }

abbrev pub HasAlias : List Edge → ℕ → Name → ℕ → Type 0
HasAlias es i n k = Among (alias_edge i k n) es

abbrev pub HasArgument : List Edge → ℕ → Name → ℕ → Type 0
HasArgument es i n a = Among (argument_edge a i n) es

-- exactly the edges that are so
abbrev pub AreEdges : List Edge → (Edge → Type 0) → Type 0
AreEdges es IsSo = (d : Edge) → Among d es ↔ IsSo d

-- whether the node is in the list
abbrev pub has : List ℕ → ℕ → Bool
has [] k = false
has (j ∷ js) k = if j == k then true else has js k

-- the edge is made of one of these nodes
abbrev pub IsMadeOf : (ℕ → Edge) → List ℕ → Edge → Type 0
IsMadeOf made ks d = (k : ℕ) × (has ks k ≡ true) × (d ≡ made k)

-- exactly the edges that are made of these nodes more
abbrev pub AddsEach : (ℕ → Edge) → List Edge → List Edge → List ℕ → Type 0
AddsEach made old new ks = AreEdges new (λ d. Among d old ⊎ IsMadeOf made ks d)

-- which edges are followed: aliases with arguments, or aliases with dependencies
abbrev pub follows : Follow → Label → Bool
follows Follow.Flow (Label.Alias n) = true
follows Follow.Flow (Label.Argument n) = true
follows Follow.Flow Label.Dependency = false
follows Follow.Owned (Label.Alias n) = true
follows Follow.Owned (Label.Argument n) = false
follows Follow.Owned Label.Dependency = true

abbrev pub Stays : List ℕ → ℕ → Type 0
Stays gone k = has gone k ≡ false

-- k is reached from one of the starts over edges that are followed
pub data Reaches (f : Follow) (es : List Edge) (starts : List ℕ) : ℕ → Type 0 where
  at_start : {k : ℕ} → has starts k ≡ true → Reaches f es starts k
  along : {j k : ℕ} (e : Edge) → Reaches f es starts j → Among e es → follows f e.label ≡ true → e.from ≡ j → e.to ≡ k
      → Reaches f es starts k

-- the list is exactly what is reached
pub record IsReached (f : Follow) (es : List Edge) (starts : List ℕ) (seen : List ℕ) : Type 0 where
  pub sound : (k : ℕ) → has seen k ≡ true → Reaches f es starts k
  pub complete : (k : ℕ) → Reaches f es starts k → has seen k ≡ true

-- numbers that rise along aliases and arguments
pub record IsRank (es : List Edge) (rank : ℕ → ℕ) : Type 0 where
  pub rises : (e : Edge) → Among e es → follows Follow.Flow e.label ≡ true → rank e.from < rank e.to

-- no node is reached from itself over aliases and arguments
abbrev pub IsAcyclic : List Edge → Type 0
IsAcyclic es = (rank : ℕ → ℕ) × IsRank es rank

-- an instance has one alias for an export, a node is the alias of one export, an import gets one argument
pub record AreKeyed (es : List Edge) : Type 0 where
  pub one_alias : (i j k : ℕ) (n : Name) → HasAlias es i n j → HasAlias es i n k → j ≡ k
  pub one_source : (i j k : ℕ) (m n : Name) → HasAlias es i m k → HasAlias es j n k → (i ≡ j) × (m ≡ n)
  pub one_argument : (i a b : ℕ) (n : Name) → HasArgument es i n a → HasArgument es i n b → a ≡ b
