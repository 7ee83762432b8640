-- Single steps on what is kept of a node.
use Rattle.std.specs.Prelude.{◌≡◌, ◌≢◌, ◌↔◌, ◌⊎◌, ◌+◌, ◌≤◌, ℕ, List, map, Bool, true, false, length, Option, Some, None, slice_get, slice_set, string_bytes, vec_len, vec_capacity, if◌then◌else◌}
use Rattle.std.specs.Global.{Vec}
use Rattle.wac_types_base.specs.Entries.{Name}
use Rattle.wac_types_base.specs.Graph.{Among}
use Rattle.wac_graph_core.specs.declared.tie.Tie.{Tie}
use Rattle.wac_graph_core.specs.declared.ties.Ties.{Ties}
use Rattle.wac_graph_core.specs.Edges.{has, Stays, AddsEach}
use Rattle.wac_graph_core.specs.declared.edge.Edge.{Edge}
use Rattle.wac_graph_core.specs.Ties.{end_of, Passed, Passes, edges_in, dependants_at, arguments_at, source_at}

abbrev pub LacksTie : List (Tie × ℕ) → Tie → Type 0
LacksTie xs t = (k : ℕ) → Among (t, k) xs → ⊥

-- the tie was there, or is added
pub data PutsTie (old new : List (Tie × ℕ)) (t : Tie) (k : ℕ) : Type 0 where
  there : (j : ℕ) → Among (t, j) old → new ≡ old → PutsTie old new t k
  added : ((x : Tie × ℕ) → Among x new ↔ (Among x old ⊎ (x ≡ (t, k)))) → PutsTie old new t k

-- the tie is away, and nothing else
abbrev pub TakesTie : List (Tie × ℕ) → List (Tie × ℕ) → Tie → Type 0
TakesTie old new t = (x : Tie × ℕ) → Among x new ↔ (Among x old × (x.0 ≢ t))

-- exactly this is passed more
abbrev pub PutsPassed : List Passed → List Passed → Name → ℕ → Type 0
PutsPassed old new n a = (m : Name) (b : ℕ) → Passes new m b ↔ (Passes old m b ⊎ ((m ≡ n) × (b ≡ a)))

-- exactly this is passed no more, and whether it was
pub data TakesPassed (old new : List Passed) (n : Name) (a : ℕ) : Bool → Type 0 where
  taken : Passes old n a → ((b : ℕ) → Passes old n b → b ≡ a) → ((m : Name) (b : ℕ) → Passes new m b ↔ (Passes old m b × (m ≢ n)))
      → TakesPassed old new n a true
  not_passed : (Passes old n a → ⊥) → new ≡ old → TakesPassed old new n a false

-- what hangs on none of these nodes is left
abbrev pub KeepsTie : List (Tie × ℕ) → List (Tie × ℕ) → List ℕ → Type 0
KeepsTie old new gone = (x : Tie × ℕ) → Among x new ↔ (Among x old × Stays gone (end_of x.0 x.1))

-- what is none of these nodes is left
abbrev pub KeepsPassed : List Passed → List Passed → List ℕ → Type 0
KeepsPassed old new gone = (n : Name) (a : ℕ) → Passes new n a ↔ (Passes old n a × Stays gone a)

-- a source that is none of these nodes
abbrev pub source_left : List ℕ → Option (ℕ × Name) → Option (ℕ × Name)
source_left gone None = None
source_left gone (Some x) = if has gone x.0 then None else Some x

-- ---- places of nodes

-- so many ties more fit at the node
pub record HasRoom (ts : List Ties) (i n : ℕ) : Type 0 where
  pub at : Ties
  pub there : slice_get ts i ≡ Some at
  pub room : vec_len at.dependants + n ≤ vec_capacity at.dependants

-- the tie is at the node, or fits there
pub record IsReady (ts : List Ties) (i : ℕ) (t : Tie) : Type 0 where
  pub at : Ties
  pub there : slice_get ts i ≡ Some at
  pub room : LacksTie at.dependants.items t → vec_len at.dependants + 1 ≤ vec_capacity at.dependants

-- one argument more fits at the node
pub record HasPlace (ts : List Ties) (i : ℕ) : Type 0 where
  pub at : Ties
  pub there : slice_get ts i ≡ Some at
  pub room : vec_len at.arguments + 1 ≤ vec_capacity at.arguments

-- the same is kept of each node, with no less room
pub record IsRoomier (old new : List Ties) : Type 0 where
  pub dependants : (j : ℕ) → dependants_at new j ≡ dependants_at old j
  pub arguments : (j : ℕ) → arguments_at new j ≡ arguments_at old j
  pub sources : (j : ℕ) → source_at new j ≡ source_at old j
  pub longer : length old ≤ length new
  pub rooms : (j n : ℕ) → HasRoom old j n → HasRoom new j n
  pub places : (j : ℕ) → HasPlace old j → HasPlace new j

-- a tie is put at a node, or is there
pub record PutsDependant (old new : List Ties) (i : ℕ) (t : Tie) (k : ℕ) : Type 0 where
  pub at : Ties
  pub there : slice_get old i ≡ Some at
  pub list : Vec (Tie × ℕ)
  pub put : PutsTie at.dependants.items list.items t k
  pub len : vec_len list ≤ vec_len at.dependants + 1
  pub capacity : vec_capacity list ≡ vec_capacity at.dependants
  pub made : new ≡ slice_set old i (record at { dependants = list })

-- a node is passed at another
pub record PutsArgument (old new : List Ties) (i : ℕ) (n : Name) (a : ℕ) : Type 0 where
  pub at : Ties
  pub there : slice_get old i ≡ Some at
  pub list : Vec Passed
  pub put : PutsPassed at.arguments.items list.items n a
  pub made : new ≡ slice_set old i (record at { arguments = list })

-- what is passed at a node may be taken back
pub record TakesArgument (old new : List Ties) (i : ℕ) (n : Name) (a : ℕ) (b : Bool) : Type 0 where
  pub take : TakesPassed (arguments_at old i) (arguments_at new i) n a b
  pub others : (j : ℕ) → j ≢ i → arguments_at new j ≡ arguments_at old j
  pub dependants : (j : ℕ) → dependants_at new j ≡ dependants_at old j
  pub sources : (j : ℕ) → source_at new j ≡ source_at old j

-- a tie is away at a node
pub record DropsDependant (old new : List Ties) (i : ℕ) (t : Tie) : Type 0 where
  pub take : TakesTie (dependants_at old i) (dependants_at new i) t
  pub others : (j : ℕ) → j ≢ i → dependants_at new j ≡ dependants_at old j
  pub arguments : (j : ℕ) → arguments_at new j ≡ arguments_at old j
  pub sources : (j : ℕ) → source_at new j ≡ source_at old j

-- exactly the edges that are made of these nodes come, and nothing else changes
pub record PutsEach (made : ℕ → Edge) (old new : List Ties) (ks : List ℕ) : Type 0 where
  pub edges : AddsEach made (edges_in old) (edges_in new) ks
  pub arguments : (j : ℕ) → arguments_at new j ≡ arguments_at old j
  pub sources : (j : ℕ) → source_at new j ≡ source_at old j

-- the node is an alias
pub record SetsSource (old new : List Ties) (k i : ℕ) (n : Name) : Type 0 where
  pub at : Ties
  pub there : slice_get old k ≡ Some at
  pub made : new ≡ slice_set old k (record at { source = Some (i, n) })

-- of what is kept of a node what has no end among these is left
pub record LeavesTies (gone : List ℕ) (i : ℕ) (old new : Ties) : Type 0 where
  pub dependants : (x : Tie × ℕ)
      → Among x new.dependants.items ↔ (Among x old.dependants.items × (Stays gone (end_of x.0 x.1) × Stays gone i))
  pub arguments : (n : Name) (a : ℕ)
      → Passes new.arguments.items n a ↔ (Passes old.arguments.items n a × (Stays gone a × Stays gone i))
  pub source : (j : ℕ) (n : Name) → (new.source ≡ Some (j, n)) ↔ ((old.source ≡ Some (j, n)) × (Stays gone j × Stays gone i))

-- and of each node
pub record LeavesAll (gone : List ℕ) (old new : List Ties) : Type 0 where
  pub longer : length new ≡ length old
  pub left : (i : ℕ) (t : Ties) → slice_get old i ≡ Some t → (u : Ties) × (slice_get new i ≡ Some u) × LeavesTies gone i t u

-- ---- copies

abbrev pub shown_passed : List Passed → List (Name × ℕ)
shown_passed xs = map (λ x. (string_bytes x.0, x.1)) xs

abbrev pub AreSamePassed : List Passed → List Passed → Type 0
AreSamePassed xs ys = shown_passed ys ≡ shown_passed xs

pub record SameTies (t u : Ties) : Type 0 where
  pub dependants : u.dependants.items ≡ t.dependants.items
  pub arguments : AreSamePassed t.arguments.items u.arguments.items
  pub source : u.source ≡ t.source
