-- The order in which the imports of a world are written: each has its place once.
use Rattle.std.specs.Prelude.{◌≡◌, ◌<◌, ℕ, Bool, true, false, ◌||◌, List, [], ◌∷◌, ◌++◌, length, filter, option_to_list, Some, slice_get, slice_set, ◌⊎◌}
use Rattle.std.specs.List.{fold, range_with_len}
use Rattle.std.specs.Option.{option_map_or}
use Rattle.wac_types_base.specs.declared.ids.InterfaceId.{InterfaceId}
use Rattle.wac_types_base.specs.declared.item.ItemKind.{ItemKind}
use Rattle.wac_graph_scopes.specs.declared.imports.Importing.{Importing}
use Rattle.wac_graph_scopes.specs.declared.order.Order.{Order}
use Rattle.wac_graph_scopes.specs.declared.order.Turn.{Turn}
use Rattle.wac_types_parts.specs.declared.parts.Item.{Item}
use Rattle.wac_types_parts.specs.Parts.{IsOfInterface, IsFresh}
use Rattle.wac_graph_scopes.specs.Behind.{has_place, needs_at, lists_of, put}
use Rattle.wac_graph_scopes.specs.Imports.{all_imports, IsGiven}
use Rattle.wac_types_base.specs.Graph.{Among}
use Rattle.wac_types_base.specs.Entries.{Name, AreDistinct}

-- the sources and then the others are all of so many places, each once
pub record IsOrder (count : ℕ) (sources others : List ℕ) : Type 0 where
  pub distinct : AreDistinct (sources ++ others)
  pub all : (k : ℕ) → k < count → Among k (sources ++ others)
  pub within : (k : ℕ) → Among k (sources ++ others) → k < count

-- it has a place in the order, or those that it uses are being put there
abbrev pub IsBegun : List Bool → ℕ → Type 0
IsBegun bs k = slice_get bs k ≡ Some true

-- Those that are begun meanwhile are put behind the others, each once.
pub record Puts (old new : List Bool) (order ordered : List ℕ) : Type 0 where
  pub more : List ℕ
  pub behind : ordered ≡ order ++ more
  pub len : length new ≡ length old
  pub fresh : (k : ℕ) → Among k more → IsBegun old k → ⊥
  pub done : (k : ℕ) → Among k more → IsBegun new k
  pub kept : (k : ℕ) → IsBegun old k → IsBegun new k
  pub only : (k : ℕ) → IsBegun new k → IsBegun old k ⊎ Among k more
  pub distinct : AreDistinct more

-- the place is begun only now
abbrev pub Marks : List Bool → List Bool → ℕ → Type 0
Marks old new at = at < length old × (IsBegun old at → ⊥) × (new ≡ slice_set old at true)

-- it was begun, if it is a place
abbrev pub Leaves : List Bool → List Bool → ℕ → Type 0
Leaves old new at = (at < length old → IsBegun old at) × (new ≡ old)

-- the place is begun, if it is its turn
abbrev pub IsDone : {T : Type 0} → List T → T → List Bool → List Bool → ℕ → Type 0
IsDone turns turn old new at = slice_get turns at ≡ Some turn → at < length old → IsBegun new at

abbrev pub AreDone : {T : Type 0} → List T → T → List Bool → List Bool → Type 0
AreDone turns turn old new = (k : ℕ) → IsDone turns turn old new k

-- ---- exactly what is put

-- begun are those that wait, and those that have their place
abbrev pub ShowsBegun : (waiting ordered : List ℕ) → List Bool → Type 0
ShowsBegun ws ns bs = (n : ℕ) → n < length bs → slice_get bs n ≡ Some (has_place ws n || has_place ns n)

-- whatever waits meanwhile, and whatever was handed out before, these are put one after another, at that depth
abbrev pub PutsEach : List (List ℕ) → ℕ → (places : List ℕ) → (old new : List Bool) → (order ordered : List ℕ) → Type 0
PutsEach needs k xs old new order ordered = (ws before : List ℕ) → length old ≡ length needs → ShowsBegun ws (before ++ order) old
    → ShowsBegun ws (before ++ ordered) new × (before ++ ordered ≡ fold (put needs k ws) (before ++ order) xs)

abbrev pub PutsPlaces : ℕ → (places : List ℕ) → (old new : Order) → Type 0
PutsPlaces k xs old new =
    PutsEach (lists_of old.needs.items) k xs old.begun.items new.begun.items old.order.items new.order.items

-- one of those that a place needs
abbrev pub PutsNeed : ℕ → ℕ → ℕ → (old new : Order) → Type 0
PutsNeed at which k old new = PutsPlaces k (option_to_list (slice_get (needs_at (lists_of old.needs.items) at) which)) old new

abbrev pub is_same : Turn → Turn → Bool
is_same Turn.Fresh Turn.Fresh = true
is_same Turn.Interfaces Turn.Interfaces = true
is_same Turn.Types Turn.Types = true
is_same Turn.Others Turn.Others = true
is_same t u = false

-- whether it is the turn of a place
abbrev pub has_turn : List Turn → Turn → ℕ → Bool
has_turn ts t n = option_map_or (is_same t) (slice_get ts n) false

-- those of so many places whose turn it is
abbrev pub turn_places : List Turn → Turn → ℕ → List ℕ
turn_places ts t count = filter (has_turn ts t) (range_with_len 0 count)

abbrev pub PutsAt : Turn → ℕ → (old new : Order) → Type 0
PutsAt t at old new = PutsPlaces (length old.begun.items) (filter (has_turn old.turns.items t) (at ∷ [])) old new

abbrev pub PutsTurn : Turn → (old new : Order) → Type 0
PutsTurn t old new = PutsPlaces (length old.begun.items) (turn_places old.turns.items t (length old.begun.items)) old new

-- those of two turns, which are handed out
abbrev pub PutsTurns : Turn → Turn → Order → List Bool → List ℕ → Type 0
PutsTurns t u old begun ordered =
    let ts = old.turns.items in
    let count = length old.begun.items in
    PutsEach (lists_of old.needs.items) count (turn_places ts t count ++ turn_places ts u count) old.begun.items begun old.order.items
    ordered

-- ---- what comes first

-- an instance or an interface
abbrev pub IsSource : ItemKind → Type 0
IsSource k = (i : InterfaceId) × IsOfInterface k i

abbrev pub IsEarly : Turn → Type 0
IsEarly Turn.Fresh = Unit {0}
IsEarly Turn.Interfaces = Unit {0}
IsEarly t = ⊥

-- early it is the turn of a resource under its own name, of a source, or of what a use gives
abbrev pub HasTurn : Importing → Item → Turn → Type 0
HasTurn a x Turn.Fresh = IsFresh a.types.now x.name.now x.kind
HasTurn a x Turn.Interfaces = IsSource x.kind ⊎ IsGiven a x
HasTurn a x t = Unit {0}

-- it is early the turn of a source
abbrev pub IsTurnAt : Importing → ℕ → Turn → Type 0
IsTurnAt a at t = (n : Name) (k : ItemKind) → slice_get (all_imports a) at ≡ Some (n, k) → IsSource k → IsEarly t

abbrev pub AreTurns : Importing → List Turn → Type 0
AreTurns a ts = (at : ℕ) (t : Turn) → slice_get ts at ≡ Some t → IsTurnAt a at t

-- the places with an early turn are among these
abbrev pub EarlyFirst : List Turn → List ℕ → Type 0
EarlyFirst ts ks = (at : ℕ) (t : Turn) → slice_get ts at ≡ Some t → IsEarly t → Among at ks

-- the places of the imports that are sources are among these
abbrev pub SourcesFirst : Importing → List ℕ → Type 0
SourcesFirst a ks = (at : ℕ) (n : Name) (k : ItemKind) → slice_get (all_imports a) at ≡ Some (n, k) → IsSource k → Among at ks
