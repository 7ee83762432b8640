-- What the classes of asks keep, as one ask is taken after another.
use Rattle.std.specs.Prelude.{◌≡◌, ◌==◌, ℕ, List, [], ◌∷◌, ◌++◌, length, Option, Some, None, is_some, true, slice_get, string_bytes}
use Rattle.std.specs.Map.{keys_of, lookup}
use Rattle.wac_types_base.specs.Record.{Collection}
use Rattle.wac_types_base.specs.Graph.{Among}
use Rattle.wac_types_base.specs.Collection.{Stands}
use Rattle.wac_types_base.specs.Stated.{stated_of}
use Rattle.indexmap.specs.IndexMap.{insert_entry}
use Rattle.wac_types_merge.specs.declared.error.AggregateError.{AggregateError}
use Rattle.wac_graph_core.specs.Graph.{Graph}
use Rattle.wac_composition.specs.Asks.{Ask, asks_of}
use Rattle.wac_composition.specs.Classes.{class}
use Rattle.wac_composition.specs.Merging.{Asked as AskedPair, kept}
use Rattle.wac_composition.specs.Again.{IsWell}
use Rattle.wac_composition.specs.OuterImports.{asked_in}
use Rattle.wac_composition.specs.Conflicts.{Cause, ExplicitImport, ImportTypes, merge_cause, merge_conflict}
use Rattle.wac_merging.specs.declared.kept.Kept.{Kept}
use Rattle.wac_merging.specs.Named.{NamesDiffer}
use Rattle.wac_merging.specs.Asking.{asked_as}
use Rattle.wac_merging.specs.Kept.{Keeps, KeepsFirst}
use Rattle.wac_merging.specs.Labelled.{labelled, each_label, AreLabels, AreKept}
use Rattle.wac_merging.specs.Unmerged.{TellsUnmerged, TellsConflict}
use Rattle.wac_graph_asks.specs.declared.asks.Ask.{Ask as HeldAsk}
use Rattle.wac_graph_asks.specs.declared.asks.Asking.{Asking as HeldAsking}
use Rattle.wac_graph_asks.specs.declared.asks.Asked.{Asked}
use Rattle.wac_graph_asks.specs.declared.error.OuterError.{OuterError}
use Rattle.wac_graph_asks.specs.declared.taken.Taken.{Taken}
use Rattle.wac_graph_asks.specs.Graphs.{composition_of}
use Rattle.wac_graph_asks.specs.AsksIn.{ask_in, asks_in}
use Rattle.wac_graph_asks.specs.Asked.{IsAsked}

-- what is asked, by what it states
abbrev pub pair_in : Collection → HeldAsk → AskedPair
pair_in c a = asked_as c a.name a.item

-- the second asks the item of the first, under its name
abbrev pub AsksSame : HeldAsk → HeldAsk → Type 0
AsksSame a b = (b.item ≡ a.item) × (b.name ≡ a.name)

-- with this ask it is kept of what was asked before, where the first is among that
abbrev pub KeepsMore : Collection → Kept → (first ask : HeldAsk) → Collection → Kept → Type 0
KeepsMore c before first ask d after = (asks : List AskedPair) → Among (pair_in c first) asks → IsWell (stated_of c ask.item)
    → Keeps c asks before → Keeps d (asks ++ pair_in c ask ∷ []) after

-- the first ask of the class stays, and this is kept with one ask more
abbrev pub TakesMore : Collection → List HeldAsk → Taken → HeldAsk → Collection → Taken → Type 0
TakesMore c asks before a d after = (after.first ≡ before.first)
    × ((x : HeldAsk) → slice_get asks before.first ≡ Some x → KeepsMore c before.kept x a d after.kept)

-- the first ask of a class keeps its item
abbrev pub TakesFirst : ℕ → HeldAsk → Taken → Type 0
TakesFirst at a after = (after.first ≡ at) × KeepsFirst a.item after.kept

abbrev pub TakesOne : Collection → List HeldAsk → Option Taken → ℕ → HeldAsk → Collection → Taken → Type 0
TakesOne c asks None at a d after = TakesFirst at a after
TakesOne c asks (Some before) at a d after = TakesMore c asks before a d after

-- the ask at that place is taken into what its class keeps, and the other classes keep what they kept
abbrev pub Takes : Collection → List HeldAsk → (at class : ℕ) → List (ℕ × Taken) → Collection → List (ℕ × Taken) → Type 0
Takes c asks at class old d new = (a : HeldAsk) → slice_get asks at ≡ Some a
    → (after : Taken) × TakesOne c asks (lookup (λ k. class == k) old) at a d after × (new ≡ insert_entry ◌==◌ old class after)

-- this is kept of these asks, the first of which stands at that place
pub record IsTakenOf (c : Collection) (held : List HeldAsk) (asks : List (Ask ℕ)) (one : Taken) : Type 0 where
  pub first : HeldAsk
  pub there : slice_get held one.first ≡ Some first
  pub others : List (Ask ℕ)
  pub begins : asks ≡ ask_in c first ∷ others
  pub keeps : Keeps c (asked_in asks) one.kept

-- Each label has what its asks keep, in the order in which the labels come first, and after each ask they kept something.
pub record AreTaken (c : Collection) (held : List HeldAsk) (asks : List (Ask ℕ)) (labels : List ℕ)
    (taken : List (ℕ × Taken)) : Type 0 where
  pub keys : keys_of taken ≡ each_label labels
  pub each : (l : ℕ) (one : Taken) → lookup (λ k. l == k) taken ≡ Some one → IsTakenOf c held (labelled l asks labels) one
  pub in_turn : AreKept asks labels
  pub no_more : (l : ℕ) → lookup (λ k. l == k) taken ≡ None → labelled l asks labels ≡ []

-- the asks stand, and no interface exports a name twice
pub record AreSound (c : Collection) (held : List HeldAsk) : Type 0 where
  pub stand : (x : HeldAsk) → Among x held → Stands c x.item
  pub differ : NamesDiffer c

-- the asks of a sound collection are taken by their labels
abbrev pub TakesAll : Collection → List HeldAsk → List ℕ → Collection → List (ℕ × Taken) → Type 0
TakesAll c held labels d taken = AreSound c held → length labels ≡ length held → AreTaken d held (asks_in c held) labels taken

-- each class of the asks keeps something
abbrev pub AreMerged : List (Ask ℕ) → Type 0
AreMerged asks = (a : Ask ℕ) → Among a asks → is_some (kept (asked_in (class asks a))) ≡ true

abbrev pub MergesLabelled : Collection → List HeldAsk → List ℕ → Type 0
MergesLabelled c held labels = AreSound c held → AreLabels (asks_in c held) labels → AreMerged (asks_in c held)

-- what is asked merges, class by class, where it stands
abbrev pub Merges : Asked → Type 0
Merges a = ((x : HeldAsk) → Among x a.asks.items → Stands a.types x.item) → AreMerged (asks_in a.types a.asks.items)

-- ---- refusals

-- what stands against the ask, behind the first one of its class
abbrev pub conflict_by : HeldAsking → HeldAsk → (first : ℕ) → Cause ℕ
conflict_by HeldAsking.ByName a first = ExplicitImport a.name first a.by
conflict_by k a first = ImportTypes a.name first a.by

abbrev pub conflict_of : HeldAsk → (first : ℕ) → Cause ℕ
conflict_of a first = conflict_by a.asking a first

-- where it is refused for what was asked, this holds of its cause and its source; that of an import by its name is not handed on
abbrev pub IfConflict : OuterError → (Cause ℕ → AggregateError → Type 0) → Type 0
IfConflict (OuterError.ExplicitImportConflict n first second) P =
    (source : AggregateError) × P (ExplicitImport (string_bytes n) first second) source
IfConflict (OuterError.ImportTypeMergeConflict n first second source) P = P (ImportTypes (string_bytes n) first second) source
IfConflict OuterError.Memory P = Unit {0}

-- it is refused for want of memory alone
abbrev pub IsNoConflict : OuterError → Type 0
IsNoConflict e = IfConflict e (λ cause source. ⊥)

-- no want of memory
abbrev pub IsMerging : AggregateError → Type 0
IsMerging AggregateError.Memory = ⊥
IsMerging e = Unit {0}

abbrev pub NamesConflict : HeldAsk → (first : ℕ) → AggregateError → OuterError → Type 0
NamesConflict a first source e =
    IfConflict e (λ cause told. (cause ≡ conflict_of a first) × (told ≡ source) × IsMerging source)

-- With this ask nothing is kept of what was asked before, where the first is among that; and the source tells how they are apart.
abbrev pub KeepsNone : Collection → Kept → (first ask : HeldAsk) → (source : AggregateError) → Type 0
KeepsNone c before first ask source = (asks : List AskedPair) → Among (pair_in c first) asks → Stands c ask.item
    → IsWell (stated_of c ask.item) → Keeps c asks before → TellsUnmerged source asks (pair_in c ask)

abbrev pub RefusesMore : Collection → List HeldAsk → Taken → HeldAsk → Cause ℕ → AggregateError → Type 0
RefusesMore c asks before a cause source =
    (x : HeldAsk) → slice_get asks before.first ≡ Some x → (cause ≡ conflict_of a x.by) × KeepsNone c before.kept x a source

-- a first ask is not refused
abbrev pub RefusesOne : Collection → List HeldAsk → Option Taken → HeldAsk → Cause ℕ → AggregateError → Type 0
RefusesOne c asks None a cause source = ⊥
RefusesOne c asks (Some before) a cause source = RefusesMore c asks before a cause source

abbrev pub RefusesAt : Collection → List HeldAsk → (at class : ℕ) → List (ℕ × Taken) → Cause ℕ → AggregateError → Type 0
RefusesAt c asks at class old cause source =
    (a : HeldAsk) → slice_get asks at ≡ Some a → RefusesOne c asks (lookup (λ k. class == k) old) a cause source

-- Those before an ask keep something in turn, by their labels, and with it those of its label keep nothing; the source tells how
-- they are apart.
pub record RefusesAsk (asks : List (Ask ℕ)) (labels : List ℕ) (cause : Cause ℕ) (source : AggregateError) : Type 0 where
  pub before : List (Ask ℕ)
  pub ask : Ask ℕ
  pub later : List (Ask ℕ)
  pub labels_before : List ℕ
  pub label : ℕ
  pub labels_later : List ℕ
  pub asks_are : asks ≡ before ++ ask ∷ later
  pub labels_are : labels ≡ labels_before ++ label ∷ labels_later
  pub as_many : length labels_before ≡ length before
  pub in_turn : AreKept before labels_before
  pub nothing : kept (asked_in (labelled label (before ++ ask ∷ []) (labels_before ++ label ∷ []))) ≡ None
  pub tells : TellsUnmerged source (asked_in (labelled label before labels_before)) (ask.name, ask.item)
  pub is : Some cause ≡ merge_cause ask.asking ask (labelled label (before ++ ask ∷ []) (labels_before ++ label ∷ []))

abbrev pub RefusesAll : Collection → List HeldAsk → List ℕ → Cause ℕ → AggregateError → Type 0
RefusesAll c held labels cause source =
    AreSound c held → length labels ≡ length held → RefusesAsk (asks_in c held) labels cause source

abbrev pub HasNoneLabelled : Collection → List HeldAsk → List ℕ → Type 0
HasNoneLabelled c held labels =
    AreSound c held → AreLabels (asks_in c held) labels → merge_conflict (asks_in c held) [] (asks_in c held) ≡ None

-- ---- of the graph that asks so

-- the composition's first conflict of imports
abbrev pub conflict_in : Graph → Option (Cause ℕ)
conflict_in g = merge_conflict (asks_of (composition_of g)) [] (asks_of (composition_of g))

-- the source tells how the ask that conflicts first is apart from those before it in its class
abbrev pub TellsConflictIn : Graph → AggregateError → Type 0
TellsConflictIn g source = TellsConflict source (asks_of (composition_of g))

abbrev pub ConflictsFor : Asked → Cause ℕ → AggregateError → Type 0
ConflictsFor a cause source = (g : Graph) → IsAsked g a → (conflict_in g ≡ Some cause) × TellsConflictIn g source

abbrev pub HasNoConflict : Asked → Type 0
HasNoConflict a = (g : Graph) → IsAsked g a → conflict_in g ≡ None
