-- Asked names in code, and what becomes of their labels.
use Rattle.std.specs.Prelude.{◌≡◌, ◌↔◌, ℕ, ◌<◌, List, ◌∷◌, [], ◌++◌, map, length, Option, Some, option_map, slice_get}
use Rattle.std.specs.Borrow.{Bor}
use Rattle.wac_types_base.specs.Entries.{Name, value_at}
use Rattle.wac_types_base.specs.Record.{Collection}
use Rattle.wac_types_names.specs.Tracks.{key_view}
use Rattle.wac_graph_asks.specs.declared.classes.Named.{Named}
use Rattle.wac_graph_asks.specs.declared.classes.Firsts.{Firsts}
use Rattle.wac_composition.specs.Asks.{Ask}
use Rattle.wac_composition.specs.Classes.{Linked, class, spelled}
use Rattle.wac_graph_asks.specs.declared.asks.Ask.{Ask as HeldAsk}
use Rattle.wac_graph_asks.specs.AsksIn.{asks_in}
use Rattle.wac_graph_asks.specs.Words.{Words, words_of, name_word, track_word, identifier_word}
use Rattle.wac_graph_asks.specs.Joining.{AreTogether, JoinsBy}
use Rattle.wac_graph_asks.specs.Classed.{AreLabels, AreSpellings}

-- a text that may be there
abbrev pub text_in : Option (Bor Name) → Option Name
text_in text = option_map (λ t. t.now) text

-- the words of an asked name
abbrev pub words_in : Named → Words
words_in n = record { name = n.name.now; track = option_map key_view n.track; identifier = text_in n.identifier }

abbrev pub all_words : List Named → List Words
all_words names = map words_in names

-- the names are those of these asks
abbrev pub AreNamed : List Named → List (Ask ℕ) → Type 0
AreNamed names asks = all_words names ≡ map words_of asks

-- the names of these asks are added behind the others
abbrev pub AddsNames : Collection → List HeldAsk → (old new : List Named) → Type 0
AddsNames types asks old new = all_words new ≡ all_words old ++ map words_of (asks_in types asks)

-- ---- joining

-- the first of each word stands before that place
abbrev pub AreBefore : ℕ → List (Name × ℕ) → Type 0
AreBefore n firsts = (word : Name) (first : ℕ) → value_at firsts word ≡ Some first → first < n

pub record FirstsBefore (n : ℕ) (firsts : Firsts) : Type 0 where
  pub names : AreBefore n firsts.by_name
  pub tracks : AreBefore n firsts.by_track
  pub identifiers : AreBefore n firsts.by_identifier

-- an ask gets a label, and is joined by its name, by its track and by its identifier
pub record JoinsAsk (words : Words) (at : ℕ) (firsts after : Firsts) (old new : List ℕ) : Type 0 where
  pub named : List ℕ
  pub tracked : List ℕ
  pub by_name : JoinsBy (name_word words) at firsts.by_name after.by_name (old ++ at ∷ []) named
  pub by_track : JoinsBy (track_word words) at firsts.by_track after.by_track named tracked
  pub by_identifier : JoinsBy (identifier_word words) at firsts.by_identifier after.by_identifier tracked new

-- ---- for whatever asks have these names

-- asks are together exactly where they are linked
pub record AreJoined (asks : List (Ask ℕ)) (labels : List ℕ) : Type 0 where
  pub as_many : length labels ≡ length asks
  pub each : (i j : ℕ) (a b : Ask ℕ) → slice_get asks i ≡ Some a → slice_get asks j ≡ Some b
      → AreTogether labels i j ↔ Linked asks a b

abbrev pub JoinsNames : List Named → List ℕ → Type 0
JoinsNames names labels = (asks : List (Ask ℕ)) → AreNamed names asks → AreJoined asks labels

abbrev pub LabelsNames : List Named → List ℕ → Type 0
LabelsNames names labels = (asks : List (Ask ℕ)) → AreNamed names asks → AreLabels asks labels

-- where the labels are those of the asks, the spellings are theirs
abbrev pub SpellsNames : List Named → List ℕ → List ℕ → Type 0
SpellsNames names labels spellings =
    (asks : List (Ask ℕ)) → AreNamed names asks → AreLabels asks labels → AreSpellings asks labels spellings

-- ---- spelling

-- where the spellings are those of the asks, the text spells the class whose first ask stands at that place
abbrev pub SpellsClass : List HeldAsk → (labels spellings : List ℕ) → (first : ℕ) → Name → Type 0
SpellsClass asks labels spellings first text =
    (types : Collection) (a : Ask ℕ) → AreSpellings (asks_in types asks) labels spellings
    → slice_get labels first ≡ Some first → slice_get (asks_in types asks) first ≡ Some a
    → text ≡ spelled (class (asks_in types asks) a)
