-- Labels of asks while they are being joined: an ask before each that it is joined with, or itself.
use Rattle.std.specs.Prelude.{◌≡◌, ℕ, ◌<◌, ◌⊎◌, List, length, slice_index_or, Option, Some, None}
use Rattle.wac_types_base.specs.Entries.{Name, value_at, put_entry}

-- the label of each place; one without label is its own
abbrev pub label_at : List ℕ → ℕ → ℕ
label_at labels i = slice_index_or labels i i

-- from a place down its label, and that one's, as long as they stand before
pub data LeadsTo (label : ℕ → ℕ) : ℕ → ℕ → Type 0 where
  there : {i : ℕ} → (label i < i → ⊥) → LeadsTo label i i
  down : {i r : ℕ} → label i < i → LeadsTo label (label i) r → LeadsTo label i r

-- two places lead to one
abbrev pub AreTogether : List ℕ → ℕ → ℕ → Type 0
AreTogether labels i j = (r : ℕ) × LeadsTo (label_at labels) i r × LeadsTo (label_at labels) j r

-- what was together with one of two places and what was with the other are together now, and nothing else is
pub record Joins (a b : ℕ) (old new : List ℕ) : Type 0 where
  pub as_many : length new ≡ length old
  pub kept : (i j : ℕ) → AreTogether old i j → AreTogether new i j
  pub joined : AreTogether new a b
  pub only : (i j : ℕ) → AreTogether new i j
      → AreTogether old i j ⊎ ((AreTogether old i a × AreTogether old b j) ⊎ (AreTogether old i b × AreTogether old a j))

-- each label is where it led
pub record AreSettled (old new : List ℕ) : Type 0 where
  pub as_many : length new ≡ length old
  pub each : (i : ℕ) → i < length old → LeadsTo (label_at old) i (label_at new i)

-- joined with the first of those that have the word, or now the first of them
abbrev pub JoinsUnder : Name → (at : ℕ) → (firsts after : List (Name × ℕ)) → (old new : List ℕ) → Type 0
JoinsUnder word at firsts after old new =
    ((first : ℕ) × (value_at firsts word ≡ Some first) × (after ≡ firsts) × Joins first at old new)
    ⊎ ((value_at firsts word ≡ None) × (after ≡ put_entry firsts word at) × (new ≡ old))

-- the same for what may have a word
abbrev pub JoinsBy : Option Name → (at : ℕ) → (firsts after : List (Name × ℕ)) → (old new : List ℕ) → Type 0
JoinsBy None at firsts after old new = (after ≡ firsts) × (new ≡ old)
JoinsBy (Some word) at firsts after old new = JoinsUnder word at firsts after old new
