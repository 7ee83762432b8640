-- Places in sources, as compilers show them.
use Rattle.std.specs.Prelude.{◌≡◌, ℕ, ◌+◌, ◌<◌, ◌≤◌, max, Bool, List, [], ◌∷◌, take, drop, reverse, length, filter, if◌then◌else◌, ◌==◌, ◌||◌, nat_lt, nat_le}
use Rattle.std.specs.Str.{IsCharBoundary}
use Rattle.wac_parser_lexer.specs.declared.span.SourceSpan.{SourceSpan}
use Rattle.wac_texts.specs.declared.place.Place.{Place}

-- a byte of UTF-8 begins a character, unless it continues one
abbrev pub begins_character : ℕ → Bool
begins_character b = nat_lt b 128 || nat_le 192 b

abbrev pub is_newline : ℕ → Bool
is_newline b = b == 10

abbrev pub newlines : List ℕ → ℕ
newlines text = length (filter is_newline text)

abbrev pub characters : List ℕ → ℕ
characters text = length (filter begins_character text)

-- the text's part in front of its first newline
abbrev pub first_line : List ℕ → List ℕ
first_line [] = []
first_line (b ∷ text) = if is_newline b then [] else b ∷ first_line text

-- how many characters stand behind the last newline
abbrev pub behind_newline : List ℕ → ℕ
behind_newline text = characters (first_line (reverse text))

-- the longest front of a text, of at most so many bytes, that ends where a character ends
pub record IsFront (text : List ℕ) (limit : ℕ) (front : List ℕ) : Type 0 where
  pub is : front ≡ take (length front) text
  pub within : length front ≤ limit
  pub boundary : IsCharBoundary text (length front)
  pub longest : (i : ℕ) → length front < i → i ≤ limit → IsCharBoundary text i → ⊥

-- the line and the column at which a span begins, both from 1 on, and how many characters it has in that line, at least 1
pub record IsPlace (source : List ℕ) (span : SourceSpan) (p : Place) : Type 0 where
  pub before : List ℕ
  pub spanned : List ℕ
  pub is_before : IsFront source span.offset before
  pub is_spanned : IsFront (drop (length before) source) span.length spanned
  pub line : p.line ≡ 1 + newlines before
  pub column : p.column ≡ 1 + behind_newline before
  pub width : p.width ≡ max 1 (characters (first_line spanned))
