-- What the words of the language are, as bytes.
use Rattle.std.specs.Prelude.{◌≡◌, ℕ, ◌⊎◌, Bool, true, false, ◌&&◌, ◌||◌, ◌==◌, nat_le, if◌then◌else◌, List, [], ◌∷◌, ◌++◌}
use Rattle.std.specs.List.{AllByRecursion}

-- `a` to `z`
abbrev pub is_lower : ℕ → Bool
is_lower b = nat_le 97 b && nat_le b 122

-- `A` to `Z`
abbrev pub is_upper : ℕ → Bool
is_upper b = nat_le 65 b && nat_le b 90

-- `0` to `9`
abbrev pub is_digit : ℕ → Bool
is_digit b = nat_le 48 b && nat_le b 57

-- `a` to `z`, `A` to `Z`
abbrev pub is_letter : ℕ → Bool
is_letter b = is_lower b || is_upper b

-- what may follow a lower-case letter in a word
abbrev pub is_lower_word_byte : ℕ → Bool
is_lower_word_byte b = is_lower b || is_digit b

-- what may follow an upper-case letter in a word
abbrev pub is_upper_word_byte : ℕ → Bool
is_upper_word_byte b = is_upper b || is_digit b

-- a digit, a letter, `-` or `+`: what a version has behind its first dot
abbrev pub is_version_byte : ℕ → Bool
is_version_byte b = is_digit b || is_lower b || is_upper b || b == 45 || b == 43

-- every byte of the text passes the test
abbrev pub Passes : (ℕ → Bool) → List ℕ → Type 0
Passes p = AllByRecursion (λ b. p b ≡ true)

-- one or more bytes that pass a test
abbrev pub IsRun : (ℕ → Bool) → List ℕ → Type 0
IsRun p [] = ⊥
IsRun p (c ∷ cs) = Passes p (c ∷ cs)

-- a letter, and letters of its case or digits
abbrev pub IsWord : List ℕ → Type 0
IsWord [] = ⊥
IsWord (c ∷ cs) = ((is_lower c ≡ true) × Passes is_lower_word_byte cs) ⊎ ((is_upper c ≡ true) × Passes is_upper_word_byte cs)

-- one or more of a kind, joined by a byte
pub data Joined (L : List ℕ → Type 0) (joint : ℕ) : List ℕ → Type 0 where
  one : {w : List ℕ} → L w → Joined L joint w
  more : {w ws : List ℕ} → L w → Joined L joint ws → Joined L joint (w ++ joint ∷ ws)

-- one of a kind, and behind a byte one of another
abbrev pub Followed : (List ℕ → Type 0) → ℕ → (List ℕ → Type 0) → List ℕ → Type 0
Followed L joint M w = (a : List ℕ) × (b : List ℕ) × L a × M b × (w ≡ a ++ joint ∷ b)

-- one of a kind, alone or followed by one of another
abbrev pub Suffixed : (List ℕ → Type 0) → ℕ → (List ℕ → Type 0) → List ℕ → Type 0
Suffixed L joint M w = L w ⊎ Followed L joint M w

-- words joined by `-`
abbrev pub IsLabel : List ℕ → Type 0
IsLabel = Joined IsWord 45

-- an identifier: a label, after a `%` or not
abbrev pub IsIdent : List ℕ → Type 0
IsIdent w = IsLabel w ⊎ ((label : List ℕ) × IsLabel label × (w ≡ 37 ∷ label))

-- two or more identifiers joined by `:`
abbrev pub IsNames : List ℕ → Type 0
IsNames = Followed IsIdent 58 (Joined IsIdent 58)

-- names, and one or more identifiers, each behind a `/`
abbrev pub IsPath : List ℕ → Type 0
IsPath = Followed IsNames 47 (Joined IsIdent 47)

-- the text of a version: digits, and any number of parts, each behind a `.`
abbrev pub IsVersion : List ℕ → Type 0
IsVersion = Suffixed (IsRun is_digit) 46 (Joined (IsRun is_version_byte) 46)

-- a package name: names, with a version behind `@` or not
abbrev pub IsPackageName : List ℕ → Type 0
IsPackageName = Suffixed IsNames 64 IsVersion

-- a package path: names and segments, with a version behind `@` or not
abbrev pub IsPackagePath : List ℕ → Type 0
IsPackagePath = Suffixed IsPath 64 IsVersion

-- any byte but the quote
abbrev pub is_unquoted : ℕ → Bool
is_unquoted b = if b == 34 then false else true

-- any byte but the line feed
abbrev pub is_in_line : ℕ → Bool
is_in_line b = if b == 10 then false else true

-- a string literal: `"` to the next `"`
abbrev pub IsString : List ℕ → Type 0
IsString w = (body : List ℕ) × Passes is_unquoted body × (w ≡ 34 ∷ body ++ 34 ∷ [])

-- a comment from `//` on, within its line
abbrev pub IsLineComment : List ℕ → Type 0
IsLineComment w = (body : List ℕ) × Passes is_in_line body × (w ≡ 47 ∷ 47 ∷ body)

-- the two bytes are `/*`
abbrev pub opens_comment : ℕ → ℕ → Bool
opens_comment b c = b == 47 && c == 42

-- the two bytes are `*/`
abbrev pub closes_comment : ℕ → ℕ → Bool
closes_comment b c = b == 42 && c == 47

-- what stands behind the `/*` of a comment, up to its own `*/`: bytes and whole comments
pub data Inside : List ℕ → Type 0 where
  close : Inside (42 ∷ 47 ∷ [])
  byte : {b c : ℕ} {w : List ℕ} → opens_comment b c ≡ false → closes_comment b c ≡ false → Inside (c ∷ w) → Inside (b ∷ c ∷ w)
  comment : {v w : List ℕ} → Inside v → Inside w → Inside (47 ∷ 42 ∷ (v ++ w))

-- a comment from `/*` to its `*/`, with comments of its kind inside
abbrev pub IsBlockComment : List ℕ → Type 0
IsBlockComment w = (body : List ℕ) × Inside body × (w ≡ 47 ∷ 42 ∷ body)
