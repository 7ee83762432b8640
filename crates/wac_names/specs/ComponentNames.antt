-- The names of imports and exports, by their kinds (Component Model, explainer: import and export definitions).
use Rattle.std.specs.Prelude.{◌≡◌, ◌≢◌, ◌==◌, ℕ, List, [], ◌∷◌, ◌++◌, codes, ◌⊎◌, Bool, true, false, ◌&&◌, ◌||◌, Ok}
use Rattle.std.specs.List.{AllByRecursion, list_all, list_any, join_with_byte}
use Rattle.std.specs.Char.{is_ascii_lowercase, is_ascii_uppercase, is_ascii_digit}
use Rattle.semver.specs.Parse.{Parts, version_parts}
use Rattle.wac_names.specs.declared.names.NameKind.{NameKind}
use Rattle.wac_names.specs.declared.names.NameKind.TheVariants as kind

-- a word: `[a-z][a-z0-9]*` or `[A-Z][A-Z0-9]*`
abbrev pub lower_or_digit : ℕ → Bool
lower_or_digit b = is_ascii_lowercase b || is_ascii_digit b

abbrev pub upper_or_digit : ℕ → Bool
upper_or_digit b = is_ascii_uppercase b || is_ascii_digit b

abbrev pub lower_word : List ℕ → Bool
lower_word [] = false
lower_word (b ∷ bs) = is_ascii_lowercase b && list_all lower_or_digit bs

abbrev pub upper_word : List ℕ → Bool
upper_word [] = false
upper_word (b ∷ bs) = is_ascii_uppercase b && list_all upper_or_digit bs

abbrev pub word_test : List ℕ → Bool
word_test text = lower_word text || upper_word text

abbrev pub IsWord : List ℕ → Type 0
IsWord text = word_test text ≡ true

-- parts of that form, at least one, with a byte between each two
pub record IsJoined (byte : ℕ) (P : List ℕ → Type 0) (text : List ℕ) : Type 0 where
  pub parts : List (List ℕ)
  pub is : text ≡ join_with_byte byte parts
  pub some : parts ≢ []
  pub each : AllByRecursion P parts

-- two parts of these forms, with a byte between them
pub record IsPair (byte : ℕ) (P Q : List ℕ → Type 0) (text : List ℕ) : Type 0 where
  pub first : List ℕ
  pub second : List ℕ
  pub is : text ≡ first ++ byte ∷ second
  pub left : P first
  pub right : Q second

-- a part of that form behind these bytes
pub record IsBehind (front : List ℕ) (P : List ℕ → Type 0) (text : List ℕ) : Type 0 where
  pub rest : List ℕ
  pub is : text ≡ front ++ rest
  pub form : P rest

-- a label: words joined by `-`
abbrev pub IsLabel : List ℕ → Type 0
IsLabel text = IsJoined 45 IsWord text

-- plain: label, `[constructor]`label, `[method]`label`.`label, `[static]`label`.`label
abbrev pub IsPlainName : List ℕ → Type 0
IsPlainName text = IsLabel text ⊎ (IsBehind (codes "[constructor]") IsLabel text
    ⊎ (IsBehind (codes "[method]") (IsPair 46 IsLabel IsLabel) text
    ⊎ IsBehind (codes "[static]") (IsPair 46 IsLabel IsLabel) text))

-- the text of a version
abbrev pub IsVersion : List ℕ → Type 0
IsVersion text = (p : Parts) × (version_parts text ≡ Ok p)

-- two or more labels joined by `:`, and one or more behind a `/` each
abbrev pub IsPath : List ℕ → Type 0
IsPath text = IsPair 47 (IsPair 58 IsLabel (IsJoined 58 IsLabel)) (IsJoined 47 IsLabel) text

-- interface: such a path, optionally with `@` and a version
abbrev pub IsInterfaceName : List ℕ → Type 0
IsInterfaceName text = IsPath text ⊎ IsPair 64 IsPath IsVersion text

-- what stands between `<` and the last byte, `>`: not empty, and without a further `<`
pub record IsInside (text : List ℕ) : Type 0 where
  pub inside : List ℕ
  pub is : text ≡ inside ++ 62 ∷ []
  pub some : inside ≢ []
  pub unbroken : AllByRecursion (λ b. (b == 60) ≡ false) inside

-- the name of a dependency
abbrev pub IsDependency : List ℕ → Type 0
IsDependency text = IsBehind (codes "unlocked-dep=<") IsInside text ⊎ IsBehind (codes "locked-dep=<") IsInside text

-- the text is a name of that kind
abbrev pub IsName : NameKind → List ℕ → Type 0
IsName kind.Plain text = IsPlainName text
IsName kind.Interface text = IsInterfaceName text
IsName kind.Dependency text = IsDependency text
IsName kind.Url text = IsBehind (codes "url=<") IsInside text
IsName kind.Hash text = IsBehind (codes "integrity=<") IsInside text

-- whether the byte stands in the text
abbrev pub has_byte : ℕ → List ℕ → Bool
has_byte c text = list_any (λ b. b == c) text
