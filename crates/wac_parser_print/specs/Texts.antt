-- Texts over a source, and how they are put together.
use Rattle.std.specs.Prelude.{ℕ, zero, suc, ◌+◌, ◌-◌, ◌^◌, min, List, [], ◌∷◌, ◌++◌, Option, Some, None, codes}
use Rattle.wac_parser_lexer.specs.declared.span.SourceSpan.{SourceSpan}
use Rattle.wac_parser_lexer.specs.Pieces.{text_at}

-- the source that names are taken from, and the unit of indentation
pub record Layout : Type 0 where
  pub source : List ℕ
  pub space : List ℕ

-- what is printed in a layout
abbrev pub Text : Type 0
Text = Layout → List ℕ

unfoldable pub nothing : Text
nothing = λ layout. []

-- these bytes
unfoldable pub word : List ℕ → Text
word bytes = λ layout. bytes

-- what the source has at a span, as far as the source goes
unfoldable pub slice : SourceSpan → Text
slice span = λ layout. text_at layout.source span

-- one text, and then another
infixr 10 ◌>>◌
unfoldable pub ◌>>◌ : Text → Text → Text
f >> g = λ layout. f layout ++ g layout

unfoldable pub line_end : Text
line_end = word (10 ∷ [])

-- one unit of indentation
unfoldable pub unit : Text
unit = λ layout. layout.space

-- so many units of indentation
unfoldable pub indent : ℕ → Text
indent zero = nothing
indent (suc n) = unit >> indent n

-- one level more; the greatest number stays
abbrev pub deeper : ℕ → ℕ
deeper level = min (level + 1) (2 ^ 64 - 1)

-- the texts of some values, one after another
unfoldable pub each : {A : Type 0} → (A → Text) → List A → Text
each f [] = nothing
each f (x ∷ xs) = f x >> each f xs

-- the same, with these bytes between each two
unfoldable pub joined : {A : Type 0} → List ℕ → (A → Text) → List A → Text
joined between f [] = nothing
joined between f (x ∷ xs) = f x >> each (λ y. word between >> f y) xs

-- the same, each ended by a line feed, with an empty line between each two
abbrev pub paragraphs : {A : Type 0} → (A → Text) → List A → Text
paragraphs f xs = joined (10 ∷ []) (λ x. f x >> line_end) xs

-- a text in braces; it begins with a line of its own, and so does the closing brace
unfoldable pub body_opening : Text
body_opening = word (codes " {") >> line_end

unfoldable pub body_closing : ℕ → Text
body_closing level = indent level >> word (codes "}")

abbrev pub body : ℕ → Text → Text
body level text = body_opening >> text >> body_closing level

-- a text that ends a line with a comma
unfoldable pub entry_end : Text
entry_end = word (codes ",") >> line_end

abbrev pub ended : Text → Text
ended text = text >> entry_end

-- values in braces, each on lines of its own that end with a comma
abbrev pub body_of_entries : {A : Type 0} → (ℕ → A → Text) → ℕ → List A → Text
body_of_entries f level xs = body level (each (λ x. ended (f (deeper level) x)) xs)

-- values in braces, with an empty line between each two
abbrev pub body_of_items : {A : Type 0} → (ℕ → A → Text) → ℕ → List A → Text
body_of_items f level xs = body level (paragraphs (f (deeper level)) xs)

-- a text behind an opening and before `>`
abbrev pub enclosed : List ℕ → Text → Text
enclosed opening text = word opening >> text >> word (codes ">")

-- a line of its own
abbrev pub own_line : ℕ → Text → Text
own_line level text = indent level >> text >> line_end

-- a result by the texts of its success and of its failure
abbrev pub result_of : Option Text → Option Text → Text
result_of None None = word (codes "result")
result_of None (Some g) = enclosed (codes "result<_, ") g
result_of (Some f) None = enclosed (codes "result<") f
result_of (Some f) (Some g) = enclosed (codes "result<") (f >> word (codes ", ") >> g)
