-- Where the name and the segments of a package path stand.
use Rattle.std.specs.Prelude.{◌≡◌, ◌≢◌, ℕ, ◌+◌, ◌-◌, ◌^◌, ◌==◌, min, if◌then◌else◌, List, [], ◌∷◌, ◌++◌, length, Option, Some, None}
use Rattle.std.specs.List.{All}
use Rattle.wac_parser_lexer.specs.Pieces.{IsSpanIn, text_at}
use Rattle.wac_parser_tree.specs.Trees as t
use Rattle.wac_parser_tree.specs.Trees.{Span}

-- a text and where it stands
abbrev pub Segment : Type 0
Segment = List ℕ × Span

abbrev pub segment_text : Segment → List ℕ
segment_text s = s.0

abbrev pub HasNoSlash : Segment → Type 0
HasNoSlash s = All (λ b. b ≢ 47) s.0

-- a byte in front of the first text
abbrev pub in_front : ℕ → List (List ℕ) → List (List ℕ)
in_front b [] = (b ∷ []) ∷ []
in_front b (w ∷ ws) = (b ∷ w) ∷ ws

-- the texts between slashes
abbrev pub between_slashes : List ℕ → List (List ℕ)
between_slashes [] = [] ∷ []
between_slashes (b ∷ z) = if b == 47 then [] ∷ between_slashes z else in_front b (between_slashes z)

-- texts with a slash between each two
abbrev pub joined : List (List ℕ) → List ℕ
joined [] = []
joined (w ∷ []) = w
joined (w ∷ v ∷ ws) = w ++ 47 ∷ joined (v ∷ ws)

-- a place in a source: past the greatest one it is the greatest
abbrev pub place : ℕ → ℕ
place n = min n (2 ^ 64 - 1)

-- texts one behind the other, each with a slash behind it
abbrev pub placed : ℕ → List (List ℕ) → List Segment
placed at [] = []
placed at (w ∷ ws) = (w, record { offset = place at; length = length w }) ∷ placed (at + length w + 1) ws

-- the segments of a path stand behind its name and a slash
abbrev pub segment_spans : t.PackagePath → List Segment
segment_spans path = placed (path.span.offset + length path.name + 1) (between_slashes path.segments)

-- the name of a path stands at its start
abbrev pub package_name_span : t.PackagePath → Span
package_name_span path = record { offset = path.span.offset; length = length path.name }

-- the texts between the slashes of a text that is left
abbrev pub texts_left : Option (List ℕ) → List (List ℕ)
texts_left None = []
texts_left (Some text) = between_slashes text

-- the segments of a text that is left, from a place on
abbrev pub segments_left : ℕ → Option (List ℕ) → List Segment
segments_left at text = placed at (texts_left text)

-- The path is the text of a source at its span: a name, a slash, segments, and maybe more.
pub record IsPathIn (source : List ℕ) (path : t.PackagePath) : Type 0 where
  pub within : IsSpanIn source path.span
  pub text : text_at source path.span ≡ path.string
  pub more : List ℕ
  pub parts : path.string ≡ path.name ++ 47 ∷ (path.segments ++ more)

-- each text stands in the source at its span
abbrev pub StandsAt : List ℕ → Segment → Type 0
StandsAt source s = text_at source s.1 ≡ s.0

abbrev pub first_segment : List Segment → Option Segment
first_segment [] = None
first_segment (s ∷ ss) = Some s

abbrev pub other_segments : List Segment → List Segment
other_segments [] = []
other_segments (s ∷ ss) = ss

-- What `next` does: it gives the first segment and leaves the others.
pub record GivesSegment (old : List Segment) (found : Option Segment) (new : List Segment) : Type 0 where
  pub value : found ≡ first_segment old
  pub after : new ≡ other_segments old
