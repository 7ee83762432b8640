-- Which faults stand in a source.
use Rattle.std.specs.Prelude.{◌≡◌, ◌≢◌, ◌⊎◌, ℕ, List, [], ◌∷◌, length, Option, Some, None, Ok, Err}
use Rattle.semver.specs.Parse.{version_parts}
use Rattle.semver.specs.declared.error.Error as version_error
use Rattle.wac_types_names.specs.Tracks.{IsTrack}
use Rattle.wac_parser_lexer.specs.declared.span.SourceSpan.{SourceSpan}
use Rattle.wac_parser_lexer.specs.declared.token.Token.{Token}
use Rattle.wac_parser_lexer.specs.declared.token.Token.TheVariants as k
use Rattle.wac_parser_lexer.specs.Pieces.{text_at}
use Rattle.wac_parser_lexer.specs.Items.{Input, first_item, rest_input, shown_span}
use Rattle.wac_parser_grammar.specs.Places.{IsBehind}
use Rattle.wac_parser_grammar.specs.Faults.{Fault, lexer, expected, expected_either, expected_multiple, empty_type, invalid_version, nested_too_deep, memory}
use Rattle.wac_parser_grammar.specs.Names.{behind_first, end_of}
use Rattle.wac_parser_grammar.specs.Nesting.{types, expressions, BeginsDeeper}

-- The token stands at the place, or the end is there; the end is shown before it is passed or after.
abbrev pub IsFound : Input → Option Token → SourceSpan → Type 0
IsFound s (Some t) span = first_item s ≡ Some (Ok t, span)
IsFound s None span = (s.items ≡ []) × ((span ≡ shown_span s) ⊎ (span ≡ shown_span (rest_input s)))

-- None of the remembered tokens is this one.
abbrev pub IsNoneOf : List (Option Token) → Option Token → Type 0
IsNoneOf [] found = Unit {0}
IsNoneOf (None ∷ ks) found = IsNoneOf ks found
IsNoneOf (Some k ∷ ks) found = (found ≢ Some k) × IsNoneOf ks found

-- The name of a package, or a path into one, stands at the place.
abbrev pub IsNamed : Input → SourceSpan → Type 0
IsNamed s name = (first_item s ≡ Some (Ok k.PackageName, name)) ⊎ (first_item s ≡ Some (Ok k.PackagePath, name))

-- what is said of a fault of nesting, at a place, and of a text that is refused as a version
pub record Saying : Type 1 where
  pub deep : Input → SourceSpan → Type 0
  pub unread : List ℕ → Type 0

-- The fault stands at this place.
abbrev pub StandsAt : Saying → Input → Fault → Type 0
-- a faulty item
StandsAt said s (lexer e span) = first_item s ≡ Some (Err e, span)
-- a token, or the end, which is none of those that are named
StandsAt said s (expected k found span) = IsFound s found span × (found ≢ Some k)
StandsAt said s (expected_either a b found span) = IsFound s found span × (found ≢ Some a) × (found ≢ Some b)
StandsAt said s (expected_multiple ks n found span) = IsFound s found span × IsNoneOf ks found
-- an opening brace, and right behind it the closing one
StandsAt said s (empty_type ty kind span) = (opening : SourceSpan) × (first_item s ≡ Some (Ok k.OpenBrace, opening))
    × (first_item (rest_input s) ≡ Some (Ok k.CloseBrace, span))
-- a name or path; the text behind its `@`, up to its end, is no version, and what else is said of it
StandsAt said s (invalid_version text span) =
    (name : SourceSpan) × IsNamed s name × (behind_first 64 (text_at s.source name) ≡ Some text)
    × (span ≡ end_of name (length text))
    × (e : version_error.Error) × (version_parts text ≡ Err e) × said.unread text
-- what begins too deep behind it
StandsAt said s (nested_too_deep span) = said.deep s span
StandsAt said s memory = ⊥

-- The fault stands at a place that lies behind this one, or here.
abbrev pub StandsBy : Saying → Input → Fault → Type 0
StandsBy said s fault = (place : Input) × IsBehind place s × StandsAt said place fault

-- A type or an expression begins so many levels deeper.
abbrev pub BeginsTooDeep : ℕ → Input → SourceSpan → Type 0
BeginsTooDeep n s span = BeginsDeeper types n s span ⊎ BeginsDeeper expressions n s span

-- that, and of a text nothing more
abbrev pub IsTooDeep : ℕ → Saying
IsTooDeep n = record { deep = BeginsTooDeep n; unread = λ text. Unit {0} }

-- that, and the text is no version track
abbrev pub IsUntracked : ℕ → Saying
IsUntracked n = record { deep = BeginsTooDeep n; unread = λ text. IsTrack text → ⊥ }

-- The fault stands where there is room for so many levels.
abbrev pub Stands : ℕ → Input → Fault → Type 0
Stands n = StandsBy (IsTooDeep n)
