-- A text cut into blanks, comments, tokens and faults.
use Rattle.std.specs.Prelude.{ℕ, zero, suc, ◌+◌, ◌-◌, ◌<◌, ◌≤◌, ◌^◌, Bool, true, false, ◌&&◌, ◌||◌, ◌==◌, nat_lt, if◌then◌else◌, List, [], ◌∷◌, length, take, drop, slice_index, slice_range, Option, Some, None, Result, Ok, Err}
use Rattle.std.specs.List.{prefix_len}
use Rattle.std.specs.Str.{IsCharBoundary}
use Rattle.wac_parser_lexer.specs.declared.span.SourceSpan.{SourceSpan}
use Rattle.wac_parser_lexer.specs.declared.token.Token.{Token}
use Rattle.wac_parser_lexer.specs.declared.token.Token.TheVariants as k
use Rattle.wac_parser_lexer.specs.declared.error.Error.{Error}
use Rattle.wac_parser_lexer.specs.declared.error.Error.TheVariants as fault
use Rattle.wac_parser_lexer.specs.Scan.{block_comment_len}
use Rattle.wac_parser_lexer.specs.Words.{opens_comment}
use Rattle.wac_parser_lexer.specs.Front.{token_at}

-- space, tab, carriage return, line feed
abbrev pub is_blank : ℕ → Bool
is_blank b = b == 32 || b == 9 || b == 13 || b == 10

-- a byte of a character that is not its first
abbrev pub is_continuation : ℕ → Bool
is_continuation b = nat_lt 127 b && nat_lt b 192

-- the comments, which are skipped
abbrev pub is_comment : Token → Bool
is_comment k.Comment = true
is_comment k.BlockComment = true
is_comment _ = false

-- the text begins with a `/*` that has no `*/`
abbrev pub is_unclosed : List ℕ → Bool
is_unclosed z = opens_comment (slice_index z 0) (slice_index z 1) && block_comment_len z == 0

-- how many bytes the first character has
abbrev pub char_len : List ℕ → ℕ
char_len z = 1 + prefix_len is_continuation (drop 1 z)

-- a token, or the fault at a character that begins none
abbrev pub token_or_fault : List ℕ → Option (Token × ℕ) → Option (Result Token Error) × ℕ
token_or_fault z (Some t) = (if is_comment t.0 then None else Some (Ok t.0), t.1)
token_or_fault z None =
    if slice_index z 0 == 34 then (Some (Err fault.UnterminatedString), 1) else (Some (Err fault.UnexpectedToken), char_len z)

-- what stands at the front of a text, nothing for blanks and comments, and how long it is
unfoldable pub front_piece : List ℕ → Option (Result Token Error) × ℕ
front_piece z =
    if is_blank (slice_index z 0) then (None, 1)
    else (if is_unclosed z then (Some (Err fault.UnterminatedComment), length z) else token_or_fault z (token_at z))

-- blanks or a comment, or a token or a fault
pub data Piece : Type 0 where
  skipped : SourceSpan → List ℕ → Piece
  item : Result Token Error → SourceSpan → Piece

abbrev pub piece_by : ℕ → List ℕ → Option (Result Token Error) × ℕ → Piece
piece_by at z (None, n) = skipped (record { offset = at; length = n }) (take n z)
piece_by at z (Some token, n) = item token (record { offset = at; length = n })

-- The pieces from a place on; the first number counts the bytes that the present piece still has.
unfoldable pub pieces_from : ℕ → ℕ → List ℕ → List Piece
pieces_from left at [] = []
pieces_from (suc left) at (b ∷ z) = pieces_from left (at + 1) z
pieces_from zero at (b ∷ z) = piece_by at (b ∷ z) (front_piece (b ∷ z)) ∷ pieces_from ((front_piece (b ∷ z)).1 - 1) (at + 1) z

-- the pieces of a source from a place on
abbrev pub pieces_at : List ℕ → ℕ → List Piece
pieces_at source at = pieces_from 0 at (drop at source)

-- The span lies in the source, on the bounds of characters.
pub record IsSpanIn (source : List ℕ) (span : SourceSpan) : Type 0 where
  pub small : span.offset + span.length < 2 ^ 64
  pub within : span.offset + span.length ≤ length source
  pub begins : IsCharBoundary source span.offset
  pub ends : IsCharBoundary source (span.offset + span.length)

-- the text at a span of the source
abbrev pub text_at : List ℕ → SourceSpan → List ℕ
text_at source span = slice_range source span.offset (span.offset + span.length)
