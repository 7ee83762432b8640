-- What the pieces and the items of a source are, said of the source.
use Rattle.std.specs.Prelude.{◌≡◌, ℕ, ◌+◌, ◌<◌, ◌≤◌, ◌⊎◌, true, false, ◌==◌, List, [], ◌∷◌, ◌++◌, length, take, drop, slice_index, Result, Ok, Err}
use Rattle.std.specs.Char.{encode_utf8, len_utf8}
use Rattle.std.specs.Str.{IsUtf8}
use Rattle.wac_parser_lexer.specs.declared.token.Token.{Token}
use Rattle.wac_parser_lexer.specs.declared.error.Error.{Error}
use Rattle.wac_parser_lexer.specs.declared.error.Error.TheVariants as fault
use Rattle.wac_parser_lexer.specs.Words.{IsBlockComment}
use Rattle.wac_parser_lexer.specs.Tokens.{IsToken, IsNext}
use Rattle.wac_parser_lexer.specs.Pieces.{is_blank, is_comment, char_len, Piece, skipped, item, pieces_at, text_at}
use Rattle.wac_parser_lexer.specs.Items.{Item, input_of}

-- So many bytes at the front of the text are its longest token, of this kind.
abbrev pub IsFirst : List ℕ → Token → ℕ → Type 0
IsFirst z kind n = (n ≤ length z) × IsNext z kind (take n z) (drop n z)

-- No front of the text is a token.
abbrev pub HasNoToken : List ℕ → Type 0
HasNoToken z = (kind : Token) (word rest : List ℕ) → z ≡ word ++ rest → IsToken kind word → ⊥

-- No front of the text is a block comment.
abbrev pub HasNoComment : List ℕ → Type 0
HasNoComment z = (word rest : List ℕ) → z ≡ word ++ rest → IsBlockComment word → ⊥

-- The text begins with a `/*` that has no `*/`.
abbrev pub IsUnclosed : List ℕ → Type 0
IsUnclosed z = (rest : List ℕ) × (z ≡ 47 ∷ 42 ∷ rest) × HasNoComment z

-- Neither a blank nor such a `/*` is at the front.
abbrev pub IsPlain : List ℕ → Type 0
IsPlain z = (is_blank (slice_index z 0) ≡ false) × (IsUnclosed z → ⊥)

-- So many bytes at the front of the text are skipped: a blank, or a comment.
abbrev pub IsSkipped : List ℕ → ℕ → Type 0
IsSkipped z n = ((is_blank (slice_index z 0) ≡ true) × (n ≡ 1))
    ⊎ (IsPlain z × ((kind : Token) × (is_comment kind ≡ true) × IsFirst z kind n))

-- So many bytes at the front of the text are this item.
abbrev pub IsItem : List ℕ → Result Token Error → ℕ → Type 0
IsItem z (Ok kind) n = IsPlain z × (is_comment kind ≡ false) × IsFirst z kind n
IsItem z (Err fault.UnterminatedComment) n = IsUnclosed z × (n ≡ length z)
IsItem z (Err fault.UnterminatedString) n = IsPlain z × (slice_index z 0 ≡ 34) × HasNoToken z × (n ≡ 1)
IsItem z (Err fault.UnexpectedToken) n =
    IsPlain z × (0 < length z) × ((slice_index z 0 == 34) ≡ false) × HasNoToken z × (n ≡ char_len z)
IsItem z (Err _) n = ⊥

-- The pieces are those of the source from this place on, one behind the other, to its end.
abbrev pub Stands : List ℕ → ℕ → List Piece → Type 0
Stands source at [] = at ≡ length source
Stands source at (skipped span text ∷ ps) = (span.offset ≡ at) × (text ≡ text_at source span)
    × IsSkipped (drop at source) span.length × Stands source (at + span.length) ps
Stands source at (item token span ∷ ps) =
    (span.offset ≡ at) × IsItem (drop at source) token span.length × Stands source (at + span.length) ps

-- The items lie in the source in order, none over another, from this place on, and each is what stands there.
abbrev pub StandInOrder : List ℕ → ℕ → List Item → Type 0
StandInOrder source from [] = from ≤ length source
StandInOrder source from (i ∷ is) =
    (from ≤ i.span.offset) × (0 < i.span.length) × IsItem (drop i.span.offset source) i.token i.span.length
    × StandInOrder source (i.span.offset + i.span.length) is

-- every source is cut whole into its pieces, and in no other way
abbrev pub SourcesAreCut : Type 0
SourcesAreCut =
    (source : List ℕ) → Stands source 0 (pieces_at source 0) × ((ps : List Piece) → Stands source 0 ps → ps ≡ pieces_at source 0)

-- the items of every source stand in order
abbrev pub ItemsStandInOrder : Type 0
ItemsStandInOrder = (source : List ℕ) → StandInOrder source 0 (input_of source).items

-- the fault at a character of a text is over that character alone
abbrev pub FaultIsOneCharacter : Type 0
FaultIsOneCharacter =
    (z : List ℕ) → IsUtf8 z → 0 < length z → (c : ℕ) × (rest : List ℕ) × (z ≡ encode_utf8 c ++ rest) × (char_len z ≡ len_utf8 c)
