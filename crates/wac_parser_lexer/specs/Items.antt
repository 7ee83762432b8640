-- The items of a source: its tokens and faults, each with the doc comments before it.
use Rattle.std.specs.Prelude.{◌≡◌, ◌≢◌, ℕ, ◌+◌, ◌-◌, Bool, true, false, ◌&&◌, ◌==◌, nat_eq, if◌then◌else◌, List, [], ◌∷◌, ◌++◌, length, take, drop, Option, Some, None, Result, Ok, Err, codes, IfSome, IsTrue, ◌≤◌}
use Rattle.std.specs.List.{starts_with, ends_with}
use Rattle.std.specs.Str.{trim}
use Rattle.wac_parser_lexer.specs.declared.span.SourceSpan.{SourceSpan}
use Rattle.wac_parser_lexer.specs.declared.token.Token.{Token}
use Rattle.wac_parser_lexer.specs.declared.error.Error.{Error}
use Rattle.std.specs.Str.{IsCharBoundary}
use Rattle.wac_parser_lexer.specs.Pieces.{Piece, skipped, item, pieces_at, IsSpanIn}

-- a doc comment: its text, and where the whole comment stands
pub record Doc : Type 0 where
  pub comment : List ℕ
  pub span : SourceSpan

-- the text of a doc comment, trimmed by white space: behind `///`, or between `/**` and `*/`
unfoldable pub doc_text : List ℕ → Option (List ℕ)
doc_text text =
    let inner = drop 3 text in
    if starts_with nat_eq text (codes "///") then Some (trim inner)
    else (if starts_with nat_eq text (codes "/**")
    && ends_with nat_eq inner (codes "*/") then Some (trim (take (length inner - 2) inner)) else None)

-- the doc comment that a skipped text is, if it is one
abbrev pub doc_by : SourceSpan → Option (List ℕ) → List Doc
doc_by span (Some text) = record { comment = text; span = span } ∷ []
doc_by span None = []

abbrev pub doc_in : SourceSpan → List ℕ → List Doc
doc_in span text = doc_by span (doc_text text)

-- a token or a fault, where it stands, and the doc comments before it
pub record Item : Type 0 where
  pub docs : List Doc
  pub token : Result Token Error
  pub span : SourceSpan

-- the items of pieces, behind doc comments
abbrev pub items_of : List Doc → List Piece → List Item
items_of docs [] = []
items_of docs (skipped span text ∷ ps) = items_of (docs ++ doc_in span text) ps
items_of docs (item token span ∷ ps) = record { docs = docs; token = token; span = span } ∷ items_of [] ps

-- the doc comments behind the last item
abbrev pub docs_behind : List Doc → List Piece → List Doc
docs_behind docs [] = docs
docs_behind docs (skipped span text ∷ ps) = docs_behind (docs ++ doc_in span text) ps
docs_behind docs (item token span ∷ ps) = docs_behind [] ps

-- the first item of pieces
abbrev pub ahead : List Piece → Option (Result Token Error × SourceSpan)
ahead [] = None
ahead (skipped span text ∷ ps) = ahead ps
ahead (item token span ∷ ps) = Some (token, span)

-- the pieces behind the first item
abbrev pub behind : List Piece → List Piece
behind [] = []
behind (skipped span text ∷ ps) = behind ps
behind (item token span ∷ ps) = ps

-- the doc comments before the first item of pieces
abbrev pub docs_before : List Doc → List Piece → List Doc
docs_before docs [] = docs
docs_before docs (skipped span text ∷ ps) = docs_before (docs ++ doc_in span text) ps
docs_before docs (item token span ∷ ps) = docs

-- what a lexer has left to give, and the span of the item that it gave last
pub record Input : Type 0 where
  pub source : List ℕ
  pub items : List Item
  pub docs : List Doc
  pub last : SourceSpan

-- the items from a place in a source on
abbrev pub input_at : List ℕ → ℕ → SourceSpan → Input
input_at source at last =
    record {
      source = source;
      items = items_of [] (pieces_at source at);
      docs = docs_behind []
          (pieces_at source at);
      last = last;
    }

-- a whole source
abbrev pub input_of : List ℕ → Input
input_of source = input_at source 0 (record { offset = 0; length = 0 })

-- the first item
abbrev pub first_of_items : List Item → Option (Result Token Error × SourceSpan)
first_of_items [] = None
first_of_items (i ∷ is) = Some (i.token, i.span)

abbrev pub rest_of_items : List Item → List Item
rest_of_items [] = []
rest_of_items (i ∷ is) = is

abbrev pub first_item : Input → Option (Result Token Error × SourceSpan)
first_item input = first_of_items input.items

-- the item behind the first
abbrev pub second_item : Input → Option (Result Token Error × SourceSpan)
second_item input = first_of_items (rest_of_items input.items)

-- the token of an item, if it is one
abbrev pub token_of : Option (Result Token Error × SourceSpan) → Option Token
token_of None = None
token_of (Some (Ok token, span)) = Some token
token_of (Some (Err fault, span)) = None

-- the token that comes next, if one does
abbrev pub next_token : Input → Option Token
next_token input = token_of (first_item input)

-- the doc comments before the end, which are passed at the end
abbrev pub docs_left : List Doc → List Item → List Doc
docs_left docs [] = []
docs_left docs (i ∷ is) = docs

-- the span of the first item, or the empty span at the end
abbrev pub next_span : List ℕ → List Item → SourceSpan
next_span source [] = record { offset = length source; length = 0 }
next_span source (i ∷ is) = i.span

-- what is left once the first item is taken, or the end is reached
abbrev pub rest_input : Input → Input
rest_input input = record {
  source = input.source;
  items = rest_of_items input.items;
  docs = docs_left input.docs input.items;
  last = next_span input.source input.items;
}

-- the doc comments before the first item, or before the end
abbrev pub docs_by : List Doc → List Item → List Doc
docs_by docs [] = docs
docs_by docs (i ∷ is) = i.docs

abbrev pub docs_ahead : Input → List Doc
docs_ahead input = docs_by input.docs input.items

-- the last item's span; where it ends at the source's end, one byte from its first place back
abbrev pub shown_span : Input → SourceSpan
shown_span input =
    if input.last.offset + input.last.length == length input.source then record
    { offset = input.last.offset - 1; length = 1 } else input.last

-- the token and the fault that an item is
abbrev pub token_part : Option (Result Token Error) → Option Token
token_part None = None
token_part (Some (Ok token)) = Some token
token_part (Some (Err fault)) = None

abbrev pub fault_part : Option (Result Token Error) → Option Error
fault_part None = None
fault_part (Some (Ok token)) = None
fault_part (Some (Err fault)) = Some fault

-- an item by these two, at a span
abbrev pub found_by : Option Token → Option Error → SourceSpan → Option (Result Token Error × SourceSpan)
found_by (Some token) fault span = Some (Ok token, span)
found_by None (Some fault) span = Some (Err fault, span)
found_by None None span = None

-- whether these two are of no item
abbrev pub is_end : Option Token → Option Error → Bool
is_end (Some token) fault = false
is_end None (Some fault) = false
is_end None None = true

-- what is scanned ahead of a place: the first item and the place behind it
pub record IsScanned (source : List ℕ) (at : ℕ) (token : Option Token) (fault : Option Error) (span : SourceSpan) (rest : ℕ)
    (bare : Bool) : Type 0 where
  pub first : found_by token fault span ≡ ahead (pieces_at source at)
  pub others : pieces_at source rest ≡ behind (pieces_at source at)
  pub edge : IsCharBoundary source rest
  pub within : IfSome (found_by token fault span) (λ r. IsSpanIn source r.1)
  pub no_docs : IsTrue bare → docs_before [] (pieces_at source at) ≡ []

-- what a lexer keeps at a place: the next item and the place behind it
pub record IsReady (source : List ℕ) (at : ℕ) (last : SourceSpan) (next : Option (Result Token Error × SourceSpan)) (rest : ℕ)
    (bare : Bool) : Type 0 where
  pub place : IsCharBoundary source at
  pub taken : last.offset + last.length ≤ length source
  pub first : next ≡ ahead (pieces_at source at)
  pub others : pieces_at source rest ≡ behind (pieces_at source at)
  pub edge : IsCharBoundary source rest
  pub within : IfSome next (λ r. IsSpanIn source r.1)
  pub no_docs : IsTrue bare → docs_before [] (pieces_at source at) ≡ []

-- What `next` does: it gives the first item, whose span lies in the source, and leaves the rest.
pub record Gives (old : Input) (found : Option (Result Token Error × SourceSpan)) (new : Input) : Type 0 where
  pub value : found ≡ first_item old
  pub after : new ≡ rest_input old
  pub source : new.source ≡ old.source
  pub within : IfSome found (λ r. IsSpanIn new.source r.1)

-- What `take` does: it gives the first item's span, which lies in the source, and leaves the rest, if that item is the token;
-- else all stays.
abbrev pub Takes : Token → Input → Option SourceSpan → Input → Type 0
Takes token old (Some span) new = (first_item old ≡ Some (Ok token, span)) × (new ≡ rest_input old) × IsSpanIn old.source span
Takes token old None new = ((span : SourceSpan) → first_item old ≢ Some (Ok token, span)) × (new ≡ old)
