-- The items of pieces, from one to the next.
use Rattle.std.proofs.Common.{◌≡◌, ℕ, ◌<◌, true, false, List, [], ◌∷◌, ◌++◌, length, Option, Some, None, Result, Ok, Err, refl, ap, sym, ◌∙◌, arith}
use Rattle.std.proofs.lemmas.Option.{same_Some}
use Rattle.std.specs.Prelude.{⊤}
use Rattle.std.specs.Iterator.{MakesProgress, at_most}
use Rattle.wac_parser_lexer.specs.declared.span.SourceSpan.{SourceSpan}
use Rattle.wac_parser_lexer.specs.declared.token.Token.{Token}
use Rattle.wac_parser_lexer.specs.declared.error.Error.{Error}
use Rattle.wac_parser_lexer.specs.Pieces.{Piece, skipped, item, pieces_at}
use Rattle.wac_parser_lexer.specs.Items.{Doc, Item, Input, doc_in, items_of, docs_behind, ahead, behind, input_at, first_of_items, rest_of_items, docs_left, next_span, rest_input, first_item, token_of, found_by, is_end, Gives}
use Rattle.wac_parser_lexer.proofs.PieceLaws.{no_pieces}

pub first_ahead : (docs : List Doc) (ps : List Piece) → ahead ps ≡ first_of_items (items_of docs ps)
first_ahead docs [] = refl
first_ahead docs (skipped span text ∷ ps) = first_ahead (docs ++ doc_in span text) ps
first_ahead docs (item token span ∷ ps) = refl

pub rest_behind : (docs : List Doc) (ps : List Piece) → items_of [] (behind ps) ≡ rest_of_items (items_of docs ps)
rest_behind docs [] = refl
rest_behind docs (skipped span text ∷ ps) = rest_behind (docs ++ doc_in span text) ps
rest_behind docs (item token span ∷ ps) = refl

-- behind an item the doc comments before the end are the same
docs_same : (docs : List Doc) (ps : List Piece) (r : Result Token Error × SourceSpan) → ahead ps ≡ Some r → docs_behind [] (behind ps) ≡ docs_behind docs ps
docs_same docs [] r e = cc
docs_same docs (skipped span text ∷ ps) r e = docs_same (docs ++ doc_in span text) ps r e
docs_same docs (item token span ∷ ps) r e = refl

left_some : (ds docs : List Doc) (ps : List Piece) (r : Result Token Error × SourceSpan) → ahead ps ≡ Some r → ds ≡ docs_left ds (items_of docs ps)
left_some ds docs [] r e = cc
left_some ds docs (skipped span text ∷ ps) r e = left_some ds (docs ++ doc_in span text) ps r e
left_some ds docs (item token span ∷ ps) r e = refl

left_none : (ds docs : List Doc) (ps : List Piece) → ahead ps ≡ None → [] ≡ docs_left ds (items_of docs ps)
left_none ds docs [] e = refl
left_none ds docs (skipped span text ∷ ps) e = left_none ds (docs ++ doc_in span text) ps e
left_none ds docs (item token span ∷ ps) e = cc

span_some : (source : List ℕ) (docs : List Doc) (ps : List Piece) (r : Result Token Error × SourceSpan) → ahead ps ≡ Some r → r.1 ≡ next_span source (items_of docs ps)
span_some source docs [] r e = cc
span_some source docs (skipped span text ∷ ps) r e = span_some source (docs ++ doc_in span text) ps r e
span_some source docs (item token span ∷ ps) r e = sym (ap (λ (q : Result Token Error × SourceSpan). q.1) (same_Some _ _ e))

span_none : (source : List ℕ) (docs : List Doc) (ps : List Piece) → ahead ps ≡ None → record { offset = length source; length = 0 } ≡ next_span source (items_of docs ps)
span_none source docs [] e = refl
span_none source docs (skipped span text ∷ ps) e = span_none source (docs ++ doc_in span text) ps e
span_none source docs (item token span ∷ ps) e = cc

none_left : (docs : List Doc) (ps : List Piece) → ahead ps ≡ None → [] ≡ rest_of_items (items_of docs ps)
none_left docs [] e = refl
none_left docs (skipped span text ∷ ps) e = none_left (docs ++ doc_in span text) ps e
none_left docs (item token span ∷ ps) e = cc

made : List ℕ → List Item → List Doc → SourceSpan → Input
made source is ds span = record { source = source; items = is; docs = ds; last = span }

same : (source : List ℕ) (is js : List Item) (ds es : List Doc) (s t : SourceSpan) → is ≡ js → ds ≡ es → s ≡ t → made source is ds s ≡ made source js es t
same source is js ds es s t a b c = ap (λ (x : List Item). made source x ds s) a ∙ ap (λ (x : List Doc). made source js x s) b ∙ ap (made source js es) c

-- what a lexer shows once it has taken the item that it keeps
pub taken : (source : List ℕ) (at : ℕ) (last : SourceSpan) (rest : ℕ) (r : Result Token Error × SourceSpan) → ahead (pieces_at source at) ≡ Some r → pieces_at source rest ≡ behind (pieces_at source at)
    → input_at source rest r.1 ≡ rest_input (input_at source at last)
unfolding made
taken source at last rest r e others =
    let ps = pieces_at source at in
    same source _ _ _ _ _ _
    (ap (items_of []) others ∙ rest_behind [] ps)
    (ap (docs_behind []) others ∙ docs_same [] ps r e ∙ left_some (docs_behind [] ps) [] ps r e)
    (span_some source [] ps r e)

pub ended : (source : List ℕ) (at : ℕ) (last : SourceSpan) → ahead (pieces_at source at) ≡ None → input_at source (length source) (record { offset = length source; length = 0 }) ≡ rest_input (input_at source at last)
unfolding made
ended source at last e =
    let ps = pieces_at source at in
    let none = no_pieces source (length source) (omega arith) in
    same source _ _ _ _ _ _
    (ap (items_of []) none ∙ none_left [] ps e)
    (ap (docs_behind []) none ∙ left_none (docs_behind [] ps) [] ps e)
    (span_none source [] ps e)

-- what is kept is the first item
pub kept_first : (source : List ℕ) (at : ℕ) (last : SourceSpan) (next : Option (Result Token Error × SourceSpan)) (now : Input) → next ≡ ahead (pieces_at source at) → input_at source at last ≡ now
    → next ≡ first_item now
kept_first source at last next now first view = first ∙ first_ahead [] (pieces_at source at) ∙ ap first_item view

-- an item that is a token is noted as that token, and the other way round
pub token_found : (t : Option Token) (f : Option Error) (s span : SourceSpan) (k : Token) → found_by t f s ≡ Some (Ok k, span) → t ≡ Some k
token_found (Some t) f s span k e = let same : Ok t ≡ Ok k = ap (λ (q : Result Token Error × SourceSpan). q.0) (same_Some _ _ e) in cc
token_found None (Some x) s span k e = let same : Err x ≡ Ok k = ap (λ (q : Result Token Error × SourceSpan). q.0) (same_Some _ _ e) in cc
token_found None None s span k e = cc

pub found_token : (t : Option Token) (f : Option Error) (s : SourceSpan) (k : Token) → t ≡ Some k → found_by t f s ≡ Some (Ok k, s)
found_token t f s k e = ap (λ (o : Option Token). found_by o f s) e

-- what is noted is the end, or an item
pub end_found : (t : Option Token) (f : Option Error) (s : SourceSpan) → is_end t f ≡ true → found_by t f s ≡ None
end_found (Some t) f s e = cc
end_found None (Some x) s e = cc
end_found None None s e = refl

pub else_found : (t : Option Token) (f : Option Error) (s : SourceSpan) → is_end t f ≡ false → (r : Result Token Error) × (found_by t f s ≡ Some (r, s))
else_found (Some t) f s e = (Ok t, refl)
else_found None (Some x) s e = (Err x, refl)
else_found None None s e = let no : ⊥ = cc in absurd no

pub token_kept : (t : Option Token) (f : Option Error) (s : SourceSpan) → t ≡ token_of (found_by t f s)
token_kept (Some t) f s = refl
token_kept None (Some x) s = refl
token_kept None None s = refl

pub same_inside : (t : Option Token) (a b : Token) → t ≡ Some a → t ≡ Some b → a ≡ b
same_inside t a b e f = cc

-- taking an item leaves one less
pub fewer : (is : List Item) (r : Result Token Error × SourceSpan) → first_of_items is ≡ Some r → length (rest_of_items is) < length is
fewer [] r e = cc
fewer (i ∷ is) r e = omega arith

goes_some : (old new : Input) (r : Result Token Error × SourceSpan) → Some r ≡ first_item old → new ≡ rest_input old → length new.items < length old.items
goes_some old new r e after =
    let less = fewer old.items r (sym e) in
    omega (arith, less, ap (λ (i : Input). length i.items) after)

progress_by : (old : Input) (found : Option (Result Token Error × SourceSpan)) (new : Input) → found ≡ first_item old → new ≡ rest_input old → MakesProgress (λ _. ⊤) (λ (s : Input). at_most (length s.items)) old found new
progress_by old (Some r) new e after = record { on = λ _. (tt, tt, goes_some old new r e after); keeps = tt; rests = λ _. tt }
progress_by old None new e after = record { on = λ _. tt; keeps = tt; rests = λ _. tt }

-- each item that is given leaves one less
pub progress : (old : Input) (found : Option (Result Token Error × SourceSpan)) (new : Input) → Gives old found new → MakesProgress (λ _. ⊤) (λ (s : Input). at_most (length s.items)) old found new
progress old found new g = progress_by old found new g.value g.after
