-- A source is cut in one way alone.
use Rattle.std.proofs.Common.{◌≡◌, ◌≢◌, ℕ, zero, suc, ◌+◌, ◌-◌, ◌≤◌, inl, inr, Bool, true, false, cond, eqb, List, [], ◌∷◌, length, take, drop, get_or, Option, Some, None, Result, Ok, Err, refl, ap, sym, ◌∙◌, arith, eq-eqb}
use Rattle.std.proofs.lemmas.List.{length-take-le}
use Rattle.wac_parser_lexer.specs.declared.span.SourceSpan.{SourceSpan}
use Rattle.wac_parser_lexer.specs.declared.token.Token.{Token}
use Rattle.wac_parser_lexer.specs.declared.error.Error.{Error}
use Rattle.wac_parser_lexer.specs.declared.error.Error.TheVariants as fault
use Rattle.wac_parser_lexer.specs.Front.{token_at}
use Rattle.wac_parser_lexer.specs.Pieces.{is_blank, is_comment, is_unclosed, token_or_fault, front_piece, Piece, skipped, item, pieces_at, text_at}
use Rattle.wac_parser_lexer.specs.Stands.{IsFirst, HasNoToken, IsUnclosed, IsPlain, IsSkipped, IsItem, Stands}
use Rattle.wac_parser_lexer.proofs.FrontLaws.{token_next, token_some}
use Rattle.wac_parser_lexer.proofs.KindLaws.{next_scanned}
use Rattle.wac_parser_lexer.proofs.PieceLaws.{piece_step, no_pieces}
use Rattle.wac_parser_lexer.proofs.StandLaws.{is_unclosed_of, unclosed_is, char_fits}

abbrev Found : Type 0
Found = Option (Result Token Error) × ℕ

-- ---- what stands at the front is what the scan gives

first_scanned : (z : List ℕ) (kind : Token) (n : ℕ) → IsFirst z kind n → token_at z ≡ Some (kind, n)
first_scanned z kind n h = next_scanned z kind (take n z) (drop n z) h.1 ∙ ap (λ (i : ℕ). Some (kind, i)) (length-take-le n z h.0)

none_by : (z : List ℕ) → HasNoToken z → (t : Option (Token × ℕ)) → token_at z ≡ t → token_at z ≡ None
none_by z h None e = e
none_by z h (Some t) e = let f = token_next z t.0 t.1 e in absurd (h t.0 f.0 f.1 f.3.split f.3.is)

closed_by : (z : List ℕ) → (IsUnclosed z → ⊥) → (t : Bool) → is_unclosed z ≡ t → is_unclosed z ≡ false
closed_by z h true e = absurd (h (unclosed_is z e))
closed_by z h false e = e

plain_front : (z : List ℕ) → IsPlain z → token_or_fault z (token_at z) ≡ front_piece z
unfolding front_piece
plain_front z h = rw (h.0, closed_by z h.1 (is_unclosed z) refl) refl

blank_front : (z : List ℕ) → is_blank (get_or z 0 0) ≡ true → ◌≡◌ {A = Found} (None, 1) (front_piece z)
unfolding front_piece
blank_front z h = rw h refl

unclosed_front : (z : List ℕ) → IsUnclosed z → ◌≡◌ {A = Found} (Some (Err fault.UnterminatedComment), length z) (front_piece z)
unfolding front_piece
unclosed_front z h =
    let slash : is_blank (get_or z 0 0) ≡ false = ap (λ (y : List ℕ). is_blank (get_or y 0 0)) h.1 in
    rw (slash, is_unclosed_of z h) refl

by_token : (z : List ℕ) (t : Option (Token × ℕ)) → IsPlain z → token_at z ≡ t → token_or_fault z t ≡ front_piece z
by_token z t plain e = ap (token_or_fault z) (sym e) ∙ plain_front z plain

first_front : (z : List ℕ) (kind : Token) (n : ℕ) → IsPlain z → IsFirst z kind n → ◌≡◌ {A = Found} (cond (is_comment kind) None (Some (Ok kind)), n) (front_piece z)
first_front z kind n plain h = by_token z (Some (kind, n)) plain (first_scanned z kind n h)

skipped_front : (z : List ℕ) (n : ℕ) → IsSkipped z n → ◌≡◌ {A = Found} (None, n) (front_piece z)
skipped_front z n (inl h) = ap (λ (i : ℕ). (None, i)) h.1 ∙ blank_front z h.0
skipped_front z n (inr h) = ap (λ (t : Bool). (cond t None (Some (Ok h.1.0)), n)) (sym h.1.1) ∙ first_front z h.1.0 n h.0 h.1.2

item_front : (z : List ℕ) (token : Result Token Error) (n : ℕ) → IsItem z token n → ◌≡◌ {A = Found} (Some token, n) (front_piece z)
item_front z (Ok kind) n h = ap (λ (t : Bool). (cond t None (Some (Ok kind)), n)) (sym h.1) ∙ first_front z kind n h.0 h.2
item_front z (Err fault.UnterminatedComment) n h = ap (λ (i : ℕ). (Some (Err fault.UnterminatedComment), i)) h.1 ∙ unclosed_front z h.0
item_front z (Err fault.UnterminatedString) n h =
    let quote : eqb (get_or z 0 0) 34 ≡ true = eq-eqb (get_or z 0 0) 34 h.1 in
    let value : ◌≡◌ {A = Found} (Some (Err fault.UnterminatedString), n) (token_or_fault z None) = rw (quote, h.3) refl in
    value ∙ by_token z None h.0 (none_by z h.2 (token_at z) refl)
item_front z (Err fault.UnexpectedToken) n h =
    let value : ◌≡◌ {A = Found} (Some (Err fault.UnexpectedToken), n) (token_or_fault z None) = rw (h.2, h.4) refl in
    value ∙ by_token z None h.0 (none_by z h.3 (token_at z) refl)
item_front z (Err (fault.DisallowedBidirectionalOverride c)) n h = absurd h
item_front z (Err (fault.DiscouragedUnicodeCodepoint c)) n h = absurd h
item_front z (Err (fault.DisallowedControlCode c)) n h = absurd h

-- ---- and it fits

first_fits : (z : List ℕ) (kind : Token) (n : ℕ) → IsFirst z kind n → (1 ≤ n) × (n ≤ length z)
first_fits z kind zero h = let some = token_some kind (take zero z) h.1.is in absurd (omega arith)
first_fits z kind (suc n) h = (omega arith, h.0)

not_empty : (z : List ℕ) → get_or z 0 0 ≢ 0 → 1 ≤ length z
not_empty [] h = absurd (h refl)
not_empty (b ∷ z) h = omega arith

blank_some : (z : List ℕ) → is_blank (get_or z 0 0) ≡ true → 1 ≤ length z
blank_some [] h = cc
blank_some (b ∷ z) h = omega arith

skipped_fits : (z : List ℕ) (n : ℕ) → IsSkipped z n → (1 ≤ n) × (n ≤ length z)
skipped_fits z n (inl h) = let some = blank_some z h.0 in (omega (arith, h.1), omega (arith, h.1, some))
skipped_fits z n (inr h) = first_fits z h.1.0 n h.1.2

item_fits : (z : List ℕ) (token : Result Token Error) (n : ℕ) → IsItem z token n → (1 ≤ n) × (n ≤ length z)
item_fits z (Ok kind) n h = first_fits z kind n h.2
item_fits z (Err fault.UnterminatedComment) n h = (omega (arith, h.1, ap length h.0.1), omega (arith, h.1))
item_fits z (Err fault.UnterminatedString) n h = let some = not_empty z (λ e. omega (arith, h.1)) in (omega (arith, h.3), omega (arith, h.3, some))
item_fits z (Err fault.UnexpectedToken) n h = let fits = char_fits z h.1 in (omega (arith, h.4), omega (arith, h.4, fits))
item_fits z (Err (fault.DisallowedBidirectionalOverride c)) n h = absurd h
item_fits z (Err (fault.DiscouragedUnicodeCodepoint c)) n h = absurd h
item_fits z (Err (fault.DisallowedControlCode c)) n h = absurd h

-- ---- piece by piece

span_is : (span : SourceSpan) (at : ℕ) → span.offset ≡ at → span ≡ record { offset = at; length = span.length }
span_is span at e = ap (λ (i : ℕ). record { offset = i; length = span.length }) e

text_is : (source : List ℕ) (span : SourceSpan) (at : ℕ) → span.offset ≡ at → text_at source span ≡ take span.length (drop at source)
text_is source span at e =
    let size : span.offset + span.length - span.offset ≡ span.length = omega arith in
    ap (λ (i : ℕ). take i (drop span.offset source)) size ∙ ap (λ (i : ℕ). take span.length (drop i source)) e

pub only_cut : (source : List ℕ) (at : ℕ) (ps : List Piece) → Stands source at ps → ps ≡ pieces_at source at
only_cut source at [] h = sym (no_pieces source at (omega (arith, h)))
only_cut source at (skipped span text ∷ ps) h =
    let z = drop at source in
    let fits = skipped_fits z span.length h.2 in
    let cut = piece_step source at (None, span.length) (skipped_front z span.length h.2) fits.0 fits.1 in
    ap (λ (s : SourceSpan). skipped s text ∷ ps) (span_is span at h.0)
    ∙ ap (λ (t : List ℕ). skipped (record { offset = at; length = span.length }) t ∷ ps) (h.1 ∙ text_is source span at h.0)
    ∙ ap (λ (qs : List Piece). skipped (record { offset = at; length = span.length }) (take span.length z) ∷ qs) (only_cut source (at + span.length) ps h.3)
    ∙ sym cut
only_cut source at (item token span ∷ ps) h =
    let z = drop at source in
    let fits = item_fits z token span.length h.1 in
    let cut = piece_step source at (Some token, span.length) (item_front z token span.length h.1) fits.0 fits.1 in
    ap (λ (s : SourceSpan). item token s ∷ ps) (span_is span at h.0)
    ∙ ap (λ (qs : List Piece). item token (record { offset = at; length = span.length }) ∷ qs) (only_cut source (at + span.length) ps h.2)
    ∙ sym cut
