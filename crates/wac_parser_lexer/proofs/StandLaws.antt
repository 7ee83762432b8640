-- A source is cut whole into its pieces, and its items stand in order.
use Rattle.std.proofs.Common.{◌≡◌, ◌≢◌, ℕ, zero, suc, ◌+◌, ◌-◌, ◌<◌, ◌≤◌, inl, inr, Bool, true, false, cond, eqb, ltb, List, [], ◌∷◌, ◌++◌, length, take, drop, get_or, Option, Some, None, Result, Ok, Err, refl, ap, sym, subst, ◌∙◌, arith, length-drop, length-append}
use Rattle.std.proofs.Math.Seq.{take-append_seam, drop-append_seam}
use Rattle.std.proofs.lemmas.Bool.{eqb-true, and_parts}
use Rattle.wac_parser_lexer.specs.declared.token.Token.{Token}
use Rattle.wac_parser_lexer.specs.declared.error.Error.{Error}
use Rattle.wac_parser_lexer.specs.declared.error.Error.TheVariants as fault
use Rattle.wac_parser_lexer.specs.Words.{opens_comment}
use Rattle.wac_parser_lexer.specs.Scan.{block_comment_len}
use Rattle.wac_parser_lexer.specs.Tokens.{IsNext}
use Rattle.wac_parser_lexer.specs.Front.{token_at}
use Rattle.wac_parser_lexer.specs.Pieces.{is_blank, is_continuation, is_comment, is_unclosed, char_len, token_or_fault, front_piece, Piece, skipped, item, piece_by, pieces_at}
use Rattle.wac_parser_lexer.specs.Items.{Doc, doc_in, items_of}
use Rattle.wac_parser_lexer.specs.Stands.{IsFirst, HasNoToken, HasNoComment, IsUnclosed, IsPlain, IsSkipped, IsItem, Stands, StandInOrder}
use Rattle.wac_parser_lexer.proofs.WordLaws.{run_fits}
use Rattle.wac_parser_lexer.proofs.BlockLaws.{block_longest}
use Rattle.wac_parser_lexer.proofs.FrontLaws.{token_next, token_none, token_some, not_less}
use Rattle.wac_parser_lexer.proofs.PieceLaws.{piece_step, no_pieces}
use Rattle.wac_parser_lexer.proofs.TextLaws.{less}

-- ---- what stands at the front of a text

-- what a piece is, and that it fits
abbrev pub IsPiece : List ℕ → Option (Result Token Error) × ℕ → Type 0
IsPiece z (None, n) = (1 ≤ n) × (n ≤ length z) × IsSkipped z n
IsPiece z (Some token, n) = (1 ≤ n) × (n ≤ length z) × IsItem z token n

first_of_next : (z : List ℕ) (kind : Token) (n : ℕ) (word rest : List ℕ) → length word ≡ n → IsNext z kind word rest → (1 ≤ n) × IsFirst z kind n
first_of_next z kind n word rest size next =
    let front : word ≡ take n z = sym (ap (take n) next.split ∙ ap (λ k. take k (word ++ rest)) (sym size) ∙ take-append_seam word rest) in
    let back : rest ≡ drop n z = sym (ap (drop n) next.split ∙ ap (λ k. drop k (word ++ rest)) (sym size) ∙ drop-append_seam word rest) in
    let some = token_some kind word next.is in
    let P : List ℕ → Type 0 = λ (w : List ℕ). IsNext z kind w rest in
    let Q : List ℕ → Type 0 = λ (r : List ℕ). IsNext z kind (take n z) r in
    (omega (arith, some, size), (omega (arith, ap length next.split, length-append word rest, size), subst Q back (subst P front next)))

token_is : (z : List ℕ) (kind : Token) (n : ℕ) → token_at z ≡ Some (kind, n) → (1 ≤ n) × IsFirst z kind n
token_is z kind n e = let t = token_next z kind n e in first_of_next z kind n t.0 t.1 t.2 t.3

comment_by : (z : List ℕ) (kind : Token) (n : ℕ) → IsPlain z → (1 ≤ n) × IsFirst z kind n → (t : Bool) → is_comment kind ≡ t → IsPiece z (cond t None (Some (Ok kind)), n)
comment_by z kind n plain f true e = (f.0, f.1.0, inr (plain, (kind, e, f.1)))
comment_by z kind n plain f false e = (f.0, f.1.0, (plain, e, f.1))

pub char_fits : (z : List ℕ) → 0 < length z → char_len z ≤ length z
char_fits [] some = absurd (omega arith)
char_fits (b ∷ z) some = let f = run_fits is_continuation z in omega (arith, f)

quote_by : (z : List ℕ) → 0 < length z → IsPlain z → HasNoToken z → (t : Bool) → eqb (get_or z 0 0) 34 ≡ t
    → IsPiece z (cond {A = Option (Result Token Error) × ℕ} t (Some (Err fault.UnterminatedString), 1) (Some (Err fault.UnexpectedToken), char_len z))
quote_by z some plain none true e = (omega arith, omega arith, (plain, eqb-true (get_or z 0 0) 34 e, none, refl))
quote_by z some plain none false e = (omega arith, char_fits z some, (plain, some, e, none, refl))

scan_by : (z : List ℕ) → 0 < length z → IsPlain z → (t : Option (Token × ℕ)) → token_at z ≡ t → IsPiece z (token_or_fault z t)
scan_by z some plain (Some t) e = comment_by z t.0 t.1 plain (token_is z t.0 t.1 e) (is_comment t.0) refl
scan_by z some plain None e = quote_by z some plain (token_none z e) (eqb (get_or z 0 0) 34) refl

two_front : (z : List ℕ) (b c : ℕ) → b ≢ 0 → c ≢ 0 → get_or z 0 0 ≡ b → get_or z 1 0 ≡ c → (rest : List ℕ) × (z ≡ b ∷ c ∷ rest)
two_front [] b c h k e f = absurd (h (sym e))
two_front (x ∷ []) b c h k e f = absurd (k (sym f))
two_front (x ∷ y ∷ z) b c h k e f = (z, ap (λ i. i ∷ y ∷ z) e ∙ ap (λ i. b ∷ i ∷ z) f)

no_comment : (z : List ℕ) → block_comment_len z ≡ 0 → HasNoComment z
no_comment z e word rest split is =
    let g = block_longest.greatest word rest is in
    let s = block_longest.some word is in
    absurd (omega (arith, g, s, e, ap block_comment_len split))

pub unclosed_is : (z : List ℕ) → is_unclosed z ≡ true → IsUnclosed z
unclosed_is z h =
    let t = and_parts (opens_comment (get_or z 0 0) (get_or z 1 0)) (eqb (block_comment_len z) 0) h in
    let o = and_parts (eqb (get_or z 0 0) 47) (eqb (get_or z 1 0) 42) t.0 in
    let f = two_front z 47 42 (λ e. omega arith) (λ e. omega arith) (eqb-true (get_or z 0 0) 47 o.0) (eqb-true (get_or z 1 0) 42 o.1) in
    (f.0, f.1, no_comment z (eqb-true (block_comment_len z) 0 t.1))

none_long : (z : List ℕ) → HasNoComment z → (n : ℕ) → block_comment_len z ≡ n → n ≡ 0
none_long z none zero e = refl
none_long z none (suc n) e = let f = block_longest.found z (omega (arith, e)) in absurd (none f.0 f.1 f.2 f.4)

pub is_unclosed_of : (z : List ℕ) → IsUnclosed z → is_unclosed z ≡ true
is_unclosed_of z h =
    let zero_long = none_long z h.2 (block_comment_len z) refl in
    let front : opens_comment (get_or z 0 0) (get_or z 1 0) ≡ true = ap (λ (y : List ℕ). opens_comment (get_or y 0 0) (get_or y 1 0)) h.1 in
    rw (front, zero_long) refl

unclosed_by : (z : List ℕ) → 0 < length z → is_blank (get_or z 0 0) ≡ false → (t : Bool) → is_unclosed z ≡ t
    → IsPiece z (cond {A = Option (Result Token Error) × ℕ} t (Some (Err fault.UnterminatedComment), length z) (token_or_fault z (token_at z)))
unclosed_by z some plain true e = (omega arith, omega arith, (unclosed_is z e, refl))
unclosed_by z some plain false e = scan_by z some (plain, λ u. (let t = is_unclosed_of z u in cc)) (token_at z) refl

blank_by : (z : List ℕ) → 0 < length z → (t : Bool) → is_blank (get_or z 0 0) ≡ t
    → IsPiece z (cond {A = Option (Result Token Error) × ℕ} t (None, 1) (cond (is_unclosed z) (Some (Err fault.UnterminatedComment), length z) (token_or_fault z (token_at z))))
blank_by z some true e = (omega arith, omega arith, inl (e, refl))
blank_by z some false e = unclosed_by z some e (is_unclosed z) refl

pub front_is : (z : List ℕ) → 0 < length z → IsPiece z (front_piece z)
unfolding front_piece
front_is z some = blank_by z some (is_blank (get_or z 0 0)) refl

pub piece_fits : (z : List ℕ) (o : Option (Result Token Error)) (n : ℕ) → IsPiece z (o, n) → (1 ≤ n) × (n ≤ length z)
piece_fits z None n h = (h.0, h.1)
piece_fits z (Some token) n h = (h.0, h.1)

-- ---- piece by piece

stand_step : (source : List ℕ) (at : ℕ) (o : Option (Result Token Error)) (n : ℕ) (ps : List Piece) → IsPiece (drop at source) (o, n) → Stands source (at + n) ps → Stands source at (piece_by at (drop at source) (o, n) ∷ ps)
stand_step source at None n ps is rest =
    let size : at + n - at ≡ n = omega arith in (refl, ap (λ k. take k (drop at source)) (sym size), is.2, rest)
stand_step source at (Some token) n ps is rest = (refl, is.2, rest)

stands_end : (source : List ℕ) (at : ℕ) → at ≡ length source → Stands source at (pieces_at source at)
stands_end source at e = let P : List Piece → Type 0 = Stands source at in subst P (sym (no_pieces source at (omega arith))) e

stands_more : (source : List ℕ) (at : ℕ) → at < length source → ((k : ℕ) → at < k → k ≤ length source → Stands source k (pieces_at source k)) → Stands source at (pieces_at source at)
stands_more source at few deeper =
    let z = drop at source in
    let p = front_piece z in
    let is = front_is z (omega (arith, length-drop at source)) in
    let fits = piece_fits z p.0 p.1 is in
    let cut = piece_step source at p refl fits.0 fits.1 in
    let rest = deeper (at + p.1) (omega (arith, fits.0)) (omega (arith, fits.1, length-drop at source)) in
    let P : List Piece → Type 0 = Stands source at in
    subst P (sym cut) (stand_step source at p.0 p.1 (pieces_at source (at + p.1)) is rest)

stands_by : (source : List ℕ) (at : ℕ) → at ≤ length source → ((k : ℕ) → at < k → k ≤ length source → Stands source k (pieces_at source k)) → (t : Bool) → ltb at (length source) ≡ t → Stands source at (pieces_at source at)
stands_by source at within deeper true e = stands_more source at (less at (length source) e) deeper
stands_by source at within deeper false e = stands_end source at (omega (arith, not_less at (length source) e))

stands_from : (m : ℕ) (source : List ℕ) (at : ℕ) → at ≤ length source → length source - at < m → Stands source at (pieces_at source at)
stands_from zero source at within few = absurd (omega arith)
stands_from (suc m) source at within few =
    stands_by source at within (λ k more under. stands_from m source k under (omega arith)) (ltb at (length source)) refl

pub stands : (source : List ℕ) → Stands source 0 (pieces_at source 0)
stands source = stands_from (suc (length source)) source 0 (omega arith) (omega arith)

-- ---- the items among them

stands_within : (source : List ℕ) (at : ℕ) (ps : List Piece) → Stands source at ps → at ≤ length source
stands_within source at [] h = omega (arith, h)
stands_within source at (skipped span text ∷ ps) h = let w = stands_within source (at + span.length) ps h.3 in omega (arith, w)
stands_within source at (item token span ∷ ps) h = let w = stands_within source (at + span.length) ps h.2 in omega (arith, w)

item_some : (z : List ℕ) (token : Result Token Error) (n : ℕ) → IsItem z token n → 0 < n
item_some z (Ok kind) zero h = let some = token_some kind (take zero z) h.2.1.is in absurd (omega arith)
item_some z (Ok kind) (suc n) h = omega arith
item_some z (Err fault.UnterminatedComment) n h = omega (arith, h.1, ap length h.0.1)
item_some z (Err fault.UnterminatedString) n h = omega (arith, h.3)
item_some z (Err fault.UnexpectedToken) n h = omega (arith, h.4)
item_some z (Err (fault.DisallowedBidirectionalOverride c)) n h = absurd h
item_some z (Err (fault.DiscouragedUnicodeCodepoint c)) n h = absurd h
item_some z (Err (fault.DisallowedControlCode c)) n h = absurd h

order_from : (source : List ℕ) (ps : List Piece) (docs : List Doc) (from at : ℕ) → from ≤ at → Stands source at ps → StandInOrder source from (items_of docs ps)
order_from source [] docs from at before h = omega (arith, h)
order_from source (skipped span text ∷ ps) docs from at before h = order_from source ps (docs ++ doc_in span text) from (at + span.length) (omega arith) h.3
order_from source (item token span ∷ ps) docs from at before h =
    let P : ℕ → Type 0 = λ (i : ℕ). IsItem (drop i source) token span.length in (
      omega (arith, h.0),
      item_some (drop at source) token span.length h.1,
      subst P (sym h.0) h.1,
      order_from source ps [] (span.offset + span.length) (at + span.length) (omega (arith, h.0)) h.2,
    )

pub stand_in_order : (source : List ℕ) → StandInOrder source 0 (items_of [] (pieces_at source 0))
stand_in_order source = order_from source (pieces_at source 0) [] 0 0 (omega arith) (stands source)
