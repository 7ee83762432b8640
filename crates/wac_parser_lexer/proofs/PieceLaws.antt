-- The pieces of a text, from one to the next.
use Rattle.std.proofs.Common.{◌≡◌, ℕ, zero, suc, ◌+◌, ◌-◌, ◌<◌, ◌≤◌, Bool, true, false, cond, eqb, List, [], ◌∷◌, length, drop, get_or, Option, Some, None, is_some, Result, Ok, Err, refl, ap, sym, subst, ◌∙◌, arith, length-drop, get_or-drop, drop-cons}
use Rattle.std.proofs.lemmas.List.{drop-drop}
use Rattle.std.proofs.Math.ListN.{drop_of_length-le}
use Rattle.std.proofs.lemmas.Bool.{eqb-true}
use Rattle.std.proofs.lemmas.Bool.Decides.{nat_tests}
use Rattle.std.proofs.lemmas.List.Sums.{prefix_len_stops}
use Rattle.std.proofs.lemmas.Str.{IsCharBoundary-after_ascii, IsCharBoundary-end, IsCharBoundary-from_rest, IsUtf8-drop}
use Rattle.std.specs.Str.{IsUtf8, IsCharBoundary}
use Rattle.std.specs.List.{prefix_len}
use Rattle.std.specs.Option.{option_map}
use Rattle.wac_parser_lexer.specs.declared.token.Token.{Token}
use Rattle.wac_parser_lexer.specs.declared.error.Error.{Error}
use Rattle.wac_parser_lexer.specs.declared.error.Error.TheVariants as fault
use Rattle.wac_parser_lexer.specs.Front.{token_at}
use Rattle.wac_parser_lexer.specs.Pieces.{is_blank, is_continuation, is_unclosed, char_len, token_or_fault, front_piece, Piece, piece_by, pieces_from, pieces_at}
use Rattle.wac_parser_lexer.specs.Items.{ahead, behind}
use Rattle.wac_parser_lexer.proofs.WordLaws.{run_fits}
use Rattle.wac_parser_lexer.proofs.FrontLaws.{token_place}

skip_piece : (n at : ℕ) (z : List ℕ) → n ≤ length z → pieces_from n at z ≡ pieces_from 0 (at + n) (drop n z)
unfolding pieces_from
skip_piece zero at z few = ap (λ i. pieces_from 0 i z) (omega arith)
skip_piece (suc n) at [] few = absurd (omega arith)
skip_piece (suc n) at (b ∷ z) few =
    let same : at + 1 + n ≡ at + suc n = omega arith in skip_piece n (at + 1) z (omega arith) ∙ ap (λ i. pieces_from 0 i (drop n z)) same

front_step : (b : ℕ) (z : List ℕ) (at : ℕ) → pieces_from 0 at (b ∷ z) ≡ piece_by at (b ∷ z) (front_piece (b ∷ z)) ∷ pieces_from ((front_piece (b ∷ z)).1 - 1) (at + 1) z
unfolding pieces_from
front_step b z at = refl

at_front : (y : List ℕ) (at len : ℕ) → (front_piece y).1 ≡ len → 1 ≤ len → len ≤ length y → pieces_from 0 at y ≡ piece_by at y (front_piece y) ∷ pieces_from 0 (at + len) (drop len y)
at_front [] at len e some few = absurd (omega arith)
at_front (b ∷ z) at zero e some few = absurd (omega arith)
at_front (b ∷ z) at (suc m) e some few =
    let one : (front_piece (b ∷ z)).1 - 1 ≡ m = omega (arith, e) in
    let place : at + 1 + m ≡ at + suc m = omega arith in
    let first = piece_by at (b ∷ z) (front_piece (b ∷ z)) in
    front_step b z at ∙ ap (λ i. first ∷ pieces_from i (at + 1) z) one ∙ ap (λ (l : List Piece). first ∷ l) (skip_piece m (at + 1) z (omega arith))
    ∙ ap (λ i. first ∷ pieces_from 0 i (drop m z)) place

-- the piece at a place, and those behind it
pub piece_step : (source : List ℕ) (at : ℕ) (p : Option (Result Token Error) × ℕ) → p ≡ front_piece (drop at source) → 1 ≤ p.1 → p.1 ≤ length (drop at source)
    → pieces_at source at ≡ piece_by at (drop at source) p ∷ pieces_at source (at + p.1)
piece_step source at p e some few =
    at_front (drop at source) at p.1 (sym (ap (λ (q : Option (Result Token Error) × ℕ). q.1) e)) some few
    ∙ ap (λ (q : Option (Result Token Error) × ℕ). piece_by at (drop at source) q ∷ pieces_from 0 (at + p.1) (drop p.1 (drop at source))) (sym e)
    ∙ ap (λ (y : List ℕ). piece_by at (drop at source) p ∷ pieces_from 0 (at + p.1) y) (drop-drop p.1 at source)

pub no_pieces : (source : List ℕ) (at : ℕ) → length source ≤ at → pieces_at source at ≡ []
unfolding pieces_from
no_pieces source at h = ap (pieces_from 0 at) (drop_of_length-le source h)

-- ---- where a piece ends

after_first : (z : List ℕ) → IsUtf8 z → 0 < length z → get_or z 0 0 < 128 → IsCharBoundary z 1
after_first z u some small = IsCharBoundary-after_ascii z 0 u some small

blank_small : (b : ℕ) → is_blank b ≡ true → b < 128
blank_small b h = grind (arith, nat_tests)

not_continuation : (b : ℕ) → is_continuation b ≡ false → 128 ≤ b → 192 ≤ b
not_continuation b h = grind (arith, nat_tests)

behind_char : (b : ℕ) (z : List ℕ) → IsCharBoundary (b ∷ z) (char_len (b ∷ z))
behind_char b z =
    let n = prefix_len is_continuation z in
    let few : n ≤ length z = prefix_fits z in
    let one : 1 + n ≡ suc n = omega arith in
    let P : ℕ → Type 0 = λ (i : ℕ). IsCharBoundary (b ∷ z) i in
    subst P (sym one) (omega arith, λ l a. not_continuation (get_or z n 0) (prefix_len_stops is_continuation z 0 (omega arith)) a)
  where
    prefix_fits : (z : List ℕ) → prefix_len is_continuation z ≤ length z
    prefix_fits z = run_fits is_continuation z

char_place : (z : List ℕ) → 0 < length z → IsCharBoundary z (char_len z)
char_place [] some = absurd (omega arith)
char_place (b ∷ z) some = behind_char b z

quote_by : (z : List ℕ) → IsUtf8 z → 0 < length z → (t : Bool) → eqb (get_or z 0 0) 34 ≡ t
    → IsCharBoundary z (cond {A = Option (Result Token Error) × ℕ} t (Some (Err fault.UnterminatedString), 1) (Some (Err fault.UnexpectedToken), char_len z)).1
quote_by z u some true e = after_first z u some (omega (arith, eqb-true (get_or z 0 0) 34 e))
quote_by z u some false e = char_place z some

token_ends : (z : List ℕ) → IsUtf8 z → 0 < length z → (t : Option (Token × ℕ)) → token_at z ≡ t → IsCharBoundary z (token_or_fault z t).1
token_ends z u some (Some t) e = token_place z t e u
token_ends z u some None e = quote_by z u some (eqb (get_or z 0 0) 34) refl

unclosed_by : (z : List ℕ) → IsUtf8 z → 0 < length z → (t : Bool) → IsCharBoundary z (cond {A = Option (Result Token Error) × ℕ} t (Some (Err fault.UnterminatedComment), length z) (token_or_fault z (token_at z))).1
unclosed_by z u some true = IsCharBoundary-end z
unclosed_by z u some false = token_ends z u some (token_at z) refl

blank_by : (z : List ℕ) → IsUtf8 z → 0 < length z → (t : Bool) → is_blank (get_or z 0 0) ≡ t
    → IsCharBoundary z (cond {A = Option (Result Token Error) × ℕ} t (None, 1) (cond (is_unclosed z) (Some (Err fault.UnterminatedComment), length z) (token_or_fault z (token_at z)))).1
blank_by z u some true e = after_first z u some (blank_small (get_or z 0 0) e)
blank_by z u some false e = unclosed_by z u some (is_unclosed z)

piece_place : (z : List ℕ) → IsUtf8 z → 0 < length z → IsCharBoundary z (front_piece z).1
unfolding front_piece
piece_place z u some = blank_by z u some (is_blank (get_or z 0 0)) refl

-- a character begins behind the piece at a place where one begins, or the text ends
pub place_step : (source : List ℕ) (at : ℕ) (p : Option (Result Token Error) × ℕ) → IsUtf8 source → IsCharBoundary source at → at < length source → p ≡ front_piece (drop at source) → IsCharBoundary source (at + p.1)
place_step source at p u b few e =
    let rest = IsUtf8-drop source at u b in
    let inner = piece_place (drop at source) rest (omega (arith, length-drop at source)) in
    let P : ℕ → Type 0 = λ (n : ℕ). IsCharBoundary (drop at source) n in
    IsCharBoundary-from_rest source at p.1 (omega arith) (subst P (sym (ap (λ (q : Option (Result Token Error) × ℕ). q.1) e)) inner)

-- ---- blanks

blank_front : (z : List ℕ) → is_blank (get_or z 0 0) ≡ true → (None, 1) ≡ front_piece z
unfolding front_piece
blank_front z e = rw e refl

module _ (source : List ℕ) (at : ℕ) (few : at < length source) (blank : is_blank (get_or source at 0) ≡ true) where
  blank_there : (None, 1) ≡ front_piece (drop at source)
  blank_there =
      let here : get_or (drop at source) 0 0 ≡ get_or source at 0 = rw get_or-drop (ap (λ i. get_or source i 0) (omega arith)) in
      blank_front (drop at source) (ap is_blank here ∙ blank)

  pub blank_cut : pieces_at source at ≡ piece_by at (drop at source) (None, 1) ∷ pieces_at source (at + 1)
  blank_cut = piece_step source at (None, 1) blank_there (omega arith) (omega (arith, length-drop at source))

  pub blank_place : IsUtf8 source → IsCharBoundary source at → IsCharBoundary source (at + 1)
  blank_place u b = place_step source at (None, 1) u b few blank_there

-- ---- symbols that stand alone

module _ (source : List ℕ) (at : ℕ) (few : at < length source) (kind : Token) (alone : (z : List ℕ) → front_piece (get_or source at 0 ∷ z) ≡ (Some (Ok kind), 1)) where
  symbol_there : (Some (Ok kind), 1) ≡ front_piece (drop at source)
  symbol_there = sym (ap front_piece (drop-cons source at 0 few) ∙ alone (drop (suc at) source))

  pub symbol_cut : pieces_at source at ≡ piece_by at (drop at source) (Some (Ok kind), 1) ∷ pieces_at source (at + 1)
  symbol_cut = piece_step source at (Some (Ok kind), 1) symbol_there (omega arith) (omega (arith, length-drop at source))

  pub symbol_place : IsUtf8 source → IsCharBoundary source at → IsCharBoundary source (at + 1)
  symbol_place u b = place_step source at (Some (Ok kind), 1) u b few symbol_there

-- ---- the first item

module _ (source : List ℕ) (at : ℕ) (z : List ℕ) (p : Option (Result Token Error) × ℕ) (ps : List Piece) (cut : pieces_at source at ≡ piece_by at z p ∷ ps) where
  pub item_ahead : (token : Result Token Error) → p.0 ≡ Some token → ahead (pieces_at source at) ≡ Some (token, record { offset = at; length = p.1 })
  item_ahead token e = ap ahead cut ∙ (rw e refl)

  pub item_behind : (token : Result Token Error) → p.0 ≡ Some token → behind (pieces_at source at) ≡ ps
  item_behind token e = ap behind cut ∙ (rw e refl)

  pub skip_ahead : p.0 ≡ None → ahead (pieces_at source at) ≡ ahead ps
  skip_ahead e = ap ahead cut ∙ (rw e refl)

  pub skip_behind : p.0 ≡ None → behind (pieces_at source at) ≡ behind ps
  skip_behind e = ap behind cut ∙ (rw e refl)

  ahead_by : (o : Option (Result Token Error)) → is_some o ≡ true → option_map (λ token. (token, record { offset = at; length = p.1 })) o ≡ ahead (piece_by at z (o, p.1) ∷ ps)
  ahead_by (Some token) e = refl
  ahead_by None e = cc

  behind_by : (o : Option (Result Token Error)) → is_some o ≡ true → behind (piece_by at z (o, p.1) ∷ ps) ≡ ps
  behind_by (Some token) e = refl
  behind_by None e = cc

  pub items_ahead : is_some p.0 ≡ true → ahead (pieces_at source at) ≡ option_map (λ token. (token, record { offset = at; length = p.1 })) p.0
  items_ahead e = ap ahead cut ∙ sym (ahead_by p.0 e)

  pub item_behind_some : is_some p.0 ≡ true → behind (pieces_at source at) ≡ ps
  item_behind_some e = ap behind cut ∙ behind_by p.0 e

  none_by : (o : Option (Result Token Error)) → is_some o ≡ false → o ≡ None
  none_by (Some token) e = cc
  none_by None e = refl

  pub skip_ahead_some : is_some p.0 ≡ false → ahead (pieces_at source at) ≡ ahead ps
  skip_ahead_some e = skip_ahead (none_by p.0 e)

  pub skip_behind_some : is_some p.0 ≡ false → behind (pieces_at source at) ≡ behind ps
  skip_behind_some e = skip_behind (none_by p.0 e)
