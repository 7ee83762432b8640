-- The piece at the front of a text that begins with a letter.
use Rattle.std.proofs.Common.{◌≡◌, ◌≢◌, ℕ, suc, ◌<◌, ◌≤◌, inl, inr, Bool, true, false, ◌||◌, ◌&&◌, cond, eqb, ltb, List, [], ◌∷◌, length, take, drop, get_or, Option, Some, None, is_some, Result, Ok, refl, ap, ◌∙◌, arith}
use Rattle.std.proofs.lemmas.Bool.Decides.{nat_tests}
use Rattle.wac_parser_lexer.specs.declared.token.Token.{Token}
use Rattle.wac_parser_lexer.specs.declared.error.Error.{Error}
use Rattle.wac_parser_lexer.specs.Words.{is_lower, is_upper, is_letter, one, IsLabel}
use Rattle.wac_parser_lexer.specs.Scan.{label_len, ident_len, idents_len, names_len, names_go_on, next_len}
use Rattle.wac_parser_lexer.specs.Front.{longest_at, token_at}
use Rattle.wac_parser_lexer.specs.Pieces.{is_blank, is_comment, is_unclosed, token_or_fault, front_piece}
use Rattle.wac_parser_lexer.proofs.WordLaws.{elsewhere, label_longest}
use Rattle.wac_parser_lexer.proofs.FrontLaws.{longest_parts}
use Rattle.wac_parser_lexer.proofs.FirstLaws.{no_text, no_letter, ident_longest}
use Rattle.wac_parser_lexer.proofs.KeywordLaws.{keyword, keyword_longest}
use Rattle.wac_parser_lexer.proofs.StandLaws.{front_is}
use Rattle.wac_parser_lexer.proofs.StopLaws.{item_by}

-- ---- a letter

above : (b : ℕ) → is_letter b ≡ true → 64 < b
above b h = grind (arith, nat_tests)

no_blank : (b : ℕ) → 64 < b → is_blank b ≡ false
no_blank b h = grind (arith, nat_tests)

other : (b n : ℕ) → n < b → eqb b n ≡ false
other b n h = grind (arith, nat_tests)

letter_label : (b : ℕ) → (l u : Bool) → is_lower b ≡ l → is_upper b ≡ u → (l || u) ≡ true → IsLabel (b ∷ [])
letter_label b true u e f h = one (inl (e, tt))
letter_label b false true e f h = one (inr (f, tt))
letter_label b false false e f h = cc

pub letter_ident : (z : List ℕ) → 0 < length z → is_letter (get_or z 0 0) ≡ true → ident_len z ≡ label_len z
letter_ident [] some h = absurd (omega arith)
letter_ident (b ∷ z) some h = let a = above b h in elsewhere b z (other b 37 (omega (arith, a)))

label_some : (z : List ℕ) → 0 < length z → is_letter (get_or z 0 0) ≡ true → 0 < label_len z
label_some [] some h = absurd (omega arith)
label_some (b ∷ z) some h = let g = label_longest.greatest (b ∷ []) z (letter_label b (is_lower b) (is_upper b) refl refl h) in omega (arith, g)

-- ---- no names behind it

no_idents : (c : ℕ) (z : List ℕ) → (is_letter c || eqb c 37) ≡ false → idents_len 58 (c ∷ z) ≡ 0
unfolding idents_len
no_idents c z h = let p = parts (is_lower c) (is_upper c) (eqb c 37) h in rw (no_letter c z p.0 p.1 p.2) refl
  where
    parts : (l u p : Bool) → ((l || u) || p) ≡ false → (l ≡ false) × (u ≡ false) × (p ≡ false)
    parts false false false h = (refl, refl, refl)
    parts false false true h = cc
    parts false true p h = cc
    parts true u p h = cc

next_by : (b : ℕ) (y : List ℕ) → idents_len 58 y ≡ 0 → next_len (idents_len 58) 58 (b ∷ y) ≡ 0
unfolding next_len
next_by b y e = rw e (stops (eqb b 58))
  where
    stops : (t : Bool) → cond {A = ℕ} (t && false) (suc 0) 0 ≡ 0
    stops true = refl
    stops false = refl

begins_by : (b c : ℕ) (z : List ℕ) (t u : Bool) → eqb b 58 ≡ t → (is_letter c || eqb c 37) ≡ u → (t && u) ≡ false → next_len (idents_len 58) 58 (b ∷ c ∷ z) ≡ 0
unfolding next_len
begins_by b c z true u e f h = next_by b (c ∷ z) (no_idents c z (f ∙ h))
begins_by b c z false u e f h = rw e refl

no_next : (y : List ℕ) → names_go_on y ≡ false → next_len (idents_len 58) 58 y ≡ 0
unfolding next_len idents_len ident_len
no_next [] h = refl
no_next (b ∷ []) h = next_by b [] refl
no_next (b ∷ c ∷ z) h = begins_by b c z (eqb b 58) (is_letter c || eqb c 37) refl refl h

names_by : (z : List ℕ) → next_len (idents_len 58) 58 (drop (ident_len z) z) ≡ 0 → (t : Bool) → ltb 0 (ident_len z) ≡ t → names_len z ≡ 0
unfolding names_len
names_by z e true f = rw (f, e) refl
names_by z e false f = rw f refl

no_names : (z : List ℕ) → names_go_on (drop (ident_len z) z) ≡ false → names_len z ≡ 0
no_names z h = names_by z (no_next (drop (ident_len z) z) h) (ltb 0 (ident_len z)) refl

-- ---- the piece

module _ (z : List ℕ) (some : 0 < length z) (letter : is_letter (get_or z 0 0) ≡ true) where
  large : 64 < get_or z 0 0
  large = above (get_or z 0 0) letter

  pub no_marks : (get_or z 0 0 ≢ 34) × (get_or z 0 0 ≢ 47)
  no_marks = (λ e. let a = large in omega (arith, a, e), λ e. let a = large in omega (arith, a, e))

  pub label_some_here : 0 < label_len z
  label_some_here = label_some z some letter

  -- a label that no names are behind
  pub label_longest_at : names_go_on (drop (label_len z) z) ≡ false → longest_at z ≡ (keyword (take (label_len z) z), label_len z)
  label_longest_at h =
      let same = letter_ident z some letter in
      let none = no_names z (rw same h) in
      let long : 0 < ident_len z = rw same (label_some z some letter) in
      ident_longest z (no_text z no_marks.0 no_marks.1) none ∙ keyword_longest z long ∙ ap (λ n. (keyword (take n z), n)) same

  pub longest_some : 1 ≤ (longest_at z).1
  longest_some =
      let parts = (longest_parts z).1 in
      let long = label_some z some letter in
      omega (arith, parts, long, letter_ident z some letter)

  plain : is_blank (get_or z 0 0) ≡ false
  plain = no_blank (get_or z 0 0) large

  closed : is_unclosed z ≡ false
  closed = let e : eqb (get_or z 0 0) 47 ≡ false = other (get_or z 0 0) 47 (let a = large in omega (arith, a)) in rw e refl

  token_front : front_piece z ≡ token_or_fault z (Some (longest_at z))
  unfolding front_piece token_at
  token_front = let n : ltb 0 (longest_at z).1 ≡ true = below (longest_at z).1 longest_some in rw (plain, closed, n) refl
    where
      below : (n : ℕ) → 1 ≤ n → ltb 0 n ≡ true
      below n h = grind (arith, nat_tests)

  no_comment : (t : Bool) (o : Option (Result Token Error)) → o ≡ cond t None (Some (Ok (longest_at z).0)) → is_some o ≡ true → t ≡ false
  no_comment false o e h = refl
  no_comment true o e h = let none : is_some o ≡ false = ap (λ (p : Option (Result Token Error)). is_some p) e in cc

  pub word_front : front_piece z ≡ (Some (Ok (longest_at z).0), (longest_at z).1)
  word_front =
      let there = item_by z (front_piece z).0 (front_piece z).1 (front_is z some) plain no_marks.1 in
      let word = no_comment (is_comment (longest_at z).0) (front_piece z).0 (ap (λ (p : Option (Result Token Error) × ℕ). p.0) token_front) there in
      token_front ∙ (rw word refl)
