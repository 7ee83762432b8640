-- The scans of strings and comments are the longest fronts of their kind.
use Rattle.std.proofs.Common.{◌≡◌, ℕ, suc, ◌+◌, ◌<◌, ◌≤◌, Bool, true, false, cond, eqb, ltb, List, [], ◌∷◌, ◌++◌, length, get_or, refl, ap, sym, subst, ◌∙◌, arith, append_assoc, length-append}
use Rattle.std.proofs.lemmas.Bool.{eqb-true, and_parts}
use Rattle.std.proofs.lemmas.Bool.Decides.{nat_tests}
use Rattle.std.proofs.Math.Seq.{get_or-append_seam}
use Rattle.std.proofs.lemmas.Str.{IsCharBoundary-before_ascii, IsCharBoundary-end}
use Rattle.std.specs.Str.{IsCharBoundary}
use Rattle.std.specs.List.{prefix_len}
use Rattle.wac_parser_lexer.specs.Words.{Passes, is_unquoted, is_in_line, IsString, IsLineComment}
use Rattle.wac_parser_lexer.specs.Scan.{string_len, line_comment_len}
use Rattle.wac_parser_lexer.specs.Longest.{IsLongest}
use Rattle.wac_parser_lexer.proofs.WordLaws.{run, run_greatest}

pub less : (a b : ℕ) → ltb a b ≡ true → a < b
less a b h = grind (arith, nat_tests)

if_some : (t : Bool) (n : ℕ) → 0 < cond t n 0 → t ≡ true
if_some true n h = refl
if_some false n h = absurd (omega arith)

-- where a run of passing bytes stops at one that does not pass
module _ (p : ℕ → Bool) where
  pub exact : (w : List ℕ) (c : ℕ) (rest : List ℕ) → Passes p w → p c ≡ false → prefix_len p (w ++ c ∷ rest) ≡ length w
  exact [] c rest h e = rw e refl
  exact (b ∷ w) c rest h e = rw h.0 (omega (arith, exact w c rest h.1 e))

  stops_by : (b : ℕ) (z : List ℕ) → (t : Bool) → p b ≡ t → prefix_len p (b ∷ z) ≡ 0 → t ≡ false
  stops_by b z true e h = let k : 1 + prefix_len p z ≡ 0 = rw e at h in absurd (omega (arith, k))
  stops_by b z false e h = refl

  -- a text that a run of passing bytes is only the front of goes on with one that does not pass
  pub next_fails : (w : List ℕ) (c : ℕ) (rest : List ℕ) → Passes p w → length w ≡ prefix_len p (w ++ c ∷ rest) → p c ≡ false
  next_fails [] c rest h e = stops_by c rest (p c) refl (sym e)
  next_fails (b ∷ w) c rest h e = let k : suc (length w) ≡ 1 + prefix_len p (w ++ c ∷ rest) = rw h.0 at e in next_fails w c rest h.1 (omega (arith, k))

quote_not : (b : ℕ) → is_unquoted b ≡ false → b ≡ 34
quote_not b h = grind (arith, nat_tests)

pub feed_not : (b : ℕ) → is_in_line b ≡ false → b ≡ 10
feed_not b h = grind (arith, nat_tests)

-- ---- strings

StringFound : List ℕ → Type 0
StringFound z = (w : List ℕ) × (rest : List ℕ) × (z ≡ w ++ rest) × (length w ≡ string_len z) × IsString w

string_at : (b : ℕ) (w rest : List ℕ) → b ≡ 34 → Passes is_unquoted w → length w ≡ prefix_len is_unquoted (w ++ rest) → length w < length (w ++ rest) → StringFound (b ∷ (w ++ rest))
unfolding string_len StringFound
string_at b w [] e h same few = absurd (omega (arith, length-append w []))
string_at b w (c ∷ t) e h same few =
    let quote : c ≡ 34 = quote_not c (next_fails is_unquoted w c t h same) in
    let size : string_len (34 ∷ (w ++ c ∷ t)) ≡ length w + 2 =
    rw (← same) (rw (few_test (length w) (length (w ++ c ∷ t)) few) refl) in (
      34 ∷ w ++ 34 ∷ [],
      t,
      ap (λ x. x ∷ (w ++ c ∷ t)) e ∙ ap (λ x. 34 ∷ (w ++ x ∷ t)) quote ∙ sym (append_assoc (34 ∷ w) (34 ∷ []) t),
      omega (arith, length-append w (34 ∷ []), size, ap (λ x. string_len (x ∷ (w ++ c ∷ t))) e),
      (w, h, refl),
    )
  where
    few_test : (a b : ℕ) → a < b → ltb a b ≡ true
    few_test a b h = grind (arith, nat_tests)

string_found : (z : List ℕ) → 0 < string_len z → StringFound z
unfolding string_len
string_found [] h = absurd (omega arith)
string_found (b ∷ z) h =
    let t = and_parts (eqb b 34) (ltb (prefix_len is_unquoted z) (length z)) (if_some _ (prefix_len is_unquoted z + 2) h) in
    let r = run is_unquoted z in
    let few = less (prefix_len is_unquoted z) (length z) t.1 in
    let at = string_at b r.0 r.1 (eqb-true b 34 t.0) r.4 (r.3 ∙ ap (prefix_len is_unquoted) r.2) (omega (arith, few, r.3, ap length r.2)) in
    let P : List ℕ → Type 0 = λ (y : List ℕ). StringFound (b ∷ y) in subst P (sym r.2) at

string_greatest : (w rest : List ℕ) → IsString w → length w ≤ string_len (w ++ rest)
unfolding string_len
string_greatest w rest h =
    let whole : w ++ rest ≡ 34 ∷ (h.0 ++ 34 ∷ rest) = ap (λ (y : List ℕ). y ++ rest) h.2 ∙ append_assoc (34 ∷ h.0) (34 ∷ []) rest in
    let size = exact is_unquoted h.0 34 rest h.1 refl in
    let few : ltb (length h.0) (length (h.0 ++ 34 ∷ rest)) ≡ true = below (length h.0) (length (h.0 ++ 34 ∷ rest)) (omega (arith, length-append h.0 (34 ∷ rest))) in
    let value : string_len (34 ∷ (h.0 ++ 34 ∷ rest)) ≡ length h.0 + 2 = rw (size, few) refl in
    omega (arith, value, ap string_len whole, ap length h.2, length-append (34 ∷ h.0) (34 ∷ []))
  where
    below : (a b : ℕ) → a < b → ltb a b ≡ true
    below a b h = grind (arith, nat_tests)

string_some : (w : List ℕ) → IsString w → 0 < length w
string_some w h = rw h.2 (omega arith)

pub string_longest : IsLongest IsString string_len
unfolding StringFound
string_longest = record { found = string_found; greatest = string_greatest; some = string_some }

-- ---- comments to the end of a line

LineFound : List ℕ → Type 0
LineFound z = (w : List ℕ) × (rest : List ℕ) × (z ≡ w ++ rest) × (length w ≡ line_comment_len z) × IsLineComment w

line_found : (z : List ℕ) → 0 < line_comment_len z → LineFound z
unfolding line_comment_len LineFound
line_found [] h = absurd (omega arith)
line_found (b ∷ []) h = absurd (omega arith)
line_found (b ∷ c ∷ z) h =
    let test = if_some _ (2 + prefix_len is_in_line z) h in
    let t = and_parts (eqb b 47) (eqb c 47) test in
    let r = run is_in_line z in
    let size : line_comment_len (b ∷ c ∷ z) ≡ 2 + prefix_len is_in_line z = rw test refl in (
      47 ∷ 47 ∷ r.0,
      r.1,
      ap (λ x. x ∷ c ∷ z) (eqb-true b 47 t.0) ∙ ap (λ x. 47 ∷ x ∷ z) (eqb-true c 47 t.1) ∙ ap (λ (y : List ℕ). 47 ∷ 47 ∷ y) r.2,
      omega (arith, r.3, size),
      (r.0, r.4, refl),
    )

line_greatest : (w rest : List ℕ) → IsLineComment w → length w ≤ line_comment_len (w ++ rest)
unfolding line_comment_len
line_greatest w rest h = rw h.2 (omega (arith, run_greatest is_in_line h.0 rest h.1))

line_some : (w : List ℕ) → IsLineComment w → 0 < length w
line_some w h = rw h.2 (omega arith)

pub line_longest : IsLongest IsLineComment line_comment_len
unfolding LineFound
line_longest = record { found = line_found; greatest = line_greatest; some = line_some }

-- behind such a comment a line feed comes, or the text ends
line_next : (z w rest : List ℕ) (n : ℕ) → z ≡ 47 ∷ 47 ∷ (w ++ rest) → 2 + length w ≡ n → Passes is_in_line w → length w ≡ prefix_len is_in_line (w ++ rest) → IsCharBoundary z n
line_next z w [] n e size h same =
    let whole : length z ≡ n = omega (arith, ap length e, length-append w [], size) in subst (IsCharBoundary z) whole (IsCharBoundary-end z)
line_next z w (c ∷ t) n e size h same =
    let feed : c ≡ 10 = feed_not c (next_fails is_in_line w c t h same) in
    let value : get_or (47 ∷ 47 ∷ (w ++ c ∷ t)) (length (47 ∷ 47 ∷ w)) 0 ≡ c = get_or-append_seam (47 ∷ 47 ∷ w) c t 0 in
    let count : length (47 ∷ 47 ∷ w) ≡ n = omega (arith, size) in
    let there : get_or z n 0 ≡ c = ap (λ (y : List ℕ). get_or y n 0) e ∙ ap (λ i. get_or (47 ∷ 47 ∷ (w ++ c ∷ t)) i 0) (sym count) ∙ value in
    IsCharBoundary-before_ascii z n (omega (arith, ap length e, length-append w (c ∷ t), size)) (omega (arith, there, feed))

pub line_place : (z : List ℕ) → 0 < line_comment_len z → IsCharBoundary z (line_comment_len z)
unfolding line_comment_len
line_place [] h = absurd (omega arith)
line_place (b ∷ []) h = absurd (omega arith)
line_place (b ∷ c ∷ z) h =
    let test = if_some _ (2 + prefix_len is_in_line z) h in
    let t = and_parts (eqb b 47) (eqb c 47) test in
    let r = run is_in_line z in
    let size : line_comment_len (b ∷ c ∷ z) ≡ 2 + prefix_len is_in_line z = rw test refl in
    let split : b ∷ c ∷ z ≡ 47 ∷ 47 ∷ (r.0 ++ r.1) =
    ap (λ (x : ℕ). x ∷ c ∷ z) (eqb-true b 47 t.0) ∙ ap (λ (x : ℕ). 47 ∷ x ∷ z) (eqb-true c 47 t.1) ∙ ap (λ (y : List ℕ). 47 ∷ 47 ∷ y) r.2 in
    line_next (b ∷ c ∷ z) r.0 r.1 (line_comment_len (b ∷ c ∷ z)) split (omega (arith, size, r.3)) r.4 (r.3 ∙ ap (prefix_len is_in_line) r.2)
