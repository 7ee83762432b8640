-- Plain bytes are characters that are not refused.
use Rattle.std.proofs.Common.{◌≡◌, ℕ, suc, ◌+◌, ◌<◌, Bool, true, false, ltb, List, [], ◌∷◌, ◌++◌, drop, None, refl, ap, sym, subst, ◌∙◌, arith}
use Rattle.std.specs.List.{prefix_len}
use Rattle.std.specs.Char.{len_utf8, is_control}
use Rattle.std.specs.Str.{chars, IsUtf8}
use Rattle.std.proofs.lemmas.Bool.Decides.{nat_tests}
use Rattle.std.proofs.lemmas.Str.{encode_ascii, len_utf8_ascii, IsUtf8-past_char}
use Rattle.wac_parser_lexer.specs.Plain.{is_plain}
use Rattle.wac_parser_lexer.specs.Refused.{is_bidirectional, is_discouraged, is_plain_control, refusal, refusal_or, refused_from}

plain_small : (b : ℕ) → is_plain b ≡ true → b < 128
plain_small b h = grind (arith, nat_tests)

not_bidirectional : (b : ℕ) → b < 128 → is_bidirectional b ≡ false
not_bidirectional b h = grind (arith, nat_tests)

not_discouraged : (b : ℕ) → b < 128 → is_discouraged b ≡ false
not_discouraged b h = grind (arith, nat_tests)

no_control : (b : ℕ) → is_plain b ≡ true → is_plain_control b ≡ false → is_control b ≡ false
no_control b h k = grind (arith, nat_tests)

plain_by : (b : ℕ) → is_plain b ≡ true → (t : Bool) → is_plain_control b ≡ t → refusal b ≡ None
unfolding refusal
plain_by b h true e = rw (not_bidirectional b (plain_small b h), not_discouraged b (plain_small b h), e) refl
plain_by b h false e = rw (not_bidirectional b (plain_small b h), not_discouraged b (plain_small b h), e, no_control b h e) refl

small_test : (b : ℕ) → b < 128 → ltb b 128 ≡ true
small_test b h = grind (arith, nat_tests)

chars_small : (b : ℕ) (z : List ℕ) → b < 128 → chars (b ∷ z) ≡ b ∷ chars z
unfolding chars
chars_small b [] h = rw (small_test b h) refl
chars_small b (c ∷ z) h = rw (small_test b h) refl

one_plain : (at b : ℕ) (z : List ℕ) → is_plain b ≡ true → refused_from at (chars (b ∷ z)) ≡ refused_from (at + 1) (chars z)
one_plain at b z h =
    let small = plain_small b h in
    ap (refused_from at) (chars_small b z small) ∙ ap (λ o. refusal_or at b o (refused_from (at + len_utf8 b) (chars z))) (plain_by b h (is_plain_control b) refl)
    ∙ ap (λ n. refused_from (at + n) (chars z)) (len_utf8_ascii b small)

rest_utf8 : (b : ℕ) (z : List ℕ) → b < 128 → IsUtf8 (b ∷ z) → IsUtf8 z
rest_utf8 b z h u = IsUtf8-past_char (b ∷ z) z b u (sym (ap (λ (x : List ℕ). x ++ z) (encode_ascii b h)))

-- so many plain bytes are passed
Passed : ℕ → List ℕ → ℕ → Type 0
Passed at z n = (refused_from (at + n) (chars (drop n z)) ≡ refused_from at (chars z)) × IsUtf8 (drop n z)

passed_by : (at b : ℕ) (z : List ℕ) → IsUtf8 (b ∷ z) → (IsUtf8 z → Passed (at + 1) z (prefix_len is_plain z)) → (t : Bool) → is_plain b ≡ t → Passed at (b ∷ z) (prefix_len is_plain (b ∷ z))
unfolding Passed
passed_by at b z u rest true e =
    let r = rest (rest_utf8 b z (plain_small b e) u) in
    let n = prefix_len is_plain z in
    let size : prefix_len is_plain (b ∷ z) ≡ suc n = rw e (omega arith) in
    let place : at + suc n ≡ at + 1 + n = omega arith in
    let P : ℕ → Type 0 = Passed at (b ∷ z) in
    subst P (sym size) (ap (λ i. refused_from i (chars (drop n z))) place ∙ r.0 ∙ sym (one_plain at b z e), r.1)
passed_by at b z u rest false e =
    let size : prefix_len is_plain (b ∷ z) ≡ 0 = rw e refl in
    let place : at + 0 ≡ at = omega arith in
    let P : ℕ → Type 0 = Passed at (b ∷ z) in
    subst P (sym size) (ap (λ i. refused_from i (chars (b ∷ z))) place, u)

passed : (at : ℕ) (z : List ℕ) → IsUtf8 z → Passed at z (prefix_len is_plain z)
unfolding Passed
passed at [] u = let place : at + 0 ≡ at = omega arith in (ap (λ i. refused_from i (chars [])) place, u)
passed at (b ∷ z) u = passed_by at b z u (passed (at + 1) z) (is_plain b) refl

pub passes_plain : (at : ℕ) (z : List ℕ) → IsUtf8 z → (refused_from (at + prefix_len is_plain z) (chars (drop (prefix_len is_plain z) z)) ≡ refused_from at (chars z)) × IsUtf8 (drop (prefix_len is_plain z) z)
unfolding Passed
passes_plain = passed
