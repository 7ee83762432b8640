-- How many bytes the first character of a text has.
use Rattle.std.proofs.Common.{◌≡◌, ℕ, ◌+◌, ◌<◌, ◌≤◌, ◌/◌, ◌%◌, Bool, true, false, ltb, List, [], ◌∷◌, ◌++◌, length, refl, ap, sym, ◌∙◌, arith}
use Rattle.std.proofs.lemmas.Bool.{and_parts}
use Rattle.std.proofs.lemmas.Bool.Decides.{nat_tests}
use Rattle.std.proofs.lemmas.Str.{IsCharBoundary-start}
use Rattle.std.specs.Char.{encode_utf8, len_utf8}
use Rattle.std.specs.Str.{IsUtf8, IsCharBoundary, all_scalars, encode_utf8_all}
use Rattle.std.specs.List.{prefix_len}
use Rattle.wac_parser_lexer.specs.Pieces.{is_continuation, char_len}

next_is : (x : ℕ) → is_continuation (128 + x % 64) ≡ true
next_is x = grind (arith, nat_tests)

not_continuation : (b : ℕ) → (128 ≤ b → 192 ≤ b) → is_continuation b ≡ false
not_continuation b h = grind (arith, nat_tests)

rest_stops : (rest : List ℕ) → IsCharBoundary rest 0 → prefix_len is_continuation rest ≡ 0
rest_stops [] h = refl
rest_stops (b ∷ t) h = let e : is_continuation b ≡ false = not_continuation b (h.1 (omega arith)) in rw e refl

char_by : (c : ℕ) (rest : List ℕ) → prefix_len is_continuation rest ≡ 0 → (t u v : Bool) → ltb c 128 ≡ t → ltb c 2048 ≡ u → ltb c 65536 ≡ v → char_len (encode_utf8 c ++ rest) ≡ len_utf8 c
unfolding encode_utf8
char_by c rest stop true u v e f g = rw (e, stop) refl
char_by c rest stop false true v e f g = rw (e, f, next_is c, stop) refl
char_by c rest stop false false true e f g = rw (e, f, g, next_is (c / 64), next_is c, stop) refl
char_by c rest stop false false false e f g = rw (e, f, g, next_is (c / 4096), next_is (c / 64), next_is c, stop) refl

first_char : (z cs : List ℕ) → all_scalars cs ≡ true → encode_utf8_all cs ≡ z → 0 < length z → (c : ℕ) × (rest : List ℕ) × (z ≡ encode_utf8 c ++ rest) × (char_len z ≡ len_utf8 c)
first_char z [] h e some = absurd (omega (arith, ap length e))
first_char z (c ∷ cs) h e some =
    let rest = encode_utf8_all cs in
    let text : IsUtf8 rest = (cs, ((and_parts _ (all_scalars cs) h).1, refl)) in
    let stop = rest_stops rest (IsCharBoundary-start rest text) in
    (c, rest, sym e, ap char_len (sym e) ∙ char_by c rest stop (ltb c 128) (ltb c 2048) (ltb c 65536) refl refl refl)

pub one_char : (z : List ℕ) → IsUtf8 z → 0 < length z → (c : ℕ) × (rest : List ℕ) × (z ≡ encode_utf8 c ++ rest) × (char_len z ≡ len_utf8 c)
one_char z u some = first_char z u.0 u.1.0 u.1.1 some
