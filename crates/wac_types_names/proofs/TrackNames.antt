-- Texts of numbers from 1, as tracks have them.
use Rattle.std.proofs.Common.{◌≡◌, ◌↔◌, ◌<◌, ◌^◌, ℕ, List, [], ◌∷◌, true, Result, Ok, Err, length, get_or, zero, suc, sym, ap, ◌∙◌, subst, arith, IsTrue}
use Rattle.std.specs.Prelude.{is_ok, slice_get, Some, None}
use Rattle.std.specs.Fmt.{decimal}
use Rattle.std.specs.Str.Parse.{ParsesUnsigned, AllDigits, digits_value}
use Rattle.std.specs.Result.{OkIff}
use Rattle.std.proofs.lemmas.Fmt.{first_decimal, decimal_digit, decimal-digits_value, parse-decimal}
use Rattle.std.proofs.lemmas.Str.Parse.{numerals_by_value, tells_digits, parse_plain}
use Rattle.wac_types_names.specs.Tracks.{IsTrackNumber}

-- its first byte is above `0`
abbrev pub IsBegunAboveZero : List ℕ → Type 0
IsBegunAboveZero t = 48 < get_or t 0 0

pub first_is : (t : List ℕ) (c : ℕ) → slice_get t 0 ≡ Some c → get_or t 0 0 ≡ c
first_is [] c e = absurd (cc e)
first_is (x ∷ t) c e = cc e

pub none_begins : (t : List ℕ) → slice_get t 0 ≡ None → IsBegunAboveZero t → ⊥
none_begins [] e b = omega (arith, b)
none_begins (x ∷ t) e b = absurd (cc e)

-- such a text begins with a digit above 0
pub begins_above_zero : (t : List ℕ) → IsTrackNumber t → IsBegunAboveZero t
begins_above_zero t m = subst IsBegunAboveZero (sym m.3) (first_decimal m.0 m.1 m.2)

-- and one that does and is read as a number is such a text
pub read_number : {E : Type 0} (t : List ℕ) (r : Result ℕ E) → ParsesUnsigned 64 10 t r → IsBegunAboveZero t → IsTrue (is_ok r) ↔ IsTrackNumber t
read_number {E} t r p b = (λ e. by r (parse_plain (numerals_by_value _ tells_digits) 64 t r p (λ q. omega (arith, b))) e, λ m. ap is_ok (parse-decimal 64 m.0 t r m.2 m.2 m.3 p))
  where
    by : (q : Result ℕ E) → OkIff q (AllDigits 10 t × (0 < length t) × (digits_value 10 t < 2 ^ 64)) (digits_value 10 t) → is_ok q ≡ true → IsTrackNumber t
    by (Ok n) h e =
        let text : decimal n ≡ t = ap decimal h.1 ∙ decimal-digits_value (numerals_by_value _ tells_digits) t h.0.0 h.0.1 (λ z. omega (arith, b)) h.0.2 in
        (n, positive n text, omega (arith, h.1, h.0.2), sym text)
      where
        positive : (k : ℕ) → decimal k ≡ t → 0 < k
        positive zero s = omega (arith, b, ap (λ (l : List ℕ). get_or l 0 0) (sym (decimal_digit 0 (omega arith)) ∙ s))
        positive (suc k) s = omega arith
    by (Err x) h e = absurd (cc e)
