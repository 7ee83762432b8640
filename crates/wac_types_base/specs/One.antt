-- Tests of equality that say yes of equal ones alone, and of all of them.
use Rattle.std.proofs.Common.{◌≡◌, List, [], ◌∷◌, ◌&&◌, Bool, true, Some, None, refl, ap, ◌∙◌, ℕ, ◌==◌}
use Rattle.std.proofs.lemmas.Bool.{and_parts}
use Rattle.std.proofs.lemmas.Slice.Eq.{bytes_eq-Decides}
use Rattle.std.specs.Cmp.Lexicographic.{pointwise}
use Rattle.std.specs.Option.{option_eq}
use Rattle.std.specs.Cmp.{booleans_Decides, unsigned_Decides as nat_eq-Decides}
use mathlib.Core.Bool.{beq}
use Rattle.wac_types_base.specs.Entries.{names_of, values_of}
use Rattle.wac_types_base.specs.Equal.{same_text, same_columns, same_two, same_map, same_names}

-- `E` says yes of equal ones alone
abbrev pub IsOne : {T : Type 0} → (T → T → Bool) → Type 0
IsOne {T} E = (x y : T) → E x y ≡ true → x ≡ y

-- `E` says yes of each and itself
abbrev pub OfItself : {T : Type 0} → (T → T → Bool) → Type 0
OfItself {T} E = (x : T) → E x x ≡ true

pub both : (a b : Bool) → a ≡ true → b ≡ true → (a && b) ≡ true
both a b e f = ap (λ t. t && b) e ∙ f

module _ {T : Type 0} (E : T → T → Bool) where
  pub one_list : IsOne E → IsOne (pointwise E)
  one_list one [] [] e = refl
  one_list one [] (y ∷ ys) e = absurd (cc e)
  one_list one (x ∷ xs) [] e = absurd (cc e)
  one_list one (x ∷ xs) (y ∷ ys) e =
      let h = and_parts (E x y) (pointwise E xs ys) e in
      let first = one x y h.0 in
      let rest = one_list one xs ys h.1 in
      λ i. first i ∷ rest i

  pub list_itself : OfItself E → OfItself (pointwise E)
  list_itself r [] = refl
  list_itself r (x ∷ xs) = both (E x x) (pointwise E xs xs) (r x) (list_itself r xs)

  pub one_option : IsOne E → IsOne (option_eq E)
  one_option one None None e = refl
  one_option one None (Some y) e = absurd (cc e)
  one_option one (Some x) None e = absurd (cc e)
  one_option one (Some x) (Some y) e = ap Some (one x y e)

  pub option_itself : OfItself E → OfItself (option_eq E)
  option_itself r None = refl
  option_itself r (Some x) = r x

pub one_number : (n m : ℕ) → (n == m) ≡ true → n ≡ m
one_number n m e = (nat_eq-Decides n m).0 e

pub number_itself : (n : ℕ) → (n == n) ≡ true
number_itself n = (nat_eq-Decides n n).1 refl

pub one_bool : IsOne beq
one_bool a b e = (booleans_Decides a b).0 e

pub bool_itself : OfItself beq
bool_itself a = (booleans_Decides a a).1 refl

pub one_text : IsOne same_text
one_text x y e = (bytes_eq-Decides x y).0 e

pub one_names : IsOne same_names
one_names = one_list same_text one_text

pub one_two : IsOne same_two
one_two x y e =
    let h = and_parts (same_text x.0 y.0) (same_text x.1 y.1) e in
    let a = one_text x.0 y.0 h.0 in
    let b = one_text x.1 y.1 h.1 in
    λ i. (a i, b i)

by_columns : {N T : Type 0} (xs ys : List (N × T)) → names_of xs ≡ names_of ys → values_of xs ≡ values_of ys → xs ≡ ys
by_columns [] [] n v = refl
by_columns [] (y ∷ ys) n v = absurd (cc n)
by_columns (x ∷ xs) [] n v = absurd (cc n)
by_columns (x ∷ xs) (y ∷ ys) n v =
    let a : x.0 ≡ y.0 = cc n in
    let b : x.1 ≡ y.1 = cc v in
    let rest = by_columns xs ys (cc n) (cc v) in
    λ i. (a i, b i) ∷ rest i

pub one_columns : {N T : Type 0} (D : N → N → Bool) (E : T → T → Bool) → IsOne D → IsOne E → IsOne (same_columns D E)
one_columns D E d one xs ys e =
    let h = and_parts (pointwise D (names_of xs) (names_of ys)) (pointwise E (values_of xs) (values_of ys)) e in
    by_columns xs ys (one_list D d (names_of xs) (names_of ys) h.0) (one_list E one (values_of xs) (values_of ys) h.1)

pub one_map : {T : Type 0} (E : T → T → Bool) → IsOne E → IsOne (same_map E)
one_map E one = one_columns same_text E one_text one
