-- Names and what is fed of them, as strings and as their bytes.
use Rattle.std.proofs.Common.{◌≡◌, List, [], ◌∷◌, ◌++◌, ◌&&◌, Bool, refl, ap, ◌∙◌, suc, length}
use Rattle.std.specs.Prelude.{String, string_bytes}
use Rattle.std.specs.String.{string_eq}
use Rattle.std.specs.Cmp.Lexicographic.{pointwise}
use Rattle.std.specs.List.{flat_map}
use Rattle.std.specs.Hash.{HashWrites, slice, str, usize}
use Rattle.wac_types_base.specs.Entries.{texts_of, pairs_of}
use Rattle.wac_types_base.specs.Equal.{same_text, same_two, fed_two}

module _ {Z : Type 0} where
  pub texts_same : (xs ys : List (String Z)) → pointwise string_eq xs ys ≡ pointwise same_text (texts_of xs) (texts_of ys)
  texts_same [] [] = refl
  texts_same [] (y ∷ ys) = refl
  texts_same (x ∷ xs) [] = refl
  texts_same (x ∷ xs) (y ∷ ys) = ap (λ b. same_text (string_bytes x) (string_bytes y) && b) (texts_same xs ys)

  fed_each : (xs : List (String Z)) → flat_map (λ (s : String Z). str (string_bytes s)) xs ≡ flat_map str (texts_of xs)
  fed_each [] = refl
  fed_each (x ∷ xs) = ap (λ l. str (string_bytes x) ++ l) (fed_each xs)

  as_many : (xs : List (String Z)) → length xs ≡ length (texts_of xs)
  as_many [] = refl
  as_many (x ∷ xs) = ap (λ n. suc n) (as_many xs)

  pub texts_fed : (xs : List (String Z)) → slice (λ (s : String Z). str (string_bytes s)) xs ≡ slice str (texts_of xs)
  texts_fed xs = ap (λ l. usize (length xs) ++ l) (fed_each xs) ∙ ap (λ n. usize n ++ flat_map str (texts_of xs)) (as_many xs)

module _ {Y Z : Type 0} where
  abbrev pub pair_eq : String Y × String Z → String Y × String Z → Bool
  pair_eq a b = string_eq a.0 b.0 && string_eq a.1 b.1

  abbrev pub pair_fed : String Y × String Z → HashWrites
  pair_fed a = str (string_bytes a.0) ++ str (string_bytes a.1)

  pub pairs_same : (xs ys : List (String Y × String Z)) → pointwise pair_eq xs ys ≡ pointwise same_two (pairs_of xs) (pairs_of ys)
  pairs_same [] [] = refl
  pairs_same [] (y ∷ ys) = refl
  pairs_same (x ∷ xs) [] = refl
  pairs_same (x ∷ xs) (y ∷ ys) = ap (λ b. pair_eq x y && b) (pairs_same xs ys)

  pair_each : (xs : List (String Y × String Z)) → flat_map pair_fed xs ≡ flat_map fed_two (pairs_of xs)
  pair_each [] = refl
  pair_each (x ∷ xs) = ap (λ l. pair_fed x ++ l) (pair_each xs)

  as_many_pairs : (xs : List (String Y × String Z)) → length xs ≡ length (pairs_of xs)
  as_many_pairs [] = refl
  as_many_pairs (x ∷ xs) = ap (λ n. suc n) (as_many_pairs xs)

  pub pairs_fed : (xs : List (String Y × String Z)) → slice pair_fed xs ≡ slice fed_two (pairs_of xs)
  pairs_fed xs = ap (λ l. usize (length xs) ++ l) (pair_each xs) ∙ ap (λ n. usize n ++ flat_map fed_two (pairs_of xs)) (as_many_pairs xs)
