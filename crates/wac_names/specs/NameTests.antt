-- Tests of the forms of names.
use Rattle.std.specs.Prelude.{◌==◌, ℕ, List, [], ◌∷◌, length, nat_lt, codes, ◌&&◌, ◌||◌, not, Bool, true, false, take, drop}
use Rattle.std.specs.List.{list_all, list_any, slice_split, before_first, after_first, position_or_len}
use Rattle.std.specs.Cmp.Lexicographic.{pointwise}
use Rattle.wac_names.specs.ComponentNames.{word_test}

-- each part between such bytes passes
abbrev pub joined_test : ℕ → (List ℕ → Bool) → List ℕ → Bool
joined_test c t text = list_all t (slice_split (λ b. b == c) text)

abbrev pub label_test : List ℕ → Bool
label_test text = joined_test 45 word_test text

-- the parts around the first such byte pass
abbrev pub pair_test : ℕ → (List ℕ → Bool) → (List ℕ → Bool) → List ℕ → Bool
pair_test c t u text = nat_lt (position_or_len (λ b. b == c) text) (length text)
    && (t (before_first (λ b. b == c) text) && u (after_first (λ b. b == c) text))

-- it begins so, and the rest passes
abbrev pub behind_test : List ℕ → (List ℕ → Bool) → List ℕ → Bool
behind_test front t text = pointwise ◌==◌ (take (length front) text) front && t (drop (length front) text)

abbrev pub member_test : List ℕ → Bool
member_test text = pair_test 46 label_test label_test text

abbrev pub plain_test : List ℕ → Bool
plain_test text = label_test text
    || (behind_test (codes "[constructor]") label_test text
    || (behind_test (codes "[method]") member_test text || behind_test (codes "[static]") member_test text))

abbrev pub package_test : List ℕ → Bool
package_test text = pair_test 58 label_test (joined_test 58 label_test) text

abbrev pub path_test : List ℕ → Bool
path_test text = pair_test 47 package_test (joined_test 47 label_test) text

abbrev pub is_full : List ℕ → Bool
is_full [] = false
is_full (x ∷ xs) = true

abbrev pub unbroken_test : List ℕ → Bool
unbroken_test text = is_full text && list_all (λ b. not (b == 60)) text

-- not empty before the `>` that ends it, and without a `<`
abbrev pub ended : List ℕ → Bool
ended [] = false
ended (b ∷ []) = b == 62
ended (b ∷ c ∷ cs) = not (b == 60) && ended (c ∷ cs)

abbrev pub inside_test : List ℕ → Bool
inside_test [] = false
inside_test (b ∷ bs) = not (b == 60) && ended bs

abbrev pub bracketed_test : List ℕ → Bool
bracketed_test text =
    list_any (λ front. behind_test front inside_test text) (codes "unlocked-dep=<" ∷ codes "locked-dep=<" ∷ codes "url=<"
    ∷ codes "integrity=<" ∷ [])
