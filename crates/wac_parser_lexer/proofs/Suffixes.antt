-- What may have a suffix behind a byte is found with it.
use Rattle.std.proofs.Common.{◌≡◌, ◌≢◌, ℕ, suc, ◌+◌, ◌<◌, ◌≤◌, inl, inr, Bool, true, false, ◌&&◌, eqb, ltb, eq-eqb, List, [], ◌∷◌, ◌++◌, length, drop, get_or, refl, ap, sym, subst, ◌∙◌, arith, cond, append_assoc, length-append}
use Rattle.std.proofs.lemmas.Bool.{eqb-true, and_parts}
use Rattle.std.proofs.Math.Seq.{drop-append_seam}
use Rattle.wac_parser_lexer.specs.Words.{Followed, Suffixed}
use Rattle.wac_parser_lexer.specs.Scan.{next_len, followed_len, suffixed_len}
use Rattle.wac_parser_lexer.specs.Longest.{IsLongest}
use Rattle.wac_parser_lexer.proofs.Joins.{tested, same_part, is_above}
use Rattle.wac_parser_lexer.proofs.BlockPieceLaws.{positive}

module _ (L M : List ℕ → Type 0) (part other : List ℕ → ℕ) (joint : ℕ) (longest : IsLongest L part) (behind : IsLongest M other)
    (apart : (w : List ℕ) → L w → (i : ℕ) → i < length w → get_or w i 0 ≢ joint) where
  begins : (z : List ℕ) → 0 < part z → suffixed_len part joint other z ≡ part z + next_len other joint (drop (part z) z)
  begins z h = rw (positive (part z) h) refl

  at_part : (a rest : List ℕ) → length a ≡ part (a ++ rest) → 0 < length a → suffixed_len part joint other (a ++ rest) ≡ length a + next_len other joint rest
  at_part a rest same some =
      begins (a ++ rest) (omega (arith, same)) ∙ ap (λ n. n + next_len other joint (drop n (a ++ rest))) (sym same)
      ∙ ap (λ (y : List ℕ). length a + next_len other joint y) (drop-append_seam a rest)

  at_joint : (y : List ℕ) → 0 < other y → next_len other joint (joint ∷ y) ≡ suc (other y)
  unfolding next_len
  at_joint y h = rw (eq-eqb joint joint refl, positive (other y) h) refl

  greatest : (w rest : List ℕ) → Suffixed L joint M w → length w ≤ suffixed_len part joint other (w ++ rest)
  greatest w rest (inl h) =
      let ge = longest.greatest w rest h in
      let some = longest.some w h in
      let e = begins (w ++ rest) (omega (arith, ge, some)) in
      omega (arith, ge, e)
  greatest w rest (inr h) =
      let a = h.0 in
      let b = h.1 in
      let same = same_part L part joint longest apart a (b ++ rest) h.2 in
      let ge = behind.greatest b rest h.3 in
      let some = behind.some b h.3 in
      let at = at_part a (joint ∷ (b ++ rest)) same (longest.some a h.2) in
      let next = at_joint (b ++ rest) (omega (arith, ge, some)) in
      let whole : w ++ rest ≡ a ++ joint ∷ (b ++ rest) = ap (λ (y : List ℕ). y ++ rest) h.4 ∙ append_assoc a (joint ∷ b) rest in
      omega (arith, ge, at, next, ap (suffixed_len part joint other) whole, ap length h.4, length-append a (joint ∷ b))

  Found : List ℕ → Type 0
  Found z = (w : List ℕ) × (rest : List ℕ) × (z ≡ w ++ rest) × (length w ≡ suffixed_len part joint other z) × Suffixed L joint M w

  found_by : (a : List ℕ) (b : ℕ) (y : List ℕ) → L a → length a ≡ part (a ++ b ∷ y) → (t : Bool) → (eqb b joint && ltb 0 (other y)) ≡ t → Found (a ++ b ∷ y)
  unfolding next_len Found
  found_by a b y is same false e =
      let at = at_part a (b ∷ y) same (longest.some a is) in
      let none : next_len other joint (b ∷ y) ≡ 0 = rw e refl in
      (a, b ∷ y, refl, omega (arith, at, none), inl is)
  found_by a b y is same true e =
      let t = and_parts (eqb b joint) (ltb 0 (other y)) e in
      let f = behind.found y (is_above (other y) t.1) in
      let at = at_part a (b ∷ y) same (longest.some a is) in
      let next : next_len other joint (b ∷ y) ≡ suc (other y) = rw e refl in (
        a ++ joint ∷ f.0,
        f.1,
        ap (λ c. a ++ c ∷ y) (eqb-true b joint t.0) ∙ ap (λ (l : List ℕ). a ++ joint ∷ l) f.2 ∙ sym (append_assoc a (joint ∷ f.0) f.1),
        omega (arith, length-append a (joint ∷ f.0), f.3, at, next),
        inr (a, f.0, is, f.4, refl),
      )

  found_at : (a rest : List ℕ) → L a → length a ≡ part (a ++ rest) → Found (a ++ rest)
  unfolding next_len Found
  found_at a [] is same = let at = at_part a [] same (longest.some a is) in (a, [], refl, omega (arith, at), inl is)
  found_at a (b ∷ y) is same = found_by a b y is same (eqb b joint && ltb 0 (other y)) refl

  found : (z : List ℕ) → 0 < suffixed_len part joint other z → Found z
  found z h =
      let f = longest.found z (tested (part z) _ h) in
      let P : List ℕ → Type 0 = Found in subst P (sym f.2) (found_at f.0 f.1 f.4 (f.3 ∙ ap part f.2))

  some : (w : List ℕ) → Suffixed L joint M w → 0 < length w
  some w (inl h) = longest.some w h
  some w (inr h) = let a = longest.some h.0 h.2 in omega (arith, a, ap length h.4, length-append h.0 (joint ∷ h.1))

  pub suffixed_longest : IsLongest (Suffixed L joint M) (suffixed_len part joint other)
  unfolding Found
  suffixed_longest = record { found = found; greatest = greatest; some = some }

  -- ---- what must have the suffix

  follows : (z : List ℕ) → 0 < part z → 0 < next_len other joint (drop (part z) z) → followed_len part joint other z ≡ part z + next_len other joint (drop (part z) z)
  follows z h k = rw (positive (part z) h, positive (next_len other joint (drop (part z) z)) k) refl

  follow_parts : (a b : Bool) (n : ℕ) → 0 < cond (a && b) n 0 → (a ≡ true) × (b ≡ true)
  follow_parts true true n h = (refl, refl)
  follow_parts true false n h = absurd (omega arith)
  follow_parts false b n h = absurd (omega arith)

  follow_greatest : (w rest : List ℕ) → Followed L joint M w → length w ≤ followed_len part joint other (w ++ rest)
  follow_greatest w rest h =
      let a = h.0 in
      let b = h.1 in
      let same = same_part L part joint longest apart a (b ++ rest) h.2 in
      let begins_with = longest.some a h.2 in
      let ge = behind.greatest b rest h.3 in
      let some = behind.some b h.3 in
      let next = at_joint (b ++ rest) (omega (arith, ge, some)) in
      let back : drop (part (a ++ joint ∷ (b ++ rest))) (a ++ joint ∷ (b ++ rest)) ≡ joint ∷ (b ++ rest) =
      ap (λ n. drop n (a ++ joint ∷ (b ++ rest))) (sym same) ∙ drop-append_seam a (joint ∷ (b ++ rest)) in
      let sum = follows (a ++ joint ∷ (b ++ rest)) (omega (arith, same, begins_with)) (omega (arith, ap (next_len other joint) back, next)) in
      let whole : w ++ rest ≡ a ++ joint ∷ (b ++ rest) = ap (λ (y : List ℕ). y ++ rest) h.4 ∙ append_assoc a (joint ∷ b) rest in
      omega (arith, ge, sum, next, same, ap (next_len other joint) back, ap (followed_len part joint other) whole, ap length h.4, length-append a (joint ∷ b))

  FollowFound : List ℕ → Type 0
  FollowFound z = (w : List ℕ) × (rest : List ℕ) × (z ≡ w ++ rest) × (length w ≡ followed_len part joint other z) × Followed L joint M w

  follow_by : (a : List ℕ) (b : ℕ) (y : List ℕ) → L a → followed_len part joint other (a ++ b ∷ y) ≡ length a + next_len other joint (b ∷ y) → (t : Bool) → (eqb b joint && ltb 0 (other y)) ≡ t
      → 0 < next_len other joint (b ∷ y) → FollowFound (a ++ b ∷ y)
  unfolding next_len FollowFound
  follow_by a b y is sum false e some = let none : next_len other joint (b ∷ y) ≡ 0 = rw e refl in absurd (omega (arith, none))
  follow_by a b y is sum true e some =
      let t = and_parts (eqb b joint) (ltb 0 (other y)) e in
      let f = behind.found y (is_above (other y) t.1) in
      let next : next_len other joint (b ∷ y) ≡ suc (other y) = rw e refl in (
        a ++ joint ∷ f.0,
        f.1,
        ap (λ c. a ++ c ∷ y) (eqb-true b joint t.0) ∙ ap (λ (l : List ℕ). a ++ joint ∷ l) f.2 ∙ sym (append_assoc a (joint ∷ f.0) f.1),
        omega (arith, length-append a (joint ∷ f.0), f.3, next, sum),
        (a, f.0, is, f.4, refl),
      )

  follow_at : (a rest : List ℕ) → L a → followed_len part joint other (a ++ rest) ≡ length a + next_len other joint rest → 0 < next_len other joint rest → FollowFound (a ++ rest)
  unfolding next_len FollowFound
  follow_at a [] is sum some = absurd (omega arith)
  follow_at a (b ∷ y) is sum some = follow_by a b y is sum (eqb b joint && ltb 0 (other y)) refl some

  follow_found : (z : List ℕ) → 0 < followed_len part joint other z → FollowFound z
  follow_found z h =
      let t = follow_parts (ltb 0 (part z)) (ltb 0 (next_len other joint (drop (part z) z))) _ h in
      let has = is_above (part z) t.0 in
      let next = is_above (next_len other joint (drop (part z) z)) t.1 in
      let f = longest.found z has in
      let same : length f.0 ≡ part (f.0 ++ f.1) = f.3 ∙ ap part f.2 in
      let back : drop (part z) z ≡ f.1 = ap (λ n. drop n z) (sym f.3) ∙ ap (drop (length f.0)) f.2 ∙ drop-append_seam f.0 f.1 in
      let sum : followed_len part joint other (f.0 ++ f.1) ≡ length f.0 + next_len other joint f.1 =
      omega (arith, ap (followed_len part joint other) f.2, follows z has next, f.3, ap (next_len other joint) back) in
      let P : List ℕ → Type 0 = FollowFound in subst P (sym f.2) (follow_at f.0 f.1 f.4 sum (omega (arith, ap (next_len other joint) back, next)))

  follow_some : (w : List ℕ) → Followed L joint M w → 0 < length w
  follow_some w h = let a = longest.some h.0 h.2 in omega (arith, a, ap length h.4, length-append h.0 (joint ∷ h.1))

  pub followed_longest : IsLongest (Followed L joint M) (followed_len part joint other)
  unfolding FollowFound
  followed_longest = record { found = follow_found; greatest = follow_greatest; some = follow_some }
