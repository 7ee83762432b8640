-- What is joined by a byte that its parts lack is found part by part.
use Rattle.std.proofs.Common.{◌≡◌, ◌≢◌, ℕ, zero, suc, ◌+◌, ◌<◌, ◌≤◌, Bool, true, false, ◌&&◌, eqb, ltb, eq-eqb, List, [], ◌∷◌, ◌++◌, length, drop, get_or, refl, ap, sym, ◌∙◌, arith, cond, append_assoc, length-append}
use Rattle.std.proofs.lemmas.Bool.{eqb-true, and_parts}
use Rattle.std.proofs.lemmas.List.{drop-drop}
use Rattle.std.proofs.Math.Seq.{get_or-append_seam}
use Rattle.std.proofs.Math.ListN.{get_or-append}
use Rattle.wac_parser_lexer.specs.Words.{Joined, one, more}
use Rattle.wac_parser_lexer.specs.Scan.{parts_len, next_len, joined_len}
use Rattle.wac_parser_lexer.specs.Longest.{IsLongest}
use Rattle.wac_parser_lexer.proofs.BlockPieceLaws.{positive}

pub is_above : (n : ℕ) → ltb 0 n ≡ true → 0 < n
is_above n h = grind arith

not_above : (a b : ℕ) → a ≤ b → (a < b → ⊥) → a ≡ b
not_above a b h refuted = omega (arith, refuted)

pub tested : (n k : ℕ) → 0 < cond (ltb 0 n) k 0 → 0 < n
tested zero k h = h
tested (suc n) k h = omega arith

fits_by : (L : List ℕ → Type 0) (len : List ℕ → ℕ) → IsLongest L len → (z : List ℕ) (n : ℕ) → len z ≡ n → len z ≤ length z
fits_by L len longest z zero e = omega (arith, e)
fits_by L len longest z (suc n) e = let f = longest.found z (omega (arith, e)) in omega (arith, f.3, ap length f.2, length-append f.0 f.1)

pub longest_fits : (L : List ℕ → Type 0) (len : List ℕ → ℕ) → IsLongest L len → (z : List ℕ) → len z ≤ length z
longest_fits L len longest z = fits_by L len longest z (len z) refl

-- ---- a loop over the parts

module _ (part : List ℕ → ℕ) (joint : ℕ) (fits : (z : List ℕ) → part z ≤ length z) where
  skips : (n : ℕ) (z : List ℕ) → n ≤ length z → parts_len part joint n z ≡ n + parts_len part joint 0 (drop n z)
  unfolding parts_len
  skips zero z few = omega arith
  skips (suc n) [] few = absurd (omega arith)
  skips (suc n) (b ∷ z) few = omega (arith, skips n z (omega arith))

  next_by : (b : ℕ) (z : List ℕ) → (t : Bool) → (eqb b joint && ltb 0 (part z)) ≡ t → 0 < next_len part joint (b ∷ z)
      → parts_len part joint 0 (b ∷ z) ≡ next_len part joint (b ∷ z) + parts_len part joint 0 (drop (next_len part joint (b ∷ z)) (b ∷ z))
  unfolding parts_len next_len
  next_by b z true e h = rw e (omega (arith, skips (part z) z (fits z)))
  next_by b z false e h = let k : 0 < 0 = rw e at h in absurd (omega arith)

  pub next_goes : (z : List ℕ) → 0 < next_len part joint z → parts_len part joint 0 z ≡ next_len part joint z + parts_len part joint 0 (drop (next_len part joint z) z)
  unfolding next_len
  next_goes [] h = absurd (omega arith)
  next_goes (b ∷ z) h = next_by b z (eqb b joint && ltb 0 (part z)) refl h

  next_ends : (b : ℕ) (z : List ℕ) → (t : Bool) → (eqb b joint && ltb 0 (part z)) ≡ t → next_len part joint (b ∷ z) ≡ 0 → parts_len part joint 0 (b ∷ z) ≡ 0
  unfolding parts_len next_len
  next_ends b z true e h = let k : suc (part z) ≡ 0 = rw e at h in absurd (omega arith)
  next_ends b z false e h = rw e refl

  pub next_stops : (z : List ℕ) → next_len part joint z ≡ 0 → parts_len part joint 0 z ≡ 0
  unfolding parts_len next_len
  next_stops [] h = refl
  next_stops (b ∷ z) h = next_ends b z (eqb b joint && ltb 0 (part z)) refl h

  -- one more joint and part, in a loop at `end`
  pub next_in : (z : List ℕ) (end len total : ℕ) → end + parts_len part joint 0 (drop end z) ≡ total → len ≡ next_len part joint (drop end z) → 0 < len
      → end + len + parts_len part joint 0 (drop (end + len) z) ≡ total
  next_in z end len total sum next some =
      let goes = next_goes (drop end z) (omega (arith, next)) in
      let same : parts_len part joint 0 (drop (end + len) z) ≡ parts_len part joint 0 (drop (next_len part joint (drop end z)) (drop end z)) =
      ap (parts_len part joint 0) (sym (drop-drop len end z)) ∙ ap (λ n. parts_len part joint 0 (drop n (drop end z))) next in
      omega (arith, goes, same, next, sum)

  pub next_out : (z : List ℕ) (end total : ℕ) → end + parts_len part joint 0 (drop end z) ≡ total → next_len part joint (drop end z) ≡ 0 → end ≡ total
  next_out z end total sum next = omega (arith, next_stops (drop end z) next, sum)

  pub first_part : (z : List ℕ) → 0 < part z → joined_len part joint z ≡ part z + parts_len part joint 0 (drop (part z) z)
  first_part z h = rw (positive (part z) h) (skips (part z) z (fits z))

module _ (L : List ℕ → Type 0) (part : List ℕ → ℕ) (joint : ℕ) (longest : IsLongest L part) (apart : (w : List ℕ) → L w → (i : ℕ) → i < length w → get_or w i 0 ≢ joint) where
  abbrev after : List ℕ → ℕ
  after z = parts_len part joint 0 z

  pub past_part : (w rest : List ℕ) → parts_len part joint (length w) (w ++ rest) ≡ length w + after rest
  unfolding parts_len
  past_part [] rest = omega arith
  past_part (b ∷ w) rest = omega (arith, past_part w rest)

  pub begins : (z : List ℕ) → 0 < part z → joined_len part joint z ≡ parts_len part joint (part z) z
  begins z h = rw (positive (part z) h) refl

  pub goes_on : (z : List ℕ) → 0 < part z → after (joint ∷ z) ≡ suc (joined_len part joint z)
  unfolding parts_len
  goes_on z h = rw (eq-eqb joint joint refl, positive (part z) h) refl

  pub stops : (b : ℕ) (z : List ℕ) → (eqb b joint && ltb 0 (part z)) ≡ false → after (b ∷ z) ≡ 0
  unfolding parts_len
  stops b z h = rw h refl

  at_part : (w rest : List ℕ) → 0 < part (w ++ rest) → length w ≡ part (w ++ rest) → joined_len part joint (w ++ rest) ≡ length w + after rest
  at_part w rest some same = begins (w ++ rest) some ∙ ap (λ n. parts_len part joint n (w ++ rest)) (sym same) ∙ past_part w rest

  -- a part that a joint follows is found as it is
  pub same_part : (w tail : List ℕ) → L w → length w ≡ part (w ++ joint ∷ tail)
  same_part w tail h =
      let z = w ++ joint ∷ tail in
      let ge = longest.greatest w (joint ∷ tail) h in
      let above : length w < part (w ++ joint ∷ tail) → ⊥ = λ lt.
      (let f = longest.found (w ++ joint ∷ tail) (omega arith) in
      apart f.0 f.4 (length w) (omega (arith, f.3, lt))
      (sym (get_or-append f.0 f.1 0 (length w) (omega (arith, f.3, lt))) ∙ ap (λ (l : List ℕ). get_or l (length w) 0) (sym f.2) ∙ get_or-append_seam w joint tail 0)) in
      not_above (length w) (part (w ++ joint ∷ tail)) ge above

  pub begun : (z : List ℕ) → 0 < joined_len part joint z → 0 < part z
  begun z h = tested (part z) _ h

  -- the first part, and what follows it
  pub record Whole (z : List ℕ) : Type 0 where
    pub first : List ℕ
    pub rest : List ℕ
    pub split : z ≡ first ++ rest
    pub same : length first ≡ part z
    pub is : L first
    pub sum : joined_len part joint z ≡ length first + after rest

  pub whole : (z : List ℕ) → 0 < part z → Whole z
  whole z h =
      let f = longest.found z h in
      let e : joined_len part joint z ≡ length f.0 + after f.1 = begins z h ∙ ap (λ n. parts_len part joint n z) (sym f.3) ∙ ap (parts_len part joint (length f.0)) f.2 ∙ past_part f.0 f.1 in
      record { first = f.0; rest = f.1; split = f.2; same = f.3; is = f.4; sum = e }

  pub joined_some : (w : List ℕ) → Joined L joint w → 0 < length w
  joined_some _ (one {w = w} h) = longest.some w h
  joined_some _ (more {w = v} {ws = ws} h j) = omega (arith, longest.some v h, length-append v (joint ∷ ws))

  pub joined_greatest : (w rest : List ℕ) → Joined L joint w → length w ≤ joined_len part joint (w ++ rest)
  joined_greatest _ rest (one {w = w} h) =
      let ge = longest.greatest w rest h in
      let some = longest.some w h in
      let s = whole (w ++ rest) (omega (arith, ge, some)) in
      omega (arith, ge, s.sum, s.same)
  joined_greatest _ rest (more {w = v} {ws = ws} h j) =
      let deeper = joined_greatest ws rest j in
      let some = joined_some ws j in
      let next = begun (ws ++ rest) (omega (arith, deeper, some)) in
      let same = same_part v (ws ++ rest) h in
      let first = longest.some v h in
      let sum = at_part v (joint ∷ (ws ++ rest)) (omega (arith, same, first)) same in
      rw append_assoc (omega (arith, sum, goes_on (ws ++ rest) next, deeper, length-append v (joint ∷ ws)))

  abbrev Found : List ℕ → Type 0
  Found z = (w : List ℕ) × (rest : List ℕ) × (z ≡ w ++ rest) × (length w ≡ joined_len part joint z) × Joined L joint w

  -- the same, behind a part
  abbrev Goes : List ℕ → List ℕ → Type 0
  Goes v r = (w : List ℕ) × (rest : List ℕ) × (v ++ r ≡ w ++ rest) × (length w ≡ length v + after r) × Joined L joint w

  goes_by : (v : List ℕ) (b : ℕ) (y : List ℕ) → L v → (0 < joined_len part joint y → Found y) → (t : Bool) → (eqb b joint && ltb 0 (part y)) ≡ t → Goes v (b ∷ y)
  goes_by v b y is deeper false e = (v, b ∷ y, refl, omega (arith, stops b y e), one is)
  goes_by v b y is deeper true e =
      let t = and_parts (eqb b joint) (ltb 0 (part y)) e in
      let next : 0 < part y = is_above (part y) t.1 in
      let s = whole y next in
      let some = longest.some s.first s.is in
      let d = deeper (omega (arith, s.sum, some)) in
      let same : b ≡ joint = eqb-true b joint t.0 in
      let sum : after (b ∷ y) ≡ suc (joined_len part joint y) = ap (λ c. after (c ∷ y)) same ∙ goes_on y next in (
        v ++ joint ∷ d.0,
        d.1,
        ap (λ c. v ++ c ∷ y) same ∙ ap (λ (l : List ℕ). v ++ joint ∷ l) d.2 ∙ sym (append_assoc v (joint ∷ d.0) d.1),
        omega (arith, length-append v (joint ∷ d.0), d.3, sum),
        more is d.4,
      )

  goes : (m : ℕ) → ((y : List ℕ) → length y ≤ m → 0 < joined_len part joint y → Found y) → (v r : List ℕ) → L v → length r ≤ suc m → Goes v r
  unfolding parts_len
  goes m deeper v [] is few = (v, [], refl, omega arith, one is)
  goes m deeper v (b ∷ y) is few = goes_by v b y is (deeper y (omega arith)) (eqb b joint && ltb 0 (part y)) refl

  joined_found_from : (m : ℕ) (z : List ℕ) → length z ≤ m → 0 < joined_len part joint z → Found z
  joined_found_from zero z few h =
      let s = whole z (begun z h) in
      let some = longest.some s.first s.is in
      absurd (omega (arith, ap length s.split, length-append s.first s.rest, some))
  joined_found_from (suc m) z few h =
      let s = whole z (begun z h) in
      let g = goes m (joined_found_from m) s.first s.rest s.is (omega (arith, ap length s.split, length-append s.first s.rest)) in
      (g.0, g.1, s.split ∙ g.2, g.3 ∙ sym s.sum, g.4)

  pub joined_longest : IsLongest (Joined L joint) (joined_len part joint)
  joined_longest = record { found = λ z h. joined_found_from (length z) z (omega arith) h; greatest = joined_greatest; some = joined_some }
