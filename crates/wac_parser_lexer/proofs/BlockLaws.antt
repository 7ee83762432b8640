-- The scan of block comments gives the longest one.
use Rattle.std.proofs.Common.{◌≡◌, ◌≢◌, ℕ, zero, suc, ◌+◌, ◌-◌, ◌<◌, ◌≤◌, Bool, true, false, cond, eqb, List, [], ◌∷◌, ◌++◌, length, refl, ap, sym, subst, ◌∙◌, arith, append_assoc, length-append}
use Rattle.std.proofs.lemmas.Bool.{eqb-true, and_parts}
use Rattle.wac_parser_lexer.specs.Words.{opens_comment, closes_comment, Inside, close, byte, comment, IsBlockComment}
use Rattle.wac_parser_lexer.specs.Scan.{past, inside_len, block_comment_len}
use Rattle.wac_parser_lexer.specs.Longest.{IsLongest}
use Rattle.wac_parser_lexer.proofs.CommentLaws.{past_some, past_past, open_step, close_step, byte_step, last_step, no_more}

-- ---- a comment is passed as a whole

byte_past : (more b c : ℕ) (z : List ℕ) (n m : ℕ) → opens_comment b c ≡ false → closes_comment b c ≡ false → inside_len more (c ∷ z) ≡ past n m → inside_len more (b ∷ c ∷ z) ≡ past (suc n) m
byte_past more b c z n m h k e =
    let one : 1 + n ≡ suc n = omega arith in
    byte_step more b c z h k ∙ ap (past 1) e ∙ past_past 1 n m ∙ ap (λ i. past i m) one

close_past : (more : ℕ) (z : List ℕ) → inside_len (suc more) (42 ∷ 47 ∷ z) ≡ past 2 (inside_len more z)
close_past more z =
    let some : suc more ≢ 0 = λ e. omega arith in
    let one : suc more - 1 ≡ more = omega arith in
    close_step (suc more) 42 47 z refl refl some ∙ ap (λ m. past 2 (inside_len m z)) one

pub inside_past : (v : List ℕ) → Inside v → (more : ℕ) (y : List ℕ) → inside_len (suc more) (v ++ y) ≡ past (length v) (inside_len more y)
inside_past _ close more y = close_past more y
inside_past _ (byte {b = b} {c = c} {w = w} h k is) more y = byte_past (suc more) b c (w ++ y) (length (c ∷ w)) (inside_len more y) h k (inside_past (c ∷ w) is more y)
inside_past _ (comment {v = v} {w = w} h k) more y =
    let one : suc more + 1 ≡ suc (suc more) = omega arith in
    let size : 2 + (length v + length w) ≡ length (47 ∷ 42 ∷ (v ++ w)) = omega (arith, length-append v w) in
    open_step (suc more) 47 42 (v ++ w ++ y) refl
    ∙ ap (λ (l : List ℕ). past 2 (inside_len (suc more + 1) l)) (append_assoc v w y)
    ∙ ap (λ m. past 2 (inside_len m (v ++ (w ++ y)))) one
    ∙ ap (past 2) (inside_past v h (suc more) (w ++ y) ∙ ap (past (length v)) (inside_past w k more y) ∙ past_past (length v) (length w) (inside_len more y))
    ∙ past_past 2 (length v + length w) (inside_len more y)
    ∙ ap (λ n. past n (inside_len more y)) size

pub inside_some : (v : List ℕ) → Inside v → 0 < length v
inside_some _ close = omega arith
inside_some _ (byte {b = b} {c = c} {w = w} h k is) = omega arith
inside_some _ (comment {v = v} {w = w} h k) = omega arith

pub inside_whole : (v : List ℕ) → Inside v → (y : List ℕ) → inside_len 0 (v ++ y) ≡ length v
inside_whole _ close y = last_step 42 47 y refl refl
inside_whole _ (byte {b = b} {c = c} {w = w} h k is) y =
    byte_step 0 b c (w ++ y) h k ∙ ap (past 1) (inside_whole (c ∷ w) is y) ∙ past_some 1 (length (c ∷ w)) (omega arith) ∙ omega arith
inside_whole _ (comment {v = v} {w = w} h k) y =
    let some = inside_some w k in
    let size : 2 + (length v + length w) ≡ length (47 ∷ 42 ∷ (v ++ w)) = omega (arith, length-append v w) in
    open_step 0 47 42 (v ++ w ++ y) refl
    ∙ ap (λ (l : List ℕ). past 2 (inside_len 1 l)) (append_assoc v w y)
    ∙ ap (past 2) (inside_past v h 0 (w ++ y) ∙ ap (past (length v)) (inside_whole w k y) ∙ past_some (length v) (length w) some)
    ∙ past_some 2 (length v + length w) (omega arith)
    ∙ size

-- ---- what is passed is a comment

-- the rest of a comment in which so many more are open
Rests : ℕ → List ℕ → Type 0
Rests zero w = Inside w
Rests (suc more) w = (v : List ℕ) × (u : List ℕ) × Inside v × Rests more u × (w ≡ v ++ u)

module _ (more b c : ℕ) (w : List ℕ) (h : opens_comment b c ≡ false) (k : closes_comment b c ≡ false) where
  byte_first : (v u : List ℕ) → Inside v → Rests more u → c ∷ w ≡ v ++ u → Rests (suc more) (b ∷ c ∷ w)
  unfolding Rests
  byte_first [] u is rests e = absurd (let s = inside_some [] is in omega (arith, s))
  byte_first (d ∷ v) u is rests e =
      let same : c ≡ d = cc in
      let moved : Inside (c ∷ v) = (let P : ℕ → Type 0 = λ (x : ℕ). Inside (x ∷ v) in subst P (sym same) is) in
      let whole : c ∷ w ≡ c ∷ (v ++ u) = e ∙ ap (λ (x : ℕ). x ∷ (v ++ u)) (sym same) in
      (b ∷ c ∷ v, u, byte h k moved, rests, ap (λ (l : List ℕ). b ∷ l) whole)

-- a byte in front of the first of them
byte_before : (more b c : ℕ) (w : List ℕ) → opens_comment b c ≡ false → closes_comment b c ≡ false → Rests more (c ∷ w) → Rests more (b ∷ c ∷ w)
unfolding Rests
byte_before zero b c w h k r = byte h k r
byte_before (suc more) b c w h k r = byte_first more b c w h k r.0 r.1 r.2 r.3 r.4

-- a comment in front of the first of them
comment_before : (more : ℕ) (v u : List ℕ) → Inside v → Rests more u → Rests more (47 ∷ 42 ∷ (v ++ u))
unfolding Rests
comment_before zero v u h r = comment h r
comment_before (suc more) v u h r = (
  47 ∷ 42 ∷ (v ++ r.0),
  r.1,
  comment h r.2,
  r.3,
  ap (λ (l : List ℕ). 47 ∷ 42 ∷ (v ++ l)) r.4 ∙ ap (λ (l : List ℕ). 47 ∷ 42 ∷ l) (sym (append_assoc v r.0 r.1)),
)

Passed : ℕ → List ℕ → Type 0
Passed more z = (w : List ℕ) × (rest : List ℕ) × (z ≡ w ++ rest) × (length w ≡ inside_len more z) × Rests more w

passed_size : (n m : ℕ) → 0 < past n m → 0 < m
passed_size n zero h = h
passed_size n (suc m) h = omega arith

-- the case of two bytes
module _ (b c : ℕ) (z : List ℕ) where
  pass_open : (more : ℕ) → opens_comment b c ≡ true → 0 < inside_len (more + 1) z → Passed (more + 1) z → Passed more (b ∷ c ∷ z)
  unfolding Passed Rests
  pass_open more h some p =
      let t = and_parts (eqb b 47) (eqb c 42) h in
      let one : more + 1 ≡ suc more = omega arith in
      let r : Rests (suc more) p.0 = (let P : ℕ → Type 0 = λ (m : ℕ). Rests m p.0 in subst P one p.4) in
      let size = open_step more b c z h ∙ past_some 2 (inside_len (more + 1) z) some in
      let same : b ∷ c ∷ z ≡ 47 ∷ 42 ∷ z = ap (λ (x : ℕ). x ∷ c ∷ z) (eqb-true b 47 t.0) ∙ ap (λ (x : ℕ). 47 ∷ x ∷ z) (eqb-true c 42 t.1) in
      let inner : p.0 ≡ r.0 ++ r.1 = r.4 in (
        47 ∷ 42 ∷ (r.0 ++ r.1),
        p.1,
        same ∙ ap (λ (l : List ℕ). 47 ∷ 42 ∷ l) (p.2 ∙ ap (λ (l : List ℕ). l ++ p.1) inner),
        omega (arith, p.3, size, ap length inner),
        comment_before more r.0 r.1 r.2 r.3,
      )

  closed : closes_comment b c ≡ true → b ∷ c ∷ z ≡ 42 ∷ 47 ∷ z
  closed h =
      let t = and_parts (eqb b 42) (eqb c 47) h in
      ap (λ (x : ℕ). x ∷ c ∷ z) (eqb-true b 42 t.0) ∙ ap (λ (x : ℕ). 42 ∷ x ∷ z) (eqb-true c 47 t.1)

  pass_last : opens_comment b c ≡ false → closes_comment b c ≡ true → Passed 0 (b ∷ c ∷ z)
  unfolding Passed Rests
  pass_last h k = (42 ∷ 47 ∷ [], z, closed k, sym (last_step b c z h k), close)

  pass_close : (more : ℕ) → opens_comment b c ≡ false → closes_comment b c ≡ true → 0 < inside_len more z → Passed more z → Passed (suc more) (b ∷ c ∷ z)
  unfolding Passed Rests
  pass_close more h k some p =
      let size = ap (inside_len (suc more)) (closed k) ∙ close_past more z ∙ past_some 2 (inside_len more z) some in
      (42 ∷ 47 ∷ p.0, p.1, closed k ∙ ap (λ (l : List ℕ). 42 ∷ 47 ∷ l) p.2, omega (arith, p.3, size), (42 ∷ 47 ∷ [], p.0, close, p.4, refl))

  pass_byte : (more : ℕ) → opens_comment b c ≡ false → closes_comment b c ≡ false → 0 < inside_len more (c ∷ z) → Passed more (c ∷ z) → Passed more (b ∷ c ∷ z)
  unfolding Passed
  pass_byte more h k some p = pass_front more h k some p.0 p.1 p.2 p.3 p.4
    where
      pass_front : (more : ℕ) → opens_comment b c ≡ false → closes_comment b c ≡ false → 0 < inside_len more (c ∷ z) → (w rest : List ℕ) → c ∷ z ≡ w ++ rest → length w ≡ inside_len more (c ∷ z) → Rests more w → Passed more (b ∷ c ∷ z)
      pass_front more h k some [] rest e size r = absurd (omega (arith, size))
      pass_front more h k some (d ∷ w) rest e size r =
          let same : c ≡ d = cc in
          let moved : Rests more (c ∷ w) = (let P : ℕ → Type 0 = λ (x : ℕ). Rests more (x ∷ w) in subst P (sym same) r) in
          let whole : c ∷ z ≡ c ∷ (w ++ rest) = e ∙ ap (λ (x : ℕ). x ∷ (w ++ rest)) (sym same) in
          let step = byte_step more b c z h k ∙ past_some 1 (inside_len more (c ∷ z)) some in
          (b ∷ c ∷ w, rest, ap (λ (l : List ℕ). b ∷ l) whole, omega (arith, size, step), byte_before more b c w h k moved)

one_more : (more : ℕ) (z : List ℕ) → length z ≤ 1 → 0 < inside_len more z → Passed more z
one_more more z few h = let e = no_more more z few in absurd (omega (arith, e))

pass_zero : (b c : ℕ) (z : List ℕ) → ((more : ℕ) → 0 < inside_len more z → Passed more z) → ((more : ℕ) → 0 < inside_len more (c ∷ z) → Passed more (c ∷ z)) → (t u : Bool) → opens_comment b c ≡ t → closes_comment b c ≡ u
    → 0 < inside_len 0 (b ∷ c ∷ z) → Passed 0 (b ∷ c ∷ z)
pass_zero b c z two one true u e f h =
    let some = passed_size 2 (inside_len 1 z) (omega (arith, h, open_step 0 b c z e)) in pass_open b c z 0 e some (two 1 some)
pass_zero b c z two one false true e f h = pass_last b c z e f
pass_zero b c z two one false false e f h =
    let some = passed_size 1 (inside_len 0 (c ∷ z)) (omega (arith, h, byte_step 0 b c z e f)) in pass_byte b c z 0 e f some (one 0 some)

pass_more : (more b c : ℕ) (z : List ℕ) → ((m : ℕ) → 0 < inside_len m z → Passed m z) → ((m : ℕ) → 0 < inside_len m (c ∷ z) → Passed m (c ∷ z)) → (t u : Bool) → opens_comment b c ≡ t → closes_comment b c ≡ u
    → 0 < inside_len (suc more) (b ∷ c ∷ z) → Passed (suc more) (b ∷ c ∷ z)
pass_more more b c z two one true u e f h =
    let some = passed_size 2 (inside_len (suc more + 1) z) (omega (arith, h, open_step (suc more) b c z e)) in pass_open b c z (suc more) e some (two (suc more + 1) some)
pass_more more b c z two one false true e f h =
    let size = ap (inside_len (suc more)) (closed b c z f) ∙ close_past more z in
    let some = passed_size 2 (inside_len more z) (omega (arith, h, size)) in pass_close b c z more e f some (two more some)
pass_more more b c z two one false false e f h =
    let some = passed_size 1 (inside_len (suc more) (c ∷ z)) (omega (arith, h, byte_step (suc more) b c z e f)) in pass_byte b c z (suc more) e f some (one (suc more) some)

passed : (z : List ℕ) (more : ℕ) → 0 < inside_len more z → Passed more z
passed [] more h = one_more more [] (omega arith) h
passed (b ∷ []) more h = one_more more (b ∷ []) (omega arith) h
passed (b ∷ c ∷ z) zero h = pass_zero b c z (passed z) (passed (c ∷ z)) (opens_comment b c) (closes_comment b c) refl refl h
passed (b ∷ c ∷ z) (suc more) h = pass_more more b c z (passed z) (passed (c ∷ z)) (opens_comment b c) (closes_comment b c) refl refl h

-- ---- whole comments

BlockFound : List ℕ → Type 0
BlockFound z = (w : List ℕ) × (rest : List ℕ) × (z ≡ w ++ rest) × (length w ≡ block_comment_len z) × IsBlockComment w

block_at : (b c : ℕ) (z : List ℕ) → opens_comment b c ≡ true → 0 < inside_len 0 z → Passed 0 z → BlockFound (b ∷ c ∷ z)
unfolding BlockFound Passed Rests block_comment_len
block_at b c z h some p =
    let t = and_parts (eqb b 47) (eqb c 42) h in
    let size : block_comment_len (b ∷ c ∷ z) ≡ 2 + inside_len 0 z = rw h (past_some 2 (inside_len 0 z) some) in (
      47 ∷ 42 ∷ p.0,
      p.1,
      ap (λ (x : ℕ). x ∷ c ∷ z) (eqb-true b 47 t.0) ∙ ap (λ (x : ℕ). 47 ∷ x ∷ z) (eqb-true c 42 t.1) ∙ ap (λ (l : List ℕ). 47 ∷ 42 ∷ l) p.2,
      omega (arith, p.3, size),
      (p.0, p.4, refl),
    )

opened : (t : Bool) (m : ℕ) → 0 < cond t (past 2 m) 0 → (t ≡ true) × (0 < m)
opened true m h = (refl, passed_size 2 m h)
opened false m h = absurd (omega arith)

block_found : (z : List ℕ) → 0 < block_comment_len z → BlockFound z
unfolding block_comment_len
block_found [] h = absurd (omega arith)
block_found (b ∷ []) h = absurd (omega arith)
block_found (b ∷ c ∷ z) h = let o = opened (opens_comment b c) (inside_len 0 z) h in block_at b c z o.0 o.1 (passed z 0 o.1)

block_greatest : (w rest : List ℕ) → IsBlockComment w → length w ≤ block_comment_len (w ++ rest)
unfolding block_comment_len
block_greatest w rest h =
    let inner = inside_whole h.0 h.1 rest in
    let size : block_comment_len (47 ∷ 42 ∷ (h.0 ++ rest)) ≡ 2 + length h.0 = ap (past 2) inner ∙ past_some 2 (length h.0) (inside_some h.0 h.1) in
    omega (arith, size, ap length h.2, ap (λ (l : List ℕ). block_comment_len (l ++ rest)) h.2)

block_some : (w : List ℕ) → IsBlockComment w → 0 < length w
block_some w h = rw h.2 (omega arith)

pub block_longest : IsLongest IsBlockComment block_comment_len
unfolding BlockFound
block_longest = record { found = block_found; greatest = block_greatest; some = block_some }
