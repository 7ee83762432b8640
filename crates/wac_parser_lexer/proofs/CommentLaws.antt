-- The scan of block comments, step by step.
use Rattle.std.proofs.Common.{◌≡◌, ◌≢◌, ℕ, zero, suc, ◌+◌, ◌-◌, ◌<◌, ◌≤◌, true, false, List, [], ◌∷◌, length, drop, get_or, refl, ap, sym, ◌∙◌, arith, length-drop}
use Rattle.std.proofs.Math.Seq.{drop-cons}
use Rattle.wac_parser_lexer.specs.Words.{opens_comment, closes_comment}
use Rattle.wac_parser_lexer.specs.Scan.{past, inside_len}
use Rattle.wac_parser_lexer.proofs.BlockPieceLaws.{positive}

-- the two bytes at a place, and what is behind them
pub two_at : (z : List ℕ) (end : ℕ) → end + 1 < length z → drop end z ≡ get_or z end 0 ∷ get_or z (end + 1) 0 ∷ drop (end + 2) z
two_at z end h =
    let first : drop end z ≡ get_or z end 0 ∷ drop (suc end) z = drop-cons z end 0 (omega arith) in
    let second : drop (suc end) z ≡ get_or z (suc end) 0 ∷ drop (suc (suc end)) z = drop-cons z (suc end) 0 (omega arith) in
    let one : suc end ≡ end + 1 = omega arith in
    let two : suc (suc end) ≡ end + 2 = omega arith in
    first ∙ ap (λ (l : List ℕ). get_or z end 0 ∷ l) (second ∙ ap (λ i. get_or z i 0 ∷ drop (suc i) z) one ∙ ap (λ i. get_or z (end + 1) 0 ∷ drop i z) (ap suc (sym one) ∙ two))

pub past_some : (n m : ℕ) → 0 < m → past n m ≡ n + m
past_some n m h = rw (positive m h) refl

pub past_past : (a b m : ℕ) → past a (past b m) ≡ past (a + b) m
past_past a b zero = refl
past_past a b (suc m) =
    let sum : a + (b + suc m) ≡ a + b + suc m = omega arith in
    ap (past a) (past_some b (suc m) (omega arith)) ∙ past_some a (b + suc m) (omega arith) ∙ sum ∙ sym (past_some (a + b) (suc m) (omega arith))

past_sum : (end step m total k : ℕ) → past end k ≡ total → k ≡ past step m → past (end + step) m ≡ total
past_sum end step m total k h e = sym (past_past end step m) ∙ ap (past end) (sym e) ∙ h

pub open_step : (more b c : ℕ) (z : List ℕ) → opens_comment b c ≡ true → inside_len more (b ∷ c ∷ z) ≡ past 2 (inside_len (more + 1) z)
unfolding inside_len
open_step zero b c z h = rw h refl
open_step (suc more) b c z h = let one : suc more + 1 ≡ suc (suc more) = omega arith in rw (h, one) refl

pub close_step : (more b c : ℕ) (z : List ℕ) → opens_comment b c ≡ false → closes_comment b c ≡ true → more ≢ 0 → inside_len more (b ∷ c ∷ z) ≡ past 2 (inside_len (more - 1) z)
unfolding inside_len
close_step zero b c z h k some = absurd (some refl)
close_step (suc more) b c z h k some = let one : suc more - 1 ≡ more = omega arith in rw (h, k, one) refl

pub byte_step : (more b c : ℕ) (z : List ℕ) → opens_comment b c ≡ false → closes_comment b c ≡ false → inside_len more (b ∷ c ∷ z) ≡ past 1 (inside_len more (c ∷ z))
unfolding inside_len
byte_step zero b c z h k = rw (h, k) refl
byte_step (suc more) b c z h k = rw (h, k) refl

pub last_step : (b c : ℕ) (z : List ℕ) → opens_comment b c ≡ false → closes_comment b c ≡ true → inside_len 0 (b ∷ c ∷ z) ≡ 2
unfolding inside_len
last_step b c z h k = rw (h, k) refl

pub no_more : (more : ℕ) (z : List ℕ) → length z ≤ 1 → inside_len more z ≡ 0
unfolding inside_len
no_more zero [] h = refl
no_more zero (b ∷ []) h = refl
no_more zero (b ∷ c ∷ z) h = absurd (omega arith)
no_more (suc more) [] h = refl
no_more (suc more) (b ∷ []) h = refl
no_more (suc more) (b ∷ c ∷ z) h = absurd (omega arith)

closes_not_opens : (b c : ℕ) → closes_comment b c ≡ true → opens_comment b c ≡ false
closes_not_opens b c h = grind arith

module _ (z : List ℕ) (end more total : ℕ) (sum : past end (inside_len more (drop end z)) ≡ total) where
  pub opens : end + 1 < length z → opens_comment (get_or z end 0) (get_or z (end + 1) 0) ≡ true → past (end + 2) (inside_len (more + 1) (drop (end + 2) z)) ≡ total
  opens few h = past_sum end 2 _ total _ sum (ap (inside_len more) (two_at z end few) ∙ open_step more _ _ _ h)

  pub closes : end + 1 < length z → closes_comment (get_or z end 0) (get_or z (end + 1) 0) ≡ true → more ≢ 0 → past (end + 2) (inside_len (more - 1) (drop (end + 2) z)) ≡ total
  closes few h some = past_sum end 2 _ total _ sum (ap (inside_len more) (two_at z end few) ∙ close_step more (get_or z end 0) (get_or z (end + 1) 0) _ (closes_not_opens (get_or z end 0) (get_or z (end + 1) 0) h) h some)

  pub goes : end + 1 < length z → opens_comment (get_or z end 0) (get_or z (end + 1) 0) ≡ false → closes_comment (get_or z end 0) (get_or z (end + 1) 0) ≡ false → past (end + 1) (inside_len more (drop (end + 1) z)) ≡ total
  goes few h k =
      let one : suc end ≡ end + 1 = omega arith in
      let two : suc (end + 1) ≡ end + 2 = omega arith in
      let rest : drop (end + 1) z ≡ get_or z (end + 1) 0 ∷ drop (end + 2) z = drop-cons z (end + 1) 0 few ∙ ap (λ i. get_or z (end + 1) 0 ∷ drop i z) two in
      past_sum end 1 _ total _ sum (ap (inside_len more) (two_at z end few) ∙ byte_step more _ _ _ h k ∙ ap (λ (l : List ℕ). past 1 (inside_len more l)) (sym rest))

  pub found : end + 1 < length z → closes_comment (get_or z end 0) (get_or z (end + 1) 0) ≡ true → more ≡ 0 → end + 2 ≡ total
  found few h none =
      let e : inside_len more (drop end z) ≡ 2 = ap (inside_len more) (two_at z end few) ∙ ap (λ m. inside_len m (get_or z end 0 ∷ get_or z (end + 1) 0 ∷ drop (end + 2) z)) none ∙ last_step (get_or z end 0) (get_or z (end + 1) 0) _ (closes_not_opens (get_or z end 0) (get_or z (end + 1) 0) h) h in
      let p : past end 2 ≡ total = ap (past end) (sym e) ∙ sum in
      omega (arith, p)

  pub lost : length z ≤ end + 1 → 0 ≡ total
  lost few =
      let e : inside_len more (drop end z) ≡ 0 = no_more more (drop end z) (omega (arith, length-drop end z)) in
      let p : past end 0 ≡ total = ap (past end) (sym e) ∙ sum in
      p
