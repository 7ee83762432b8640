-- A run of bytes up to the first of a kind, as a search finds it.
use Rattle.std.proofs.Common.{◌≡◌, ℕ, zero, suc, ◌+◌, ◌<◌, Bool, true, false, cond, eqb, List, [], ◌∷◌, length, get_or, refl, ap, ◌∙◌, arith}
use Rattle.std.specs.List.{prefix_len}
use Rattle.std.proofs.lemmas.Bool.{false_from_ne_true}

-- any byte but b
abbrev but : ℕ → ℕ → Bool
but b x = cond (eqb x b) false true

pub run_to : (b : ℕ) (z : List ℕ) (k : ℕ) → k < length z → ((j : ℕ) → j < k → eqb (get_or z j 0) b ≡ true → ⊥) → eqb (get_or z k 0) b ≡ true → prefix_len (but b) z ≡ k
run_to b [] k lt none here = absurd (omega arith)
run_to b (x ∷ z) zero lt none here = rw here refl
run_to b (x ∷ z) (suc k) lt none here =
    let rest : prefix_len (but b) z ≡ k = run_to b z k (omega arith) (λ j below. none (suc j) (omega arith)) here in
    rw (false_from_ne_true _ (none 0 (omega arith))) (omega (arith, rest))

pub run_over : (b : ℕ) (z : List ℕ) → ((j : ℕ) → j < length z → eqb (get_or z j 0) b ≡ true → ⊥) → prefix_len (but b) z ≡ length z
run_over b [] none = refl
run_over b (x ∷ z) none =
    let rest : prefix_len (but b) z ≡ length z = run_over b z (λ j below. none (suc j) (omega arith)) in
    rw (false_from_ne_true _ (none 0 (omega arith))) (omega (arith, rest))
