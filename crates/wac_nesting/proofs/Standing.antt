-- What stands at an instance, in the wiring with its substitution.
use Rattle.std.proofs.Common.{◌≡◌, ℕ, zero, suc, ◌<◌, refl, ap, arith}
use Rattle.wac_types_base.specs.Entries.{Name}
use Rattle.wac_graph_bytes.specs.Wirings.{Source, Outer, replace, Uses}
use Rattle.wac_graph_bytes.proofs.Replace.{replace_alike, Uses-weaker}
use Rattle.wac_nesting.specs.Substitution.{Part, stands, stands_within, placed}

-- the sources of each instance name instances that are there and have lower numbers
abbrev pub Descends : (ℕ → Type 0) → (ℕ → Name → Source ℕ) → Type 0
Descends There args = (k : ℕ) (n : Name) → Uses (λ j. (j < k) × There j) (args k n)

module _ (parts : ℕ → Part) (args : ℕ → Name → Source ℕ) (There : ℕ → Type 0) (low : Descends There args) where
  -- deeper is the same
  pub within_more : (d e k : ℕ) → k < d → k < e → stands_within parts args d k ≡ stands_within parts args e k
  within_more zero e k h h' = absurd (omega arith)
  within_more (suc d) zero k h h' = absurd (omega arith)
  within_more (suc d) (suc e) k h h' =
      let each : (n : Name) → replace Outer (stands_within parts args d) (args k n) ≡ replace Outer (stands_within parts args e) (args k n) = λ n. replace_alike Outer Outer (stands_within parts args d) (stands_within parts args e) (λ m. refl) (args k n) (Uses-weaker (λ j u. within_more d e j (omega (arith, u.0)) (omega (arith, u.0))) (args k n) (low k n)) in
      ap (stands (parts k) k) (λ i n. each n i)

  -- an instance stands for the bundle of the copy, in which outer imports are what the instance's imports are bound to
  pub stands_is : (k : ℕ) → stands_within parts args (suc k) k ≡ stands (parts k) k (λ n. placed parts args (args k n))
  stands_is k =
      let each : (n : Name) → replace Outer (stands_within parts args k) (args k n) ≡ placed parts args (args k n) = λ n. replace_alike Outer Outer (stands_within parts args k) (λ j. stands_within parts args (suc j) j) (λ m. refl) (args k n) (Uses-weaker (λ j u. within_more k (suc j) j u.0 (omega arith)) (args k n) (low k n)) in
      ap (stands (parts k) k) (λ i n. each n i)
