-- Places in lists, and what a filter leaves under a name.
use Rattle.std.specs.Prelude.{◌==◌, slice_get, cond, filter, if◌then◌else◌}
use Rattle.std.proofs.lemmas.Option.{none-some}
use Rattle.std.specs.Cmp.Lexicographic.{pointwise, bytes_decides}
use Rattle.std.proofs.Common.{◌≡◌, ℕ, zero, suc, ◌≤◌, List, [], ◌∷◌, ◌++◌, length, Bool, true, false, true≢false, Some, ◌⊎◌, inl, inr, refl, sym, ap, ◌∙◌, arith}
use Rattle.wac_types_base.specs.Entries.{Name, value_at}
use Rattle.wac_types_base.specs.Graph.{Among}
use Rattle.wac_types_base.proofs.Looked.{among-get}

module _ {X : Type 0} where
  -- ---- two lists

  pub slice_first : (xs ys : List X) (i : ℕ) (x : X) → slice_get xs i ≡ Some x → slice_get (xs ++ ys) i ≡ Some x
  slice_first [] ys i x e = absurd (none-some _ e)
  slice_first (z ∷ xs) ys zero x e = e
  slice_first (z ∷ xs) ys (suc i) x e = slice_first xs ys i x e

  pub slice_behind : (xs ys : List X) (i : ℕ) (x : X) → slice_get ys i ≡ Some x → (k : ℕ) × (slice_get (xs ++ ys) k ≡ Some x)
  slice_behind [] ys i x e = (i, e)
  slice_behind (z ∷ xs) ys i x e = let r = slice_behind xs ys i x e in (suc r.0, r.1)

  pub slice_either : (xs ys : List X) (i : ℕ) (x : X) → slice_get (xs ++ ys) i ≡ Some x → (slice_get xs i ≡ Some x) ⊎ ((length xs ≤ i) × Among x ys)
  slice_either [] ys i x e = inr (omega arith, among-get ys i x e)
  slice_either (z ∷ xs) ys zero x e = inl e
  slice_either (z ∷ xs) ys (suc i) x e = elim (slice_either xs ys i x e) [
    | inl h ↦ inl h
    | inr h ↦ let l = h.0 in inr (omega (arith, l), h.1)
  ]

  -- ---- filters

  pub filter_all : (xs : List X) → filter (λ x. true) xs ≡ xs
  filter_all [] = refl
  filter_all (x ∷ xs) = ap (λ l. x ∷ l) (filter_all xs)

  -- what stands under a name that passes
  pub value_kept : (p : Name → Bool) (es : List (Name × X)) (n : Name) → p n ≡ true → value_at (filter (λ e. p e.0) es) n ≡ value_at es n
  value_kept p [] n h = refl
  value_kept p (e ∷ es) n h = go (value_kept p es n h) (pointwise ◌==◌ n e.0) refl (p e.0) refl
    where
      go : value_at (filter (λ e. p e.0) es) n ≡ value_at es n → (b : Bool) → pointwise ◌==◌ n e.0 ≡ b → (k : Bool) → p e.0 ≡ k → value_at (cond k (e ∷ filter (λ e. p e.0) es) (filter (λ e. p e.0) es)) n ≡ (if b then Some e.1 else value_at es n)
      go rest true q false s = absurd (true≢false (sym h ∙ ap p ((bytes_decides n e.0).0 q) ∙ s))
      go rest b q true s = ap (λ t. if t then Some e.1 else value_at (filter (λ e. p e.0) es) n) q ∙ ap (λ o. if b then Some e.1 else o) rest
      go rest false q false s = rest
