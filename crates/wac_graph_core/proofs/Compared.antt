-- Entries that are compared place by place.
use Rattle.std.proofs.Common.{◌≡◌, ℕ, ◌+◌, ◌==◌, Bool, true, false, not, List, [], ◌∷◌, ◌++◌, take, Some, slice_get, refl, sym, ap, ◌∙◌}
use Rattle.std.specs.Cmp.Lexicographic.{pointwise, same_text}
use Rattle.wac_types_base.specs.Entries.{Name}
use Rattle.wac_types_base.proofs.Looked.{take-one_more}

is_true : (b : Bool) → false ≡ not b → true ≡ b
is_true true h = refl
is_true false h = absurd (cc (h))

module _ {T : Type 0} (es fs : List (Name × T)) (i : ℕ) where
  one_more : (e f : Name × T) → slice_get es i ≡ Some e → slice_get fs i ≡ Some f → e ≡ f → take i es ≡ take i fs → take (i + 1) es ≡ take (i + 1) fs
  one_more e f at bt same so = take-one_more es i e at ∙ ap (λ l. l ++ e ∷ []) so ∙ ap (λ x. take i fs ++ x ∷ []) same ∙ sym (take-one_more fs i f bt)

  -- one more entry is the same
  pub next_same : (n m : Name) (x y : T) → slice_get es i ≡ Some (n, x) → slice_get fs i ≡ Some (m, y) → false ≡ not (pointwise ◌==◌ n m) → x ≡ y → take i es ≡ take i fs → take (i + 1) es ≡ take (i + 1) fs
  next_same n m x y at bt named same so =
      let name = same_text n m (is_true (pointwise ◌==◌ n m) named) in
      let both : (n, x) ≡ (m, y) = ap (λ l. (l, x)) name ∙ ap (λ v. (m, v)) same in
      one_more (n, x) (m, y) at bt both so
