-- What holds for each package and each argument so far.
use Rattle.std.proofs.Common.{◌≡◌, ℕ, ◌+◌, ◌≤◌, List, [], ◌∷◌, ◌++◌, All, take, length, slice_get, Some, sym, subst}
use Rattle.std.proofs.lemmas.List.{take_all}
use Rattle.std.proofs.lemmas.List.Elements.{All-append, All-cons, All-nil}
use Rattle.wac_types_base.proofs.Looked.{take-one_more}

module _ {X : Type 0} (P : X → Type 0) where
  pub all_end : (xs : List X) (x : X) → All P xs → P x → All P (xs ++ x ∷ [])
  all_end xs x all p = All-append P xs (x ∷ []) all (All-cons P x [] p (All-nil P))

  pub all_next : (xs : List X) (i : ℕ) (x : X) → slice_get xs i ≡ Some x → All P (take i xs) → P x → All P (take (i + 1) xs)
  all_next xs i x at all p = subst (All P) (sym (take-one_more xs i x at)) (all_end (take i xs) x all p)

  pub all_through : (xs : List X) (i : ℕ) → (length xs ≤ i) → All P (take i xs) → All P xs
  all_through xs i end all = subst (All P) (take_all i xs end) all
