-- An entry put where its key belongs, one taken out, and those that pass a test leave the keys in order.
use Rattle.std.proofs.Common.{◌≡◌, ◌<◌, ◌≤◌, ℕ, zero, suc, List, [], ◌∷◌, ◌++◌, map, take, drop, Some, refl, slice_get, arith, Bool, true, false, if◌then◌else◌, insert}
use Rattle.std.specs.List.{AllByRecursion, items_where_true}
use Rattle.std.specs.List.Sorted.{IsStrictlySortedBy}
use Rattle.std.specs.declared.cmp.Ordering.{Ordering}
use Rattle.std.specs.declared.cmp.Ordering.TheVariants.{Less}
use Rattle.wac_graph_core.specs.Sorted.{Belongs}

pub none_sorted : {K : Type 0} (order : K → K → Ordering) → IsStrictlySortedBy order []
unfolding IsStrictlySortedBy
none_sorted order = tt

module _ {K V : Type 0} (order : K → K → Ordering) where
  all_of : (P : K → Type 0) (es : List (K × V)) → ((i : ℕ) (e : K × V) → slice_get es i ≡ Some e → P e.0) → AllByRecursion P (map (λ e. e.0) es)
  all_of P [] each = tt
  all_of P (e ∷ es) each = (each 0 e refl, all_of P es (λ i d at. each (suc i) d at))

  all_put : (P : K → Type 0) (es : List (K × V)) (p : ℕ) (e : K × V) → AllByRecursion P (map (λ e. e.0) es) → P e.0 → AllByRecursion P (map (λ e. e.0) (take p es ++ e ∷ drop p es))
  all_put P [] zero e all it = (it, tt)
  all_put P [] (suc p) e all it = (it, tt)
  all_put P (d ∷ es) zero e all it = (it, all)
  all_put P (d ∷ es) (suc p) e all it = (all.0, all_put P es p e all.1 it)

  all_out : (P : K → Type 0) (es : List (K × V)) (p : ℕ) → AllByRecursion P (map (λ e. e.0) es) → AllByRecursion P (map (λ e. e.0) (take p es ++ drop (suc p) es))
  all_out P [] zero all = tt
  all_out P [] (suc p) all = tt
  all_out P (d ∷ es) zero all = all.1
  all_out P (d ∷ es) (suc p) all = (all.0, all_out P es p all.1)

  pub put_sorted : (es : List (K × V)) (p : ℕ) (e : K × V) → IsStrictlySortedBy order (map (λ e. e.0) es)
      → ((i : ℕ) (d : K × V) → i < p → slice_get es i ≡ Some d → order d.0 e.0 ≡ Less) → ((i : ℕ) (d : K × V) → p ≤ i → slice_get es i ≡ Some d → order e.0 d.0 ≡ Less)
      → IsStrictlySortedBy order (map (λ e. e.0) (take p es ++ e ∷ drop p es))
  unfolding IsStrictlySortedBy
  put_sorted [] zero e sorted before behind = (tt, tt)
  put_sorted [] (suc p) e sorted before behind = (tt, tt)
  put_sorted (d ∷ es) zero e sorted before behind = (all_of (λ y. order e.0 y ≡ Less) (d ∷ es) (λ i x at. behind i x (omega arith) at), sorted)
  put_sorted (d ∷ es) (suc p) e sorted before behind = (
    all_put (λ y. order d.0 y ≡ Less) es p e sorted.0 (before 0 d (omega arith) refl),
    put_sorted es p e sorted.1 (λ i x h at. before (suc i) x (omega arith) at) (λ i x h at. behind (suc i) x (omega arith) at),
  )

  pub out_sorted : (es : List (K × V)) (p : ℕ) → IsStrictlySortedBy order (map (λ e. e.0) es) → IsStrictlySortedBy order (map (λ e. e.0) (take p es ++ drop (suc p) es))
  unfolding IsStrictlySortedBy
  out_sorted [] zero sorted = tt
  out_sorted [] (suc p) sorted = tt
  out_sorted (d ∷ es) zero sorted = sorted.1
  out_sorted (d ∷ es) (suc p) sorted = (all_out (λ y. order d.0 y ≡ Less) es p sorted.0, out_sorted es p sorted.1)

  pub put_where : (b : Bool) (es : List (K × V)) (p : ℕ) (e : K × V) → IsStrictlySortedBy order (map (λ e. e.0) es) → Belongs order es e.0 p
      → IsStrictlySortedBy order (map (λ e. e.0) (if b then insert es p e else es))
  put_where true es p e sorted k = put_sorted es p e sorted k.before k.behind
  put_where false es p e sorted k = sorted

  all_kept : (P : K → Type 0) (bs : List Bool) (es : List (K × V)) → AllByRecursion P (map (λ e. e.0) es) → AllByRecursion P (map (λ e. e.0) (items_where_true bs es))
  all_kept P [] es all = tt
  all_kept P (b ∷ bs) [] all = tt
  all_kept P (true ∷ bs) (d ∷ es) all = (all.0, all_kept P bs es all.1)
  all_kept P (false ∷ bs) (d ∷ es) all = all_kept P bs es all.1

  pub kept_sorted : (bs : List Bool) (es : List (K × V)) → IsStrictlySortedBy order (map (λ e. e.0) es) → IsStrictlySortedBy order (map (λ e. e.0) (items_where_true bs es))
  unfolding IsStrictlySortedBy
  kept_sorted [] es sorted = tt
  kept_sorted (b ∷ bs) [] sorted = tt
  kept_sorted (true ∷ bs) (d ∷ es) sorted = (all_kept (λ y. order d.0 y ≡ Less) bs es sorted.0, kept_sorted bs es sorted.1)
  kept_sorted (false ∷ bs) (d ∷ es) sorted = kept_sorted bs es sorted.1
