-- When one module type fits another.
use Rattle.std.proofs.Common.{◌≡◌, ℕ, ◌+◌, List, [], ◌∷◌, take, drop, ◌≤◌, length, Option, Some, Bool, true, false, ◌&&◌, refl, sym, ap, subst, ◌∙◌, ◌⊎◌, inl, inr}
use Rattle.std.proofs.lemmas.Bool.{and_parts}
use Rattle.std.specs.Prelude.{if◌then◌else◌, ◌==◌, slice_get}
use Rattle.std.specs.Cmp.Lexicographic.{pointwise}
use Rattle.std.specs.declared.cmp.Ordering.{Ordering}
use Rattle.std.proofs.lemmas.Slice.Eq.{bytes_eq-Decides}
use Rattle.wac_types_base.specs.declared.item.ExternKind.{ExternKind}
use Rattle.wac_types_base.specs.declared.core_types.CoreExtern.{CoreExtern}
use Rattle.wac_types_base.specs.declared.core_types.ModuleType.{ModuleType}
use Rattle.wac_types_base.specs.Graph.{Among}
use Rattle.wac_types_base.specs.Entries.{Name, value_at, names_of, AreDistinct}
use Rattle.wac_types_base.specs.Tree.{put_core_at, put_core, ascending, name_cmp, pair_cmp}
use Rattle.wac_types_base.specs.Fits.{Fits, module_fits}
use Rattle.wac_types_fit.specs.Frames.{Step, Disagree, core_export, core_import, joined_name}
use Rattle.wac_types_fit.specs.Checking.{HasAll, LacksOne, module_tree, import_at}
use Rattle.wac_types_base.proofs.Looked.{take-one_more}
use Rattle.wac_types_base.proofs.Used.{drop_next}
use Rattle.wac_types_base.proofs.Loops.{take-all}
use Rattle.wac_types_base.proofs.Lists.{joined}
use Rattle.wac_types_fit.proofs.Items.{value_at-among, among-value_at, name-among, Among-last}
use Rattle.wac_types_fit.proofs.Ordering.{IsKeyOrder, name_order, pair_order}

-- ---- the entries by ascending keys are the same entries

module _ {K V : Type 0} (cmp : K → K → Ordering) (o : IsKeyOrder cmp) where
  put-old_at : (r : Ordering) (e x y : K × V) (xs rest : List (K × V)) → Among y (put_core_at r e x xs rest) → (Among y rest → (y ≡ e) ⊎ Among y xs) → (y ≡ e) ⊎ Among y (x ∷ xs)
  put-old_at Ordering.Less e x y xs rest m h = m
  put-old_at Ordering.Equal e x y xs rest (inl p) h = inl p
  put-old_at Ordering.Equal e x y xs rest (inr m) h = inr (inr m)
  put-old_at Ordering.Greater e x y xs rest (inl p) h = inr (inl p)
  put-old_at Ordering.Greater e x y xs rest (inr m) h = elim (h m) [ inl p ↦ inl p | inr n ↦ inr (inr n) ]

  put-old : (e : K × V) (xs : List (K × V)) (y : K × V) → Among y (put_core cmp e xs) → (y ≡ e) ⊎ Among y xs
  put-old e [] y m = m
  put-old e (x ∷ xs) y m = put-old_at (cmp e.0 x.0) e x y xs (put_core cmp e xs) m (put-old e xs y)

  put-new_at : (r : Ordering) (e x : K × V) (xs rest : List (K × V)) → Among e rest → Among e (put_core_at r e x xs rest)
  put-new_at Ordering.Less e x xs rest h = inl refl
  put-new_at Ordering.Equal e x xs rest h = inl refl
  put-new_at Ordering.Greater e x xs rest h = inr h

  put-new : (e : K × V) (xs : List (K × V)) → Among e (put_core cmp e xs)
  put-new e [] = inl refl
  put-new e (x ∷ xs) = put-new_at (cmp e.0 x.0) e x xs (put_core cmp e xs) (put-new e xs)

  put-kept_at : (r : Ordering) (e x y : K × V) (xs rest : List (K × V)) → cmp e.0 x.0 ≡ r → (e.0 ≡ x.0 → ⊥) → Among y (x ∷ xs) → (Among y xs → Among y rest) → Among y (put_core_at r e x xs rest)
  put-kept_at Ordering.Less e x y xs rest c a m h = inr m
  put-kept_at Ordering.Equal e x y xs rest c a m h = absurd (a (o.same e.0 x.0 c))
  put-kept_at Ordering.Greater e x y xs rest c a (inl p) h = inl p
  put-kept_at Ordering.Greater e x y xs rest c a (inr m) h = inr (h m)

  put-kept : (e : K × V) (xs : List (K × V)) (y : K × V) → (Among e.0 (names_of xs) → ⊥) → Among y xs → Among y (put_core cmp e xs)
  put-kept e [] y a m = absurd m
  put-kept e (x ∷ xs) y a m = put-kept_at (cmp e.0 x.0) e x y xs (put_core cmp e xs) refl (λ p. a (inl p)) m (put-kept e xs y (λ n. a (inr n)))

  names-old : (es : List (K × V)) (k : K) → Among k (names_of (ascending cmp es)) → Among k (names_of es)
  names-old es k m =
      let e = named (ascending cmp es) k m in
      subst (λ n. Among n (names_of es)) e.2 (name-among es e.0.0 e.0.1 (below es e.0 e.1))
    where
      named : (es : List (K × V)) (k : K) → Among k (names_of es) → (e : K × V) × Among e es × (e.0 ≡ k)
      named [] k m = absurd m
      named (e ∷ es) k (inl p) = (e, inl refl, sym p)
      named (e ∷ es) k (inr m) = let i = named es k m in (i.0, inr i.1, i.2)

      below : (es : List (K × V)) (y : K × V) → Among y (ascending cmp es) → Among y es
      below [] y m = m
      below (e ∷ es) y m = elim (put-old e (ascending cmp es) y m) [ inl p ↦ inl p | inr n ↦ inr (below es y n) ]

  pub ascending-old : (es : List (K × V)) (y : K × V) → Among y (ascending cmp es) → Among y es
  ascending-old [] y m = m
  ascending-old (e ∷ es) y m = elim (put-old e (ascending cmp es) y m) [ inl p ↦ inl p | inr n ↦ inr (ascending-old es y n) ]

  pub ascending-kept : (es : List (K × V)) → AreDistinct (names_of es) → (y : K × V) → Among y es → Among y (ascending cmp es)
  ascending-kept [] d y m = m
  ascending-kept (e ∷ es) d y (inl p) = subst (λ z. Among z (put_core cmp e (ascending cmp es))) (sym p) (put-new e (ascending cmp es))
  ascending-kept (e ∷ es) d y (inr m) = put-kept e (ascending cmp es) y (λ n. d.0 (names-old es e.0 n)) (ascending-kept es d.1 y m)

-- ---- imports by two names

pair_same : (a b : Name × Name) → (pointwise ◌==◌ a.0 b.0 && pointwise ◌==◌ a.1 b.1) ≡ true → a ≡ b
pair_same a b e =
    let h = and_parts (pointwise ◌==◌ a.0 b.0) (pointwise ◌==◌ a.1 b.1) e in
    joined a b ((bytes_eq-Decides a.0 b.0).0 h.0) ((bytes_eq-Decides a.1 b.1).0 h.1)

same_pair : (a b : Name × Name) → a ≡ b → (pointwise ◌==◌ a.0 b.0 && pointwise ◌==◌ a.1 b.1) ≡ true
same_pair a b e = rw ((bytes_eq-Decides a.0 b.0).1 (ap (λ p. p.0) e), (bytes_eq-Decides a.1 b.1).1 (ap (λ p. p.1) e)) refl

other_pair : (a b : Name × Name) → (a ≡ b → ⊥) → (pointwise ◌==◌ a.0 b.0 && pointwise ◌==◌ a.1 b.1) ≡ false
other_pair a b h = by_test (pointwise ◌==◌ a.0 b.0 && pointwise ◌==◌ a.1 b.1) refl
  where
    by_test : (t : Bool) → (pointwise ◌==◌ a.0 b.0 && pointwise ◌==◌ a.1 b.1) ≡ t → t ≡ false
    by_test true e = absurd (h (pair_same a b e))
    by_test false e = refl

import_is : (b : Bool) (k : Name × Name) (v : CoreExtern) (x : (Name × Name) × CoreExtern) (es : List ((Name × Name) × CoreExtern)) (o : Option CoreExtern) → (pointwise ◌==◌ x.0.0 k.0 && pointwise ◌==◌ x.0.1 k.1) ≡ b → (o ≡ Some v → Among (k, v) es) → (if b then Some x.1 else o) ≡ Some v → Among (k, v) (x ∷ es)
import_is true k v x es o e h f = let w : x.1 ≡ v = cc f in inl (joined (k, v) x (sym (pair_same x.0 k e)) (sym w))
import_is false k v x es o e h f = inr (h f)

pub import_at-among : (es : List ((Name × Name) × CoreExtern)) (k : Name × Name) (v : CoreExtern) → import_at es k ≡ Some v → Among (k, v) es
import_at-among [] k v e = absurd (cc e)
import_at-among (x ∷ es) k v e = import_is (pointwise ◌==◌ x.0.0 k.0 && pointwise ◌==◌ x.0.1 k.1) k v x es (import_at es k) refl (import_at-among es k v) e

pub among-import_at : (es : List ((Name × Name) × CoreExtern)) (k : Name × Name) (v : CoreExtern) → AreDistinct (names_of es) → Among (k, v) es → import_at es k ≡ Some v
among-import_at [] k v d m = absurd m
among-import_at (x ∷ es) k v d (inl e) =
    let value : v ≡ x.1 = ap (λ p. p.1) e in
    rw (same_pair x.0 k (sym (ap (λ p. p.0) e))) (ap Some (sym value))
among-import_at (x ∷ es) k v d (inr m) =
    let other = other_pair x.0 k (λ e. d.0 (subst (λ y. Among y (names_of es)) (sym e) (name-among es k v m))) in
    rw other (among-import_at es k v d.1 m)

-- ---- module types

module _ (x y : ModuleType) (xi : AreDistinct (names_of x.imports)) (xe : AreDistinct (names_of x.exports)) (yi : AreDistinct (names_of y.imports)) (ye : AreDistinct (names_of y.exports)) where
  -- the imports the other way round
  pub modules_fit : HasAll import_at y.imports x.imports → HasAll value_at x.exports y.exports → Fits (module_tree x) (module_tree y)
  modules_fit f g = module_fits
      (λ e m. ascending-kept pair_cmp pair_order y.imports yi e (import_at-among y.imports e.0 e.1 (f e.0 e.1 (ascending-old pair_cmp pair_order x.imports e m))))
      (λ e m. ascending-kept name_cmp name_order x.exports xe e (value_at-among x.exports e.0 e.1 (g e.0 e.1 (ascending-old name_cmp name_order y.exports e m))))

  pub import_lacks : (ss : List Step) → LacksOne import_at ExternKind.Import joined_name y.imports x.imports ss → Disagree ss (module_tree x) (module_tree y)
  import_lacks ss h = subst (λ l. Disagree l (module_tree x) (module_tree y)) (sym h.steps)
      (core_import h.key h.item (ascending-kept pair_cmp pair_order x.imports xi (h.key, h.item) h.asked)
      (λ m. h.lacking (among-import_at y.imports h.key h.item yi (ascending-old pair_cmp pair_order y.imports (h.key, h.item) m))))

  pub export_lacks : (ss : List Step) → LacksOne value_at ExternKind.Export (λ n. n) x.exports y.exports ss → Disagree ss (module_tree x) (module_tree y)
  export_lacks ss h = subst (λ l. Disagree l (module_tree x) (module_tree y)) (sym h.steps)
      (core_export h.item (ascending-kept name_cmp name_order y.exports ye (h.key, h.item) h.asked)
      (λ m. h.lacking (among-value_at x.exports h.key h.item xe (ascending-old name_cmp name_order x.exports (h.key, h.item) m))))

-- one more item
pub has_more : {K : Type 0} (at : List (K × CoreExtern) → K → Option CoreExtern) (es fs : List (K × CoreExtern)) (i : ℕ) (k : K) (v : CoreExtern) → slice_get fs i ≡ Some (k, v) → HasAll at es (take i fs) → at es k ≡ Some v → HasAll at es (take (i + 1) fs)
has_more at es fs i k v e before this l w m =
    elim (Among-last (take i fs) (k, v) (l, w) (subst (Among (l, w)) (take-one_more fs i (k, v) e) m)) [
      | inl a ↦ before l w a
      | inr p ↦ ap (at es) (ap (λ q. q.0) p) ∙ this ∙ ap (λ q. Some q.1) (sym p)
    ]

-- the import at a place is the one, or is passed
pub import_found : (es : List ((Name × Name) × CoreExtern)) (k n : Name × Name) (i : ℕ) (v : CoreExtern) → slice_get es i ≡ Some (n, v) → (pointwise ◌==◌ n.0 k.0 && pointwise ◌==◌ n.1 k.1) ≡ true → import_at (drop i es) k ≡ Some v
import_found es k n i v at e = ap (λ l. import_at l k) (drop_next es i (n, v) at) ∙ rw e refl

pub import_passed : (es : List ((Name × Name) × CoreExtern)) (k n : Name × Name) (i : ℕ) (v : CoreExtern) → slice_get es i ≡ Some (n, v) → (pointwise ◌==◌ n.0 k.0 && pointwise ◌==◌ n.1 k.1) ≡ false → import_at (drop i es) k ≡ import_at (drop (i + 1) es) k
import_passed es k n i v at e = ap (λ l. import_at l k) (drop_next es i (n, v) at) ∙ rw e refl

-- all of the entries
pub has_all_of : {K : Type 0} (at : List (K × CoreExtern) → K → Option CoreExtern) (es fs : List (K × CoreExtern)) (i : ℕ) → length fs ≤ i → HasAll at es (take i fs) → HasAll at es fs
has_all_of at es fs i h before k v m = before k v (subst (Among (k, v)) (sym (take-all fs i h)) m)
