-- What walks over a collection rest on: a child that stands in a place is smaller.
use Rattle.std.proofs.Common.{◌≡◌, ℕ, zero, suc, ◌+◌, ◌<◌, List, [], ◌∷◌, length, Option, Some, None, slice_get, sym, ap, subst, inl, inr, arith, below_more}
use Rattle.wac_types_base.specs.declared.item.ItemKind.{ItemKind}
use Rattle.wac_types_base.specs.Record.{Collection}
use Rattle.wac_types_base.specs.Graph.{Among}
use Rattle.wac_types_base.specs.Collection.{item_node, Stands, IsAcyclic, unfolding_of, slots_in, slots_of, size_in, size_of, depth}
use Rattle.wac_types_base.specs.Reaching.{Reaches, here, below}
use Rattle.wac_types_base.proofs.GraphLemmas.{value_of, is_there, node_of, child_within}
use Rattle.wac_types_base.proofs.Looked.{among-get}

pub slice_get-Among : {X : Type 0} (xs : List X) (x : X) → Among x xs → (i : ℕ) × (i < length xs) × (slice_get xs i ≡ Some x)
slice_get-Among [] x m = absurd m
slice_get-Among (y ∷ xs) x (inl e) = (0, omega arith, sym (ap Some e))
slice_get-Among (y ∷ xs) x (inr m) = let i = slice_get-Among xs x m in (suc i.0, omega (arith, i.1), i.2)

pub no_place : {X : Type 0} (xs : List X) (i j : ℕ) → slice_get xs i ≡ None → j < length xs → j < i
no_place [] i j e h = absurd (omega arith)
no_place (x ∷ xs) zero j e h = absurd (cc e)
no_place (x ∷ xs) (suc i) zero e h = omega arith
no_place (x ∷ xs) (suc i) (suc j) e h = let k = no_place xs i j e (omega arith) in omega (arith, k)

pub some_place : {X : Type 0} (xs : List X) (i : ℕ) (x : X) → slice_get xs i ≡ Some x → i < length xs
some_place [] i x e = absurd (cc e)
some_place (y ∷ xs) zero x e = omega arith
some_place (y ∷ xs) (suc i) x e = let k = some_place xs i x e in omega (arith, k)

module _ (c : Collection) (acyclic : IsAcyclic c) where
  -- a child stands, and is smaller
  pub child_smaller : (k : ItemKind) → Stands c k → (i : ℕ) (j : ItemKind) → slice_get (slots_of c k) i ≡ Some (Some j) → Stands c j × (size_of c j < size_of c k)
  unfolding IsAcyclic unfolding_of
  child_smaller k stands i j at =
      let n = value_of _ stands in
      let t = value_of _ (acyclic k stands) in
      let here = subst (λ l. slice_get l i ≡ Some (Some j)) (ap slots_in n.1) at in
      let u = child_within (item_node c) (depth c) k t.0 t.1 n.0.0 n.0.1 n.1 j (among-get n.0.1 i (Some j) here) in
      let v = node_of (item_node c) (depth c) j (is_there _ u.0 u.1) in
      (is_there _ (v.0, v.1) v.2, let a = ap size_in u.1 in let b = ap size_in t.1 in omega (arith, a, b, u.2))

module _ {R S : Type 0} (g : R → Option (S × List (Option R))) (P : R → Type 0) where
  pub not_reaches : (r : R) → (P r → ⊥) → ((s : S) (rs : List (Option R)) (c : R) → g r ≡ Some (s, rs) → Among (Some c) rs → Reaches g P c → ⊥) → Reaches g P r → ⊥
  not_reaches r p h (here q) = p q
  not_reaches r p h (below {c = c} {s = s} {rs = rs} e m q) = h s rs c e m q

module _ (c : Collection) (P : ItemKind → Type 0) where
  -- a child's reaching is its parent's
  pub reaches_by : (k : ItemKind) → Stands c k → (i : ℕ) (j : ItemKind) → slice_get (slots_of c k) i ≡ Some (Some j) → Reaches (item_node c) P j → Reaches (item_node c) P k
  reaches_by k stands i j at r =
      let n = value_of _ stands in
      let here = subst (λ l. slice_get l i ≡ Some (Some j)) (ap slots_in n.1) at in
      below n.1 (among-get n.0.1 i (Some j) here) r

  -- a kind none of whose places leads there does not, unless it is the one
  pub reaches_none : (k : ItemKind) (n : ℕ) → (P k → ⊥) → slice_get (slots_of c k) n ≡ None → ((i : ℕ) (j : ItemKind) → i < n → slice_get (slots_of c k) i ≡ Some (Some j) → Reaches (item_node c) P j → ⊥) → Reaches (item_node c) P k → ⊥
  reaches_none k n itself past none = not_reaches (item_node c) P k itself (λ s rs j e m r.
      let p = slice_get-Among rs (Some j) m in
      let is : slots_of c k ≡ rs = ap slots_in e in
      let at = subst (λ l. slice_get l p.0 ≡ Some (Some j)) (sym is) p.2 in
      none p.0 j (no_place (slots_of c k) n p.0 past (some_place (slots_of c k) p.0 (Some j) at)) at r)

  -- one more place that does not lead there
  pub one_more : (k : ItemKind) (n : ℕ) → ((i : ℕ) (j : ItemKind) → i < n → slice_get (slots_of c k) i ≡ Some (Some j) → Reaches (item_node c) P j → ⊥) → ((j : ItemKind) → slice_get (slots_of c k) n ≡ Some (Some j) → Reaches (item_node c) P j → ⊥) → (i : ℕ) (j : ItemKind) → i < n + 1 → slice_get (slots_of c k) i ≡ Some (Some j) → Reaches (item_node c) P j → ⊥
  one_more k n before this i j h = below_more (λ i. (j : ItemKind) → slice_get (slots_of c k) i ≡ Some (Some j) → Reaches (item_node c) P j → ⊥) n (λ i lt j. before i j lt) this i h j

module _ {X : Type 0} (xs : List (Option X)) (Q : X → Type 0) where
  -- one more place whose child, if any, is not one
  pub none_more : (n : ℕ) → ((i : ℕ) (j : X) → i < n → slice_get xs i ≡ Some (Some j) → Q j → ⊥) → ((j : X) → slice_get xs n ≡ Some (Some j) → Q j → ⊥) → (i : ℕ) (j : X) → i < n + 1 → slice_get xs i ≡ Some (Some j) → Q j → ⊥
  none_more n before this i j h = below_more (λ i. (j : X) → slice_get xs i ≡ Some (Some j) → Q j → ⊥) n (λ i lt j. before i j lt) this i h j

  -- no member is one
  pub none_at_end : (n : ℕ) → slice_get xs n ≡ None → ((i : ℕ) (j : X) → i < n → slice_get xs i ≡ Some (Some j) → Q j → ⊥) → (j : X) → Among (Some j) xs → Q j → ⊥
  none_at_end n past none j m q =
      let p = slice_get-Among xs (Some j) m in
      none p.0 j (no_place xs n p.0 past p.1) p.2 q
