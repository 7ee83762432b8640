-- Names that are near one another, and the import that a name finds.
use Rattle.std.proofs.Common.{◌≡◌, ◌≢◌, ◌⊎◌, ℕ, zero, suc, ◌+◌, ◌<◌, ◌≤◌, Bool, true, false, ◌==◌, cond, List, [], ◌∷◌, length, Option, Some, None, is_some, slice_get, refl, sym, ap, subst, ◌∙◌, inl, inr, arith}
use Rattle.std.proofs.lemmas.Option.{same_Some}
use Rattle.std.proofs.lemmas.Bool.{cases_eq}
use Rattle.std.proofs.lemmas.Bool.Decides.{nat_tests}
use Rattle.std.specs.Cmp.Lexicographic.{pointwise, same_text}
use Rattle.wac_types_base.specs.declared.item.ItemKind.{ItemKind}
use Rattle.wac_types_base.specs.Entries.{Name, names_of, value_at, AreDistinct}
use Rattle.wac_types_base.specs.Graph.{Among}
use Rattle.wac_types_names.specs.Tracks.{AreCompatible, ShareTrack}
use Rattle.wac_graph_plug.specs.Plugging.{Finds}
use Rattle.wac_graph_plug.specs.Lookups.{IsNear, IsNext, NoneNear}
use Rattle.wac_types_base.proofs.Walking.{some_place}
use Rattle.wac_types_base.proofs.Lists.{value_none, value_named}
use Rattle.wac_graph_core.proofs.Found.{same_name}

-- ---- the search

pub far : (xs : List (Name × ItemKind)) (e : Name) (at : ℕ) (n : Name) (k : ItemKind) → slice_get xs at ≡ Some (n, k) → (AreCompatible e n → ⊥) → IsNear xs e at → ⊥
far xs e at n k there not_near is =
    let same : (n, k) ≡ (is.name, is.item) = same_Some _ _ (sym there ∙ is.there) in
    let names : is.name ≡ n = sym (ap (λ (p : Name × ItemKind). p.0) same) in
    not_near (subst (AreCompatible e) names is.near)

pub none_so_far : (xs : List (Name × ItemKind)) (e : Name) (low at : ℕ) → ((j : ℕ) → low ≤ j → j < at → IsNear xs e j → ⊥) → (IsNear xs e at → ⊥) → (j : ℕ) → low ≤ j → j < at + 1 → IsNear xs e j → ⊥
none_so_far xs e low at before here j above below is = elim (cases_eq j at) [
  | inl same ↦ here (subst (IsNear xs e) same is)
  | inr other ↦ before j above (omega (arith, other, below)) is
]

pub none_at_all : (xs : List (Name × ItemKind)) (e : Name) (low at : ℕ) → ((j : ℕ) → low ≤ j → j < at → IsNear xs e j → ⊥) → length xs ≤ at → NoneNear xs e low
none_at_all xs e low at before past j above is =
    let h = some_place xs j (is.name, is.item) is.there in
    before j above (omega (arith, h, past)) is

-- ---- names and places

pub place_of : (xs : List (Name × ItemKind)) (n : Name) → Among n (names_of xs) → (at : ℕ) × (k : ItemKind) × (slice_get xs at ≡ Some (n, k))
place_of [] n m = absurd m
place_of (x ∷ xs) n (inl e) = (0, x.1, ap (λ m. Some (m, x.1)) (sym e))
place_of (x ∷ xs) n (inr m) = let r = place_of xs n m in (suc r.0, r.1, r.2)

pub at_place : (xs : List (Name × ItemKind)) (at : ℕ) (n : Name) (k : ItemKind) → slice_get xs at ≡ Some (n, k) → Among n (names_of xs)
at_place [] at n k e = absurd (cc (e))
at_place (x ∷ xs) zero n k e = inl (sym (ap (λ (p : Name × ItemKind). p.0) (same_Some _ _ e)))
at_place (x ∷ xs) (suc at) n k e = inr (at_place xs at n k e)

same_place : (xs : List (Name × ItemKind)) (i j : ℕ) (n : Name) (k l : ItemKind) → AreDistinct (names_of xs) → slice_get xs i ≡ Some (n, k) → slice_get xs j ≡ Some (n, l) → i ≡ j
same_place [] i j n k l d a b = absurd (cc (a))
same_place (x ∷ xs) zero zero n k l d a b = refl
same_place (x ∷ xs) zero (suc j) n k l d a b =
    absurd (d.0 (subst (λ m. Among m (names_of xs)) (sym (ap (λ (p : Name × ItemKind). p.0) (same_Some _ _ a))) (at_place xs j n l b)))
same_place (x ∷ xs) (suc i) zero n k l d a b =
    absurd (d.0 (subst (λ m. Among m (names_of xs)) (sym (ap (λ (p : Name × ItemKind). p.0) (same_Some _ _ b))) (at_place xs i n k a)))
same_place (x ∷ xs) (suc i) (suc j) n k l d a b = ap suc (same_place xs i j n k l d.1 a b)

eq_same : (a : ℕ) → (a == a) ≡ true
eq_same a = grind (arith, nat_tests)

pub value_at_place : (xs : List (Name × ItemKind)) (at : ℕ) (n : Name) (k : ItemKind) → AreDistinct (names_of xs) → slice_get xs at ≡ Some (n, k) → value_at xs n ≡ Some k
value_at_place [] at n k d e = absurd (cc (e))
value_at_place (x ∷ xs) zero n k d e =
    let same : x ≡ (n, k) = same_Some _ _ e in
    ap (λ b. cond b (Some x.1) (value_at xs n)) (ap (pointwise ◌==◌ n) (ap (λ (p : Name × ItemKind). p.0) same) ∙ same_name n) ∙ ap (λ (p : Name × ItemKind). Some p.1) same
value_at_place (x ∷ xs) (suc at) n k d e = by_test (pointwise ◌==◌ n x.0) refl (value_at_place xs at n k d.1 e)
  where
    by_test : (b : Bool) → pointwise ◌==◌ n x.0 ≡ b → value_at xs n ≡ Some k → cond b (Some x.1) (value_at xs n) ≡ Some k
    by_test true is later = absurd (d.0 (subst (λ m. Among m (names_of xs)) (same_text n x.0 (sym is)) (at_place xs at n k e)))
    by_test false is later = later

-- ---- what a name finds

-- a name that finds itself
pub finds_itself : (xs : List (Name × ItemKind)) (e : Name) (k : ItemKind) → value_at xs e ≡ Some k → Finds (names_of xs) e e
finds_itself xs e k at = inl (refl, value_named xs e k at)

module _ (xs : List (Name × ItemKind)) (e : Name) (none : value_at xs e ≡ None) where
  shares_at : (j : ℕ) → IsNear xs e j → (n : Name) × (k : ItemKind) × (slice_get xs j ≡ Some (n, k)) × ShareTrack e n
  shares_at j is = by_near is.near
    where
      by_near : AreCompatible e is.name → (n : Name) × (k : ItemKind) × (slice_get xs j ≡ Some (n, k)) × ShareTrack e n
      by_near (inl same) = absurd (value_none xs e none (subst (λ n. Among n (names_of xs)) (sym same) (at_place xs j is.name is.item is.there)))
      by_near (inr share) = (is.name, is.item, is.there, share)

  near_at : (n : Name) → Among n (names_of xs) → ShareTrack e n → (j : ℕ) × IsNear xs e j
  near_at n m share = let p = place_of xs n m in (p.0, record { name = n; item = p.1; there = p.2; near = inr share })

  -- nothing is on the track
  pub finds_none : NoneNear xs e 0 → (i : Name) → Finds (names_of xs) e i → ⊥
  finds_none far_all i (inl p) = value_none xs e none p.1
  finds_none far_all i (inr a) = let r = near_at i a.there a.shares in far_all r.0 (omega arith) r.1

  -- two are
  pub finds_two : (i j : ℕ) → AreDistinct (names_of xs) → IsNear xs e i → IsNear xs e j → i < j → (n : Name) → Finds (names_of xs) e n → ⊥
  finds_two i j d a b less n (inl p) = value_none xs e none p.1
  finds_two i j d a b less n (inr f) =
      let p = shares_at i a in
      let q = shares_at j b in
      let first : p.0 ≡ n = f.alone p.0 (at_place xs i p.0 p.1 p.2) p.3 in
      let second : q.0 ≡ n = f.alone q.0 (at_place xs j q.0 q.1 q.2) q.3 in
      let same : i ≡ j = same_place xs i j n p.1 q.1 d (subst (λ m. slice_get xs i ≡ Some (m, p.1)) first p.2) (subst (λ m. slice_get xs j ≡ Some (m, q.1)) second q.2) in
      omega (arith, same, less)

  -- one alone is
  pub finds_one : (at : ℕ) (n : Name) (k : ItemKind) → IsNext xs e 0 at → NoneNear xs e (at + 1) → slice_get xs at ≡ Some (n, k) → Finds (names_of xs) e n
  finds_one at n k first rest there =
      let s = shares_at at first.near in
      let name : s.0 ≡ n = ap (λ (p : Name × ItemKind). p.0) (same_Some _ _ (sym s.2 ∙ there)) in
      inr (record {
        none = value_none xs e none;
        there = at_place xs at n k there;
        shares = subst (ShareTrack e) name s.3;
        alone = λ m among share. only m (place_of xs m among) share;
      })
    where
      apart : (j : ℕ) → j ≢ at → (j < at) ⊎ (at + 1 ≤ j)
      apart j ne = grind (arith, nat_tests)

      not_there : (j : ℕ) → IsNear xs e j → j ≢ at → ⊥
      not_there j is ne = elim (apart j ne) [ inl less ↦ first.first j (omega arith) less is | inr more ↦ rest j more is ]

      only : (m : Name) → (j : ℕ) × (l : ItemKind) × (slice_get xs j ≡ Some (m, l)) → ShareTrack e m → m ≡ n
      only m r share = elim (cases_eq r.0 at) [
        | inl same ↦ ap (λ (p : Name × ItemKind). p.0) (same_Some _ _ (sym r.2 ∙ ap (slice_get xs) same ∙ there))
        | inr ne ↦ absurd (not_there r.0 (record { name = m; item = r.1; there = r.2; near = inr share }) ne)
      ]

-- a name finds one import
pub finds_once : (is : List Name) (e i j : Name) → Finds is e i → Finds is e j → i ≡ j
finds_once is e i j (inl p) (inl q) = p.0 ∙ sym q.0
finds_once is e i j (inl p) (inr f) = absurd (f.none p.1)
finds_once is e i j (inr f) (inl q) = absurd (f.none q.1)
finds_once is e i j (inr f) (inr g) = g.alone i f.there f.shares

pub finds_there : (is : List Name) (e i : Name) → Finds is e i → Among i is
finds_there is e i (inl p) = subst (λ n. Among n is) (sym p.0) p.1
finds_there is e i (inr f) = f.there

-- a name that is there, and one that is not
pub contained : (xs : List (Name × ItemKind)) (e : Name) (b : Bool) → b ≡ true → b ≡ is_some (value_at xs e) → Finds (names_of xs) e e
contained xs e b there is = by_value (value_at xs e) refl (sym is ∙ there)
  where
    by_value : (o : Option ItemKind) → value_at xs e ≡ o → is_some o ≡ true → Finds (names_of xs) e e
    by_value None at h = absurd (cc (h))
    by_value (Some k) at h = finds_itself xs e k at

pub not_contained : (xs : List (Name × ItemKind)) (e : Name) (b : Bool) → b ≡ false → b ≡ is_some (value_at xs e) → value_at xs e ≡ None
not_contained xs e b none is = by_value (value_at xs e) refl (sym is ∙ none)
  where
    by_value : (o : Option ItemKind) → value_at xs e ≡ o → is_some o ≡ false → value_at xs e ≡ None
    by_value None at h = at
    by_value (Some k) at h = absurd (cc (h))
