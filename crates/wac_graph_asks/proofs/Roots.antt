-- Where labels lead: to one place each, and what changes where two classes become one.
use Rattle.std.proofs.Common.{◌≡◌, ◌≢◌, ℕ, zero, suc, ◌+◌, ◌<◌, ◌≤◌, List, length, set, inl, inr, refl, sym, ap, subst, ◌∙◌, arith, length-set, get_or-set_same, get_or-set_other}
use Rattle.std.specs.Prelude.{◌⊎◌}
use Rattle.std.proofs.lemmas.Bool.{cases_lt, cases_eq}
use Rattle.wac_graph_asks.specs.Joining.{label_at, LeadsTo, there, down, Joins}

module _ (f : ℕ → ℕ) where
  pub leads_before : (i r : ℕ) → LeadsTo f i r → r ≤ i
  leads_before i r (there h) = omega arith
  leads_before i r (down l k) = let h = leads_before (f i) r k in omega (arith, l, h)

  pub leads_end : (i r : ℕ) → LeadsTo f i r → f r < r → ⊥
  leads_end i r (there h) = h
  leads_end i r (down l k) = leads_end (f i) r k

  pub leads_once : (i r s : ℕ) → LeadsTo f i r → LeadsTo f i s → r ≡ s
  leads_once i r s (there h) (there k) = refl
  leads_once i r s (there h) (down l k) = absurd (h l)
  leads_once i r s (down l k) (there h) = absurd (h l)
  leads_once i r s (down l k) (down m n) = leads_once (f i) r s k n

  leads_within : (n i : ℕ) → i < n → (r : ℕ) × LeadsTo f i r
  leads_within zero i l = absurd (omega (arith, l))
  leads_within (suc n) i l = elim (cases_lt (f i) i) [
    | inl k ↦ let h = leads_within n (f i) (omega (arith, l, k)) in (h.0, down k h.1)
    | inr k ↦ (i, there (λ m. absurd (omega (arith, k, m))))
  ]

  pub leads : (i : ℕ) → (r : ℕ) × LeadsTo f i r
  leads i = leads_within (suc i) i (omega arith)

-- ---- two roots become one

module _ (f g : ℕ → ℕ) (p q : ℕ) (below : p ≤ q) (p_ends : f p < p → ⊥) (q_ends : f q < q → ⊥) (here : g q ≡ p) (others : (i : ℕ) → i ≢ q → g i ≡ f i) where
  p_leads : LeadsTo g p p
  p_leads = elim (cases_eq p q) [
    | inl e ↦ there (λ l. let w : g p ≡ p = ap g e ∙ here in absurd (omega (arith, l, w)))
    | inr n ↦ there (λ l. let w : g p ≡ f p = others p n in p_ends (omega (arith, l, w)))
  ]

  q_leads : LeadsTo g q p
  q_leads = elim (cases_eq p q) [
    | inl e ↦ subst (λ k. LeadsTo g k p) e p_leads
    | inr n ↦ down (omega (arith, below, n, here)) (subst (λ k. LeadsTo g k p) (sym here) p_leads)
  ]

  -- what led to the later one leads to the earlier
  pub to_earlier : (i : ℕ) → LeadsTo f i q → LeadsTo g i p
  to_earlier i k = go i q k refl
    where
      go : (i r : ℕ) → LeadsTo f i r → r ≡ q → LeadsTo g i p
      go i r (there h) e = subst (λ k. LeadsTo g k p) (sym e) q_leads
      go i r (down l k) e =
          let n : i ≢ q = λ w. q_ends (subst (λ (j : ℕ). f j < j) w l) in
          down (subst (λ (j : ℕ). j < i) (sym (others i n)) l) (subst (λ j. LeadsTo g j p) (sym (others i n)) (go (f i) r k e))

  pub to_other : (i r : ℕ) → r ≢ q → LeadsTo f i r → LeadsTo g i r
  to_other i r n (there h) = there (subst (λ (j : ℕ). j < i → ⊥) (sym (others i n)) h)
  to_other i r n (down l k) =
      let m : i ≢ q = λ w. q_ends (subst (λ (j : ℕ). f j < j) w l) in
      down (subst (λ (j : ℕ). j < i) (sym (others i m)) l) (subst (λ j. LeadsTo g j r) (sym (others i m)) (to_other (f i) r n k))

-- ---- a label that is where it led

module _ (f g : ℕ → ℕ) (at top : ℕ) (led : LeadsTo f at top) (here : g at ≡ top) (others : (i : ℕ) → i ≢ at → g i ≡ f i) where
  top_leads : LeadsTo g top top
  top_leads = elim (cases_eq top at) [
    | inl e ↦ there (λ l. let w : g top ≡ top = ap g e ∙ here in absurd (omega (arith, l, w)))
    | inr n ↦ there (λ l. leads_end f at top led (subst (λ (j : ℕ). j < top) (others top n) l))
  ]

  at_leads : LeadsTo g at top
  at_leads = elim (cases_eq top at) [
    | inl e ↦ subst (λ k. LeadsTo g k top) e top_leads
    | inr n ↦ let b = leads_before f at top led in down (omega (arith, b, n, here)) (subst (λ k. LeadsTo g k top) (sym here) top_leads)
  ]

  at_same : (i r : ℕ) → i ≡ at → LeadsTo f i r → LeadsTo g i r
  at_same i r e k = subst (λ j. LeadsTo g j r) (sym e) (subst (LeadsTo g at) (leads_once f at top r led (subst (λ j. LeadsTo f j r) e k)) at_leads)

  pub leads_still : (i r : ℕ) → LeadsTo f i r → LeadsTo g i r
  leads_still i r (there h) = elim (cases_eq i at) [
    | inl e ↦ at_same i i e (there h)
    | inr n ↦ there (subst (λ (j : ℕ). j < i → ⊥) (sym (others i n)) h)
  ]
  leads_still i r (down l k) = elim (cases_eq i at) [
    | inl e ↦ at_same i r e (down l k)
    | inr n ↦ down (subst (λ (j : ℕ). j < i) (sym (others i n)) l) (subst (λ j. LeadsTo g j r) (sym (others i n)) (leads_still (f i) r k))
  ]

-- ---- together

module _ (f : ℕ → ℕ) where
  abbrev pub Meet : ℕ → ℕ → Type 0
  Meet i j = (r : ℕ) × LeadsTo f i r × LeadsTo f j r

  pub meets_itself : (i : ℕ) → Meet i i
  meets_itself i = let h = leads f i in (h.0, h.1, h.1)

  pub meets_back : (i j : ℕ) → Meet i j → Meet j i
  meets_back i j m = (m.0, m.2, m.1)

  pub meets_through : (i j k : ℕ) → Meet i j → Meet j k → Meet i k
  meets_through i j k m n = (m.0, m.1, subst (LeadsTo f k) (leads_once f j n.0 m.0 n.1 m.2) n.2)

module _ (f g : ℕ → ℕ) (a b p q : ℕ) (below : p ≤ q) (ends : (LeadsTo f a p × LeadsTo f b q) ⊎ (LeadsTo f a q × LeadsTo f b p)) (here : g q ≡ p) (others : (i : ℕ) → i ≢ q → g i ≡ f i) where
  p_ends : f p < p → ⊥
  p_ends = elim ends [ inl e ↦ leads_end f a p e.0 | inr e ↦ leads_end f b p e.1 ]

  q_ends : f q < q → ⊥
  q_ends = elim ends [ inl e ↦ leads_end f b q e.1 | inr e ↦ leads_end f a q e.0 ]

  earlier : (i : ℕ) → LeadsTo f i q → LeadsTo g i p
  earlier = to_earlier f g p q below p_ends q_ends here others

  other : (i r : ℕ) → r ≢ q → LeadsTo f i r → LeadsTo g i r
  other = to_other f g p q below p_ends q_ends here others

  both : (i : ℕ) → LeadsTo f i p → LeadsTo g i p
  both i k = elim (cases_eq p q) [ inl e ↦ earlier i (subst (LeadsTo f i) e k) | inr n ↦ other i p n k ]

  pub meet_kept : (i j : ℕ) → Meet f i j → Meet g i j
  meet_kept i j m = elim (cases_eq m.0 q) [
    | inl e ↦ (p, earlier i (subst (LeadsTo f i) e m.1), earlier j (subst (LeadsTo f j) e m.2))
    | inr n ↦ (m.0, other i m.0 n m.1, other j m.0 n m.2)
  ]

  pub meet_joined : Meet g a b
  meet_joined = elim ends [ inl e ↦ (p, both a e.0, earlier b e.1) | inr e ↦ (p, earlier a e.0, both b e.1) ]

  abbrev Only : ℕ → ℕ → Type 0
  Only i j = Meet f i j ⊎ ((Meet f i a × Meet f b j) ⊎ (Meet f i b × Meet f a j))

  -- one led to the later, the other to the earlier
  crossed : (i j : ℕ) → LeadsTo f i q → LeadsTo f j p → Only i j
  crossed i j k l = elim ends [
    | inl e ↦ inr (inr ((q, k, e.1), (p, e.0, l)))
    | inr e ↦ inr (inl ((q, k, e.0), (p, e.1, l)))
  ]

  crossed_back : (i j : ℕ) → LeadsTo f i p → LeadsTo f j q → Only i j
  crossed_back i j k l = elim ends [
    | inl e ↦ inr (inl ((p, k, e.0), (q, e.1, l)))
    | inr e ↦ inr (inr ((p, k, e.1), (q, e.0, l)))
  ]

  pub meet_only : (i j : ℕ) → Meet g i j → Only i j
  meet_only i j m = go (leads f i) (leads f j)
    where
      go : ((r : ℕ) × LeadsTo f i r) → ((s : ℕ) × LeadsTo f j s) → Only i j
      go (r, k) (s, l) = elim (cases_eq r q) [
        | inl e ↦ elim (cases_eq s q) [
          | inl d ↦ inl (q, subst (LeadsTo f i) e k, subst (LeadsTo f j) d l)
          | inr d ↦
              let one = leads_once g i m.0 p m.1 (earlier i (subst (LeadsTo f i) e k)) in
              let two = leads_once g j m.0 s m.2 (other j s d l) in
              crossed i j (subst (LeadsTo f i) e k) (subst (LeadsTo f j) (sym two ∙ one) l)
        ]
        | inr e ↦ elim (cases_eq s q) [
          | inl d ↦
              let one = leads_once g i m.0 r m.1 (other i r e k) in
              let two = leads_once g j m.0 p m.2 (earlier j (subst (LeadsTo f j) d l)) in
              crossed_back i j (subst (LeadsTo f i) (sym one ∙ two) k) (subst (LeadsTo f j) d l)
          | inr d ↦
              let one = leads_once g i m.0 r m.1 (other i r e k) in
              let two = leads_once g j m.0 s m.2 (other j s d l) in
              inl (r, k, subst (LeadsTo f j) (sym two ∙ one) l)
        ]
      ]

-- ---- in lists of labels

pub label_written : (labels : List ℕ) (q p : ℕ) → q < length labels → label_at (set labels q p) q ≡ p
label_written labels q p l = get_or-set_same labels q p q l

pub label_others : (labels : List ℕ) (q p i : ℕ) → i ≢ q → label_at (set labels q p) i ≡ label_at labels i
label_others labels q p i n = get_or-set_other labels q i p i n

pub joins : (old : List ℕ) (a b p q : ℕ) → p ≤ q → q < length old
    → (LeadsTo (label_at old) a p × LeadsTo (label_at old) b q) ⊎ (LeadsTo (label_at old) a q × LeadsTo (label_at old) b p)
    → Joins a b old (set old q p)
joins old a b p q below within ends =
    let f = label_at old in
    let g = label_at (set old q p) in
    let h = label_written old q p within in
    let o = label_others old q p in
    record {
      as_many = length-set old q p;
      kept = meet_kept f g a b p q below ends h o;
      joined = meet_joined f g a b p q below ends h o;
      only = meet_only f g a b p q below ends h o;
    }

-- one more label is where it led
pub settles : (old labels : List ℕ) (at top : ℕ)
    → ((i r : ℕ) → LeadsTo (label_at old) i r → LeadsTo (label_at labels) i r)
    → ((i : ℕ) → i < at → LeadsTo (label_at old) i (label_at labels i))
    → LeadsTo (label_at labels) at top → at < length labels
    → ((i r : ℕ) → LeadsTo (label_at old) i r → LeadsTo (label_at (set labels at top)) i r)
    × ((i : ℕ) → i < at + 1 → LeadsTo (label_at old) i (label_at (set labels at top) i))
settles old labels at top still settled led within =
    let f = label_at labels in
    let g = label_at (set labels at top) in
    let h = label_written labels at top within in
    let o = label_others labels at top in
    let first = leads (label_at old) at in
    let here : LeadsTo (label_at old) at (g at) = subst (LeadsTo (label_at old) at) (leads_once f at first.0 top (still at first.0 first.1) led ∙ sym h) first.1 in (
      λ i r k. leads_still f g at top led h o i r (still i r k),
      λ i l. elim (cases_eq i at) [
        | inl e ↦ subst (λ j. LeadsTo (label_at old) j (g j)) (sym e) here
        | inr n ↦ subst (LeadsTo (label_at old) i) (sym (o i n)) (settled i (omega (arith, l, n)))
      ],
    )

pub leads_in : (xs ys : List ℕ) (i r : ℕ) → xs ≡ ys → LeadsTo (label_at xs) i r → LeadsTo (label_at ys) i r
leads_in xs ys i r e k = subst (λ l. LeadsTo (label_at l) i r) e k

-- equal labels lead alike
pub leads_as : (f g : ℕ → ℕ) → ((i : ℕ) → f i ≡ g i) → (i r : ℕ) → LeadsTo f i r → LeadsTo g i r
leads_as f g e i r (there h) = there (subst (λ (j : ℕ). j < i → ⊥) (e i) h)
leads_as f g e i r (down l k) = down (subst (λ (j : ℕ). j < i) (e i) l) (subst (λ j. LeadsTo g j r) (e i) (leads_as f g e (f i) r k))
