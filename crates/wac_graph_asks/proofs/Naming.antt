-- The places of labels, by the names that are asked.
use Rattle.std.specs.List.{list_any}
use Rattle.std.specs.Prelude.{◌⊎◌, is_some, IsSome, fold, position, Result, OnOk}
use Rattle.std.specs.List.{position_or_len}
use Rattle.std.proofs.Common.{◌≡◌, ◌==◌, ◌<◌, ◌≤◌, ◌+◌, ℕ, Bool, true, false, true≢false, List, [], ◌∷◌, ◌++◌, length, get_or, Some, None, slice_get, refl, sym, ap, subst, ◌∙◌, inl, inr, arith, if◌then◌else◌}
use Rattle.std.proofs.lemmas.Bool.{cases_lt}
use Rattle.std.proofs.lemmas.Grind.{common_steps}
use Rattle.std.proofs.lemmas.Option.{none-some, same_Some, get_or_from_slice_get, slice_get-get_or, slice_get_within}
use Rattle.std.proofs.lemmas.Result.{on_ok_weaker}
use Rattle.std.proofs.lemmas.List.Quantifiers.{position-Some}
use Rattle.std.proofs.lemmas.List.Sums.{fails_before_first}
use Rattle.wac_types_base.specs.Entries.{Name, put_entry, value_at}
use Rattle.wac_types_base.specs.Graph.{Among}
use Rattle.wac_types_base.proofs.Adding.{Among-left}
use Rattle.wac_types_base.proofs.Looked.{among-get}
use Rattle.wac_types_base.proofs.Replacing.{same_number}
use Rattle.wac_types_base.proofs.Walking.{slice_get-Among}
use Rattle.wac_types_base.proofs.Lists.{there_is, last_among, name_tested, put_is, put_else}
use Rattle.wac_graph_core.proofs.Found.{eq_same}
use Rattle.wac_composition.proofs.Closures.{any_among}
use Rattle.wac_merging.specs.Labelled.{with_label, each_label}
use Rattle.wac_graph_asks.specs.declared.asks.Ask.{Ask as HeldAsk}
use Rattle.wac_graph_asks.specs.Joining.{label_at}
use Rattle.wac_graph_asks.specs.Imported.{PlacesAsk, PutsPlace, PutsAllPlaces}

-- ---- each label is among the labels

among_with : (ls : List ℕ) (m l : ℕ) → Among l ls → Among l (with_label ls m)
among_with ls m l k = go (list_any (λ x. x == m) ls)
  where
    go : (b : Bool) → Among l (if b then ls else ls ++ m ∷ [])
    go true = k
    go false = Among-left l ls (m ∷ []) k

own_with : (ls : List ℕ) (l : ℕ) → Among l (with_label ls l)
own_with ls l = go (list_any (λ x. x == l) ls) refl
  where
    go : (b : Bool) → list_any (λ x. x == l) ls ≡ b → Among l (if b then ls else ls ++ l ∷ [])
    go true e = let a = any_among (λ x. x == l) ls e in subst (λ m. Among m ls) (same_number a.0 l a.2) a.1
    go false e = last_among ls l

among_each : (ls ms : List ℕ) (l : ℕ) → Among l ls ⊎ Among l ms → Among l (fold with_label ls ms)
among_each ls [] l (inl k) = k
among_each ls [] l (inr k) = absurd k
among_each ls (m ∷ ms) l (inl k) = among_each (with_label ls m) ms l (inl (among_with ls m l k))
among_each ls (m ∷ ms) l (inr (inl e)) = among_each (with_label ls m) ms l (inl (subst (λ x. Among x (with_label ls m)) (sym e) (own_with ls m)))
among_each ls (m ∷ ms) l (inr (inr k)) = among_each (with_label ls m) ms l (inr k)

among_at : (ms : List ℕ) (i l : ℕ) → slice_get ms i ≡ Some l → Among l (each_label ms)
among_at ms i l e = among_each [] ms l (inr (among-get ms i l e))

-- ---- the place of a label

placed : (ks : List ℕ) (l at : ℕ) → position (λ k. l == k) ks ≡ Some at → slice_get ks at ≡ Some l
placed ks l at e =
    let p = position-Some (λ k. l == k) ks at 0 e in
    slice_get-get_or ks at 0 p.0 ∙ ap Some (sym (same_number l (get_or ks at 0) p.1))

not_placed : (ks : List ℕ) (l : ℕ) → position (λ k. l == k) ks ≡ None → Among l ks → ⊥
not_placed ks l e m =
    let p = slice_get-Among ks l m in
    let far : length ks ≤ position_or_len (λ k. l == k) ks = grind (arith, common_steps) in
    let lt = p.1 in
    true≢false (sym (ap (λ k. l == k) (get_or_from_slice_get ks p.0 l 0 p.2) ∙ eq_same l) ∙ fails_before_first (λ k. l == k) ks p.0 0 (omega (arith, far, lt)))

pub puts_place : {E : Type 0} (r : Result (Unit {0}) E) (ks : List ℕ) (l at : ℕ) (n : Name) (old new : List (Name × ℕ)) → position (λ k. l == k) ks ≡ Some at → OnOk r (new ≡ put_entry old n at) → OnOk r (PutsPlace ks l n old new)
puts_place r ks l at n old new e = on_ok_weaker r (λ is m. (at, placed ks l at e, is))

pub puts_no_place : (ks : List ℕ) (l : ℕ) (n : Name) (old new : List (Name × ℕ)) → position (λ k. l == k) ks ≡ None → PutsPlace ks l n old new
puts_no_place ks l n old new e m = absurd (not_placed ks l e m)

-- ---- what is found under a name after something is put under one

put_found : {T : Type 0} (es : List (Name × T)) (n m : Name) (v w : T) → value_at (put_entry es n v) m ≡ Some w → ((m ≡ n) × (w ≡ v)) ⊎ (value_at es m ≡ Some w)
put_found es n m v w e = elim (name_tested m n) [
  | inl s ↦ inl (s.0, same_Some w v (sym e ∙ ap (value_at (put_entry es n v)) s.0 ∙ put_is es n v))
  | inr d ↦ inr (sym (put_else es n m v d.0) ∙ e)
]

put_stays : {T : Type 0} (es : List (Name × T)) (n m : Name) (v : T) → IsSome (value_at es m) → IsSome (value_at (put_entry es n v) m)
put_stays es n m v h = elim (name_tested m n) [
  | inl s ↦ ap is_some (ap (value_at (put_entry es n v)) s.0 ∙ put_is es n v)
  | inr d ↦ ap is_some (put_else es n m v d.0) ∙ h
]

-- ---- the loop

module _ (held : List HeldAsk) (labels : List ℕ) where
  -- the names so far have their places
  pub record PlacedTo (at : ℕ) (places : List (Name × ℕ)) : Type 0 where
    pub each : (n : Name) (i : ℕ) → value_at places n ≡ Some i → PlacesAsk held labels n i
    pub all : (i : ℕ) (a : HeldAsk) → i < at → slice_get held i ≡ Some a → IsSome (value_at places a.name)

  abbrev pub PlacedSoFar : (keys : List ℕ) → ℕ → List (Name × ℕ) → Type 0
  PlacedSoFar keys at places = length labels ≡ length held → keys ≡ each_label labels → PlacedTo at places

  pub placed_first : (keys : List ℕ) (places : List (Name × ℕ)) → places ≡ [] → PlacedSoFar keys 0 places
  placed_first keys places none many are = record {
    each = λ n i e. absurd (none-some _ (sym (ap (λ l. value_at l n) none) ∙ e));
    all = λ i a lt e. absurd (omega (arith, lt));
  }

  pub placed_more : (keys : List ℕ) (at l : ℕ) (ask : HeldAsk) (old new : List (Name × ℕ)) → slice_get held at ≡ Some ask → l ≡ label_at labels at → PutsPlace keys l ask.name old new → PlacedSoFar keys at old → PlacedSoFar keys (at + 1) new
  placed_more keys at l ask old new there is puts so_far many are = record { each = each; all = all }
    where
      here : (k : ℕ) × (slice_get labels at ≡ Some k)
      here = there_is labels at (let lt = slice_get_within held at ask there in omega (arith, many, lt))

      label : slice_get labels at ≡ Some l
      label = here.1 ∙ ap Some (sym (is ∙ get_or_from_slice_get labels at here.0 at here.1))

      put : (i : ℕ) × (slice_get keys i ≡ Some l) × (new ≡ put_entry old ask.name i)
      put = puts (subst (Among l) (sym are) (among_at labels at l label))

      h : PlacedTo at old
      h = so_far many are

      each : (n : Name) (i : ℕ) → value_at new n ≡ Some i → PlacesAsk held labels n i
      each n i e = elim (put_found old ask.name n put.0 i (sym (ap (λ es. value_at es n) put.2) ∙ e)) [
        | inl s ↦ record { place = at; ask = ask; label = l; there = there; named = s.0; of_label = label; at = ap (slice_get (each_label labels)) s.1 ∙ ap (λ ks. slice_get ks put.0) (sym are) ∙ put.1 }
        | inr o ↦ h.each n i o
      ]

      all : (i : ℕ) (a : HeldAsk) → i < at + 1 → slice_get held i ≡ Some a → IsSome (value_at new a.name)
      all i a lt e = subst (λ es. IsSome (value_at es a.name)) (sym put.2) (elim (cases_lt i at) [
        | inl l ↦ put_stays old ask.name a.name put.0 (h.all i a l e)
        | inr l ↦
            let same : i ≡ at = omega (arith, lt, l) in
            let own : ask ≡ a = same_Some _ _ (sym there ∙ ap (slice_get held) (sym same) ∙ e) in
            subst (λ (x : HeldAsk). IsSome (value_at (put_entry old ask.name put.0) x.name)) own (ap is_some (put_is old ask.name put.0))
      ])

  pub placed_all : (keys : List ℕ) (at : ℕ) (places : List (Name × ℕ)) → length held ≤ at → PlacedSoFar keys at places → PutsAllPlaces held labels keys places
  placed_all keys at places le h many are =
      let k = h many are in
      record { each = k.each; all = λ a m. let p = slice_get-Among held a m in let lt = p.1 in k.all p.0 a (omega (arith, lt, le)) p.2 }
