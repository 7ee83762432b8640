-- Outer imports of asks whose classes have labels.
use Rattle.std.proofs.Common.{◌≡◌, ℕ, suc, List, [], ◌∷◌, ◌++◌, length, Bool, true, false, true≢false, Option, Some, None, ◌==◌, refl, sym, ap, subst, ◌∙◌, inl, inr}
use Rattle.std.specs.Prelude.{fold, filter, filter_map, cond, is_some, slice_get, if◌then◌else◌}
use Rattle.std.specs.List.{cons_option, list_any}
use Rattle.std.specs.Cmp.Lexicographic.{pointwise, bytes_decides}
use Rattle.std.specs.Cmp.Derive.{one_truth}
use Rattle.std.proofs.lemmas.Option.{none-some, same_Some}
use Rattle.std.proofs.lemmas.Bool.Decides.{Decides-eqb}
use Rattle.std.proofs.lemmas.List.{append-nil}
use Rattle.std.proofs.lemmas.List.Elements.{filter_map-append}
use Rattle.wac_types_base.specs.Entries.{Name, value_at}
use Rattle.wac_types_base.specs.Graph.{Among}
use Rattle.wac_types_base.specs.Stated.{Stated}
use Rattle.wac_types_base.proofs.Looked.{among-get}
use Rattle.wac_types_base.proofs.Lists.{among_split}
use Rattle.wac_composition.specs.Asks.{Ask}
use Rattle.wac_composition.specs.Classes.{Linked, class, akin}
use Rattle.wac_composition.specs.OuterImports.{with_new, outer_of, outers_from}
use Rattle.wac_composition.proofs.Closures.{any_among, among_any, filter_among, among_filter, closed}
use Rattle.wac_composition.proofs.OuterClasses.{itself, turned, class_is, class_itself, class_by_spelling, spelled_outer}
use Rattle.wac_composition.proofs.Clashing.{value_among}
use Rattle.wac_composition.proofs.ClassLaws.{in_class_linked, linked_in_class}
use Rattle.wac_merging.specs.Labelled.{with_label, labelled, LabelClasses, Class_is_labelled, Outers_are_labelled, One_more_labelled}
use Rattle.wac_merging.specs.Outers.{Outers_differ}

-- ---- tests

-- a label among others
label_among : (ls : List ℕ) (l : ℕ) → list_any (λ m. m == l) ls ≡ true → Among l ls
label_among ls l e =
    let f = any_among (λ m. m == l) ls e in
    subst (λ m. Among m ls) ((Decides-eqb f.0 l).0 f.2) f.1

among_label : (ls : List ℕ) (l : ℕ) → Among l ls → list_any (λ m. m == l) ls ≡ true
among_label ls l m = among_any (λ m. m == l) ls l m ((Decides-eqb l l).1 refl)

-- an entry that stands in a map is found under its name
entry_found : (xs : List (Name × Stated)) (o : Name × Stated) → Among o xs → is_some (value_at xs o.0) ≡ true
entry_found [] o m = absurd m
entry_found (x ∷ xs) o (inl e) = go (pointwise ◌==◌ o.0 x.0) refl
  where
    go : (b : Bool) → pointwise ◌==◌ o.0 x.0 ≡ b → is_some (if b then Some x.1 else value_at xs o.0) ≡ true
    go true q = refl
    go false q = absurd (true≢false (sym ((bytes_decides o.0 x.0).1 (ap (λ (p : Name × Stated). p.0) e)) ∙ q))
entry_found (x ∷ xs) o (inr m) = go (pointwise ◌==◌ o.0 x.0) (entry_found xs o m)
  where
    go : (b : Bool) → is_some (value_at xs o.0) ≡ true → is_some (if b then Some x.1 else value_at xs o.0) ≡ true
    go true q = refl
    go false q = q

-- what is given of a list comes of a member, and of each member comes what is given
given_by : (h : ℕ → Option (Name × Stated)) (ls : List ℕ) (o : Name × Stated) → Among o (filter_map h ls) → (l : ℕ) × Among l ls × (h l ≡ Some o)
given_by h [] o m = absurd m
given_by h (l ∷ ls) o m = go (given_by h ls o) (h l) refl m
  where
    go : (Among o (filter_map h ls) → (k : ℕ) × Among k ls × (h k ≡ Some o)) → (p : Option (Name × Stated)) → h l ≡ p → Among o (cons_option p (filter_map h ls)) → (k : ℕ) × Among k (l ∷ ls) × (h k ≡ Some o)
    go rest None e m = let r = rest m in (r.0, inr r.1, r.2)
    go rest (Some q) e (inl d) = (l, inl refl, e ∙ ap Some (sym d))
    go rest (Some q) e (inr k) = let r = rest k in (r.0, inr r.1, r.2)

gives : (h : ℕ → Option (Name × Stated)) (ls : List ℕ) (l : ℕ) (o : Name × Stated) → Among l ls → h l ≡ Some o → Among o (filter_map h ls)
gives h [] l o m e = absurd m
gives h (k ∷ ls) l o (inl d) e = subst (λ p. Among o (cons_option p (filter_map h ls))) (sym (ap h (sym d) ∙ e)) (inl refl)
gives h (k ∷ ls) l o (inr m) e = go (h k) (gives h ls l o m e)
  where
    go : (p : Option (Name × Stated)) → Among o (filter_map h ls) → Among o (cons_option p (filter_map h ls))
    go None n = n
    go (Some q) n = inr n

-- ---- the asks of a label

module _ {A : Type 0} where
  -- asks that pass a test exactly where they have the label
  pub passing_labelled : (p : Ask A → Bool) (l : ℕ) (xs : List (Ask A)) (ms : List ℕ) → length ms ≡ length xs
      → ((j : ℕ) (x : Ask A) (m : ℕ) → slice_get xs j ≡ Some x → slice_get ms j ≡ Some m → p x ≡ (m == l)) → filter p xs ≡ labelled l xs ms
  passing_labelled p l [] ms e h = refl
  passing_labelled p l (x ∷ xs) [] e h = absurd (cc e)
  passing_labelled p l (x ∷ xs) (m ∷ ms) e h =
      ap (λ b. cond b (x ∷ filter p xs) (filter p xs)) (h 0 x m refl refl)
      ∙ ap (λ r. if m == l then x ∷ r else r) (passing_labelled p l xs ms (cc e) (λ j. h (suc j)))

  pub one_more_labelled : One_more_labelled A
  one_more_labelled [] [] a l m e = refl
  one_more_labelled [] (n ∷ ns) a l m e = absurd (cc e)
  one_more_labelled (x ∷ xs) [] a l m e = absurd (cc e)
  one_more_labelled (x ∷ xs) (n ∷ ns) a l m e = ap (λ r. if n == l then x ∷ r else r) (one_more_labelled xs ns a l m (cc e)) ∙ by (n == l) (m == l)
    where
      by : (b c : Bool) → (if b then x ∷ (if c then labelled l xs ns ++ a ∷ [] else labelled l xs ns) else (if c then labelled l xs ns ++ a ∷ [] else labelled l xs ns))
          ≡ (if c then (if b then x ∷ labelled l xs ns else labelled l xs ns) ++ a ∷ [] else (if b then x ∷ labelled l xs ns else labelled l xs ns))
      by true true = refl
      by true false = refl
      by false true = refl
      by false false = refl

  -- of a label that has asks there is one
  pub ask_there : (l : ℕ) (xs : List (Ask A)) (ms : List ℕ) (a : Ask A) (as_ : List (Ask A)) → labelled l xs ms ≡ a ∷ as_ → (i : ℕ) × (b : Ask A) × (slice_get xs i ≡ Some b) × (slice_get ms i ≡ Some l)
  ask_there l [] ms a as_ e = absurd (cc e)
  ask_there l (x ∷ xs) [] a as_ e = absurd (cc e)
  ask_there l (x ∷ xs) (m ∷ ms) a as_ e = by (ask_there l xs ms a as_) (m == l) refl e
    where
      by : (labelled l xs ms ≡ a ∷ as_ → (i : ℕ) × (b : Ask A) × (slice_get xs i ≡ Some b) × (slice_get ms i ≡ Some l)) → (t : Bool) → (m == l) ≡ t → (if t then x ∷ labelled l xs ms else labelled l xs ms) ≡ a ∷ as_
          → (i : ℕ) × (b : Ask A) × (slice_get (x ∷ xs) i ≡ Some b) × (slice_get (m ∷ ms) i ≡ Some l)
      by further true t e = (0, x, refl, ap Some ((Decides-eqb m l).0 t))
      by further false t e = let r = further e in (suc r.0, r.1, r.2, r.3)

  module _ (asks : List (Ask A)) (labels : List ℕ) (c : LabelClasses asks labels) where
    -- the class of an ask, as a test
    abbrev in_class : Ask A → Ask A → Bool
    in_class a b = list_any (akin b) (class asks a)

    class_test : (a : Ask A) → Among a asks → class asks a ≡ filter (in_class a) asks
    class_test a there = class_is asks a ∙ sym (closed akin asks itself turned a there) ∙ ap (λ ms. filter (λ b. list_any (akin b) ms) asks) (sym (class_is asks a))

    -- the ask and the label at a place
    pub record IsAt (a : Ask A) (l : ℕ) : Type 0 where
      pub place : ℕ
      pub ask : slice_get asks place ≡ Some a
      pub label : slice_get labels place ≡ Some l

    pub at_among : (a : Ask A) (l : ℕ) → IsAt a l → Among a asks
    at_among a l i = among-get asks i.place a i.ask

    -- linked asks have one label
    pub one_label : (a b : Ask A) (l m : ℕ) → IsAt a l → IsAt b m → Linked asks a b → m ≡ l
    one_label a b l m i j k = sym (same_Some _ _ (sym i.label ∙ (c.one_label i.place j.place a b i.ask j.ask).1 k ∙ j.label))

    pub linked : (a b : Ask A) (l m : ℕ) → IsAt a l → IsAt b m → m ≡ l → Linked asks a b
    linked a b l m i j e = (c.one_label i.place j.place a b i.ask j.ask).0 (i.label ∙ ap Some (sym e) ∙ sym j.label)

    label_test : (a b : Ask A) (l m : ℕ) → IsAt a l → IsAt b m → in_class a b ≡ (m == l)
    label_test a b l m i j =
        let here = at_among a l i in
        one_truth (in_class a b) (m == l)
        (λ e. (Decides-eqb m l).1 (one_label a b l m i j (in_class_linked asks a b here (subst (Among b) (sym (class_test a here)) (among_filter (in_class a) asks b (at_among b m j) e)))))
        (λ e. (filter_among (in_class a) asks b (subst (Among b) (class_test a here) (linked_in_class asks a b here (linked a b l m i j ((Decides-eqb m l).0 e))))).1)

    class_at : (a : Ask A) (l : ℕ) → IsAt a l → class asks a ≡ labelled l asks labels
    class_at a l i =
        class_test a (at_among a l i)
        ∙ passing_labelled (in_class a) l asks labels c.as_many (λ j b m p q. label_test a b l m i (record { place = j; ask = p; label = q }))

    -- ---- outer imports

    abbrev outer_at : ℕ → Option (Name × Stated)
    outer_at l = outer_of (labelled l asks labels)

    -- each label so far is one of an ask
    abbrev AreOfAsks : List ℕ → Type 0
    AreOfAsks ls = (l : ℕ) → Among l ls → (a : Ask A) × IsAt a l

    -- outer imports under one name have one label
    one_name : (a b : Ask A) (l m : ℕ) → IsAt a l → IsAt b m → (x y : Stated) (n : Name) → outer_at l ≡ Some (n, x) → outer_at m ≡ Some (n, y) → m ≡ l
    one_name a b l m i j x y n e f =
        let p = ap outer_of (class_at a l i) ∙ e in
        let q = ap outer_of (class_at b m j) ∙ f in
        let same = class_by_spelling asks a b (at_among a l i) (at_among b m j) (sym (spelled_outer asks (class asks a) n x p) ∙ spelled_outer asks (class asks b) n y q) in
        one_label a b l m i j (in_class_linked asks a b (at_among a l i) (subst (Among b) (sym same) (class_itself asks b (at_among b m j))))

    -- a label with an outer import is one of an ask
    outer_there : (l : ℕ) (o : Name × Stated) → outer_at l ≡ Some o → (a : Ask A) × IsAt a l
    outer_there l o e = by (labelled l asks labels) refl e
      where
        by : (xs : List (Ask A)) → labelled l asks labels ≡ xs → outer_of xs ≡ Some o → (a : Ask A) × IsAt a l
        by [] s e = absurd (none-some o e)
        by (x ∷ xs) s e = let r = ask_there l asks labels x xs s in (r.1, record { place = r.0; ask = r.2; label = r.3 })

    pub outers_apart : (l m : ℕ) (n : Name) (x y : Stated) → outer_at l ≡ Some (n, x) → outer_at m ≡ Some (n, y) → l ≡ m
    outers_apart l m n x y e f = let a = outer_there l (n, x) e in let b = outer_there m (n, y) f in sym (one_name a.0 b.0 l m a.1 b.1 x y n e f)

    -- what one more ask adds
    module _ (ls : List ℕ) (h : AreOfAsks ls) (a : Ask A) (l : ℕ) (i : IsAt a l) where
      abbrev found : List (Name × Stated)
      found = filter_map outer_at ls

      not_there : list_any (λ m. m == l) ls ≡ false → (n : Name) (x : Stated) → outer_at l ≡ Some (n, x) → (o : Option Stated) → value_at found n ≡ o → is_some o ≡ false
      not_there e n x p None q = refl
      not_there e n x p (Some y) q =
          let m = given_by outer_at ls (n, y) (value_among found n y q) in
          let b = h m.0 m.1 in
          let same : m.0 ≡ l = one_name a b.0 l m.0 i b.1 x y n p m.2 in
          absurd (true≢false (sym (among_label ls l (subst (λ k. Among k ls) same m.1)) ∙ e))

      old_label : list_any (λ m. m == l) ls ≡ true → (o : Option (Name × Stated)) → outer_at l ≡ o → with_new found o ≡ found
      old_label e None p = refl
      old_label e (Some o) p = ap (λ b. if b then found else found ++ o ∷ []) (entry_found found o (gives outer_at ls l o (label_among ls l e) p))

      new_label : list_any (λ m. m == l) ls ≡ false → (o : Option (Name × Stated)) → outer_at l ≡ o → with_new found o ≡ found ++ cons_option o []
      new_label e None p = sym (append-nil found)
      new_label e (Some o) p = ap (λ b. if b then found else found ++ o ∷ []) (not_there e o.0 o.1 p (value_at found o.0) refl)

      one_more : with_new found (outer_of (class asks a)) ≡ filter_map outer_at (with_label ls l)
      one_more = ap (with_new found) (ap outer_of (class_at a l i)) ∙ by (list_any (λ m. m == l) ls) refl
        where
          by : (b : Bool) → list_any (λ m. m == l) ls ≡ b → with_new found (outer_at l) ≡ filter_map outer_at (if b then ls else ls ++ l ∷ [])
          by true e = old_label e (outer_at l) refl
          by false e = new_label e (outer_at l) refl ∙ sym (filter_map-append outer_at ls (l ∷ []))

      still_of_asks : AreOfAsks (with_label ls l)
      still_of_asks = by (list_any (λ m. m == l) ls)
        where
          by : (b : Bool) → AreOfAsks (if b then ls else ls ++ l ∷ [])
          by true = h
          by false = λ m k. elim (among_split m ls (l ∷ []) k) [
            | inl r ↦ h m r
            | inr (inl e) ↦ (a, subst (IsAt a) (sym e) i)
            | inr (inr r) ↦ absurd r
          ]

    outers : (ls : List ℕ) (as_ : List (Ask A)) (ms : List ℕ) → AreOfAsks ls → length ms ≡ length as_ → ((j : ℕ) (a : Ask A) (l : ℕ) → slice_get as_ j ≡ Some a → slice_get ms j ≡ Some l → IsAt a l)
        → outers_from (filter_map outer_at ls) asks as_ ≡ filter_map outer_at (fold with_label ls ms)
    outers ls [] [] h e p = refl
    outers ls [] (m ∷ ms) h e p = absurd (cc e)
    outers ls (a ∷ as_) [] h e p = absurd (cc e)
    outers ls (a ∷ as_) (m ∷ ms) h e p =
        let i = p 0 a m refl refl in
        ap (λ f. outers_from f asks as_) (one_more ls h a m i) ∙ outers (with_label ls m) as_ ms (still_of_asks ls h a m i) (cc e) (λ j. p (suc j))

  pub class_is_labelled : Class_is_labelled A
  class_is_labelled asks labels i l a c p q = class_at asks labels c a l (record { place = i; ask = p; label = q })

  pub outers_are_labelled : Outers_are_labelled A
  outers_are_labelled asks labels c = outers asks labels c [] asks labels (λ l m. absurd m) c.as_many (λ j a l p q. record { place = j; ask = p; label = q })

  pub outers_differ : Outers_differ A
  outers_differ asks labels l m n x y c e f = outers_apart asks labels c l m n x y e f
