-- Visits, step by step.
use Rattle.std.proofs.Common.{◌≡◌, ℕ, zero, suc, ◌+◌, ◌<◌, List, [], ◌∷◌, ◌++◌, drop, Option, Some, None, Result, Ok, Err, slice_get, refl, sym, subst, arith, inl, inr}
use Rattle.std.specs.Prelude.{⊤}
use Rattle.wac_types_base.specs.declared.ids.DefinedTypeId.{DefinedTypeId}
use Rattle.wac_types_base.specs.declared.item.ItemKind.{ItemKind}
use Rattle.wac_types_base.specs.Graph.{Among}
use Rattle.wac_types_base.specs.Record.{Collection}
use Rattle.wac_types_base.specs.Collection.{Slot, Stands, IsAcyclic, slots_of, size_of}
use Rattle.wac_types_base.specs.Visiting.{defined_in, own_visit, skipped, below, Visits, VisitsAll, visits, visits_none, visits_hole, visits_place, CalledOn, called_on_all, called_on_first, refused_first, IsVisited}
use Rattle.wac_types_base.proofs.Walking.{child_smaller, slice_get-Among}
use Rattle.wac_types_base.proofs.Used.{drop_next}

module _ {F D E : Type 0} (call : F → D → Result ⊤ E → F → Type 0) where
  -- what comes after a list that was all called on
  pub called_after : {f g h : F} {ds es : List D} {r s : Result ⊤ E} → CalledOn call f ds r g → r ≡ Ok tt → CalledOn call g es s h → CalledOn call f (ds ++ es) s h
  called_after called_on_all e k = k
  called_after (called_on_first c rest) e k = called_on_first c (called_after rest e k)
  called_after (refused_first c) e k = absurd (cc e)

  -- what comes after a refusal does not matter
  pub called_refused : {f g : F} {ds : List D} {r : Result ⊤ E} (es : List D) (e : E) → CalledOn call f ds r g → r ≡ Err e → CalledOn call f (ds ++ es) r g
  called_refused es e called_on_all is = absurd (cc is)
  called_refused es e (called_on_first c rest) is = called_on_first c (called_refused es e rest is)
  called_refused es e (refused_first c) is = refused_first c

  pub one_call : {f g : F} (d : D) (r : Result ⊤ E) → call f d r g → CalledOn call f (d ∷ []) r g
  one_call d (Ok u) c = called_on_first c called_on_all
  one_call d (Err e) c = refused_first c

pub drop_past : {X : Type 0} (xs : List X) (n : ℕ) → slice_get xs n ≡ None → drop n xs ≡ []
drop_past [] zero e = refl
drop_past [] (suc n) e = refl
drop_past (x ∷ xs) zero e = absurd (cc e)
drop_past (x ∷ xs) (suc n) e = drop_past xs n e

among_drop : {X : Type 0} (xs : List X) (n : ℕ) (x : X) → Among x (drop n xs) → Among x xs
among_drop [] zero x m = m
among_drop [] (suc n) x m = m
among_drop (y ∷ xs) zero x m = m
among_drop (y ∷ xs) (suc n) x m = inr (among_drop xs n x m)

module _ (c : Collection) (a : IsAcyclic c) where
  some_all : (xs : List Slot) → ((j : ItemKind) → Among (Some j) xs → (ds : List DefinedTypeId) × Visits c j ds) → (ds : List DefinedTypeId) × VisitsAll c xs ds
  some_all [] h = ([], visits_none)
  some_all (None ∷ xs) h = let r = some_all xs (λ j m. h j (inr m)) in (r.0, visits_hole r.1)
  some_all (Some j ∷ xs) h =
      let p = h j (inl refl) in
      let r = some_all xs (λ j m. h j (inr m)) in
      (p.0 ++ r.0, visits_place p.1 r.1)

  some_within : (n : ℕ) (k : ItemKind) → Stands c k → size_of c k < n → (ds : List DefinedTypeId) × Visits c k ds
  some_within zero k s lt = absurd (omega arith)
  some_within (suc n) k s lt =
      let r = some_all (below c k) (λ j m.
      let at = slice_get-Among (slots_of c k) (Some j) (among_drop (slots_of c k) (skipped c k) (Some j) m) in
      let t = child_smaller c a k s at.0 j at.2 in
      some_within n j t.0 (omega (arith, t.1))) in
      (own_visit (defined_in k) ++ r.0, visits r.1)

  -- the defined types of what stands
  pub some_visits : (k : ItemKind) → Stands c k → (ds : List DefinedTypeId) × Visits c k ds
  some_visits k s = some_within (suc (size_of c k)) k s (omega arith)

  -- and of its places behind one
  pub rest_visits : (k : ItemKind) → Stands c k → (n : ℕ) → (ds : List DefinedTypeId) × VisitsAll c (drop n (slots_of c k)) ds
  rest_visits k s n = some_all (drop n (slots_of c k)) (λ j m.
      let at = slice_get-Among (slots_of c k) (Some j) (among_drop (slots_of c k) n (Some j) m) in
      let t = child_smaller c a k s at.0 j at.2 in
      some_visits j t.0)

module _ {F E : Type 0} (call : F → DefinedTypeId → Result ⊤ E → F → Type 0) (c : Collection) (k : ItemKind) where
  -- calls on what is in the places that are left are calls on all below the kind
  abbrev pub Rest : F → F → ℕ → Type 0
  Rest start now n = (ds : List DefinedTypeId) (r : Result ⊤ E) (h : F) → VisitsAll c (drop n (slots_of c k)) ds → CalledOn call now ds r h →
      (es : List DefinedTypeId) × VisitsAll c (below c k) es × CalledOn call start es r h

  pub rest_hole : (start now : F) (n : ℕ) → Rest start now n → slice_get (slots_of c k) n ≡ Some None → Rest start now (n + 1)
  rest_hole start now n rest at ds r h all called =
      rest ds r h (subst (λ l. VisitsAll c l ds) (sym (drop_next (slots_of c k) n None at)) (visits_hole all)) called

  pub rest_next : (start now next : F) (n : ℕ) (j : ItemKind) → Rest start now n → slice_get (slots_of c k) n ≡ Some (Some j) → IsVisited call c j now (Ok tt) next → Rest start next (n + 1)
  rest_next start now next n j rest at v ds r h all called =
      rest (v.ids ++ ds) r h (subst (λ l. VisitsAll c l (v.ids ++ ds)) (sym (drop_next (slots_of c k) n (Some j) at)) (visits_place v.all all)) (called_after call v.called refl called)

  pub visited_all : (old start now : F) (n : ℕ) → CalledOn call old (own_visit (defined_in k)) (Ok tt) start → Rest start now n → slice_get (slots_of c k) n ≡ None → IsVisited call c k old (Ok tt) now
  visited_all old start now n own rest past =
      let end = rest [] (Ok tt) now (subst (λ l. VisitsAll c l []) (sym (drop_past (slots_of c k) n past)) visits_none) called_on_all in
      record { ids = own_visit (defined_in k) ++ end.0; all = visits end.1; called = called_after call own refl end.2 }

  pub own_refused : IsAcyclic c → Stands c k → (old next : F) (e : E) → CalledOn call old (own_visit (defined_in k)) (Err e) next → IsVisited call c k old (Err e) next
  own_refused a s old next e own =
      let left = rest_visits c a k s (skipped c k) in
      record { ids = own_visit (defined_in k) ++ left.0; all = visits left.1; called = called_refused call left.0 e own refl }

  pub visited_refused : IsAcyclic c → Stands c k → (old start now next : F) (n : ℕ) (j : ItemKind) (e : E) → CalledOn call old (own_visit (defined_in k)) (Ok tt) start → Rest start now n → slice_get (slots_of c k) n ≡ Some (Some j) → IsVisited call c j now (Err e) next → IsVisited call c k old (Err e) next
  visited_refused a s old start now next n j e own rest at v =
      let left = rest_visits c a k s (n + 1) in
      let whole = rest (v.ids ++ left.0) (Err e) next (subst (λ l. VisitsAll c l (v.ids ++ left.0)) (sym (drop_next (slots_of c k) n (Some j) at)) (visits_place v.all left.1)) (called_refused call left.0 e v.called refl) in
      record { ids = own_visit (defined_in k) ++ whole.0; all = visits whole.1; called = called_after call own refl whole.2 }

  pub called_none : (f : F) → None ≡ defined_in k → CalledOn call f (own_visit (defined_in k)) (Ok tt) f
  called_none f e = subst (λ o. CalledOn call f (own_visit o) (Ok tt) f) e called_on_all

  pub called_some : (f g : F) (d : DefinedTypeId) (r : Result ⊤ E) → Some d ≡ defined_in k → call f d r g → CalledOn call f (own_visit (defined_in k)) r g
  called_some f g d r e x = subst (λ o. CalledOn call f (own_visit o) r g) e (one_call call d r x)

pub no_child : {X : Type 0} (o : Option X) → ((x : X) → o ≡ Some x → ⊥) → o ≡ None
no_child None h = refl
no_child (Some x) h = absurd (h x refl)
