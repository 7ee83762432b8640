-- Where nothing stands against a composition, each class of its asks merges.
use Rattle.std.specs.Prelude.{cond, filter, is_some, option_map, bytes_eq, if◌then◌else◌, ◌||◌}
use Rattle.std.proofs.lemmas.Option.{none-some}
use Rattle.std.specs.List.{list_any}
use Rattle.std.proofs.lemmas.Slice.Eq.{bytes_eq-Decides}
use Rattle.std.proofs.Common.{◌≡◌, List, [], ◌∷◌, ◌++◌, append_assoc, Bool, true, false, true≢false, Option, Some, None, inl, inr, refl, sym, ap, subst, ◌∙◌}
use Rattle.wac_types_base.specs.Entries.{Name, value_at}
use Rattle.wac_types_base.specs.Graph.{Among}
use Rattle.wac_types_base.specs.Stated.{Stated}
use Rattle.wac_types_base.specs.Tree.{tree}
use Rattle.wac_types_base.specs.Fits.{Fits}
use Rattle.wac_composition.specs.Composition.{Composition}
use Rattle.wac_composition.specs.OuterLaws.{AreMet}
use Rattle.wac_composition.specs.Asks.{Asking, ByName, ToFill, ToUse, Ask, asks_of}
use Rattle.wac_composition.specs.Classes.{class, spelled, spelling, akin}
use Rattle.wac_composition.specs.Merging.{kept, identified}
use Rattle.wac_composition.specs.OuterImports.{asked_in, outer_of, outer_imports}
use Rattle.wac_composition.specs.Conflicts.{implicit_conflict, merge_cause, merge_fails, those_in, merge_conflict, first_cause}
use Rattle.wac_composition.proofs.Closures.{any_among, among_any, among_filter, filter_same, closed}
use Rattle.wac_composition.proofs.OuterClasses.{joined_by_name, itself, turned, class_is, class_same, within, class_itself, class_by_name, asks_are_met}
use Rattle.wac_composition.proofs.Against.{or_none}

module _ {A : Type 0} where
  filter_none : (p : Ask A → Bool) (ys : List (Ask A)) → list_any p ys ≡ false → filter p ys ≡ []
  filter_none p [] e = refl
  filter_none p (y ∷ ys) e = go (filter_none p ys) (p y) e
    where
      go : (list_any p ys ≡ false → filter p ys ≡ []) → (b : Bool) → (b || list_any p ys) ≡ false → cond b (y ∷ filter p ys) (filter p ys) ≡ []
      go rest true r = absurd (true≢false r)
      go rest false r = rest r

  filter_append : (p : Ask A → Bool) (xs ys : List (Ask A)) → list_any p ys ≡ false → filter p (xs ++ ys) ≡ filter p xs
  filter_append p [] ys e = filter_none p ys e
  filter_append p (x ∷ xs) ys e = ap (λ l. cond (p x) (x ∷ l) l) (filter_append p xs ys e)

  -- whether an ask's name is one of these asks'
  abbrev names_in : List (Ask A) → Ask A → Bool
  names_in cs a = list_any (λ c. bytes_eq a.name c.name) cs

  no_fault : (k : Asking) (a : Ask A) (as_ : List (Ask A)) (m : Ask A) → Among m as_ → merge_cause k a as_ ≡ None → ⊥
  no_fault k a [] m n e = n
  no_fault ByName a (b ∷ bs) m n e = none-some _ (sym e)
  no_fault ToFill a (b ∷ bs) m n e = none-some _ (sym e)
  no_fault ToUse a (b ∷ bs) m n e = none-some _ (sym e)

  -- asks whose last one meets no fault keep something
  keeps : (a : Ask A) (as_ : List (Ask A)) (m : Ask A) → Among m as_ → merge_fails a as_ ≡ None → is_some (kept (asked_in as_)) ≡ true
  keeps a as_ m n e = go (is_some (kept (asked_in as_))) refl e
    where
      go : (b : Bool) → is_some (kept (asked_in as_)) ≡ b → (if b then None else merge_cause a.asking a as_) ≡ None → is_some (kept (asked_in as_)) ≡ true
      go true q r = q
      go false q r = absurd (no_fault a.asking a as_ m n r)

  module _ (asks : List (Ask A)) where
    -- a class has all asks of its names
    class_by_names : (a : Ask A) → Among a asks → filter (names_in (class asks a)) asks ≡ class asks a
    class_by_names a there =
        let one = names_in (class asks a) in
        let two = λ (b : Ask A). list_any (akin b) (class asks a) in
        filter_same one two asks
        (λ b m e. let c = any_among (λ (c : Ask A). bytes_eq b.name c.name) (class asks a) e in among_any (akin b) (class asks a) c.0 c.1 (joined_by_name b c.0 ((bytes_eq-Decides b.name c.0.name).0 c.2)))
        (λ b m e. among_any (λ (c : Ask A). bytes_eq b.name c.name) (class asks a) b (subst (Among b) (is) (among_filter two asks b m e)) ((bytes_eq-Decides b.name b.name).1 refl))
        ∙ is
      where
        is : filter (λ (b : Ask A). list_any (akin b) (class asks a)) asks ≡ class asks a
        is = subst (λ cs. filter (λ (b : Ask A). list_any (akin b) cs) asks ≡ cs) (sym (class_is asks a)) (closed akin asks itself turned a there)

    -- an ask of a class's name is of the class
    of_class : (a b : Ask A) → Among a asks → Among b asks → names_in (class asks a) b ≡ true → class asks b ≡ class asks a
    of_class a b there m e =
        let c = any_among (λ (c : Ask A). bytes_eq b.name c.name) (class asks a) e in
        class_by_name asks b c.0 m (within asks a c.0 there c.1) ((bytes_eq-Decides b.name c.0.name).0 c.2) ∙ sym (class_same asks a c.0 there c.1)

    merges_from : (a : Ask A) → Among a asks → (before as_ : List (Ask A)) → before ++ as_ ≡ asks → merge_conflict asks before as_ ≡ None → list_any (names_in (class asks a)) as_ ≡ true → is_some (kept (asked_in (class asks a))) ≡ true
    merges_from a there before [] e f g = absurd (true≢false (sym g))
    merges_from a there before (x ∷ xs) e f g =
        let n = or_none (merge_fails x (those_in (class asks x) (before ++ x ∷ []))) (merge_conflict asks (before ++ x ∷ []) xs) f in
        let whole : (before ++ x ∷ []) ++ xs ≡ asks = append_assoc before (x ∷ []) xs ∙ e in
        go (merges_from a there (before ++ x ∷ []) xs whole n.1) n.0 whole (list_any (names_in (class asks a)) xs) refl (names_in (class asks a) x) refl g
      where
        among_here : (ys : List (Ask A)) → ys ++ xs ≡ asks → Among x ys → Among x asks
        among_here ys q m = subst (Among x) q (left ys m)
          where
            left : (zs : List (Ask A)) → Among x zs → Among x (zs ++ xs)
            left [] k = absurd k
            left (z ∷ zs) (inl d) = inl d
            left (z ∷ zs) (inr k) = inr (left zs k)

        last_of : (ys : List (Ask A)) → Among x (ys ++ x ∷ [])
        last_of [] = inl refl
        last_of (y ∷ ys) = inr (last_of ys)

        go : (list_any (names_in (class asks a)) xs ≡ true → is_some (kept (asked_in (class asks a))) ≡ true) → merge_fails x (those_in (class asks x) (before ++ x ∷ [])) ≡ None → (before ++ x ∷ []) ++ xs ≡ asks
            → (later : Bool) → list_any (names_in (class asks a)) xs ≡ later → (now : Bool) → names_in (class asks a) x ≡ now → (names_in (class asks a) x || list_any (names_in (class asks a)) xs) ≡ true → is_some (kept (asked_in (class asks a))) ≡ true
        go rest none whole true q now r g = rest q
        go rest none whole false q false r g = absurd (true≢false (sym g ∙ ap (λ b. b || list_any (names_in (class asks a)) xs) r ∙ q))
        go rest none whole false q true r g =
            let here = among_here (before ++ x ∷ []) whole (last_of before) in
            let same = of_class a x there here r in
            let all : filter (names_in (class asks a)) (before ++ x ∷ []) ≡ class asks a = sym (filter_append (names_in (class asks a)) (before ++ x ∷ []) xs q) ∙ ap (filter (names_in (class asks a))) whole ∙ class_by_names a there in
            let none' : merge_fails x (class asks a) ≡ None = ap (merge_fails x) (sym (ap (λ cs. filter (names_in cs) (before ++ x ∷ [])) same ∙ all)) ∙ none in
            keeps x (class asks a) x (subst (Among x) same (class_itself asks x here)) none'

  -- the outer import of a class that keeps something
  outer_some : (as_ : List (Ask A)) → is_some (kept (asked_in as_)) ≡ true → (n : Name) × (x : Stated) × (outer_of as_ ≡ Some (n, x))
  outer_some as_ e = go (kept (asked_in as_)) refl e
    where
      go : (o : Option Stated) → kept (asked_in as_) ≡ o → is_some o ≡ true → (n : Name) × (x : Stated) × (outer_of as_ ≡ Some (n, x))
      go None q r = absurd (true≢false (sym r))
      go (Some z) q r = (spelled as_, identified (spelled as_) (asked_in as_) z, ap (option_map {U = Name × Stated} (λ (y : Stated). (spelled as_, identified (spelled as_) (asked_in as_) y))) q)

  -- each ask of a composition whose imports do not conflict finds an outer import that fits it
  pub merged_met : {I : Type 0} (c : Composition A I) → merge_conflict (asks_of c) [] (asks_of c) ≡ None → AreMet c
  merged_met c e a m =
      let asks = asks_of c in
      let own = among_any (names_in (class asks a)) asks a m (among_any (λ (d : Ask A). bytes_eq a.name d.name) (class asks a) a (class_itself asks a m) ((bytes_eq-Decides a.name a.name).1 refl)) in
      let o = outer_some (class asks a) (merges_from asks a m [] asks refl e own) in
      let met = asks_are_met asks a o.0 o.1 m o.2 in
      record { item = o.1; there = ap (value_at (outer_imports asks)) met.0 ∙ met.1; fits = met.2 }

  -- where it has no cause they do not
  pub all_met : {I : Type 0} (define : Bool) (c : Composition A I) → first_cause define c ≡ None → AreMet c
  all_met define c e =
      let asks = asks_of c in
      let i = or_none (implicit_conflict c.imports asks) _ e in
      let f = or_none (merge_conflict asks [] asks) _ i.1 in
      merged_met c f.0
