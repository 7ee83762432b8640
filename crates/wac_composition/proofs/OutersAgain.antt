-- An interface that is asked again under its identifier changes no outer import.
use Rattle.std.specs.Prelude.{filter, option_map, is_some, ◌&&◌, if◌then◌else◌}
use Rattle.std.proofs.Common.{◌≡◌, List, [], ◌∷◌, ◌++◌, Bool, true, false, true≢false, Option, Some, None, inl, inr, refl, sym, ap, subst, ◌∙◌}
use Rattle.std.proofs.lemmas.Bool.{and_parts}
use Rattle.std.proofs.lemmas.Option.{none-some, same_Some}
use Rattle.wac_types_base.specs.Entries.{Name, value_at}
use Rattle.wac_types_base.specs.Graph.{Among}
use Rattle.wac_types_base.specs.Stated.{Stated, kind_of, interface_of, as_type, uses_of, exports_of, identifier_of}
use Rattle.wac_composition.specs.Names.{has_track}
use Rattle.wac_composition.specs.Asks.{Ask}
use Rattle.wac_composition.specs.Classes.{class, spelled, is_instance_kind}
use Rattle.wac_composition.specs.Merging.{Asked, kept, identified_by, identified}
use Rattle.wac_composition.specs.OuterImports.{with_new, asked_in, outer_of, outers_from, outer_imports}
use Rattle.wac_composition.specs.Again.{IsWell, well_instance, well_interface, no_interface, Asked_by_identifier}
use Rattle.wac_composition.proofs.Closures.{filter_among}
use Rattle.wac_composition.proofs.OuterClasses.{class_by_name, all_there}
use Rattle.wac_composition.proofs.AskedAgain.{among_first, among_more, spelled_again, kept_again, P, parts_asks, class_changes, twin_there}

-- ---- what is identified so states the same

instance_again : (x : Stated) (n : Name) → IsWell x → identifier_of x ≡ Some n → is_instance_kind (kind_of x) ≡ true → interface_of (Some n) (uses_of x) (exports_of x) ≡ x
instance_again x n (well_instance e d h) i k = ap (λ o. interface_of o (uses_of x) (exports_of x)) (sym i) ∙ sym e
instance_again x n (well_interface e d h) i k = absurd (true≢false (sym k ∙ ap (λ y. is_instance_kind (kind_of y)) e))
instance_again x n (no_interface e f) i k = absurd (true≢false (sym k ∙ e))

identified_again : (x : Stated) (n : Name) → IsWell x → identifier_of x ≡ Some n → identified_by (is_instance_kind (kind_of x) && has_track n) n x ≡ x
identified_again x n w i = go (is_instance_kind (kind_of x) && has_track n) refl
  where
    go : (b : Bool) → (is_instance_kind (kind_of x) && has_track n) ≡ b → identified_by b n x ≡ x
    go true e = instance_again x n w i (and_parts (is_instance_kind (kind_of x)) (has_track n) e).0
    go false e = refl

-- what is found already is not added
already : (found : List (Name × Stated)) (o : Option (Name × Stated)) → ((n : Name) (x : Stated) → o ≡ Some (n, x) → value_at found n ≡ Some x) → with_new found o ≡ found
already found None h = refl
already found (Some o) h = ap (λ v. if is_some v then found else found ++ o ∷ []) (h o.0 o.1 refl)

module _ {A : Type 0} where
  -- ---- the outer import of a class

  identified_same : (xs ys : List (Ask A)) (a b : Ask A) → Among b xs → b.name ≡ a.name → b.item ≡ a.item → identifier_of a.item ≡ Some a.name → ((c : Ask A) → Among c xs → IsWell c.item) → (x : Stated)
      → kept (asked_in (xs ++ ys)) ≡ Some x → identified (spelled (xs ++ ys)) (asked_in (xs ++ a ∷ ys)) x ≡ identified (spelled (xs ++ ys)) (asked_in (xs ++ ys)) x
  identified_same [] ys a b m n i named v x k = absurd m
  identified_same (c ∷ []) [] a b (inr m) n i named v x k = absurd m
  identified_same (c ∷ []) [] a b (inl m) n i named v x k =
      let own : c.item ≡ x = same_Some _ _ k in
      let item : a.item ≡ x = sym i ∙ ap (λ (d : Ask A). d.item) m ∙ own in
      let name : a.name ≡ c.name = sym n ∙ ap (λ (d : Ask A). d.name) m in
      identified_again x c.name (subst IsWell own (v c (inl refl))) (ap identifier_of (sym item) ∙ named ∙ ap Some name)
  identified_same (c ∷ []) (d ∷ ys) a b m n i named v x k = refl
  identified_same (c ∷ d ∷ xs) ys a b m n i named v x k = refl

  outer_again : (xs ys : List (Ask A)) (a b : Ask A) → Among b xs → b.name ≡ a.name → b.item ≡ a.item → identifier_of a.item ≡ Some a.name → ((c : Ask A) → Among c xs → IsWell c.item) → outer_of (xs ++ a ∷ ys) ≡ outer_of (xs ++ ys)
  outer_again xs ys a b m n i named v =
      ap (λ s. option_map (λ x. (s, identified s (asked_in (xs ++ a ∷ ys)) x)) (kept (asked_in (xs ++ a ∷ ys)))) (spelled_again xs ys a b m n)
      ∙ ap (option_map (λ x. (spelled (xs ++ ys), identified (spelled (xs ++ ys)) (asked_in (xs ++ a ∷ ys)) x))) (kept_again xs ys a b m n i v)
      ∙ go (kept (asked_in (xs ++ ys))) refl
    where
      go : (o : Option Stated) → kept (asked_in (xs ++ ys)) ≡ o
          → option_map {U = Name × Stated} (λ x. (spelled (xs ++ ys), identified (spelled (xs ++ ys)) (asked_in (xs ++ a ∷ ys)) x)) o ≡ option_map (λ x. (spelled (xs ++ ys), identified (spelled (xs ++ ys)) (asked_in (xs ++ ys)) x)) o
      go None e = refl
      go (Some x) e = ap (λ y. Some (spelled (xs ++ ys), y)) (identified_same xs ys a b m n i named v x e)

  -- ---- all of them

  outers_append : (asks : List (Ask A)) (found : List (Name × Stated)) (xs ys : List (Ask A)) → outers_from found asks (xs ++ ys) ≡ outers_from (outers_from found asks xs) asks ys
  outers_append asks found [] ys = refl
  outers_append asks found (x ∷ xs) ys = outers_append asks (with_new found (outer_of (class asks x))) xs ys

  module _ (before after : List (Ask A)) (a b : Ask A) (there : Among b before) (names : b.name ≡ a.name) (items : b.item ≡ a.item) (named : identifier_of a.item ≡ Some a.name) (v : (c : Ask A) → Among c before → IsWell c.item) where
    abbrev asks : List (Ask A)
    asks = before ++ after

    abbrev more : List (Ask A)
    more = before ++ a ∷ after

    class_outer : (c : Ask A) → Among c asks → outer_of (class more c) ≡ outer_of (class asks c)
    class_outer c own =
        let p = P before after a b there names items c own in
        class_changes before after a b there names items c own (λ ms. outer_of ms ≡ outer_of (class asks c))
        (λ q. outer_again (filter p before) (filter p after) a b (twin_there before after a b there names items c own q) names items named (λ d m. v d (filter_among p before d m).0) ∙ ap outer_of (sym (parts_asks before after a b there names items c own)))
        (λ q. refl)

    same_outers : (found : List (Name × Stated)) (xs : List (Ask A)) → ((c : Ask A) → Among c xs → Among c asks) → outers_from found more xs ≡ outers_from found asks xs
    same_outers found [] h = refl
    same_outers found (x ∷ xs) h = ap (λ o. outers_from (with_new found o) more xs) (class_outer x (h x (inl refl))) ∙ same_outers (with_new found (outer_of (class asks x))) xs (λ c m. h c (inr m))

    b_there : Among b more
    b_there = among_more before after a b (among_first before after b there)

    a_there : Among a more
    a_there = go before
      where
        go : (bs : List (Ask A)) → Among a (bs ++ a ∷ after)
        go [] = inl refl
        go (x ∷ bs) = inr (go bs)

    found_before : (n : Name) (x : Stated) → outer_of (class more a) ≡ Some (n, x) → value_at (outers_from [] more before) n ≡ Some x
    found_before n x e =
        (all_there more [] before (λ k z r. absurd (none-some _ r)) (λ c m. among_more before after a c (among_first before after c m))).1 b n x there (ap outer_of (class_by_name more b a b_there a_there names) ∙ e)

    outers_same : outer_imports more ≡ outer_imports asks
    outers_same =
        outers_append more [] before (a ∷ after)
        ∙ ap (λ f. outers_from f more after) (already (outers_from [] more before) (outer_of (class more a)) found_before)
        ∙ sym (outers_append more [] before after)
        ∙ same_outers [] asks (λ c m. m)

pub outers_again : {A : Type 0} → Asked_by_identifier A
outers_again before after a b m e f i v = outers_same before after a b m e f i v
