-- The first cause stands against a composition, and where there is none nothing does.
use Rattle.std.specs.Prelude.{find, is_some, bytes_eq, cond, if◌then◌else◌}
use Rattle.std.specs.List.{flat_map}
use Rattle.std.proofs.lemmas.Option.{none-some, same_Some}
use Rattle.std.specs.Cmp.Lexicographic.{bytes_decides}
use Rattle.std.proofs.Common.{◌≡◌, List, [], ◌∷◌, ◌++◌, append_assoc, append-nil, Bool, true, false, true≢false, Option, Some, None, ◌⊎◌, inl, inr, refl, sym, ap, subst, ◌∙◌}
use Rattle.wac_types_base.specs.Entries.{Name}
use Rattle.wac_types_base.specs.Graph.{Among}
use Rattle.wac_types_base.specs.Stated.{Stated, Kind, IsFunction, IsInstance, IsComponent, IsModule, IsValue, IsResource, IsFunctionType, IsValueType, IsInterface, IsWorld, IsModuleType, kind_of}
use Rattle.wac_types_base.proofs.Lists.{among_mapped}
use Rattle.wac_composition.specs.Composition.{Placed, Composition}
use Rattle.wac_composition.specs.Asks.{Asking, ByName, ToFill, ToUse, Ask, asks_of}
use Rattle.wac_composition.specs.Classes.{class, spelling}
use Rattle.wac_composition.specs.Merging.{kept}
use Rattle.wac_composition.specs.OuterImports.{asked_in, outer_imports}
use Rattle.wac_composition.specs.Writable.{holder, as_defined, is_value, outer_unwritable, definition_unwritable, package_unwritable, alias_unwritable}
use Rattle.wac_composition.specs.Circles.{written_whole, written_package}
use Rattle.std.specs.Option.{option_or}
use Rattle.wac_composition.specs.Conflicts.{Cause, Unwritable, first_found, implicit_with, implicit_by, implicit_conflict, merge_cause, merge_fails, those_in, merge_conflict, cause_at, placed, unwritable_cause, circle_cause, late_unwritable, whole_forms, outers_written, dependencies_of, first_cause}
use Rattle.wac_composition.specs.Against.{IsUnmerged, StandsAgainst, asked_twice, import_unmerged, ask_unmerged, alias_of_value, outer_import, outer_in_circle, circle_in_definition, circle_in_package, definition, imported_package, FirstStands}
use Rattle.wac_composition.proofs.NotFound.{written_decides, package_decides_of}
use Rattle.wac_composition.proofs.Lists.{mapped_among}

-- ---- the first that is found

or_some : {X : Type 0} (o p : Option X) (x : X) → option_or o p ≡ Some x → (o ≡ Some x) ⊎ ((o ≡ None) × (p ≡ Some x))
or_some None p x e = inr (refl, e)
or_some (Some y) p x e = inl e

pub or_none : {X : Type 0} (o p : Option X) → option_or o p ≡ None → (o ≡ None) × (p ≡ None)
or_none None p e = (refl, e)
or_none (Some y) p e = absurd (none-some _ (sym e))

found_some : {X Y : Type 0} (f : X → Option Y) (xs : List X) (y : Y) → first_found f xs ≡ Some y → (x : X) × Among x xs × (f x ≡ Some y)
found_some f [] y e = absurd (none-some _ e)
found_some f (x ∷ xs) y e = elim (or_some (f x) (first_found f xs) y e) [
  | inl a ↦ (x, inl refl, a)
  | inr b ↦ let r = found_some f xs y b.1 in (r.0, inr r.1, r.2)
]

pub found_none : {X Y : Type 0} (f : X → Option Y) (xs : List X) → first_found f xs ≡ None → (x : X) → Among x xs → f x ≡ None
found_none f [] e x m = absurd m
found_none f (z ∷ zs) e x (inl q) = ap f q ∙ (or_none (f z) (first_found f zs) e).0
found_none f (z ∷ zs) e x (inr m) = found_none f zs (or_none (f z) (first_found f zs) e).1 x m

find_some : {X : Type 0} (t : X → Bool) (xs : List X) (x : X) → find t xs ≡ Some x → Among x xs × (t x ≡ true)
find_some t [] x e = absurd (none-some _ e)
find_some t (z ∷ zs) x e = go (find_some t zs x) (t z) refl e
  where
    go : (find t zs ≡ Some x → Among x zs × (t x ≡ true)) → (b : Bool) → t z ≡ b → cond b (Some z) (find t zs) ≡ Some x → Among x (z ∷ zs) × (t x ≡ true)
    go rest true q r = (inl (sym (same_Some _ _ r)), ap t (sym (same_Some _ _ r)) ∙ q)
    go rest false q r = let h = rest r in (inr h.0, h.1)

pub find_none : {X : Type 0} (t : X → Bool) (xs : List X) → find t xs ≡ None → (x : X) → Among x xs → t x ≡ false
find_none t [] e x m = absurd m
find_none t (z ∷ zs) e x m = go (λ r. find_none t zs r x) (t z) refl e m
  where
    go : (find t zs ≡ None → Among x zs → t x ≡ false) → (b : Bool) → t z ≡ b → cond b (Some z) (find t zs) ≡ None → Among x (z ∷ zs) → t x ≡ false
    go rest true q r m = absurd (none-some _ (sym r))
    go rest false q r (inl d) = ap t d ∙ q
    go rest false q r (inr n) = rest r n

value_decides : (k : Kind) → is_value k ≡ true → k ≡ IsValue
value_decides IsValue e = refl
value_decides IsFunction e = absurd (true≢false (sym e))
value_decides IsInstance e = absurd (true≢false (sym e))
value_decides IsComponent e = absurd (true≢false (sym e))
value_decides IsModule e = absurd (true≢false (sym e))
value_decides IsResource e = absurd (true≢false (sym e))
value_decides IsFunctionType e = absurd (true≢false (sym e))
value_decides IsValueType e = absurd (true≢false (sym e))
value_decides IsInterface e = absurd (true≢false (sym e))
value_decides IsWorld e = absurd (true≢false (sym e))
value_decides IsModuleType e = absurd (true≢false (sym e))

module _ {A I : Type 0} (define : Bool) (c : Composition A I) where
  abbrev Stands : Cause A → Type 0
  Stands = StandsAgainst define c

  -- ---- an import that is asked by its name and by an instance

  implicit_stands : (x : Cause A) → implicit_conflict c.imports (asks_of c) ≡ Some x → Stands x
  implicit_stands x e = let f = found_some (λ a. implicit_by a.asking c.imports a) (asks_of c) x e in one f.0 f.1 f.0.asking refl f.2
    where
      filled : (a : Ask A) → Among a (asks_of c) → a.asking ≡ ToFill → (o : Option (Placed A)) → find (λ i. bytes_eq i.name a.name) c.imports ≡ o → implicit_with a o ≡ Some x → Stands x
      filled a m k None q r = absurd (none-some _ r)
      filled a m k (Some i) q r = let h = find_some (λ i. bytes_eq i.name a.name) c.imports i q in subst Stands (same_Some _ _ r) (asked_twice i a h.0 m k ((bytes_decides i.name a.name).0 h.1))

      one : (a : Ask A) → Among a (asks_of c) → (k : Asking) → a.asking ≡ k → implicit_by k c.imports a ≡ Some x → Stands x
      one a m ToFill k r = filled a m k (find (λ i. bytes_eq i.name a.name) c.imports) refl r
      one a m ByName k r = absurd (none-some _ r)
      one a m ToUse k r = absurd (none-some _ r)

  no_implicit : implicit_conflict c.imports (asks_of c) ≡ None → (i : Placed A) (a : Ask A) → Among i c.imports → Among a (asks_of c) → a.asking ≡ ToFill → i.name ≡ a.name → ⊥
  no_implicit e i a m n k q =
      let none : implicit_by ToFill c.imports a ≡ None = ap (λ k. implicit_by k c.imports a) (sym k) ∙ found_none (λ a. implicit_by a.asking c.imports a) (asks_of c) e a n in
      go (find (λ i. bytes_eq i.name a.name) c.imports) refl none
    where
      go : (o : Option (Placed A)) → find (λ i. bytes_eq i.name a.name) c.imports ≡ o → implicit_with a o ≡ None → ⊥
      go (Some j) r s = none-some _ (sym s)
      go None r s = true≢false (sym ((bytes_decides i.name a.name).1 q) ∙ find_none (λ i. bytes_eq i.name a.name) c.imports r i m)

  -- ---- asks that do not merge

  cause_of : (k : Asking) (a b : Ask A) (bs : List (Ask A)) (x : Cause A) → a.asking ≡ k → IsUnmerged define c a b → merge_cause k a (b ∷ bs) ≡ Some x → Stands x
  cause_of ByName a b bs x k u r = subst Stands (same_Some _ _ r) (import_unmerged a b u k)
  cause_of ToFill a b bs x k u r = subst Stands (same_Some _ _ r) (ask_unmerged a b u (λ q. let d : ⊥ = cc (k, q) in d))
  cause_of ToUse a b bs x k u r = subst Stands (same_Some _ _ r) (ask_unmerged a b u (λ q. let d : ⊥ = cc (k, q) in d))

  merge_stands : (before rest : List (Ask A)) (x : Cause A) → asks_of c ≡ before ++ rest → merge_conflict (asks_of c) before rest ≡ Some x → Stands x
  merge_stands before [] x q e = absurd (none-some _ e)
  merge_stands before (a ∷ as_) x q e = elim (or_some (merge_fails a (those_in (class (asks_of c) a) (before ++ a ∷ []))) _ x e) [
    | inl f ↦ failing (those_in (class (asks_of c) a) (before ++ a ∷ [])) refl f
    | inr n ↦ merge_stands (before ++ a ∷ []) as_ x (q ∙ sym (append_assoc before (a ∷ []) as_)) n.1
  ]
    where
      failing : (bs : List (Ask A)) → those_in (class (asks_of c) a) (before ++ a ∷ []) ≡ bs → merge_fails a bs ≡ Some x → Stands x
      failing bs are f = go bs are (kept (asked_in bs)) refl f
        where
          go : (bs : List (Ask A)) → those_in (class (asks_of c) a) (before ++ a ∷ []) ≡ bs → (o : Option Stated) → kept (asked_in bs) ≡ o → (if is_some o then None else merge_cause a.asking a bs) ≡ Some x → Stands x
          go bs are (Some y) k f = absurd (none-some _ f)
          go [] are None k f = absurd (none-some _ (sym (nothing a.asking) ∙ f))
            where
              nothing : (k : Asking) → merge_cause k a [] ≡ None
              nothing ByName = refl
              nothing ToFill = refl
              nothing ToUse = refl
          go (b ∷ bs) are None k f = cause_of a.asking a b bs x refl (record { before = before; after = as_; stands = q; others = bs; are = are; nothing = k }) f

  -- what was passed merges
  merged : (before rest : List (Ask A)) → merge_conflict (asks_of c) before rest ≡ None → (front : List (Ask A)) (a : Ask A) (after : List (Ask A)) → rest ≡ front ++ a ∷ after
      → merge_fails a (those_in (class (asks_of c) a) ((before ++ front) ++ a ∷ [])) ≡ None
  merged before [] e [] a after q = absurd (let d : ⊥ = cc q in d)
  merged before [] e (f ∷ fs) a after q = absurd (let d : ⊥ = cc q in d)
  merged before (b ∷ bs) e [] a after q =
      let s : b ≡ a = cc q in
      subst (λ z. merge_fails z (those_in (class (asks_of c) z) ((before ++ []) ++ z ∷ [])) ≡ None) s
      (subst (λ l. merge_fails b (those_in (class (asks_of c) b) (l ++ b ∷ [])) ≡ None) (sym (append-nil before)) (or_none (merge_fails b (those_in (class (asks_of c) b) (before ++ b ∷ []))) _ e).0)
  merged before (b ∷ bs) e (f ∷ fs) a after q =
      let s : b ≡ f = cc q in
      let r : bs ≡ fs ++ a ∷ after = cc q in
      subst (λ l. merge_fails a (those_in (class (asks_of c) a) (l ++ a ∷ [])) ≡ None) (append_assoc before (b ∷ []) fs ∙ ap (λ z. before ++ z ∷ fs) s)
      (merged (before ++ b ∷ []) bs (or_none (merge_fails b (those_in (class (asks_of c) b) (before ++ b ∷ []))) _ e).1 fs a after r)

  no_unmerged : merge_conflict (asks_of c) [] (asks_of c) ≡ None → (a b : Ask A) → IsUnmerged define c a b → ⊥
  no_unmerged e a b u =
      let m : merge_fails a (b ∷ u.others) ≡ None = subst (λ l. merge_fails a l ≡ None) u.are (merged [] (asks_of c) e u.before a u.after u.stands) in
      fails a.asking (subst (λ o. (if is_some o then None else merge_cause a.asking a (b ∷ u.others)) ≡ None) u.nothing m)
    where
      fails : (k : Asking) → merge_cause k a (b ∷ u.others) ≡ None → ⊥
      fails ByName q = none-some _ (sym q)
      fails ToFill q = none-some _ (sym q)
      fails ToUse q = none-some _ (sym q)

  -- ---- what cannot be written

  abbrev cause_if : Bool → Name → Option (Cause A)
  cause_if b n = if b then Some (Unwritable n) else None

  cause_some : (p : Name × Stated → Bool) (es : List (Name × Stated)) (x : Cause A) → first_found (cause_at p) es ≡ Some x → (e : Name × Stated) × Among e es × (p e ≡ true) × (Unwritable e.0 ≡ x)
  cause_some p es x e = let f = found_some (cause_at p) es x e in go f.0 f.1 (p f.0) refl f.2
    where
      go : (e : Name × Stated) → Among e es → (b : Bool) → p e ≡ b → cause_if b e.0 ≡ Some x → (e : Name × Stated) × Among e es × (p e ≡ true) × (Unwritable e.0 ≡ x)
      go e m true q r = (e, m, q, same_Some _ _ r)
      go e m false q r = absurd (none-some _ r)

  cause_none : (p : Name × Stated → Bool) (es : List (Name × Stated)) → first_found (cause_at {A = A} p) es ≡ None → (e : Name × Stated) → Among e es → p e ≡ true → ⊥
  cause_none p es n e m q = go (p e) refl (found_none (cause_at {A = A} p) es n e m)
    where
      go : (b : Bool) → p e ≡ b → cause_if b e.0 ≡ None → ⊥
      go true r s = none-some _ (sym s)
      go false r s = true≢false (sym q ∙ r)

  abbrev outers : List (Name × Stated)
  outers = outer_imports (asks_of c)

  unwritable_stands : (x : Cause A) → unwritable_cause define c outers ≡ Some x → Stands x
  unwritable_stands x e = elim (or_some (first_found (cause_at alias_unwritable) c.aliases) _ x e) [
    | inl a ↦
        let f = cause_some alias_unwritable c.aliases x a in
        subst Stands f.3 (alias_of_value f.0.0 f.0.1 f.1 (value_decides (kind_of f.0.1) f.2))
    | inr r ↦ elim (or_some (first_found (cause_at (outer_unwritable outers)) outers) _ x r.1) [
      | inl a ↦
          let f = cause_some (outer_unwritable outers) outers x a in
          subst Stands f.3 (outer_import f.0.0 f.0.1 f.1 ((written_decides true (holder [] outers) f.0.0 f.0.1).0 f.2))
      | inr s ↦ elim (or_some (first_found (cause_at (definition_unwritable outers)) (placed c.definitions)) _ x s.1) [
        | inl a ↦
            let f = cause_some (definition_unwritable outers) (placed c.definitions) x a in
            let d = mapped_among (λ d. (d.name, d.item)) c.definitions f.0 f.1 in
            let p : definition_unwritable outers (d.0.name, d.0.item) ≡ true = ap (definition_unwritable outers) (sym d.2) ∙ f.2 in
            subst Stands (ap (λ e. Unwritable e.0) (sym d.2) ∙ f.3) (definition d.0 d.1 ((written_decides false (holder [] outers) d.0.name (as_defined d.0.item)).0 p))
        | inr t ↦
            let f = cause_some package_unwritable (dependencies_of define c) x t.1 in
            subst Stands f.3 (imported_package f.0.0 f.0.1 f.1 ((package_decides_of f.0.0 f.0.1).0 f.2))
      ]
    ]
  ]

  abbrev of_outers : List (Name × Stated)
  of_outers = outers_written (spelling (asks_of c)) outers

  abbrev of_definitions : List (Name × Stated)
  of_definitions = flat_map written_whole (whole_forms c.definitions)

  abbrev of_packages : List (Name × Stated)
  of_packages = flat_map written_package (dependencies_of define c)

  circle_stands : (x : Cause A) → circle_cause define c (spelling (asks_of c)) outers ≡ Some x → Stands x
  circle_stands x e = elim (or_some (first_found (cause_at (late_unwritable true)) of_outers) _ x e) [
    | inl a ↦
        let f = cause_some (late_unwritable true) of_outers x a in
        subst Stands f.3 (outer_in_circle f.0.0 f.0.1 f.1 ((written_decides true (holder [] []) f.0.0 f.0.1).0 f.2))
    | inr r ↦ elim (or_some (first_found (cause_at (late_unwritable true)) of_definitions) _ x r.1) [
      | inl a ↦
          let f = cause_some (late_unwritable true) of_definitions x a in
          subst Stands f.3 (circle_in_definition f.0.0 f.0.1 f.1 ((written_decides true (holder [] []) f.0.0 f.0.1).0 f.2))
      | inr s ↦
          let f = cause_some (late_unwritable true) of_packages x s.1 in
          subst Stands f.3 (circle_in_package f.0.0 f.0.1 f.1 ((written_decides true (holder [] []) f.0.0 f.0.1).0 f.2))
    ]
  ]

  no_circle : circle_cause define c (spelling (asks_of c)) outers ≡ None → (first_found (cause_at {A = A} (late_unwritable true)) of_outers ≡ None) × (first_found (cause_at {A = A} (late_unwritable true)) of_definitions ≡ None) × (first_found (cause_at {A = A} (late_unwritable true)) of_packages ≡ None)
  no_circle e =
      let one = or_none (first_found (cause_at {A = A} (late_unwritable true)) of_outers) _ e in
      let two = or_none (first_found (cause_at {A = A} (late_unwritable true)) of_definitions) _ one.1 in
      (one.0, two.0, two.1)

  first_stands : (x : Cause A) → first_cause define c ≡ Some x → Stands x
  first_stands x e = elim (or_some (implicit_conflict c.imports (asks_of c)) _ x e) [
    | inl a ↦ implicit_stands x a
    | inr r ↦ elim (or_some (merge_conflict (asks_of c) [] (asks_of c)) _ x r.1) [
      | inl a ↦ merge_stands [] (asks_of c) x refl a
      | inr s ↦ elim (or_some (unwritable_cause define c outers) _ x s.1) [
        | inl a ↦ unwritable_stands x a
        | inr t ↦ circle_stands x t.1
      ]
    ]
  ]

  none_stands : first_cause define c ≡ None → (x : Cause A) → Stands x → ⊥
  none_stands e x s =
      let one = or_none (implicit_conflict c.imports (asks_of c)) _ e in
      let two = or_none (merge_conflict (asks_of c) [] (asks_of c)) _ one.1 in
      let last = or_none (unwritable_cause define c outers) _ two.1 in
      let three = or_none (first_found (cause_at {A = A} alias_unwritable) c.aliases) _ last.0 in
      let four = or_none (first_found (cause_at {A = A} (outer_unwritable outers)) outers) _ three.1 in
      let five = or_none (first_found (cause_at {A = A} (definition_unwritable outers)) (placed c.definitions)) _ four.1 in
      let rest = no_circle last.1 in
      go one.0 two.0 three.0 four.0 five.0 five.1 rest.0 rest.1 rest.2 x s
    where
      go : implicit_conflict c.imports (asks_of c) ≡ None → merge_conflict (asks_of c) [] (asks_of c) ≡ None → first_found (cause_at {A = A} alias_unwritable) c.aliases ≡ None
          → first_found (cause_at {A = A} (outer_unwritable outers)) outers ≡ None → first_found (cause_at {A = A} (definition_unwritable outers)) (placed c.definitions) ≡ None
          → first_found (cause_at {A = A} package_unwritable) (dependencies_of define c) ≡ None → first_found (cause_at {A = A} (late_unwritable true)) of_outers ≡ None
          → first_found (cause_at {A = A} (late_unwritable true)) of_definitions ≡ None → first_found (cause_at {A = A} (late_unwritable true)) of_packages ≡ None → (x : Cause A) → Stands x → ⊥
      go p q r s t v w y z x (asked_twice i a m n k e) = no_implicit p i a m n k e
      go p q r s t v w y z x (import_unmerged a b u k) = no_unmerged q a b u
      go p q r s t v w y z x (ask_unmerged a b u k) = no_unmerged q a b u
      go p q r s t v w y z x (alias_of_value n u m k) = cause_none alias_unwritable c.aliases r (n, u) m (ap is_value k)
      go p q r s t v w y z x (outer_import n u m f) = cause_none (outer_unwritable outers) outers s (n, u) m ((written_decides true (holder [] outers) n u).1 f)
      go p q r s t v w y z x (outer_in_circle n u m f) = cause_none (late_unwritable true) of_outers w (n, u) m ((written_decides true (holder [] []) n u).1 f)
      go p q r s t v w y z x (circle_in_definition n u m f) = cause_none (late_unwritable true) of_definitions y (n, u) m ((written_decides true (holder [] []) n u).1 f)
      go p q r s t v w y z x (circle_in_package n u m f) = cause_none (late_unwritable true) of_packages z (n, u) m ((written_decides true (holder [] []) n u).1 f)
      go p q r s t v w y z x (definition d m f) =
          cause_none (definition_unwritable outers) (placed c.definitions) t (d.name, d.item) (among_mapped (λ d. (d.name, d.item)) c.definitions d m) ((written_decides false (holder [] outers) d.name (as_defined d.item)).1 f)
      go p q r s t v w y z x (imported_package n u m f) = cause_none package_unwritable (dependencies_of define c) v (n, u) m ((package_decides_of n u).1 f)

  pub causes_stand : FirstStands define c
  causes_stand = record { stands = first_stands; none = none_stands }
