-- Where the test says that one tree fits another, it does.
use Rattle.std.proofs.Common.{◌≡◌, Bool, true, false, List, [], ◌∷◌, Some, refl, sym, subst, inl, inr}
use Rattle.std.proofs.lemmas.Bool.{and_parts, or_cases}
use Rattle.std.specs.Prelude.{◌==◌, ◌⊎◌, bytes_eq, if◌then◌else◌}
use Rattle.std.specs.List.{list_any}
use Rattle.std.specs.Cmp.Lexicographic.{pointwise}
use Rattle.std.proofs.lemmas.Slice.Eq.{bytes_eq-Decides}
use Rattle.wac_types_base.specs.Entries.{Name, value_at}
use Rattle.wac_types_base.specs.Graph.{Among}
use Rattle.wac_types_base.specs.Tree.{Tree, rigid, instance, component, core_module, handle_own, handle_borrow, type_item, Fields, no_fields, field}
use Rattle.wac_types_base.specs.Fits.{HasField, at_first, at_later, Covers, Fits, rigid_fits, own_fits, borrow_fits, instance_fits, component_fits, module_fits, type_fits, FieldsFit, none_asked, one_asked}
use Rattle.wac_composition.specs.Tests.{same_core_import, same_core_export, field_is, passes, gives_all, covers, fit, tests, are_given}
use Rattle.wac_composition.proofs.TestLaws.{Tells, trees_tell, imports_tell, exports_tell}

abbrev Along : Bool → Tree → Tree → Type 0
Along true t u = Fits t u
Along false t u = Fits u t

abbrev Told : Tree → Type 0
Told t = (b : Bool) (u : Tree) → fit t b u ≡ true → Along b t u

abbrev EachTold : Fields → Type 0
EachTold no_fields = Unit {0}
EachTold (field n t xs) = Told t × EachTold xs

-- ---- the members of a module

any_among : {A : Type 0} (p : A → A → Bool) → Tells p → (y : A) (xs : List A) → list_any (p y) xs ≡ true → Among y xs
any_among p t y [] e = absurd (cc e)
any_among p t y (x ∷ xs) e = by (or_cases (p y x) (list_any (p y) xs) e) (any_among p t y xs)
  where
    by : (p y x ≡ true) ⊎ (list_any (p y) xs ≡ true) → (list_any (p y) xs ≡ true → Among y xs) → Among y (x ∷ xs)
    by (inl h) rest = inl (t.only y x h)
    by (inr h) rest = inr (rest h)

covers_is : {A : Type 0} (p : A → A → Bool) → Tells p → (xs ys : List A) → covers p xs ys ≡ true → Covers xs ys
covers_is p t xs [] e y a = absurd a
covers_is p t xs (z ∷ ys) e y (inl q) = let f = and_parts (list_any (p z) xs) (covers p xs ys) e in subst (λ x. Among x xs) (sym q) (any_among p t z xs f.0)
covers_is p t xs (z ∷ ys) e y (inr a) = let f = and_parts (list_any (p z) xs) (covers p xs ys) e in covers_is p t xs ys f.1 y a

-- ---- maps

look_by : (m n : Name) (t u : Tree) (xs : Fields) (b : Bool) → Told t → (passes (value_at (tests xs) n) true u ≡ true → (x : Tree) × HasField n x xs × Fits x u) → pointwise ◌==◌ n m ≡ b
    → passes (if b then Some (fit t) else value_at (tests xs) n) true u ≡ true → (x : Tree) × HasField n x (field m t xs) × Fits x u
look_by m n t u xs true h rest q e =
    let same : n ≡ m = (bytes_eq-Decides n m).0 q in
    (t, subst (λ (k : Name). HasField n t (field k t xs)) same at_first, h true u e)
look_by m n t u xs false h rest q e = let r = rest e in (r.0, at_later r.1, r.2)

look : (xs : Fields) (n : Name) (u : Tree) → EachTold xs → passes (value_at (tests xs) n) true u ≡ true → (x : Tree) × HasField n x xs × Fits x u
look no_fields n u h e = absurd (cc e)
look (field m t xs) n u h e = look_by m n t u xs (pointwise ◌==◌ n m) h.0 (look xs n u h.1) refl e

gives : (xs ys : Fields) → EachTold xs → gives_all (tests xs) ys ≡ true → FieldsFit xs ys
gives xs no_fields h e = none_asked
gives xs (field n u ys) h e =
    let f = and_parts (passes (value_at (tests xs) n) true u) (gives_all (tests xs) ys) e in
    let l = look xs n u h f.0 in
    one_asked l.1 l.2 (gives xs ys h f.1)

field_by : (p : Tree → Bool) (n m : Name) (t : Tree) (ys : Fields) (b : Bool) → (field_is p n ys ≡ true → (u : Tree) × HasField n u ys × (p u ≡ true)) → bytes_eq n m ≡ b
    → (if b then p t else field_is p n ys) ≡ true → (u : Tree) × HasField n u (field m t ys) × (p u ≡ true)
field_by p n m t ys true rest q e =
    let same : n ≡ m = (bytes_eq-Decides n m).0 q in
    (t, subst (λ (k : Name). HasField n t (field k t ys)) same at_first, e)
field_by p n m t ys false rest q e = let r = rest e in (r.0, at_later r.1, r.2)

field_look : (p : Tree → Bool) (n : Name) (ys : Fields) → field_is p n ys ≡ true → (u : Tree) × HasField n u ys × (p u ≡ true)
field_look p n no_fields e = absurd (cc e)
field_look p n (field m t ys) e = field_by p n m t ys (bytes_eq n m) (field_look p n ys) refl e

given : (xs ys : Fields) → EachTold xs → are_given (tests xs) ys ≡ true → FieldsFit ys xs
given no_fields ys h e = none_asked
given (field n t xs) ys h e =
    let f = and_parts (field_is (fit t false) n ys) (are_given (tests xs) ys) e in
    let l = field_look (fit t false) n ys f.0 in
    one_asked l.1 (h.0 false l.0 l.2) (given xs ys h.1 f.1)

-- ---- trees

mutual
  told : (t : Tree) (b : Bool) (u : Tree) → fit t b u ≡ true → Along b t u
  told (rigid s r) true (rigid t q) e = subst (λ (x : Tree). Fits (rigid s r) x) (trees_tell.only (rigid s r) (rigid t q) e) rigid_fits
  told (rigid s r) false (rigid t q) e = subst (λ (x : Tree). Fits x (rigid s r)) (trees_tell.only (rigid s r) (rigid t q) e) rigid_fits
  told (handle_own t) true (handle_own u) e = subst (λ (x : Tree). Fits (handle_own t) (handle_own x)) (trees_tell.only t u e) own_fits
  told (handle_own t) false (handle_own u) e = subst (λ (x : Tree). Fits (handle_own x) (handle_own t)) (trees_tell.only t u e) own_fits
  told (handle_borrow t) true (handle_borrow u) e = subst (λ (x : Tree). Fits (handle_borrow t) (handle_borrow x)) (trees_tell.only t u e) borrow_fits
  told (handle_borrow t) false (handle_borrow u) e = subst (λ (x : Tree). Fits (handle_borrow x) (handle_borrow t)) (trees_tell.only t u e) borrow_fits
  told (instance xs) true (instance ys) e = instance_fits (gives xs ys (each_told xs) e)
  told (instance xs) false (instance ys) e = instance_fits (given xs ys (each_told xs) e)
  told (component is es) true (component js fs) e =
      let f = and_parts (are_given (tests is) js) (gives_all (tests es) fs) e in
      component_fits (given is js (each_told is) f.0) (gives es fs (each_told es) f.1)
  told (component is es) false (component js fs) e =
      let f = and_parts (gives_all (tests is) js) (are_given (tests es) fs) e in
      component_fits (gives is js (each_told is) f.0) (given es fs (each_told es) f.1)
  told (core_module is es) true (core_module js fs) e =
      let f = and_parts (covers same_core_import js is) (covers same_core_export es fs) e in
      module_fits (covers_is same_core_import imports_tell js is f.0) (covers_is same_core_export exports_tell es fs f.1)
  told (core_module is es) false (core_module js fs) e =
      let f = and_parts (covers same_core_import is js) (covers same_core_export fs es) e in
      module_fits (covers_is same_core_import imports_tell is js f.0) (covers_is same_core_export exports_tell fs es f.1)
  told (type_item t) true (type_item u) e = type_fits (told t true u e)
  told (type_item t) false (type_item u) e = type_fits (told t false u e)
  told _ b _ e = absurd (cc e)

  each_told : (xs : Fields) → EachTold xs
  each_told no_fields = tt
  each_told (field n t xs) = (told t, each_told xs)

pub fits_is : (t u : Tree) → fit t true u ≡ true → Fits t u
fits_is t u e = told t true u e
