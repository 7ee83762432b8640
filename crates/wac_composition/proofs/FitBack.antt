-- Where one tree fits another, the test says so.
use Rattle.std.proofs.Common.{◌≡◌, Bool, true, false, List, [], ◌∷◌, Some, refl, sym, ap, ◌∙◌, inl, inr}
use Rattle.std.specs.Cmp.Derive.{both_true}
use Rattle.std.specs.Prelude.{◌==◌, bytes_eq, if◌then◌else◌}
use Rattle.std.specs.Cmp.Lexicographic.{pointwise}
use Rattle.std.specs.declared.cmp.Ordering.{Ordering}
use Rattle.std.proofs.lemmas.Slice.Eq.{bytes_eq-Decides}
use Rattle.wac_types_base.specs.Entries.{Name, value_at}
use Rattle.wac_types_base.specs.Stated.{Stated}
use Rattle.wac_types_base.specs.Tree.{Tree, rigid, instance, component, core_module, handle_own, handle_borrow, type_item, Fields, no_fields, field, name_cmp, tree}
use Rattle.wac_types_base.specs.Fits.{HasField, at_first, at_later, Covers, Fits, rigid_fits, own_fits, borrow_fits, instance_fits, component_fits, module_fits, type_fits, FieldsFit, none_asked, one_asked}
use Rattle.wac_types_fit.specs.Ordered.{IsBelow, InOrder, AllInOrder}
use Rattle.wac_types_fit.proofs.Looking.{cmp_refl, in_order-at, above}
use Rattle.wac_types_fit.proofs.Ordering.{tree_in_order}
use Rattle.wac_composition.specs.Tests.{same_core_import, same_core_export, field_is, passes, gives_all, covers, fit, tests, fits, are_given}
use Rattle.wac_composition.proofs.TestLaws.{Tells, trees_tell, imports_tell, exports_tell}
use Rattle.wac_composition.proofs.Closures.{among_any}
use Rattle.wac_composition.proofs.FitLaws.{fits_is}

abbrev Along : Bool → Tree → Tree → Type 0
Along true t u = Fits t u
Along false t u = Fits u t

abbrev Says : Tree → Type 0
Says t = (b : Bool) (u : Tree) → InOrder t → InOrder u → Along b t u → fit t b u ≡ true

abbrev EachSays : Fields → Type 0
EachSays no_fields = Unit {0}
EachSays (field n t xs) = Says t × EachSays xs

-- ---- the members of a module

covers_all : {A : Type 0} (p : A → A → Bool) → Tells p → (xs ys : List A) → Covers xs ys → covers p xs ys ≡ true
covers_all p t xs [] c = refl
covers_all p t xs (y ∷ ys) c = both_true (among_any (p y) xs y (c y (inl refl)) (t.itself y)) (covers_all p t xs ys (λ z m. c z (inr m)))

-- ---- maps in order

not_itself : (n m : Name) → IsBelow name_cmp n m → n ≡ m → ⊥
not_itself n m b e = let f : name_cmp n m ≡ Ordering.Equal = ap (name_cmp n) (sym e) ∙ cmp_refl n in absurd (cc (b, f))

passed : (xs : Fields) (n : Name) (x u : Tree) → AllInOrder xs → EachSays xs → HasField n x xs → InOrder u → Fits x u → passes (value_at (tests xs) n) true u ≡ true
passed (field m t xs) n x u o h at_first a f = rw ((bytes_eq-Decides m m).1 refl) (h.0 true u o.1 a f)
passed (field m t xs) n x u o h (at_later q) a f = by (pointwise ◌==◌ n m) refl (passed xs n x u o.2 h.1 q a f)
  where
    by : (b : Bool) → pointwise ◌==◌ n m ≡ b → passes (value_at (tests xs) n) true u ≡ true → passes (if b then Some (fit t) else value_at (tests xs) n) true u ≡ true
    by true e r = absurd (not_itself m n (above m n x xs o.0 q) (sym ((bytes_eq-Decides n m).0 e)))
    by false e r = r
passed no_fields n x u o h q a f = elim q [ ]

gives_back : (xs ys : Fields) → AllInOrder xs → AllInOrder ys → EachSays xs → FieldsFit xs ys → gives_all (tests xs) ys ≡ true
gives_back xs no_fields a b h none_asked = refl
gives_back xs (field n u ys) a b h (one_asked {t = t} q f r) =
    both_true (passed xs n t u a h q b.1 f) (gives_back xs ys a b.2 h r)

field_found : (p : Tree → Bool) (n : Name) (x : Tree) (ys : Fields) → AllInOrder ys → HasField n x ys → p x ≡ true → field_is p n ys ≡ true
field_found p n x (field m t ys) o at_first e = rw ((bytes_eq-Decides m m).1 refl) e
field_found p n x (field m t ys) o (at_later q) e = by (bytes_eq n m) refl (field_found p n x ys o.2 q e)
  where
    by : (b : Bool) → bytes_eq n m ≡ b → field_is p n ys ≡ true → (if b then p t else field_is p n ys) ≡ true
    by true d r = absurd (not_itself m n (above m n x ys o.0 q) (sym ((bytes_eq-Decides n m).0 d)))
    by false d r = r
field_found p n x no_fields o q e = elim q [ ]

given_back : (xs ys : Fields) → AllInOrder xs → AllInOrder ys → EachSays xs → FieldsFit ys xs → are_given (tests xs) ys ≡ true
given_back no_fields ys a b h none_asked = refl
given_back (field n t xs) ys a b h (one_asked {t = u} q f r) =
    both_true (field_found (fit t false) n u ys b q (h.0 false u a.1 (in_order-at n u ys b q) f)) (given_back xs ys a.2 b h.1 r)

-- ---- trees

mutual
  says : (t : Tree) (b : Bool) (u : Tree) → InOrder t → InOrder u → Along b t u → fit t b u ≡ true
  says (rigid s r) true u a o rigid_fits = trees_tell.itself (rigid s r)
  says (rigid s r) false u a o rigid_fits = trees_tell.itself (rigid s r)
  says (handle_own t) true u a o own_fits = trees_tell.itself t
  says (handle_own t) false u a o own_fits = trees_tell.itself t
  says (handle_borrow t) true u a o borrow_fits = trees_tell.itself t
  says (handle_borrow t) false u a o borrow_fits = trees_tell.itself t
  says (instance xs) true u a o (instance_fits {ys = ys} f) = gives_back xs ys a o (each_says xs) f
  says (instance xs) false u a o (instance_fits {xs = ys} f) = given_back xs ys a o (each_says xs) f
  says (component is es) true u a o (component_fits {js = js} {fs = fs} f g) =
      both_true (given_back is js a.0 o.0 (each_says is) f) (gives_back es fs a.1 o.1 (each_says es) g)
  says (component is es) false u a o (component_fits {is = js} {es = fs} f g) =
      both_true (gives_back is js a.0 o.0 (each_says is) f) (given_back es fs a.1 o.1 (each_says es) g)
  says (core_module is es) true u a o (module_fits {js = js} {fs = fs} f g) =
      both_true (covers_all same_core_import imports_tell js is f) (covers_all same_core_export exports_tell es fs g)
  says (core_module is es) false u a o (module_fits {is = js} {es = fs} f g) =
      both_true (covers_all same_core_import imports_tell is js f) (covers_all same_core_export exports_tell fs es g)
  says (type_item t) true u a o (type_fits {u = v} f) = says t true v a o f
  says (type_item t) false u a o (type_fits {t = v} f) = says t false v a o f

  each_says : (xs : Fields) → EachSays xs
  each_says no_fields = tt
  each_says (field n t xs) = (says t, each_says xs)

pub is_fitting : (t u : Tree) → InOrder t → InOrder u → Fits t u → fit t true u ≡ true
is_fitting t u a b f = says t true u a b f

-- the test of stated types is the relation on their trees
pub fits_decides : (a b : Stated) → (fits a b ≡ true → Fits (tree a) (tree b)) × (Fits (tree a) (tree b) → fits a b ≡ true)
fits_decides a b = (fits_is (tree a) (tree b), is_fitting (tree a) (tree b) (tree_in_order a) (tree_in_order b))
