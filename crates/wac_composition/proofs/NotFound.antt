-- The test of an item says yes exactly of what cannot be written.
use Rattle.std.specs.Prelude.{◌==◌, not, ◌&&◌, ◌||◌, filter, option_map, drop, cond, bytes_eq}
use Rattle.std.proofs.lemmas.Option.{none-some, same_Some}
use Rattle.std.specs.Bool.{Decides}
use Rattle.std.specs.List.{list_any, flat_map}
use Rattle.std.specs.Cmp.Lexicographic.{pointwise, bytes_decides}
use Rattle.std.proofs.lemmas.Bool.Decides.{Decides-and, Decides-or, Decides-not, Decides-like}
use Rattle.std.proofs.Common.{◌≡◌, ℕ, zero, suc, ◌+◌, List, [], ◌∷◌, ◌++◌, append_assoc, map, length, Bool, true, false, true≢false, Option, Some, None, ◌⊎◌, inl, inr, refl, sym, ap, subst, ◌∙◌}
use Rattle.wac_types_base.specs.declared.core_types.ModuleType.{ModuleType}
use Rattle.wac_types_base.specs.Entries.{Name, value_at, has_name}
use Rattle.wac_types_base.specs.Graph.{Wholes, node, no_more, more, hole, Among}
use Rattle.wac_types_base.specs.Collection.{Shape, primitive, tuple, list, fixed_size_list, option, result, variant, record_of, flags, enum, alias, stream, future, resource, resource_alias, func, interface, world, module_type, type_of, own_of, borrow_of}
use Rattle.wac_types_base.specs.Stated.{Stated, folded, folded_row, places_of, with_names, Kind, IsFunction, IsInstance, IsComponent, IsModule, IsValue, IsResource, IsFunctionType, IsValueType, IsInterface, IsWorld, IsModuleType, shape_of, shape_kind, kind_of, untyped, Used, uses_from, Parts, parts_at, only_places, first_parts, uses_of, imports_of, exports_of, identifier_of, root_name}
use Rattle.wac_types_base.specs.Tree.{tree}
use Rattle.wac_composition.specs.Tests.{same_tree}
use Rattle.wac_types_written.specs.Written.{is_type}
use Rattle.wac_composition.specs.Writable.{Holder, is_resource, is_fresh, root_of, is_given, stated_at, value_fails, Needed, Found, some_unnamed, Item, plain, some_fails, used_of, interface_fails, type_items, needed_from, below_items, all_needed, stands_as, is_given_by, use_fails, with_roots, holder, world_holder, world_fails, any_value, simple, found_interface, over_exports, package_fails, found_component, found_at, unwritable, package_unwritable, item_in, writable_module, given_in, has_items, WritingTest, needs_of_use}
use Rattle.wac_composition.specs.NotWritten.{IsGiven, HasRoot, Dangles, Needs, a_use, under_use, under_item, IsImported, type_exports, component_holder, CannotBeWritten, a_value, core_items, module_as_type, renamed, an_alias, a_function, a_function_type, a_value_type, an_instance, an_interface, a_component, a_world, ItemsFail, unnamed, an_item, ComponentFails, unnamed_use, not_imported, not_added, an_import, an_export, given_to_exports, PackageFails, unnamed_in_package, not_imported_by, not_given_by, import_of_package, export_of_package, PackageCannotBeWritten}
use Rattle.wac_composition.proofs.Closures.{filter_among}
use Rattle.wac_composition.proofs.KeptFits.{folded_firsts}
use Rattle.wac_composition.proofs.NotWritten.{any_decides, has_decides, trees_decide, given_decides, resource_decides, value_decides, any_value_decides, stated_again}
use Rattle.wac_composition.proofs.Lists.{among_flat, flat_among, mapped_among}
use Rattle.wac_types_base.proofs.Adding.{Among-left, Among-right}
use Rattle.wac_types_base.proofs.Made.{firsts, first_names, drop_firsts, only_firsts}
use Rattle.wac_types_base.proofs.Lists.{among_mapped, among_split, always}

-- ---- what is found of an item

abbrev TypesFail : Bool → Stated → Type 0
TypesFail o x = (has_items (kind_of x) ≡ true) × ItemsFail o (uses_of x) (type_exports x)

-- a use that is needed, with the test of its interface's types
record IsNeeded (us : List Used) (es : List (Name × Stated)) (m : Needed) : Type 0 where
  needs : Needs us es m.by
  named : identifier_of m.by.interface ≡ Some m.name
  types : (o : Bool) → Decides (m.types o) (TypesFail o m.by.interface)

-- and each is listed
record IsListed (ms : List Needed) (u : Used) (n : Name) : Type 0 where
  one : Needed
  there : Among one ms
  called : one.name ≡ n
  by : one.by ≡ u

record IsFound (x : Stated) (f : Found) : Type 0 where
  test : (o : Bool) (h : Holder) (n : Name) → Decides (f.test n h o) (CannotBeWritten o h n x)
  types : (o : Bool) → Decides (f.types o) (TypesFail o x)
  only : (m : Needed) → Among m f.uses → (has_items (kind_of x) ≡ true) × IsNeeded (uses_of x) (exports_of x) m
  all : has_items (kind_of x) ≡ true → (u : Used) (n : Name) → Needs (uses_of x) (exports_of x) u → identifier_of u.interface ≡ Some n → IsListed f.uses u n

abbrev RowFound : List (Option (Stated × Found)) → Type 0
RowFound [] = Unit {0}
RowFound (None ∷ os) = RowFound os
RowFound (Some x ∷ os) = IsFound x.0 x.1 × RowFound os

abbrev ItemsFound : List Item → Type 0
ItemsFound es = (e : Item) → Among e es → IsFound e.1.0 e.1.1

abbrev UsesFound : List (Used × Found) → Type 0
UsesFound us = (u : Used × Found) → Among u us → IsFound u.0.interface u.1

drop_found : (k : ℕ) (os : List (Option (Stated × Found))) → RowFound os → RowFound (drop k os)
drop_found zero os h = h
drop_found (suc k) [] h = tt
drop_found (suc k) (None ∷ os) h = drop_found k os h
drop_found (suc k) (Some x ∷ os) h = drop_found k os h.1

names_found : (ns : List Name) (os : List (Option (Stated × Found))) → RowFound os → ItemsFound (with_names ns os)
names_found [] os h e m = absurd m
names_found (n ∷ ns) [] h e m = absurd m
names_found (n ∷ ns) (None ∷ os) h e m = names_found ns os h e m
names_found (n ∷ ns) (Some x ∷ os) h e (inl q) = subst (λ y. IsFound y.1.0 y.1.1) (sym q) h.0
names_found (n ∷ ns) (Some x ∷ os) h e (inr m) = names_found ns os h.1 e m

uses_found : (us : List (Name × Option Name)) (os : List (Option (Stated × Found))) → RowFound os → UsesFound (uses_from us os)
uses_found [] os h u m = absurd m
uses_found (v ∷ us) [] h u m = absurd m
uses_found (v ∷ us) (None ∷ os) h u m = uses_found us os h u m
uses_found (v ∷ us) (Some x ∷ os) h u (inl q) = subst (λ w. IsFound w.0.interface w.1) (sym q) h.0
uses_found (v ∷ us) (Some x ∷ os) h u (inr m) = uses_found us os h.1 u m

-- ---- the parts, with what was found of them and without

same_names : {A B : Type 0} (ns : List Name) (os : List (Option (Stated × A))) (ps : List (Option (Stated × B))) → firsts os ≡ firsts ps → first_parts (with_names ns os) ≡ first_parts (with_names ns ps)
same_names ns os ps e = first_names ns os ∙ ap (with_names ns) e ∙ sym (first_names ns ps)

same_behind : {A B : Type 0} (k : ℕ) (ns : List Name) (os : List (Option (Stated × A))) (ps : List (Option (Stated × B))) → firsts os ≡ firsts ps → first_parts (with_names ns (drop k os)) ≡ first_parts (with_names ns (drop k ps))
same_behind k ns os ps e = same_names ns (drop k os) (drop k ps) (drop_firsts k os ∙ ap (drop k) e ∙ sym (drop_firsts k ps))

some_none : {X : Type 0} (x : X) (xs : List (Option X)) (ys : List (Option X)) → (Some x ∷ xs) ≡ (None ∷ ys) → ⊥
some_none x xs ys e = cc

abbrev only_uses : {A : Type 0} → List (Used × A) → List Used
only_uses us = map (λ u. u.0) us

same_uses : {A B : Type 0} (us : List (Name × Option Name)) (os : List (Option (Stated × A))) (ps : List (Option (Stated × B))) → firsts os ≡ firsts ps → only_uses (uses_from us os) ≡ only_uses (uses_from us ps)
same_uses [] os ps e = refl
same_uses (u ∷ us) [] [] e = refl
same_uses (u ∷ us) [] (p ∷ ps) e = absurd (let c : ⊥ = cc e in c)
same_uses (u ∷ us) (o ∷ os) [] e = absurd (let c : ⊥ = cc e in c)
same_uses (u ∷ us) (None ∷ os) (None ∷ ps) e = same_uses us os ps cc
same_uses (u ∷ us) (None ∷ os) (Some p ∷ ps) e = absurd (let c : ⊥ = cc e in c)
same_uses (u ∷ us) (Some o ∷ os) (None ∷ ps) e = absurd (let c : ⊥ = cc e in c)
same_uses (u ∷ us) (Some o ∷ os) (Some p ∷ ps) e =
    let q : o.0 ≡ p.0 = cc e in
    let r : firsts os ≡ firsts ps = cc e in
    λ i. record { name = u.0; there = u.1; interface = q i } ∷ same_uses us os ps r i

both_firsts : (ts : Wholes Shape) → firsts (folded_row found_at ts) ≡ firsts (only_places ts)
both_firsts ts = folded_firsts found_at ts ∙ sym (only_firsts ts)

plain_types : (es : List Item) → plain (type_items es) ≡ filter (λ e. is_type (kind_of e.1)) (plain es)
plain_types [] = refl
plain_types (e ∷ es) = go (plain_types es) (is_type (kind_of e.1.0))
  where
    go : plain (type_items es) ≡ filter (λ e. is_type (kind_of e.1)) (plain es) → (b : Bool) → plain (cond b (e ∷ type_items es) (type_items es)) ≡ cond b ((e.0, e.1.0) ∷ filter (λ e. is_type (kind_of e.1)) (plain es)) (filter (λ e. is_type (kind_of e.1)) (plain es))
    go q true = ap (λ l. (e.0, e.1.0) ∷ l) q
    go q false = q

types_found : (es : List Item) → ItemsFound es → ItemsFound (type_items es)
types_found es h e m = h e (filter_among (λ e. is_type (kind_of e.1.0)) es e m).0

plain_value : (es : List Item) (n : Name) → value_at (plain es) n ≡ option_map (λ x. x.0) (value_at es n)
plain_value [] n = refl
plain_value (e ∷ es) n = go (plain_value es n) (pointwise ◌==◌ n e.0)
  where
    go : value_at (plain es) n ≡ option_map (λ x. x.0) (value_at es n) → (b : Bool) → cond b (Some e.1.0) (value_at (plain es) n) ≡ option_map (λ x. x.0) (cond b (Some e.1) (value_at es n))
    go q true = refl
    go q false = q

-- ---- the items of an interface

module _ (o : Bool) where
  -- one of these items, that no use gives, cannot be written
  abbrev SomeFail : Holder → List (Name × Stated) → Type 0
  SomeFail h es = (n : Name) × (x : Stated) × Among (n, x) es × (IsGiven h n x → ⊥) × CannotBeWritten o h n x

  some_decide : (h : Holder) (es : List Item) → ItemsFound es → Decides (some_fails h o es) (SomeFail h (plain es))
  some_decide h es f =
      Decides-like (some_fails h o es)
      (λ c. (c.0.0, c.0.1.0, among_mapped (λ e. (e.0, e.1.0)) es c.0 c.1, c.2.0, c.2.1))
      back
      (any_decides _ (λ e. (IsGiven h e.0 e.1.0 → ⊥) × CannotBeWritten o h e.0 e.1.0) es
      (λ e m. Decides-and (not (is_given h e.0 e.1.0)) (e.1.1.test e.0 h o) (Decides-not (is_given h e.0 e.1.0) (given_decides h e.0 e.1.0)) ((f e m).test o h e.0)))
    where
      back : SomeFail h (plain es) → (e : Item) × Among e es × ((IsGiven h e.0 e.1.0 → ⊥) × CannotBeWritten o h e.0 e.1.0)
      back (n, x, m, g, c) =
          let a = mapped_among (λ e. (e.0, e.1.0)) es (n, x) m in
          (a.0, a.1, subst (λ y. (IsGiven h y.0 y.1 → ⊥) × CannotBeWritten o h y.0 y.1) a.2 (g, c))

  interface_decides : (us : List Used) (es : List Item) → ItemsFound es → Decides (interface_fails us es o) (ItemsFail o us (plain es))
  interface_decides us es f =
      Decides-like (interface_fails us es o) to back (Decides-or (some_unnamed us) (some_fails (holder us (plain es)) o es) (λ e. e, λ e. e) (some_decide (holder us (plain es)) es f))
    where
      to : (some_unnamed us ≡ true) ⊎ SomeFail (holder us (plain es)) (plain es) → ItemsFail o us (plain es)
      to (inl e) = unnamed e
      to (inr (n, x, m, g, c)) = an_item m g c

      back : ItemsFail o us (plain es) → (some_unnamed us ≡ true) ⊎ SomeFail (holder us (plain es)) (plain es)
      back (unnamed e) = inl e
      back (an_item {n = n} {x = x} m g c) = inr (n, x, m, g, c)

-- ---- what is needed

-- the uses below an interface, as they are listed
abbrev listed : List (Used × Found) → List Item → List Needed
listed us es = flat_map needs_of_use us ++ below_items es

need_by : (us : List Used) (es : List (Name × Stated)) (w : Used) (vs : List Used) (xs : List (Name × Stated)) → (Needs vs xs w → Needs us es w) → (m : Needed) → m.by ≡ w → IsNeeded vs xs m → IsNeeded us es m
need_by us es w vs xs f m e h = record { needs = subst (Needs us es) (sym e) (f (subst (Needs vs xs) e h.needs)); named = h.named; types = h.types }

-- each that is listed is needed
module _ (us : List (Used × Found)) (es : List Item) (fu : UsesFound us) (fe : ItemsFound es) where
  Uses : List Used
  Uses = only_uses us

  listed_directly : (u : Used × Found) → Among u us → (i : Option Name) → identifier_of u.0.interface ≡ i → (m : Needed) → Among m (needed_from u i) → IsNeeded (only_uses us) (plain es) m
  listed_directly u a None q m n = absurd n
  listed_directly u a (Some k) q m (inr n) = absurd n
  listed_directly u a (Some k) q m (inl e) =
      subst (IsNeeded (only_uses us) (plain es)) (sym e) (record { needs = a_use (among_mapped (λ w. w.0) us u a); named = q; types = (fu u a).types })

  listed_use : (u : Used × Found) → Among u us → (m : Needed) → Among m (needs_of_use u) → IsNeeded (only_uses us) (plain es) m
  listed_use u a m n = elim (among_split m u.1.uses (needed_from u (identifier_of u.0.interface)) n) [
    | inl b ↦
        let h = (fu u a).only m b in
        need_by (only_uses us) (plain es) m.by (uses_of u.0.interface) (exports_of u.0.interface) (λ w. under_use u.0 (among_mapped (λ w. w.0) us u a) h.0 w) m refl h.1
    | inr b ↦ listed_directly u a (identifier_of u.0.interface) refl m b
  ]

  listed_item : (e : Item) → Among e es → (m : Needed) → Among m e.1.1.uses → IsNeeded (only_uses us) (plain es) m
  listed_item e a m n =
      let h = (fe e a).only m n in
      need_by (only_uses us) (plain es) m.by (uses_of e.1.0) (exports_of e.1.0) (λ w. under_item e.0 e.1.0 (among_mapped (λ e. (e.0, e.1.0)) es e a) h.0 w) m refl h.1

  listed_needed : (m : Needed) → Among m (listed us es) → IsNeeded (only_uses us) (plain es) m
  listed_needed m n = elim (among_split m (flat_map needs_of_use us) (below_items es) n) [
    | inl b ↦ let a = among_flat needs_of_use us m b in listed_use a.0 a.1 m a.2
    | inr b ↦ let a = among_flat (λ e. e.1.1.uses) es m b in listed_item a.0 a.1 m a.2
  ]

  -- each that is needed is listed
  widened : (ms : List Needed) → ((m : Needed) → Among m ms → Among m (listed us es)) → (u : Used) (n : Name) → IsListed ms u n → IsListed (listed us es) u n
  widened ms f u n l = record { one = l.one; there = f l.one l.there; called = l.called; by = l.by }

  in_uses : (u : Used × Found) → Among u us → (m : Needed) → Among m (needs_of_use u) → Among m (listed us es)
  in_uses u a m n = Among-left m (flat_map needs_of_use us) (below_items es) (flat_among needs_of_use us u m a n)

  in_items : (e : Item) → Among e es → (m : Needed) → Among m e.1.1.uses → Among m (listed us es)
  in_items e a m n = Among-right m (flat_map needs_of_use us) (below_items es) (flat_among (λ e. e.1.1.uses) es e m a n)

  direct : (u : Used × Found) → Among u us → (n : Name) → identifier_of u.0.interface ≡ Some n → IsListed (listed us es) u.0 n
  direct u a n e =
      let m : Needed = record { name = n; by = u.0; types = u.1.types } in
      record {
        one = m;
        there = in_uses u a m (Among-right m u.1.uses (needed_from u (identifier_of u.0.interface)) (subst (λ i. Among m (needed_from u i)) (sym e) (inl refl)));
        called = refl;
        by = refl;
      }

  needed_listed : (u : Used) (n : Name) → Needs (only_uses us) (plain es) u → identifier_of u.interface ≡ Some n → IsListed (listed us es) u n
  needed_listed u n (a_use m) e =
      let a = mapped_among (λ w. w.0) us u m in
      subst (λ w. IsListed (listed us es) w n) (sym a.2) (direct a.0 a.1 n (ap (λ w. identifier_of w.interface) (sym a.2) ∙ e))
  needed_listed u n (under_use v m k w) e =
      let a = mapped_among (λ w. w.0) us v m in
      let i : v.interface ≡ a.0.0.interface = ap (λ w. w.interface) a.2 in
      widened a.0.1.uses (λ m b. in_uses a.0 a.1 m (Among-left m a.0.1.uses (needed_from a.0 (identifier_of a.0.0.interface)) b)) u n
      ((fu a.0 a.1).all (ap (λ x. has_items (kind_of x)) (sym i) ∙ k) u n (subst (λ x. Needs (uses_of x) (exports_of x) u) i w) e)
  needed_listed u n (under_item l x m k w) e =
      let a = mapped_among (λ e. (e.0, e.1.0)) es (l, x) m in
      let i : x ≡ a.0.1.0 = ap (λ y. y.1) a.2 in
      widened a.0.1.1.uses (in_items a.0 a.1) u n
      ((fe a.0 a.1).all (ap (λ x. has_items (kind_of x)) (sym i) ∙ k) u n (subst (λ x. Needs (uses_of x) (exports_of x) u) i w) e)

-- ---- component types

plain_both : (xs ys : List Item) → plain (xs ++ ys) ≡ plain xs ++ plain ys
plain_both [] ys = refl
plain_both (x ∷ xs) ys = ap (λ l. (x.0, x.1.0) ∷ l) (plain_both xs ys)

below_both : (xs ys : List Item) → below_items (xs ++ ys) ≡ below_items xs ++ below_items ys
below_both [] ys = refl
below_both (x ∷ xs) ys = ap (λ l. x.1.1.uses ++ l) (below_both xs ys) ∙ sym (append_assoc x.1.1.uses (below_items xs) (below_items ys))

-- what an import has
imported_decides : (is : List Item) (u : Used) (n : Name) → Decides (is_given_by (value_at is n) u) (IsImported (plain is) n u)
imported_decides is u n = go (value_at is n) (plain_value is n)
  where
    stands : (x y : Option Stated) → Decides (stands_as x y) ((z : Stated) → x ≡ Some z → (w : Stated) × (y ≡ Some w) × (tree z ≡ tree w))
    stands None y = (λ e z q. absurd (none-some _ q), λ h. refl)
    stands (Some x) None = (λ e. absurd (true≢false (sym e)), λ h. absurd (let r = h x refl in none-some _ r.1))
    stands (Some x) (Some y) = (
      λ q z r. (y, refl, ap tree (sym (same_Some _ _ r)) ∙ (trees_decide x y).0 q),
      λ h. let w = h x refl in (trees_decide x y).1 (w.2 ∙ ap tree (sym (same_Some _ _ w.1))),
    )

    go : (o : Option (Stated × Found)) → value_at (plain is) n ≡ option_map (λ x. x.0) o → Decides (is_given_by o u) (IsImported (plain is) n u)
    go None e = (λ q. absurd (true≢false (sym q)), λ h. absurd (none-some _ (sym e ∙ h.there)))
    go (Some x) e =
        let d = stands (item_in u.interface u) (given_in x.0 u) in (
          λ q. record { interface = x.0; there = e; item = d.0 q },
          λ h. let s : x.0 ≡ h.interface = same_Some _ _ (sym e ∙ h.there) in
              d.1 (λ z r. let w = h.item z r in (w.0, ap (λ i. given_in i u) s ∙ w.1, w.2)),
        )

-- of what is given by these, what these uses and items need and nothing gives
module _ (g : Parts Found) (us : List (Used × Found)) (es : List Item) (fu : UsesFound us) (fe : ItemsFound es) where
  abbrev Ungiven : Used → Name → Type 0
  Ungiven u n = IsImported (plain g.imports) n u → ⊥

  abbrev SomeUngiven : Type 0
  SomeUngiven = (u : Used) × (n : Name) × Needs (only_uses us) (plain es) u × (identifier_of u.interface ≡ Some n) × Ungiven u n

  ungiven_decides : Decides (list_any (use_fails g true) (listed us es)) SomeUngiven
  ungiven_decides = Decides-like (list_any (use_fails g true) (listed us es)) to back (any_decides (use_fails g true) (λ m. Ungiven m.by m.name × Unit {0}) (listed us es) one)
    where
      one : (m : Needed) → Among m (listed us es) → Decides (use_fails g true m) (Ungiven m.by m.name × Unit {0})
      one m n =
          Decides-and (not (is_given_by (value_at g.imports m.name) m.by)) (true || m.types true)
          (Decides-not (is_given_by (value_at g.imports m.name) m.by) (imported_decides g.imports m.by m.name)) (λ e. tt, λ e. refl)

      to : ((m : Needed) × Among m (listed us es) × (Ungiven m.by m.name × Unit {0})) → SomeUngiven
      to (m, n, f) = let h = listed_needed us es fu fe m n in (m.by, m.name, h.needs, h.named, f.0)

      back : SomeUngiven → (m : Needed) × Among m (listed us es) × (Ungiven m.by m.name × Unit {0})
      back (u, n, w, e, f) =
          let l = needed_listed us es fu fe u n w e in
          (l.one, l.there, (subst (λ v. Ungiven v l.one.name) (sym l.by) (subst (Ungiven u) (sym l.called) f), tt))

module _ (p : Parts Found) (fu : UsesFound p.uses) (fi : ItemsFound p.imports) (fx : ItemsFound p.exports) where
  abbrev items_of : List Item
  items_of = p.imports ++ p.exports

  both_found : ItemsFound (p.imports ++ p.exports)
  both_found e m = elim (among_split e p.imports p.exports m) [
    | inl a ↦ fi e a
    | inr b ↦ fx e b
  ]

  all_listed : all_needed p ≡ listed p.uses (p.imports ++ p.exports)
  all_listed = ap (λ l. flat_map needs_of_use p.uses ++ l) (sym (below_both p.imports p.exports))

  module _ (o : Bool) where
    -- a use that no import gives
    abbrev UseFails : Used → Name → Type 0
    UseFails u n = (IsImported (plain p.imports) n u → ⊥) × ((o ≡ true) ⊎ TypesFail o u.interface)

    abbrev SomeUseFails : Type 0
    SomeUseFails = (u : Used) × (n : Name) × Needs (used_of p) (plain p.imports ++ plain p.exports) u × (identifier_of u.interface ≡ Some n) × UseFails u n

    needed_is : (m : Needed) → Among m (all_needed p) → IsNeeded (used_of p) (plain p.imports ++ plain p.exports) m
    needed_is m n = subst (λ l. IsNeeded (used_of p) l m) (plain_both p.imports p.exports) (listed_needed p.uses (p.imports ++ p.exports) fu both_found m (subst (Among m) all_listed n))

    use_decides : (m : Needed) → Among m (all_needed p) → Decides (use_fails p o m) (UseFails m.by m.name)
    use_decides m n =
        Decides-and (not (is_given_by (value_at p.imports m.name) m.by)) (o || m.types o)
        (Decides-not (is_given_by (value_at p.imports m.name) m.by) (imported_decides p.imports m.by m.name))
        (Decides-or o (m.types o) (λ e. e, λ e. e) ((needed_is m n).types o))

    uses_decide : Decides (list_any (use_fails p o) (all_needed p)) SomeUseFails
    uses_decide = Decides-like (list_any (use_fails p o) (all_needed p)) to back (any_decides (use_fails p o) (λ m. UseFails m.by m.name) (all_needed p) use_decides)
      where
        to : ((m : Needed) × Among m (all_needed p) × UseFails m.by m.name) → SomeUseFails
        to (m, n, f) = let h = needed_is m n in (m.by, m.name, h.needs, h.named, f)

        back : SomeUseFails → (m : Needed) × Among m (all_needed p) × UseFails m.by m.name
        back (u, n, w, e, f) =
            let l = needed_listed p.uses (p.imports ++ p.exports) fu both_found u n (subst (λ l. Needs (used_of p) l u) (sym (plain_both p.imports p.exports)) w) e in
            (l.one, subst (Among l.one) (sym all_listed) l.there, subst (λ v. UseFails v l.one.name) (sym l.by) (subst (UseFails u) (sym l.called) f))

    abbrev ExportFails : Type 0
    ExportFails = (n : Name) × (x : Stated) × Among (n, x) (plain p.exports) × CannotBeWritten o (world_holder p) n x

    exports_decide : Decides (list_any (λ e. e.1.1.test e.0 (world_holder p) o) p.exports) ExportFails
    exports_decide =
        Decides-like _ (λ c. (c.0.0, c.0.1.0, among_mapped (λ e. (e.0, e.1.0)) p.exports c.0 c.1, c.2)) back
        (any_decides _ (λ e. CannotBeWritten o (world_holder p) e.0 e.1.0) p.exports (λ e m. (fx e m).test o (world_holder p) e.0))
      where
        back : ExportFails → (e : Item) × Among e p.exports × CannotBeWritten o (world_holder p) e.0 e.1.0
        back (n, x, m, c) = let a = mapped_among (λ e. (e.0, e.1.0)) p.exports (n, x) m in (a.0, a.1, subst (λ y. CannotBeWritten o (world_holder p) y.0 y.1) a.2 c)

    abbrev WorldFails : Type 0
    WorldFails = ((some_unnamed (used_of p) ≡ true) ⊎ SomeUseFails) ⊎ (SomeFail o (world_holder p) (plain p.imports) ⊎ ExportFails)

    parts_decide : Decides (world_fails p o) WorldFails
    parts_decide =
        Decides-or (some_unnamed (used_of p) || list_any (use_fails p o) (all_needed p)) _
        (Decides-or (some_unnamed (used_of p)) (list_any (use_fails p o) (all_needed p)) (λ e. e, λ e. e) uses_decide)
        (Decides-or (some_fails (world_holder p) o p.imports) _ (some_decide o (world_holder p) p.imports fi) exports_decide)

    -- of the world with these uses, imports and exports
    component_decides : (w : Stated) → used_of p ≡ uses_of w → plain p.imports ≡ imports_of w → plain p.exports ≡ exports_of w → Decides (world_fails p o) (ComponentFails o w)
    component_decides w eu ei ex = Decides-like (world_fails p o) to back parts_decide
      where
        held : world_holder p ≡ component_holder w
        held = λ i. with_roots (holder (eu i) (ei i)) (map root_of (filter is_fresh (ex i)))

        moved : (u : Used) → Needs (used_of p) (plain p.imports ++ plain p.exports) u → Needs (uses_of w) (imports_of w ++ exports_of w) u
        moved u d = subst (λ us. Needs us (imports_of w ++ exports_of w) u) eu (subst (λ is. Needs (used_of p) (is ++ exports_of w) u) ei (subst (λ es. Needs (used_of p) (plain p.imports ++ es) u) ex d))

        moved_back : (u : Used) → Needs (uses_of w) (imports_of w ++ exports_of w) u → Needs (used_of p) (plain p.imports ++ plain p.exports) u
        moved_back u d = subst (λ us. Needs us (plain p.imports ++ plain p.exports) u) (sym eu) (subst (λ is. Needs (uses_of w) (is ++ plain p.exports) u) (sym ei) (subst (λ es. Needs (uses_of w) (imports_of w ++ es) u) (sym ex) d))

        to : WorldFails → ComponentFails o w
        to (inl (inl e)) = unnamed_use (ap some_unnamed (sym eu) ∙ e)
        to (inl (inr (u, n, d, e, (f, inl q)))) = not_imported n (moved u d) e (λ g. f (subst (λ is. IsImported is n u) (sym ei) g)) q
        to (inl (inr (u, n, d, e, (f, inr t)))) = not_added n (moved u d) e (λ g. f (subst (λ is. IsImported is n u) (sym ei) g)) t.0 t.1
        to (inr (inl (n, x, m, g, c))) = an_import (subst (Among (n, x)) ei m) (λ k. g (subst (λ h. IsGiven h n x) (sym held) k)) (subst (λ h. CannotBeWritten o h n x) held c)
        to (inr (inr (n, x, m, c))) = an_export (subst (Among (n, x)) ex m) (subst (λ h. CannotBeWritten o h n x) held c)

        back : ComponentFails o w → WorldFails
        back (unnamed_use e) = inl (inl (ap some_unnamed eu ∙ e))
        back (not_imported {u = u} n d e f q) = inl (inr (u, n, moved_back u d, e, (λ g. f (subst (λ is. IsImported is n u) ei g), inl q)))
        back (not_added {u = u} n d e f k t) = inl (inr (u, n, moved_back u d, e, (λ g. f (subst (λ is. IsImported is n u) ei g), inr (k, t))))
        back (an_import {n = n} {x = x} m g c) = inr (inl (n, x, subst (Among (n, x)) (sym ei) m, λ k. g (subst (λ h. IsGiven h n x) held k), subst (λ h. CannotBeWritten o h n x) (sym held) c))
        back (an_export {n = n} {x = x} m c) = inr (inr (n, x, subst (Among (n, x)) (sym ex) m, subst (λ h. CannotBeWritten o h n x) (sym held) c))

  -- ---- as an imported package

  abbrev PackageNeeds : Type 0
  PackageNeeds = SomeUngiven p p.uses p.imports fu fi ⊎ SomeUngiven (over_exports p) [] p.exports (λ u m. absurd m) fx

  abbrev AsPackageFails : Type 0
  AsPackageFails = ((some_unnamed (used_of p) ≡ true) ⊎ PackageNeeds) ⊎ (SomeFail true (world_holder p) (plain p.imports) ⊎ ExportFails true)

  package_decides : (w : Stated) → used_of p ≡ uses_of w → plain p.imports ≡ imports_of w → plain p.exports ≡ exports_of w → Decides (package_fails p) (PackageFails w)
  package_decides w eu ei ex =
      Decides-like (package_fails p) to back
      (Decides-or (some_unnamed (used_of p) || (list_any (use_fails p true) (listed p.uses p.imports) || list_any (use_fails (over_exports p) true) (listed [] p.exports))) _
      (Decides-or (some_unnamed (used_of p)) _ (λ e. e, λ e. e)
      (Decides-or (list_any (use_fails p true) (listed p.uses p.imports)) _ (ungiven_decides p p.uses p.imports fu fi) (ungiven_decides (over_exports p) [] p.exports (λ u m. absurd m) fx)))
      (Decides-or (some_fails (world_holder p) true p.imports) _ (some_decide true (world_holder p) p.imports fi) (exports_decide true)))
    where
      held : world_holder p ≡ component_holder w
      held = λ i. with_roots (holder (eu i) (ei i)) (map root_of (filter is_fresh (ex i)))

      givers : plain (p.exports ++ p.imports) ≡ given_to_exports w
      givers = plain_both p.exports p.imports ∙ (λ i. ex i ++ ei i)

      to : AsPackageFails → PackageFails w
      to (inl (inl e)) = unnamed_in_package (ap some_unnamed (sym eu) ∙ e)
      to (inl (inr (inl (u, n, d, e, f)))) = not_imported_by n (subst (λ us. Needs us (imports_of w) u) eu (subst (λ is. Needs (used_of p) is u) ei d)) e (λ g. f (subst (λ is. IsImported is n u) (sym ei) g))
      to (inl (inr (inr (u, n, d, e, f)))) = not_given_by n (subst (λ es. Needs [] es u) ex d) e (λ g. f (subst (λ is. IsImported is n u) (sym givers) g))
      to (inr (inl (n, x, m, g, c))) = import_of_package (subst (Among (n, x)) ei m) (λ k. g (subst (λ h. IsGiven h n x) (sym held) k)) (subst (λ h. CannotBeWritten true h n x) held c)
      to (inr (inr (n, x, m, c))) = export_of_package (subst (Among (n, x)) ex m) (subst (λ h. CannotBeWritten true h n x) held c)

      back : PackageFails w → AsPackageFails
      back (unnamed_in_package e) = inl (inl (ap some_unnamed eu ∙ e))
      back (not_imported_by {u = u} n d e f) = inl (inr (inl (u, n, subst (λ us. Needs us (plain p.imports) u) (sym eu) (subst (λ is. Needs (uses_of w) is u) (sym ei) d), e, λ g. f (subst (λ is. IsImported is n u) ei g))))
      back (not_given_by {u = u} n d e f) = inl (inr (inr (u, n, subst (λ es. Needs [] es u) (sym ex) d, e, λ g. f (subst (λ is. IsImported is n u) givers g))))
      back (import_of_package {n = n} {x = x} m g c) = inr (inl (n, x, subst (Among (n, x)) (sym ei) m, λ k. g (subst (λ h. IsGiven h n x) held k), subst (λ h. CannotBeWritten true h n x) (sym held) c))
      back (export_of_package {n = n} {x = x} m c) = inr (inr (n, x, subst (Among (n, x)) (sym ex) m, subst (λ h. CannotBeWritten true h n x) (sym held) c))

-- ---- why an item cannot be written, by its kind

module _ (o : Bool) (h : Holder) (n : Name) where
  abbrev SomePlace : Stated → Type 0
  SomePlace x = (v : Stated) × Among (Some v) (places_of x) × Dangles h v

  abbrev OwnResource : Stated → Type 0
  OwnResource x = (r : Name) × (shape_of x ≡ resource r) × (n ≡ r → ⊥) × (IsGiven h n x → ⊥)

  abbrev Aliased : Stated → Type 0
  Aliased x = (r : Name) × (shape_of x ≡ resource_alias r) × (HasRoot h x → ⊥)

  abbrev Reason : Kind → Stated → Type 0
  Reason IsValue x = Unit {0}
  Reason IsModule x = (m : ModuleType) × (shape_of x ≡ module_type m) × (writable_module m ≡ false)
  Reason IsModuleType x = Unit {0}
  Reason IsResource x = OwnResource x ⊎ Aliased x
  Reason IsFunction x = SomePlace x
  Reason IsFunctionType x = SomePlace x
  Reason IsValueType x = Dangles h (untyped x)
  Reason IsInstance x = ItemsFail o (uses_of x) (exports_of x)
  Reason IsInterface x = ItemsFail o (uses_of x) (exports_of x)
  Reason IsComponent x = ComponentFails o x
  Reason IsWorld x = ComponentFails o x

  reason : (x : Stated) → CannotBeWritten o h n x → Reason (kind_of x) x
  reason x (a_value e) = subst (λ k. Reason k x) (sym e) tt
  reason x (core_items m e f) = subst (λ k. Reason k x) (sym (ap shape_kind e)) (m, e, f)
  reason x (module_as_type e) = subst (λ k. Reason k x) (sym e) tt
  reason x (renamed r e f g) = subst (λ k. Reason k x) (sym (ap shape_kind e)) (inl (r, e, f, g))
  reason x (an_alias r e f) = subst (λ k. Reason k x) (sym (ap shape_kind e)) (inr (r, e, f))
  reason x (a_function {v = v} e m d) = subst (λ k. Reason k x) (sym e) (v, m, d)
  reason x (a_function_type {v = v} e m d) = subst (λ k. Reason k x) (sym e) (v, m, d)
  reason x (a_value_type e d) = subst (λ k. Reason k x) (sym e) d
  reason x (an_instance e f) = subst (λ k. Reason k x) (sym e) f
  reason x (an_interface e f) = subst (λ k. Reason k x) (sym e) f
  reason x (a_component e f) = subst (λ k. Reason k x) (sym e) f
  reason x (a_world e f) = subst (λ k. Reason k x) (sym e) f

  stands_by : (x : Stated) (k : Kind) → kind_of x ≡ k → Reason k x → CannotBeWritten o h n x
  stands_by x IsValue e r = a_value e
  stands_by x IsModule e (m, s, f) = core_items m s f
  stands_by x IsModuleType e r = module_as_type e
  stands_by x IsResource e (inl (r, s, f, g)) = renamed r s f g
  stands_by x IsResource e (inr (r, s, f)) = an_alias r s f
  stands_by x IsFunction e (v, m, d) = a_function e m d
  stands_by x IsFunctionType e (v, m, d) = a_function_type e m d
  stands_by x IsValueType e d = a_value_type e d
  stands_by x IsInstance e f = an_instance e f
  stands_by x IsInterface e f = an_interface e f
  stands_by x IsComponent e f = a_component e f
  stands_by x IsWorld e f = a_world e f

  by_reason : (x : Stated) (k : Kind) (b : Bool) → kind_of x ≡ k → Decides b (Reason k x) → Decides b (CannotBeWritten o h n x)
  by_reason x k b e d = Decides-like b (stands_by x k e) (λ c. subst (λ k. Reason k x) e (reason x c)) d

-- ---- what holds no items

no_types : (o : Bool) (x : Stated) → has_items (kind_of x) ≡ false → Decides false (TypesFail o x)
no_types o x e = (λ q. absurd (true≢false (sym q)), λ t. absurd (true≢false (sym t.0 ∙ e)))

simply : (x : Stated) (t : WritingTest) → has_items (kind_of x) ≡ false → ((o : Bool) (h : Holder) (n : Name) → Decides (t n h o) (CannotBeWritten o h n x)) → IsFound x (simple t)
simply x t e d = record {
  test = d;
  types = λ o. no_types o x e;
  only = λ m a. absurd a;
  all = λ q. absurd (true≢false (sym q ∙ e));
}

value_found : (s : Shape) (ts : Wholes Shape) → shape_kind s ≡ IsValue → IsFound (node s ts) (simple (λ n h outer. true))
value_found s ts e = simply (node s ts) (λ n h outer. true) (ap has_items e) (λ o h n. always (a_value e))

value_type_found : (s : Shape) (ts : Wholes Shape) → shape_kind (type_of s) ≡ IsValueType → IsFound (node (type_of s) ts) (simple (λ n h outer. value_fails h (stated_at s (folded_row found_at ts))))
value_type_found s ts e =
    simply (node (type_of s) ts) (λ n h outer. value_fails h (stated_at s (folded_row found_at ts))) (ap has_items e)
    (λ o h n. by_reason o h n (node (type_of s) ts) IsValueType _ e (subst (λ v. Decides (value_fails h v) (Dangles h (node s ts))) (sym (stated_again found_at s ts)) (value_decides h (node s ts))))

places_found : (s : Shape) (ts : Wholes Shape) (h : Holder) → Decides (any_value h (folded_row found_at ts)) ((v : Stated) × Among (Some v) (places_of (node s ts)) × Dangles h v)
places_found s ts h = subst (λ l. Decides (any_value h (folded_row found_at ts)) ((v : Stated) × Among (Some v) l × Dangles h v)) (folded_firsts found_at ts) (any_value_decides h (folded_row found_at ts))

not_true : (b : Bool) → Decides (not b) (b ≡ false)
not_true true = (λ e. absurd (true≢false (sym e)), λ e. absurd (true≢false e))
not_true false = (λ e. refl, λ e. refl)

module_found : (m : ModuleType) (ts : Wholes Shape) → IsFound (node (module_type m) ts) (simple (λ n h outer. not (writable_module m)))
module_found m ts =
    simply (node (module_type m) ts) (λ n h outer. not (writable_module m)) refl
    (λ o h n. by_reason o h n (node (module_type m) ts) IsModule _ refl (Decides-like _ (λ e. (m, refl, e)) back (not_true (writable_module m))))
  where
    back : ((k : ModuleType) × (module_type m ≡ module_type k) × (writable_module k ≡ false)) → writable_module m ≡ false
    back (k, e, f) = let q : m ≡ k = cc e in ap writable_module q ∙ f

resource_found : (r : Name) (ts : Wholes Shape) → IsFound (node (resource r) ts) (simple (λ n h outer. not (bytes_eq n r) && not (is_given h n (stated_at (resource r) (folded_row found_at ts)))))
resource_found r ts = simply x (λ n h outer. not (bytes_eq n r) && not (is_given h n (stated_at (resource r) (folded_row found_at ts)))) refl (λ o h n. by_reason o h n x IsResource _ refl (decided o h n))
  where
    x : Stated
    x = node (resource r) ts

    given : (h : Holder) (n : Name) → Decides (is_given h n (stated_at (resource r) (folded_row found_at ts))) (IsGiven h n x)
    given h n = subst (λ y. Decides (is_given h n y) (IsGiven h n x)) (sym (stated_again found_at (resource r) ts)) (given_decides h n x)

    decided : (o : Bool) (h : Holder) (n : Name) → Decides (not (bytes_eq n r) && not (is_given h n (stated_at (resource r) (folded_row found_at ts)))) (OwnResource o h n x ⊎ Aliased o h n x)
    decided o h n = Decides-like _ (λ f. inl (r, refl, f.0, f.1)) back (Decides-and (not (bytes_eq n r)) _ (Decides-not (bytes_eq n r) (bytes_decides n r)) (Decides-not _ (given h n)))
      where
        back : OwnResource o h n x ⊎ Aliased o h n x → (n ≡ r → ⊥) × (IsGiven h n x → ⊥)
        back (inl (q, e, f, g)) = let s : r ≡ q = cc e in (λ k. f (k ∙ s), g)
        back (inr (q, e, f)) = absurd (let c : ⊥ = cc e in c)

alias_found : (r : Name) (ts : Wholes Shape) → IsFound (node (resource_alias r) ts) (simple (λ n h outer. not (has_name h.roots (root_name (stated_at (resource_alias r) (folded_row found_at ts))))))
alias_found r ts = simply x (λ n h outer. not (has_name h.roots (root_name (stated_at (resource_alias r) (folded_row found_at ts))))) refl (λ o h n. by_reason o h n x IsResource _ refl (decided o h n))
  where
    x : Stated
    x = node (resource_alias r) ts

    rooted : (h : Holder) → Decides (has_name h.roots (root_name (stated_at (resource_alias r) (folded_row found_at ts)))) (HasRoot h x)
    rooted h = subst (λ y. Decides (has_name h.roots (root_name y)) (HasRoot h x)) (sym (stated_again found_at (resource_alias r) ts)) (has_decides h.roots (root_name x))

    decided : (o : Bool) (h : Holder) (n : Name) → Decides (not (has_name h.roots (root_name (stated_at (resource_alias r) (folded_row found_at ts))))) (OwnResource o h n x ⊎ Aliased o h n x)
    decided o h n = Decides-like _ (λ f. inr (r, refl, f)) back (Decides-not _ (rooted h))
      where
        back : OwnResource o h n x ⊎ Aliased o h n x → HasRoot h x → ⊥
        back (inl (q, e, f, g)) = absurd (let c : ⊥ = cc e in c)
        back (inr (q, e, f)) = f

func_found : (s : Shape) (ts : Wholes Shape) (k : Kind) → shape_kind s ≡ k → has_items k ≡ false → ((o : Bool) (h : Holder) (n : Name) → Reason o h n k (node s ts) ≡ SomePlace o h n (node s ts)) → IsFound (node s ts) (simple (λ n h outer. any_value h (folded_row found_at ts)))
func_found s ts k e q r =
    simply (node s ts) (λ n h outer. any_value h (folded_row found_at ts)) (ap has_items e ∙ q)
    (λ o h n. by_reason o h n (node s ts) k _ e (subst (Decides (any_value h (folded_row found_at ts))) (sym (r o h n)) (places_found s ts h)))

-- ---- interfaces and component types

module _ (i : Option Name) (us : List (Name × Option Name)) (es : List Name) (ts : Wholes Shape) (f : RowFound (folded_row found_at ts)) where
  abbrev parts : Parts Found
  parts = parts_at (interface i us es) (folded_row found_at ts)

  -- an instance of the interface, or the interface as a type
  interface_found : (x : Stated) (k : Kind) → kind_of x ≡ k → has_items k ≡ true → ((o : Bool) (h : Holder) (n : Name) → Reason o h n k x ≡ ItemsFail o (uses_of x) (exports_of x))
      → used_of parts ≡ uses_of x → plain parts.exports ≡ exports_of x → IsFound x (found_interface parts)
  interface_found x k e q r eu ex = record {
    test = λ o h n. by_reason o h n x k _ e (subst (Decides (interface_fails (used_of parts) parts.exports o)) (sym (r o h n)) (whole o));
    types = λ o. Decides-like _ (λ t. (ap has_items e ∙ q, t)) (λ t. t.1) (of_types o);
    only = λ m a. (ap has_items e ∙ q, moved m (listed_needed parts.uses parts.exports fu fx m a));
    all = λ _ u n w d. needed_listed parts.uses parts.exports fu fx u n (subst (λ l. Needs l (plain parts.exports) u) (sym eu) (subst (λ l. Needs (uses_of x) l u) (sym ex) w)) d;
  }
    where
      fu : UsesFound parts.uses
      fu = uses_found us (folded_row found_at ts) f

      fx : ItemsFound parts.exports
      fx = names_found es (drop (length us) (folded_row found_at ts)) (drop_found (length us) (folded_row found_at ts) f)

      whole : (o : Bool) → Decides (interface_fails (used_of parts) parts.exports o) (ItemsFail o (uses_of x) (exports_of x))
      whole o = subst (λ l. Decides (interface_fails (used_of parts) parts.exports o) (ItemsFail o l (exports_of x))) eu
          (subst (λ l. Decides (interface_fails (used_of parts) parts.exports o) (ItemsFail o (used_of parts) l)) ex (interface_decides o (used_of parts) parts.exports fx))

      named : plain (type_items parts.exports) ≡ type_exports x
      named = plain_types parts.exports ∙ ap (filter (λ e. is_type (kind_of e.1))) ex

      of_types : (o : Bool) → Decides (interface_fails (used_of parts) (type_items parts.exports) o) (ItemsFail o (uses_of x) (type_exports x))
      of_types o = subst (λ l. Decides (interface_fails (used_of parts) (type_items parts.exports) o) (ItemsFail o l (type_exports x))) eu
          (subst (λ l. Decides (interface_fails (used_of parts) (type_items parts.exports) o) (ItemsFail o (used_of parts) l)) named (interface_decides o (used_of parts) (type_items parts.exports) (types_found parts.exports fx)))

      moved : (m : Needed) → IsNeeded (used_of parts) (plain parts.exports) m → IsNeeded (uses_of x) (exports_of x) m
      moved m = subst (λ l. IsNeeded (used_of parts) (plain parts.exports) m → IsNeeded l (exports_of x) m) eu (subst (λ l. IsNeeded (used_of parts) (plain parts.exports) m → IsNeeded (used_of parts) l m) ex (λ w. w))

module _ (i : Option Name) (us : List (Name × Option Name)) (is es : List Name) (ts : Wholes Shape) (f : RowFound (folded_row found_at ts)) where
  abbrev world_parts : Parts Found
  world_parts = parts_at (world i us is es) (folded_row found_at ts)

  uses_are : UsesFound world_parts.uses
  uses_are = uses_found us (folded_row found_at ts) f

  imports_are : ItemsFound world_parts.imports
  imports_are = names_found is (drop (length us) (folded_row found_at ts)) (drop_found (length us) (folded_row found_at ts) f)

  exports_are : ItemsFound world_parts.exports
  exports_are = names_found es (drop (length us + length is) (folded_row found_at ts)) (drop_found (length us + length is) (folded_row found_at ts) f)

  world_found : (x : Stated) (k : Kind) → kind_of x ≡ k → has_items k ≡ false → ((o : Bool) (h : Holder) (n : Name) → Reason o h n k x ≡ ComponentFails o x)
      → used_of world_parts ≡ uses_of x → plain world_parts.imports ≡ imports_of x → plain world_parts.exports ≡ exports_of x → IsFound x (simple (λ n h outer. world_fails world_parts outer))
  world_found x k e q r eu ei ex =
      simply x (λ n h outer. world_fails world_parts outer) (ap has_items e ∙ q)
      (λ o h n. by_reason o h n x k _ e (subst (Decides (world_fails world_parts o)) (sym (r o h n)) (component_decides world_parts uses_are imports_are exports_are o x eu ei ex)))

  package_found : Decides (package_fails world_parts) (PackageCannotBeWritten (node (world i us is es) ts))
  package_found =
      Decides-like _ (λ f. record { component = refl; fails = f }) (λ h. h.fails)
      (package_decides world_parts uses_are imports_are exports_are (node (world i us is es) ts) (same_uses us (folded_row found_at ts) (only_places ts) (both_firsts ts))
      (same_behind (length us) is (folded_row found_at ts) (only_places ts) (both_firsts ts)) (same_behind (length us + length is) es (folded_row found_at ts) (only_places ts) (both_firsts ts)))

component_as : (x : Stated) (p : Parts Found) → IsFound x (simple (λ n h outer. world_fails p outer)) → IsFound x (found_component p)
component_as x p h = record { test = h.test; types = h.types; only = h.only; all = h.all }

-- ---- all labels

of_type : (s : Shape) (ts : Wholes Shape) → RowFound (folded_row found_at ts) → IsFound (node (type_of s) ts) (found_at (type_of s) (folded_row found_at ts))
of_type (func ps a) ts f = func_found (type_of (func ps a)) ts IsFunctionType refl refl (λ o h n. refl)
of_type (interface i us es) ts f = interface_found i us es ts f (node (type_of (interface i us es)) ts) IsInterface refl refl (λ o h n. refl) (same_uses us (folded_row found_at ts) (only_places ts) (both_firsts ts)) (same_behind (length us) es (folded_row found_at ts) (only_places ts) (both_firsts ts))
of_type (world i us is es) ts f = world_found i us is es ts f (node (type_of (world i us is es)) ts) IsWorld refl refl (λ o h n. refl) (same_uses us (folded_row found_at ts) (only_places ts) (both_firsts ts)) (same_behind (length us) is (folded_row found_at ts) (only_places ts) (both_firsts ts)) (same_behind (length us + length is) es (folded_row found_at ts) (only_places ts) (both_firsts ts))
of_type (module_type m) ts f = simply (node (type_of (module_type m)) ts) (λ n h outer. true) refl (λ o h n. always (module_as_type refl))
of_type (primitive p) ts f = value_type_found (primitive p) ts refl
of_type tuple ts f = value_type_found tuple ts refl
of_type list ts f = value_type_found list ts refl
of_type (fixed_size_list n) ts f = value_type_found (fixed_size_list n) ts refl
of_type option ts f = value_type_found option ts refl
of_type result ts f = value_type_found result ts refl
of_type (variant ns) ts f = value_type_found (variant ns) ts refl
of_type (record_of ns) ts f = value_type_found (record_of ns) ts refl
of_type (flags ns) ts f = value_type_found (flags ns) ts refl
of_type (enum ns) ts f = value_type_found (enum ns) ts refl
of_type alias ts f = value_type_found alias ts refl
of_type stream ts f = value_type_found stream ts refl
of_type future ts f = value_type_found future ts refl
of_type (resource n) ts f = value_type_found (resource n) ts refl
of_type (resource_alias n) ts f = value_type_found (resource_alias n) ts refl
of_type (own_of s) ts f = value_type_found (own_of s) ts refl
of_type (borrow_of s) ts f = value_type_found (borrow_of s) ts refl
of_type (type_of s) ts f = value_type_found (type_of s) ts refl

of_label : (s : Shape) (ts : Wholes Shape) → RowFound (folded_row found_at ts) → IsFound (node s ts) (found_at s (folded_row found_at ts))
of_label (func ps a) ts f = func_found (func ps a) ts IsFunction refl refl (λ o h n. refl)
of_label (interface i us es) ts f = interface_found i us es ts f (node (interface i us es) ts) IsInstance refl refl (λ o h n. refl) (same_uses us (folded_row found_at ts) (only_places ts) (both_firsts ts)) (same_behind (length us) es (folded_row found_at ts) (only_places ts) (both_firsts ts))
of_label (world i us is es) ts f = component_as (node (world i us is es) ts) (parts_at (world i us is es) (folded_row found_at ts)) (world_found i us is es ts f (node (world i us is es) ts) IsComponent refl refl (λ o h n. refl) (same_uses us (folded_row found_at ts) (only_places ts) (both_firsts ts)) (same_behind (length us) is (folded_row found_at ts) (only_places ts) (both_firsts ts)) (same_behind (length us + length is) es (folded_row found_at ts) (only_places ts) (both_firsts ts)))
of_label (module_type m) ts f = module_found m ts
of_label (type_of s) ts f = of_type s ts f
of_label (resource r) ts f = resource_found r ts
of_label (resource_alias r) ts f = alias_found r ts
of_label (primitive p) ts f = value_found (primitive p) ts refl
of_label tuple ts f = value_found tuple ts refl
of_label list ts f = value_found list ts refl
of_label (fixed_size_list n) ts f = value_found (fixed_size_list n) ts refl
of_label option ts f = value_found option ts refl
of_label result ts f = value_found result ts refl
of_label (variant ns) ts f = value_found (variant ns) ts refl
of_label (record_of ns) ts f = value_found (record_of ns) ts refl
of_label (flags ns) ts f = value_found (flags ns) ts refl
of_label (enum ns) ts f = value_found (enum ns) ts refl
of_label alias ts f = value_found alias ts refl
of_label stream ts f = value_found stream ts refl
of_label future ts f = value_found future ts refl
of_label (own_of s) ts f = value_found (own_of s) ts refl
of_label (borrow_of s) ts f = value_found (borrow_of s) ts refl

mutual
  found_is : (x : Stated) → IsFound x (folded found_at x)
  found_is (node s ts) = of_label s ts (row_is ts)

  row_is : (ts : Wholes Shape) → RowFound (folded_row found_at ts)
  row_is no_more = tt
  row_is (hole ts) = row_is ts
  row_is (more t ts) = (found_is t, row_is ts)

-- the test says yes exactly of what cannot be written
pub written_decides : (outer : Bool) (h : Holder) (n : Name) (x : Stated) → Decides (unwritable x n h outer) (CannotBeWritten outer h n x)
written_decides o h n x = (found_is x).test o h n

-- ---- packages

abbrev is_component : Kind → Bool
is_component IsComponent = true
is_component k = false

no_package : (x : Stated) → is_component (kind_of x) ≡ false → Decides false (PackageCannotBeWritten x)
no_package x e = (λ q. absurd (true≢false (sym q)), λ h. absurd (true≢false (sym (ap is_component h.component) ∙ e)))

type_package : (s : Shape) (ts : Wholes Shape) → Decides (found_at (type_of s) (folded_row found_at ts)).as_package (PackageCannotBeWritten (node (type_of s) ts))
type_package (func ps a) ts = no_package (node (type_of (func ps a)) ts) refl
type_package (interface i us es) ts = no_package (node (type_of (interface i us es)) ts) refl
type_package (world i us is es) ts = no_package (node (type_of (world i us is es)) ts) refl
type_package (module_type m) ts = no_package (node (type_of (module_type m)) ts) refl
type_package (primitive p) ts = no_package (node (type_of (primitive p)) ts) refl
type_package tuple ts = no_package (node (type_of tuple) ts) refl
type_package list ts = no_package (node (type_of list) ts) refl
type_package (fixed_size_list n) ts = no_package (node (type_of (fixed_size_list n)) ts) refl
type_package option ts = no_package (node (type_of option) ts) refl
type_package result ts = no_package (node (type_of result) ts) refl
type_package (variant ns) ts = no_package (node (type_of (variant ns)) ts) refl
type_package (record_of ns) ts = no_package (node (type_of (record_of ns)) ts) refl
type_package (flags ns) ts = no_package (node (type_of (flags ns)) ts) refl
type_package (enum ns) ts = no_package (node (type_of (enum ns)) ts) refl
type_package alias ts = no_package (node (type_of alias) ts) refl
type_package stream ts = no_package (node (type_of stream) ts) refl
type_package future ts = no_package (node (type_of future) ts) refl
type_package (resource n) ts = no_package (node (type_of (resource n)) ts) refl
type_package (resource_alias n) ts = no_package (node (type_of (resource_alias n)) ts) refl
type_package (own_of s) ts = no_package (node (type_of (own_of s)) ts) refl
type_package (borrow_of s) ts = no_package (node (type_of (borrow_of s)) ts) refl
type_package (type_of s) ts = no_package (node (type_of (type_of s)) ts) refl

label_package : (s : Shape) (ts : Wholes Shape) → Decides (found_at s (folded_row found_at ts)).as_package (PackageCannotBeWritten (node s ts))
label_package (func ps a) ts = no_package (node (func ps a) ts) refl
label_package (interface i us es) ts = no_package (node (interface i us es) ts) refl
label_package (world i us is es) ts = package_found i us is es ts (row_is ts)
label_package (module_type m) ts = no_package (node (module_type m) ts) refl
label_package (type_of s) ts = type_package s ts
label_package (primitive p) ts = no_package (node (primitive p) ts) refl
label_package tuple ts = no_package (node tuple ts) refl
label_package list ts = no_package (node list ts) refl
label_package (fixed_size_list n) ts = no_package (node (fixed_size_list n) ts) refl
label_package option ts = no_package (node option ts) refl
label_package result ts = no_package (node result ts) refl
label_package (variant ns) ts = no_package (node (variant ns) ts) refl
label_package (record_of ns) ts = no_package (node (record_of ns) ts) refl
label_package (flags ns) ts = no_package (node (flags ns) ts) refl
label_package (enum ns) ts = no_package (node (enum ns) ts) refl
label_package alias ts = no_package (node alias ts) refl
label_package stream ts = no_package (node stream ts) refl
label_package future ts = no_package (node future ts) refl
label_package (resource n) ts = no_package (node (resource n) ts) refl
label_package (resource_alias n) ts = no_package (node (resource_alias n) ts) refl
label_package (own_of s) ts = no_package (node (own_of s) ts) refl
label_package (borrow_of s) ts = no_package (node (borrow_of s) ts) refl

pub package_decides_of : (n : Name) (x : Stated) → Decides (package_unwritable (n, x)) (PackageCannotBeWritten x)
package_decides_of n (node s ts) = label_package s ts
