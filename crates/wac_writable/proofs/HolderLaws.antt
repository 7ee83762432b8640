-- What a holder has, one use and one item after the other.
use Rattle.std.proofs.Common.{◌≡◌, ℕ, zero, suc, ◌+◌, ◌≤◌, ◌==◌, Bool, true, false, true≢false, ◌||◌, ◌&&◌, List, [], ◌∷◌, ◌++◌, map, take, drop, length, Option, Some, None, inl, inr, refl, sym, ap, ◌∙◌, subst, slice_get, unwrap_or}
use Rattle.std.specs.Prelude.{filter, filter_map, option_map, bytes_eq, if◌then◌else◌}
use Rattle.std.specs.List.{list_any, cons_option}
use Rattle.std.specs.Cmp.Lexicographic.{pointwise}
use Rattle.std.proofs.Math.Bool.{or_comm}
use Rattle.std.proofs.lemmas.List.{map-append, append-nil}
use Rattle.std.proofs.lemmas.List.Elements.{filter_map-append, filter-append}
use Rattle.std.proofs.lemmas.Slice.Eq.{bytes_eq-Decides}
use Rattle.wac_types_base.specs.declared.ids.InterfaceId.{InterfaceId}
use Rattle.wac_types_base.specs.declared.ids.DefinedTypeId.{DefinedTypeId}
use Rattle.wac_types_base.specs.declared.item.ItemKind.{ItemKind}
use Rattle.wac_types_base.specs.declared.item.«Type».{«Type» as TypeKind}
use Rattle.wac_types_base.specs.declared.defined.UsedType.{UsedType}
use Rattle.wac_types_base.specs.Entries.{Name, names_of, with_values, value_at, has_name, put_name, AreDistinct}
use Rattle.wac_types_base.specs.Record.{Collection}
use Rattle.wac_types_base.specs.Graph.{Among}
use Rattle.wac_types_base.specs.Collection.{Stands, IsAcyclic}
use Rattle.wac_types_base.specs.Stated.{Stated, Used, kind_of, stated_of, exports_of, root_name}
use Rattle.wac_types_base.specs.Tree.{tree}
use Rattle.wac_types_base.proofs.Standing.{interface_found}
use Rattle.wac_types_base.proofs.Telling.{item_kind, kind_stated}
use Rattle.wac_types_base.proofs.Stating.{stated_uses, value_with}
use Rattle.wac_types_base.proofs.Looked.{put_entry-new, among-get, take-one_more}
use Rattle.wac_types_base.proofs.Lists.{among_split}
use Rattle.wac_types_base.proofs.Loops.{names-with_values, take-all}
use Rattle.wac_composition.specs.Tests.{same_tree}
use Rattle.wac_composition.specs.Writable.{is_used_kind, usable, is_resource, is_fresh, root_of, taken, there_of, holder, with_roots, is_taken_as, is_given, is_used_value}
use Rattle.wac_composition.specs.Writable.{Holder as Held}
use Rattle.wac_types_parts.specs.Parts.{exports_of as exports_in, IsUseAt, used_kind, used_if, taken_in}
use Rattle.wac_types_parts.specs.declared.parts.Use.{Use}
use Rattle.wac_types_fit.proofs.Items.{value_at-among}
use Rattle.wac_types_parts.proofs.Lists.{take_zero}
use Rattle.wac_types_parts.proofs.PartLaws.{exports_there, exports_missing, export_stands}
use Rattle.wac_writable.specs.declared.holder.Holder.{Holder}
use Rattle.wac_writable.specs.Holders.{Shows, Holds, IsFilled, AddsRoots, KnowsValues, fresh_roots, named_roots, with_use, is_used_as}
use Rattle.wac_writable.proofs.UnnamedLaws.{any_at}
use Rattle.wac_types_parts.proofs.PartsStated.{exports_are, stands_or_not}

-- ---- lists

or_false : (b : Bool) → b ≡ (b || false)
or_false true = refl
or_false false = refl

or_assoc : (a b c : Bool) → ((a || b) || c) ≡ (a || (b || c))
or_assoc true b c = refl
or_assoc false b c = refl

-- a name at a place is none of those before, where names are distinct
not_before : {T : Type 0} (xs : List (Name × T)) (i : ℕ) (x : Name × T) → AreDistinct (names_of xs) → slice_get xs i ≡ Some x → Among x.0 (names_of (take i xs)) → ⊥
not_before [] i x d e m = absurd (cc e)
not_before (y ∷ ys) zero x d e m = m
not_before (y ∷ ys) (suc i) x d e (inl s) = d.0 (subst (λ n. Among n (names_of ys)) s (among_names ys i e))
  where
    among_names : {T : Type 0} {x : Name × T} (ys : List (Name × T)) (i : ℕ) → slice_get ys i ≡ Some x → Among x.0 (names_of ys)
    among_names [] i e = absurd (cc e)
    among_names {x = x} (y ∷ ys) zero e = let s : y ≡ x = cc e in inl (ap (λ p. p.0) (sym s))
    among_names (y ∷ ys) (suc i) e = inr (among_names ys i e)
not_before (y ∷ ys) (suc i) x d e (inr m) = not_before ys i x d.1 e m

-- ---- names

pub has_append : (ms ns : List Name) (n : Name) → has_name (ms ++ ns) n ≡ (has_name ms n || has_name ns n)
has_append [] ns n = refl
has_append (m ∷ ms) ns n = ap (λ b. pointwise ◌==◌ n m || b) (has_append ms ns n) ∙ sym (or_assoc (pointwise ◌==◌ n m) (has_name ms n) (has_name ns n))

pub has_put : (ms : List Name) (m n : Name) → has_name (put_name ms m) n ≡ (has_name ms n || pointwise ◌==◌ n m)
has_put ms m n = by (has_name ms m) refl
  where
    there : (b : Bool) → pointwise ◌==◌ n m ≡ b → has_name ms m ≡ true → has_name ms n ≡ (has_name ms n || b)
    there false e h = or_false (has_name ms n)
    there true e h = let same : n ≡ m = (bytes_eq-Decides n m).0 e in let t : has_name ms n ≡ true = ap (has_name ms) same ∙ h in t ∙ ap (λ b. b || true) (sym t)

    by : (b : Bool) → has_name ms m ≡ b → has_name (if b then ms else ms ++ m ∷ []) n ≡ (has_name ms n || pointwise ◌==◌ n m)
    by true e = there (pointwise ◌==◌ n m) refl e
    by false e = has_append ms (m ∷ []) n ∙ ap (λ b. has_name ms n || b) (sym (or_false (pointwise ◌==◌ n m)))

-- ---- roots of resources under their own names

module _ (c : Collection) where
  pub adds_none : (s : Holder) → AddsRoots c s [] s
  adds_none s = record { used = refl; tested = refl; roots = λ n. or_false (has_name s.roots n) }

  fresh_more : (es : List (Name × Stated)) (e : Name × Stated) (n : Name) (b : Bool) → is_fresh e ≡ b → has_name (fresh_roots (es ++ e ∷ [])) n ≡ (has_name (fresh_roots es) n || (b && pointwise ◌==◌ n (root_of e)))
  fresh_more es e n b h =
      ap (λ l. has_name (map root_of l) n) (filter-append is_fresh es (e ∷ []))
      ∙ ap (λ l. has_name l n) (map-append root_of (filter is_fresh es) (filter is_fresh (e ∷ [])))
      ∙ has_append (fresh_roots es) (map root_of (filter is_fresh (e ∷ []))) n
      ∙ ap (λ t. has_name (fresh_roots es) n || has_name (map root_of (if t then e ∷ [] else [])) n) h
      ∙ by b
    where
      by : (b : Bool) → (has_name (fresh_roots es) n || has_name (map root_of (if b then e ∷ [] else [])) n) ≡ (has_name (fresh_roots es) n || (b && pointwise ◌==◌ n (root_of e)))
      by true = ap (λ b. has_name (fresh_roots es) n || b) (sym (or_false (pointwise ◌==◌ n (root_of e))))
      by false = refl

  pub adds_next : (s t : Holder) (es : List (Name × Stated)) (n : Name) (k : ItemKind) → AddsRoots c s es t → AddsRoots c s (es ++ (n, stated_of c k) ∷ []) (record t { roots = named_roots c n k t.roots })
  adds_next s t es n k h = record { used = h.used; tested = h.tested; roots = λ m. by m (is_fresh (n, stated_of c k)) refl }
    where
      root_is : (b : Bool) → (is_resource (kind_of (stated_of c k)) && b) ≡ true → b ≡ true
      root_is b e = second (is_resource (kind_of (stated_of c k))) b e
        where
          second : (a b : Bool) → (a && b) ≡ true → b ≡ true
          second true b e = e
          second false b e = absurd (true≢false (sym e))

      by : (m : Name) (b : Bool) → is_fresh (n, stated_of c k) ≡ b → has_name (if b then put_name t.roots n else t.roots) m ≡ (has_name s.roots m || has_name (fresh_roots (es ++ (n, stated_of c k) ∷ [])) m)
      by m true e =
          let same : n ≡ root_name (stated_of c k) = (bytes_eq-Decides n (root_name (stated_of c k))).0 (root_is (bytes_eq n (root_name (stated_of c k))) e) in
          has_put t.roots n m ∙ ap (λ b. b || pointwise ◌==◌ m n) (h.roots m) ∙ or_assoc (has_name s.roots m) (has_name (fresh_roots es) m) (pointwise ◌==◌ m n)
          ∙ ap (λ r. has_name s.roots m || (has_name (fresh_roots es) m || pointwise ◌==◌ m r)) same
          ∙ ap (λ b. has_name s.roots m || b) (sym (fresh_more es (n, stated_of c k) m true e))
      by m false e = h.roots m ∙ ap (λ b. has_name s.roots m || b) (or_false (has_name (fresh_roots es) m) ∙ sym (fresh_more es (n, stated_of c k) m false e))

  with_next : (es : List (Name × ItemKind)) (e : Name × ItemKind) → with_values (stated_of c) (es ++ e ∷ []) ≡ with_values (stated_of c) es ++ (e.0, stated_of c e.1) ∷ []
  with_next es e = map-append (λ (x : Name × ItemKind). (x.0, stated_of c x.1)) es (e ∷ [])

  -- one more of a list of items
  pub adds_at : (s t u : Holder) (es : List (Name × ItemKind)) (at : ℕ) (n : Name) (k : ItemKind) → slice_get es at ≡ Some (n, k) → AddsRoots c s (with_values (stated_of c) (take at es)) t
      → u ≡ record t { roots = named_roots c n k t.roots } → AddsRoots c s (with_values (stated_of c) (take (at + 1) es)) u
  adds_at s t u es at n k e h is =
      subst (λ l. AddsRoots c s l u) (sym (ap (with_values (stated_of c)) (take-one_more es at (n, k) e) ∙ with_next (take at es) (n, k)))
      (subst (AddsRoots c s (with_values (stated_of c) (take at es) ++ (n, stated_of c k) ∷ [])) (sym is) (adds_next s t (with_values (stated_of c) (take at es)) n k h))

  pub adds_first : (s : Holder) (es : List (Name × ItemKind)) → AddsRoots c s (with_values (stated_of c) (take 0 es)) s
  adds_first s es = subst (λ l. AddsRoots c s (with_values (stated_of c) l) s) (sym (take_zero es)) (adds_none s)

  pub adds_all : (s t : Holder) (es : List (Name × ItemKind)) (at : ℕ) (xs : List (Name × Stated)) → length es ≤ at → xs ≡ with_values (stated_of c) es → AddsRoots c s (with_values (stated_of c) (take at es)) t → AddsRoots c s xs t
  adds_all s t es at xs past is h = subst (λ l. AddsRoots c s l t) (ap (with_values (stated_of c)) (take-all es at past) ∙ sym is) h

-- ---- uses

abbrev taken_roots : List Used → List Name
taken_roots us = map root_of (filter (λ e. is_resource (kind_of e.1)) (filter_map taken us))

taken_names : (us : List Used) (n : Name) → Among n (names_of (filter_map taken us)) → Among n (map (λ u. u.name) us)
taken_names (u ∷ us) n m = by (usable (value_at (exports_of u.interface) (there_of u))) (taken_names us n) m
  where
    by : (o : Option Stated) → (Among n (names_of (filter_map taken us)) → Among n (map (λ u. u.name) us)) → Among n (names_of (cons_option (option_map (λ x. (u.name, x)) o) (filter_map taken us))) → Among n (map (λ u. u.name) (u ∷ us))
    by None f m = inr (f m)
    by (Some x) f (inl e) = inl e
    by (Some x) f (inr m) = inr (f m)
taken_names [] n m = m

-- what is of a kind that can be used was there
pub used_from : (o : Option ItemKind) (k : ItemKind) → used_if o ≡ Some k → o ≡ Some k
used_from None k e = e
used_from (Some (ItemKind.Ty (TypeKind.Resource r))) k e = e
used_from (Some (ItemKind.Ty (TypeKind.Value v))) k e = e
used_from (Some (ItemKind.Ty (TypeKind.Func f))) k e = absurd (cc e)
used_from (Some (ItemKind.Ty (TypeKind.Interface f))) k e = absurd (cc e)
used_from (Some (ItemKind.Ty (TypeKind.World f))) k e = absurd (cc e)
used_from (Some (ItemKind.Ty (TypeKind.Module f))) k e = absurd (cc e)
used_from (Some (ItemKind.Func f)) k e = absurd (cc e)
used_from (Some (ItemKind.Instance f)) k e = absurd (cc e)
used_from (Some (ItemKind.Component f)) k e = absurd (cc e)
used_from (Some (ItemKind.Module f)) k e = absurd (cc e)
used_from (Some (ItemKind.Value v)) k e = absurd (cc e)

module _ (c : Collection) (a : IsAcyclic c) where
  uses_names : (us : List (Name × UsedType)) → map (λ u. u.name) (stated_uses c us) ≡ names_of us
  uses_names [] = refl
  uses_names (u ∷ us) = ap (λ l. u.0 ∷ l) (uses_names us)

  uses_next : (us : List (Name × UsedType)) (u : Name × UsedType) → stated_uses c (us ++ u ∷ []) ≡ stated_uses c us ++ stated_uses c (u ∷ [])
  uses_next [] u = refl
  uses_next (x ∷ us) u = ap (λ l. record { name = x.0; there = x.1.name; interface = stated_of c (ItemKind.Instance x.1.interface) } ∷ l) (uses_next us u)

  pub export_item_stands : (id : InterfaceId) (n : Name) (k : ItemKind) → value_at (exports_in c id) n ≡ Some k → Stands c k
  export_item_stands id n k e = elim (stands_or_not c (ItemKind.Instance id)) [
    | inl s ↦ let f = interface_found c id s in export_stands c id a f.value s f.at f.own n k (ap (λ l. value_at l n) (sym (exports_there c id f.value f.at f.own)) ∙ e)
    | inr h ↦ let l : value_at (exports_in c id) n ≡ None = ap (λ l. value_at l n) (exports_missing c id h) in absurd (let z : ⊥ = cc (l, e) in z)
  ]

  -- what a use takes
  module _ (us : List (Name × UsedType)) (u : Name × UsedType) (s : Holder) (h : IsFilled c s (holder (stated_uses c us) [])) (new : Among u.0 (names_of us) → ⊥) where
    abbrev one : Used
    one = record { name = u.0; there = u.1.name; interface = stated_of c (ItemKind.Instance u.1.interface) }

    abbrev more : List (Name × Stated) → Held
    more es = record { used = filter_map taken (stated_uses c us) ++ es; roots = map root_of (filter (λ e. is_resource (kind_of e.1)) (filter_map taken (stated_uses c us) ++ es)) }

    is_new : Among u.0 (names_of s.used) → ⊥
    is_new m =
        new (subst (Among u.0) (uses_names us) (taken_names (stated_uses c us) u.0
        (subst (λ l. Among u.0 (names_of l)) h.shows.used (subst (Among u.0) (sym (names-with_values (stated_of c) s.used)) m))))

    filled_none : IsFilled c s (more [])
    filled_none = subst (λ l. IsFilled c s (record { used = l; roots = map root_of (filter (λ e. is_resource (kind_of e.1)) l) })) (sym (append-nil (filter_map taken (stated_uses c us)))) h

    roots_more : (k : ItemKind) (n : Name) (b : Bool) → is_resource (kind_of (stated_of c k)) ≡ b
        → has_name (if b then put_name s.roots (root_name (stated_of c k)) else s.roots) n ≡ has_name (taken_roots (stated_uses c us) ++ map root_of (if b then (u.0, stated_of c k) ∷ [] else [])) n
    roots_more k n true e =
        has_put s.roots (root_name (stated_of c k)) n ∙ ap (λ b. b || pointwise ◌==◌ n (root_name (stated_of c k))) (h.shows.roots n)
        ∙ ap (λ b. has_name (taken_roots (stated_uses c us)) n || b) (or_false (pointwise ◌==◌ n (root_name (stated_of c k))))
        ∙ sym (has_append (taken_roots (stated_uses c us)) (root_name (stated_of c k) ∷ []) n)
    roots_more k n false e = h.shows.roots n ∙ or_false (has_name (taken_roots (stated_uses c us)) n) ∙ sym (has_append (taken_roots (stated_uses c us)) [] n)

    roots_split : (k : ItemKind) → taken_roots (stated_uses c us) ++ map root_of (if is_resource (kind_of (stated_of c k)) then (u.0, stated_of c k) ∷ [] else []) ≡ (more ((u.0, stated_of c k) ∷ [])).roots
    roots_split k =
        sym (map-append root_of (filter (λ e. is_resource (kind_of e.1)) (filter_map taken (stated_uses c us))) (filter (λ e. is_resource (kind_of e.1)) ((u.0, stated_of c k) ∷ [])))
        ∙ ap (map root_of) (sym (filter-append (λ e. is_resource (kind_of e.1)) (filter_map taken (stated_uses c us)) ((u.0, stated_of c k) ∷ [])))

    filled_some : (k : ItemKind) → Stands c k → IsFilled c (with_use c s u.0 (Some k)) (more ((u.0, stated_of c k) ∷ []))
    filled_some k stands = record {
      shows = record {
        used = ap (with_values (stated_of c)) (put_entry-new s.used u.0 k is_new) ∙ with_next c s.used (u.0, k) ∙ ap (λ l. l ++ (u.0, stated_of c k) ∷ []) h.shows.used;
        stand = λ n j m. stood n j (subst (Among (n, j)) (put_entry-new s.used u.0 k is_new) m);
        roots = λ n. roots_more k n (is_resource (kind_of (stated_of c k))) refl ∙ ap (λ l. has_name l n) (roots_split k);
      };
      untested = h.untested;
    }
      where
        stood : (n : Name) (j : ItemKind) → Among (n, j) (s.used ++ (u.0, k) ∷ []) → Stands c j
        stood n j m = elim (among_split (n, j) s.used ((u.0, k) ∷ []) m) [
          | inl x ↦ h.shows.stand n j x
          | inr (inl e) ↦ subst (λ j. Stands c j) (sym (ap (λ p. p.1) e)) stands
          | inr (inr x) ↦ absurd x
        ]

    filled_next : (o : Option ItemKind) → ((k : ItemKind) → o ≡ Some k → Stands c k) → taken one ≡ option_map (λ k. (u.0, stated_of c k)) o → IsFilled c (with_use c s u.0 o) (holder (stated_uses c (us ++ u ∷ [])) [])
    filled_next o stands is =
        subst (λ l. IsFilled c (with_use c s u.0 o) (record { used = l; roots = map root_of (filter (λ e. is_resource (kind_of e.1)) l) })) (sym all) (by o stands)
      where
        by : (o : Option ItemKind) → ((k : ItemKind) → o ≡ Some k → Stands c k) → IsFilled c (with_use c s u.0 o) (more (cons_option (option_map (λ k. (u.0, stated_of c k)) o) []))
        by None st = filled_none
        by (Some k) st = filled_some k (st k refl)

        all : filter_map taken (stated_uses c (us ++ u ∷ [])) ≡ filter_map taken (stated_uses c us) ++ cons_option (option_map (λ k. (u.0, stated_of c k)) o) []
        all =
            ap (filter_map taken) (uses_next us u) ∙ filter_map-append taken (stated_uses c us) (one ∷ [])
            ∙ ap (λ t. filter_map taken (stated_uses c us) ++ cons_option t []) is

  abbrev named : {X : Type 0} → Name → X → Name × X
  named n x = (n, x)

  pub takes : (u : Name × UsedType) → taken (record { name = u.0; there = u.1.name; interface = stated_of c (ItemKind.Instance u.1.interface) }) ≡ option_map (λ k. named u.0 (stated_of c k)) (used_if (value_at (exports_in c u.1.interface) (unwrap_or u.1.name u.0)))
  takes u =
      ap (λ l. option_map (named u.0) (usable (value_at l (unwrap_or u.1.name u.0)))) (exports_are c a u.1.interface)
      ∙ ap (λ o. option_map (named u.0) (usable o)) (value_with (stated_of c) (exports_in c u.1.interface) (unwrap_or u.1.name u.0))
      ∙ mapped (value_at (exports_in c u.1.interface) (unwrap_or u.1.name u.0)) (λ k q. export_item_stands u.1.interface (unwrap_or u.1.name u.0) k q)
    where
      by_kind : (k : ItemKind) → option_map (named u.0) (if is_used_kind (item_kind k) then Some (stated_of c k) else None) ≡ option_map (λ j. named u.0 (stated_of c j)) (used_kind k)
      by_kind (ItemKind.Ty (TypeKind.Resource r)) = refl
      by_kind (ItemKind.Ty (TypeKind.Value v)) = refl
      by_kind (ItemKind.Ty (TypeKind.Func f)) = refl
      by_kind (ItemKind.Ty (TypeKind.Interface f)) = refl
      by_kind (ItemKind.Ty (TypeKind.World f)) = refl
      by_kind (ItemKind.Ty (TypeKind.Module f)) = refl
      by_kind (ItemKind.Func f) = refl
      by_kind (ItemKind.Instance f) = refl
      by_kind (ItemKind.Component f) = refl
      by_kind (ItemKind.Module f) = refl
      by_kind (ItemKind.Value v) = refl

      mapped : (o : Option ItemKind) → ((k : ItemKind) → o ≡ Some k → Stands c k) → option_map (named u.0) (usable (option_map (stated_of c) o)) ≡ option_map (λ k. named u.0 (stated_of c k)) (used_if o)
      mapped None st = refl
      mapped (Some k) st = ap (λ q. option_map (named u.0) (if is_used_kind q then Some (stated_of c k) else None)) (kind_stated c a k (st k refl)) ∙ by_kind k

  pub filled_first : (s : Holder) (us : List (Name × UsedType)) → IsFilled c s (holder [] []) → IsFilled c s (holder (stated_uses c (take 0 us)) [])
  filled_first s us h = subst (λ l. IsFilled c s (holder (stated_uses c l) [])) (sym (take_zero us)) h

  -- one more of a list of uses
  pub filled_at : (us : List (Name × UsedType)) (at : ℕ) (u : Use) (s t : Holder) → AreDistinct (names_of us) → IsUseAt us at u → IsFilled c s (holder (stated_uses c (take at us)) [])
      → t ≡ with_use c s u.name.now (taken_in c u) → IsFilled c t (holder (stated_uses c (take (at + 1) us)) [])
  filled_at us at u s t distinct (e, there, is) h same =
      let o = used_if (value_at (exports_in c e.1.interface) (unwrap_or e.1.name e.0)) in
      let taken_is : t ≡ with_use c s e.0 o = same ∙ ap (λ n. with_use c s n (taken_in c u)) is.name ∙ ap (λ n. with_use c s e.0 (used_if (value_at (exports_in c u.interface) n))) is.there
      ∙ ap (λ i. with_use c s e.0 (used_if (value_at (exports_in c i) (unwrap_or e.1.name e.0)))) is.interface in
      subst (λ l. IsFilled c t (holder (stated_uses c l) [])) (sym (take-one_more us at e there))
      (subst (λ t. IsFilled c t (holder (stated_uses c (take at us ++ e ∷ [])) [])) (sym taken_is)
      (filled_next (take at us) e s h (not_before us at e distinct there) o (λ k q. export_item_stands e.1.interface (unwrap_or e.1.name e.0) k (used_from (value_at (exports_in c e.1.interface) (unwrap_or e.1.name e.0)) k q)) (takes e)))

  pub filled_all : (us : List (Name × UsedType)) (at : ℕ) (s : Holder) (xs : List Used) → length us ≤ at → xs ≡ stated_uses c us → IsFilled c s (holder (stated_uses c (take at us)) []) → IsFilled c s (holder xs [])
  filled_all us at s xs past is h = subst (λ l. IsFilled c s (holder l [])) (ap (stated_uses c) (take-all us at past) ∙ sym is) h

-- ---- whole holders

module _ (c : Collection) where
  untested_knows : (es : List (DefinedTypeId × Bool)) (h : Held) → es ≡ [] → KnowsValues c es h
  untested_knows es h e d b s q = absurd (let z : ⊥ = cc (e, q) in z)

  pub holds_interface : (us : List Used) (es : List (Name × Stated)) (s t : Holder) → IsFilled c s (holder us []) → AddsRoots c s es t → Holds c t (holder us es)
  holds_interface us es s t f g = record {
    shows = record {
      used = ap (with_values (stated_of c)) g.used ∙ f.shows.used;
      stand = λ n k m. f.shows.stand n k (subst (Among (n, k)) g.used m);
      roots = λ n. g.roots n ∙ ap (λ b. b || has_name (fresh_roots es) n) (f.shows.roots n) ∙ or_comm (has_name (taken_roots us) n) (has_name (fresh_roots es) n) ∙ sym (has_append (fresh_roots es) (taken_roots us) n);
    };
    knows = untested_knows t.tested.entries (holder us es) (ap (λ m. m.entries) g.tested ∙ f.untested);
  }

  pub filled_world : (us : List Used) (is es : List (Name × Stated)) (s t u : Holder) → IsFilled c s (holder us []) → AddsRoots c s is t → AddsRoots c t es u → IsFilled c u (with_roots (holder us is) (fresh_roots es))
  filled_world us is es s t u f g h =
      let i = holds_interface us is s t f g in
      record {
        shows = record {
          used = ap (with_values (stated_of c)) h.used ∙ i.shows.used;
          stand = λ n k m. i.shows.stand n k (subst (Among (n, k)) h.used m);
          roots = λ n. h.roots n ∙ ap (λ b. b || has_name (fresh_roots es) n) (i.shows.roots n) ∙ sym (has_append (holder us is).roots (fresh_roots es) n);
        };
        untested = ap (λ m. m.entries) (h.tested ∙ g.tested) ∙ f.untested;
      }

  pub filled_holds : (s : Holder) (h : Held) → IsFilled c s h → Holds c s h
  filled_holds s h f = record { shows = f.shows; knows = untested_knows s.tested.entries h f.untested }

  pub starts_empty : (s : Holder) → s.used ≡ [] → s.roots ≡ [] → s.tested.entries ≡ [] → IsFilled c s (holder [] [])
  starts_empty s a b d = record { shows = record { used = ap (with_values (stated_of c)) a; stand = λ n k m. absurd (subst (Among (n, k)) a m); roots = λ n. ap (λ l. has_name l n) b }; untested = d }

  -- ---- what a holder answers

  pub gives_some : (s : Holder) (h : Held) (n : Name) (k : ItemKind) (x : Stated) → Shows c s h → value_at s.used n ≡ Some k → is_given h n x ≡ same_tree (tree (stated_of c k)) (tree x)
  gives_some s h n k x f e = ap (λ l. is_taken_as (value_at l n) x) (sym f.used) ∙ ap (λ o. is_taken_as o x) (value_with (stated_of c) s.used n ∙ ap (option_map (stated_of c)) e)

  pub gives_none : (s : Holder) (h : Held) (n : Name) (x : Stated) → Shows c s h → value_at s.used n ≡ None → false ≡ is_given h n x
  gives_none s h n x f e = sym (ap (λ l. is_taken_as (value_at l n) x) (sym f.used) ∙ ap (λ o. is_taken_as o x) (value_with (stated_of c) s.used n ∙ ap (option_map (stated_of c)) e))

  pub value_stands : (s : Holder) (h : Held) (n : Name) (k : ItemKind) → Shows c s h → value_at s.used n ≡ Some k → Stands c k
  value_stands s h n k f e = f.stand n k (value_at-among s.used n k e)

  pub used_values : (s : Holder) (h : Held) (x : Stated) → Shows c s h → is_used_value h x ≡ list_any (λ e. is_used_as (stated_of c e.1) x) s.used
  used_values s h x f = ap (list_any (λ e. is_used_as e.1 x)) (sym f.used) ∙ each s.used
    where
      each : (es : List (Name × ItemKind)) → list_any (λ e. is_used_as e.1 x) (with_values (stated_of c) es) ≡ list_any (λ e. is_used_as (stated_of c e.1) x) es
      each [] = refl
      each (e ∷ es) = ap (λ b. is_used_as (stated_of c e.1) x || b) (each es)

  pub item_stands : (s : Holder) (h : Held) (i : ℕ) (n : Name) (k : ItemKind) → Shows c s h → slice_get s.used i ≡ Some (n, k) → Stands c k
  item_stands s h i n k f e = f.stand n k (among-get s.used i (n, k) e)

  -- a used item is looked at: it settles the answer, or those that are left do
  module _ (es : List (Name × ItemKind)) (i : ℕ) (n : Name) (k : ItemKind) (x : Stated) (b : Bool) (e : slice_get es i ≡ Some (n, k)) (is : b ≡ list_any (λ e. is_used_as (stated_of c e.1) x) (drop i es)) where
    pub value_settles : is_used_as (stated_of c k) x ≡ true → true ≡ b
    value_settles t = sym (is ∙ any_at (λ e. is_used_as (stated_of c e.1) x) es i (n, k) e ∙ ap (λ y. y || list_any (λ e. is_used_as (stated_of c e.1) x) (drop (i + 1) es)) t)

    pub value_leaves : is_used_as (stated_of c k) x ≡ false → b ≡ list_any (λ e. is_used_as (stated_of c e.1) x) (drop (i + 1) es)
    value_leaves f = is ∙ any_at (λ e. is_used_as (stated_of c e.1) x) es i (n, k) e ∙ ap (λ y. y || list_any (λ e. is_used_as (stated_of c e.1) x) (drop (i + 1) es)) f
