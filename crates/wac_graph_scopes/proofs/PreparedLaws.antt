-- What stands around once the aliases of what uses take are made.
use Rattle.std.proofs.Common.{◌≡◌, ◌<◌, ℕ, ◌+◌, Bool, true, false, true≢false, List, [], ◌∷◌, Option, Some, None, Result, Ok, Err, slice_get, refl, sym, ap, ◌∙◌, subst, arith, inl, inr}
use Rattle.std.specs.Prelude.{IfOk, OnOk, IfSome, IfNone, ◌⊎◌, ◌&&◌, ◌==◌, eqb, if◌then◌else◌, unwrap_or}
use Rattle.std.specs.Cmp.Lexicographic.{pointwise}
use Rattle.std.proofs.lemmas.Option.{same_Some}
use Rattle.wac_types_base.specs.declared.ids.InterfaceId.{InterfaceId}
use Rattle.wac_types_base.specs.declared.item.ItemKind.{ItemKind}
use Rattle.wac_types_base.specs.declared.defined.UsedType.{UsedType}
use Rattle.wac_types_base.specs.Record.{Collection}
use Rattle.wac_types_base.specs.Entries.{Name, value_at}
use Rattle.wac_types_base.specs.Graph.{Among}
use Rattle.wac_types_base.specs.Parts.{identifier_in}
use Rattle.wac_types_base.specs.Collection.{Stands}
use Rattle.wac_types_base.proofs.Lists.{name_tested}
use Rattle.wac_types_base.proofs.Walking.{slice_get-Among}
use Rattle.wac_types_fit.specs.Trees.{tree_in}
use Rattle.wac_types_parts.specs.declared.parts.Use.{Use}
use Rattle.wac_types_parts.specs.Parts.{interface_in, exports_of, uses_of, used_if, IsUseAt, taken_in, IsOfInterface}
use Rattle.wac_graph_scopes.specs.declared.used.UsedIndex.{UsedIndex}
use Rattle.wac_graph_scopes.specs.declared.imports.Importing.{Importing}
use Rattle.wac_graph_scopes.specs.declared.imports.ImportScope.{ImportScope}
use Rattle.wac_graph_scopes.specs.Used.{Used, used_at, put_used, IsUsedAs}
use Rattle.wac_graph_scopes.specs.Items.{IsUsedBy, Never}
use Rattle.wac_graph_scopes.specs.Imports.{all_imports, IsInstanceImport, IsImportedAs}
use Rattle.wac_graph_scopes.proofs.OrderLaws.{apart}
use Rattle.wac_graph_scopes.proofs.FoundLaws.{same_import}
use Rattle.wac_graph_scopes.specs.Prepared.{IsWithin, itself, exported, taken_by, IsImported, StandsUsedAt, AllUsedStand, IsPreparedAt, KeepsUsed}

-- ---- one more type

abbrev same_names : Name → Name → Name × Name → Bool
same_names i n e = pointwise ◌==◌ i e.0 && pointwise ◌==◌ n e.1

named : (i n : Name) (e : Name × Name) → same_names i n e ≡ true → (i ≡ e.0) × (n ≡ e.1)
named i n e h = elim (name_tested i e.0) [
  | inl p ↦ elim (name_tested n e.1) [
    | inl q ↦ (p.0, q.0)
    | inr q ↦ absurd (true≢false (sym h ∙ ap (λ b. b && pointwise ◌==◌ n e.1) p.1 ∙ q.1))
  ]
  | inr p ↦ absurd (true≢false (sym h ∙ ap (λ b. b && pointwise ◌==◌ n e.1) p.1))
]

same_self : (i n : Name) → same_names i n (i, n) ≡ true
same_self i n = elim (name_tested i i) [
  | inl p ↦ elim (name_tested n n) [
    | inl q ↦ ap (λ b. b && pointwise ◌==◌ n n) p.1 ∙ q.1
    | inr q ↦ absurd (q.0 refl)
  ]
  | inr p ↦ absurd (p.0 refl)
]

twice : {X : Type 0} (t : Bool) (a b d : X) → (if t then a else d) ≡ (if t then a else (if t then b else d))
twice true a b d = refl
twice false a b d = refl

turned : {X : Type 0} (s t : Bool) (a b d : X) → (s ≡ true → t ≡ true → ⊥) → (if t then b else (if s then a else d)) ≡ (if s then a else (if t then b else d))
turned true true a b d h = absurd (h refl refl)
turned true false a b d h = refl
turned false true a b d h = refl
turned false false a b d h = refl

put_step : (u : (Name × Name) × UsedIndex) (us : Used) (i n : Name) (v : UsedIndex) (j m : Name) → used_at (put_used us i n v) j m ≡ (if same_names j m (i, n) then Some v else used_at us j m)
    → (b : Bool) → same_names i n u.0 ≡ b → used_at (if b then (u.0, v) ∷ us else u ∷ put_used us i n v) j m ≡ (if same_names j m (i, n) then Some v else used_at (u ∷ us) j m)
put_step u us i n v j m next true e =
    let p = named i n u.0 e in
    let same : same_names j m u.0 ≡ same_names j m (i, n) = ap (λ x. pointwise ◌==◌ j x && pointwise ◌==◌ m u.0.1) (sym p.0) ∙ ap (λ x. pointwise ◌==◌ j i && pointwise ◌==◌ m x) (sym p.1) in
    twice (same_names j m u.0) (Some v) (Some u.1) (used_at us j m) ∙ ap (λ t. if t then Some v else (if same_names j m u.0 then Some u.1 else used_at us j m)) same
put_step u us i n v j m next false e =
    ap (λ o. if same_names j m u.0 then Some u.1 else o) next
    ∙ turned (same_names j m (i, n)) (same_names j m u.0) (Some v) (Some u.1) (used_at us j m) (λ s t.
    let p = named j m (i, n) s in
    true≢false (sym t ∙ ap (λ x. pointwise ◌==◌ x u.0.0 && pointwise ◌==◌ m u.0.1) p.0 ∙ ap (λ x. pointwise ◌==◌ i u.0.0 && pointwise ◌==◌ x u.0.1) p.1 ∙ e))

put_looked : (us : Used) (i n : Name) (v : UsedIndex) (j m : Name) → used_at (put_used us i n v) j m ≡ (if same_names j m (i, n) then Some v else used_at us j m)
put_looked [] i n v j m = refl
put_looked (u ∷ us) i n v j m = put_step u us i n v j m (put_looked us i n v j m) (same_names i n u.0) refl

-- ---- what an import gives under a name

module _ (a : Importing) (old new : ImportScope) (found : new.found ≡ old.found) (places : new.places ≡ old.places) (i n : Name) (item : ItemKind) (k : ℕ) where
  pub imported_before : IsImportedAs a new i n item k → IsImportedAs a old i n item k
  imported_before h = record {
    at = h.at;
    found = ap (λ f. value_at f i) (sym found) ∙ h.found;
    placed = ap (λ p. slice_get p.items h.at) (sym places) ∙ h.placed;
    gives = h.gives;
  }

one_tree : (a : Importing) (s : ImportScope) (i n : Name) (item other : ItemKind) (j k : ℕ) → IsImportedAs a s i n item j → IsImportedAs a s i n other k → tree_in a.types.now item ≡ tree_in a.types.now other
one_tree a s i n item other j k h g =
    let at = same_Some h.at g.at (sym h.found ∙ g.found) in
    let import = subst (λ k. IsInstanceImport (all_imports a) k g.gives.interface) (sym at) g.gives.import_is in
    let id = same_import (all_imports a) h.at h.gives.interface g.gives.interface h.gives.import_is import in
    let kind = same_Some h.gives.export_is.0 g.gives.export_is.0 (sym h.gives.export_is.1 ∙ ap (λ x. value_at (exports_of a.types.now x) n) id ∙ g.gives.export_is.1) in
    h.gives.export_is.2 ∙ ap (tree_in a.types.now) kind ∙ sym g.gives.export_is.2

module _ (a : Importing) (s new : ImportScope) (i n : Name) (item : ItemKind) (j index : ℕ) (imported : IsImportedAs a s i n item j) (stands : Stands a.types.now item)
    (put : new.used ≡ put_used s.used i n (record { item = item; index = index })) where
  abbrev entry : UsedIndex
  entry = record { item = item; index = index }

  looked : (x y : Name) → used_at new.used x y ≡ (if same_names x y (i, n) then Some entry else used_at s.used x y)
  looked x y = ap (λ us. used_at us x y) put ∙ put_looked s.used i n entry x y

  pub put_stands : IsUsedAs a.types.now new.used i n item index
  put_stands = record {
    there = entry;
    found = looked i n ∙ ap (λ b. if b then Some entry else used_at s.used i n) (same_self i n);
    stands = stands;
    same = refl;
    index = refl;
  }

  pub put_keeps : new.found ≡ s.found → new.places ≡ s.places → KeepsUsed a s new
  put_keeps f p = record { found = f; places = p; kept = λ x y other k l h g. go x y other k l h g (same_names x y (i, n)) refl }
    where
      go : (x y : Name) (other : ItemKind) (k l : ℕ) → IsImportedAs a s x y other k → IsUsedAs a.types.now s.used x y other l → (b : Bool) → same_names x y (i, n) ≡ b
          → (m : ℕ) × IsUsedAs a.types.now new.used x y other m
      go x y other k l h g true e =
          let q = named x y (i, n) e in
          let there = subst (λ z. IsImportedAs a s z n other k) q.0 (subst (λ z. IsImportedAs a s x z other k) q.1 h) in (
            index,
            record {
              there = entry;
              found = looked x y ∙ ap (λ b. if b then Some entry else used_at s.used x y) e;
              stands = stands;
              same = one_tree a s i n item other j k imported there;
              index = refl;
            },
          )
      go x y other k l h g false e = (
        l,
        record {
          there = g.there;
          found = looked x y ∙ ap (λ b. if b then Some entry else used_at s.used x y) e ∙ g.found;
          stands = g.stands;
          same = g.same;
          index = g.index;
        },
      )

-- ---- step by step

pub keeps_same : (a : Importing) (s : ImportScope) → KeepsUsed a s s
keeps_same a s = record { found = refl; places = refl; kept = λ i n item j k h g. (k, g) }

pub keeps_both : (a : Importing) (old mid new : ImportScope) → KeepsUsed a old mid → KeepsUsed a mid new → KeepsUsed a old new
keeps_both a old mid new f g = record {
  found = g.found ∙ f.found;
  places = g.places ∙ f.places;
  kept = λ i n item j k h u.
      let r = f.kept i n item j k h u in
      g.kept i n item j r.0 (imported_before a mid old (sym f.found) (sym f.places) i n item j h) r.1;
}

use_same : (us : List (Name × UsedType)) (at : ℕ) (e : Name × UsedType) (u : Use) → slice_get us at ≡ Some e → IsUseAt us at u → (u.interface ≡ e.1.interface) × (u.there.now ≡ unwrap_or e.1.name e.0)
use_same us at e u there is =
    let x = same_Some is.0 e (sym is.1 ∙ there) in
    (is.2.interface ∙ ap (λ (y : Name × UsedType). y.1.interface) x, is.2.there ∙ ap (λ (y : Name × UsedType). unwrap_or y.1.name y.0) x)

module _ (a : Importing) (old new : ImportScope) (keeps : KeepsUsed a old new) where
  pub stands_kept : (id : InterfaceId) (at : ℕ) → StandsUsedAt a old id at → StandsUsedAt a new id at
  stands_kept id at h e there item taken imported =
      let before = imported_before a old new keeps.found keeps.places imported.0 (unwrap_or e.1.name e.0) item imported.1 imported.3 in
      let t = h e there item taken (imported.0, imported.1, imported.2, before) in
      let same = use_same (uses_of a.types.now id) at e t.0 there t.2 in
      let name = same_Some imported.0 t.4.0 (sym imported.2 ∙ ap (λ x. identifier_in (interface_in a.types.now x)) (sym same.0) ∙ t.4.1) in
      let own = subst (λ n. IsImportedAs a old n t.0.there.now item imported.1) name (subst (λ m. IsImportedAs a old imported.0 m item imported.1) (sym same.1) before) in
      let r = keeps.kept t.4.0 t.0.there.now item imported.1 t.1 own t.4.2 in
      (t.0, r.0, t.2, t.3, (t.4.0, t.4.1, r.1))

  pub all_kept : (id : InterfaceId) → AllUsedStand a old id → AllUsedStand a new id
  all_kept id h i w at = stands_kept i at (h i w at)

-- ---- uses

module _ (a : Importing) (s : ImportScope) (id : InterfaceId) (at : ℕ) (u : Use) (is : IsUseAt (uses_of a.types.now id) at u) where
  taken_same : (e : Name × UsedType) → slice_get (uses_of a.types.now id) at ≡ Some e → taken_in a.types.now u ≡ taken_by a.types.now e
  taken_same e there =
      let same = use_same (uses_of a.types.now id) at e u there is in
      ap (λ x. used_if (value_at (exports_of a.types.now x) u.there.now)) same.0 ∙ ap (λ n. used_if (value_at (exports_of a.types.now e.1.interface) n)) same.1

  pub use_given : (item : ItemKind) → taken_in a.types.now u ≡ Some item → (IsImported a s u.interface u.there.now item → (k : ℕ) × IsUsedBy a.types.now s.used u item k) → StandsUsedAt a s id at
  use_given item taken h e there other t i =
      let same = use_same (uses_of a.types.now id) at e u there is in
      let eq : item ≡ other = same_Some item other (sym taken ∙ taken_same e there ∙ t) in
      let own = subst (λ n. IsImported a s u.interface n other) (sym same.1) (subst (λ x. IsImported a s x (unwrap_or e.1.name e.0) other) (sym same.0) i) in
      let r = h (subst (IsImported a s u.interface u.there.now) (sym eq) own) in
      (u, r.0, is, taken ∙ ap Some eq, subst (λ k. IsUsedBy a.types.now s.used u k r.0) eq r.1)

  pub nothing_taken : taken_in a.types.now u ≡ None → StandsUsedAt a s id at
  nothing_taken none e there other t i = absurd (let same = taken_same e there in cc (none, same, t))

-- ---- interfaces within

module _ (c : Collection) where
  within_first : (id j : InterfaceId) → IsWithin c id j → (j ≡ id) ⊎ ((n : Name) × (k : ItemKind) × (i : InterfaceId) × Among (n, k) (exports_of c id) × IsOfInterface k i × IsWithin c i j)
  within_first id j itself = inl refl
  within_first id j (exported {i = i} n k w m is) = elim (within_first id i w) [
    | inl e ↦ inr (n, k, j, subst (λ x. Among (n, k) (exports_of c x)) e m, is, itself)
    | inr r ↦ inr (r.0, r.1, r.2, r.3, r.4, exported n k r.5 m is)
  ]

module _ (a : Importing) (s : ImportScope) (id : InterfaceId) where
  pub all_stand : ((at : ℕ) → StandsUsedAt a s id at) → ((at : ℕ) → IsPreparedAt a s id at) → AllUsedStand a s id
  all_stand uses exports i w at = elim (within_first a.types.now id i w) [
    | inl e ↦ subst (λ x. StandsUsedAt a s x at) (sym e) (uses at)
    | inr r ↦
        let place = slice_get-Among (exports_of a.types.now id) (r.0, r.1) r.3 in
        exports place.0 r.0 r.1 place.2 r.2 r.4 i r.5 at
  ]

-- ---- one step more

module _ (a : Importing) (old new : ImportScope) (keeps : KeepsUsed a old new) (id : InterfaceId) (at : ℕ) where
  pub stand_next : ((m : ℕ) → m < at → StandsUsedAt a old id m) → StandsUsedAt a new id at → (m : ℕ) → m < at + 1 → StandsUsedAt a new id m
  stand_next before now m lt = elim (apart m at (eqb m at) refl) [
    | inl e ↦ subst (StandsUsedAt a new id) (sym e) now
    | inr other ↦ let less : m < at = omega (arith, lt, other) in stands_kept a old new keeps id m (before m less)
  ]

  pub prepared_next : ((m : ℕ) → m < at → IsPreparedAt a old id m) → IsPreparedAt a new id at → (m : ℕ) → m < at + 1 → IsPreparedAt a new id m
  prepared_next before now m lt n k e = elim (apart m at (eqb m at) refl) [
    | inl same ↦ now n k (ap (slice_get (exports_of a.types.now id)) (sym same) ∙ e)
    | inr other ↦ let less : m < at = omega (arith, lt, other) in λ j is. all_kept a old new keeps j (before m less n k e j is)
  ]

-- ---- what is found, or made

pub use_kept : (a : Importing) (old new : ImportScope) → new.found ≡ old.found → new.places ≡ old.places → (u : Use) (item : ItemKind) → (IsImported a old u.interface u.there.now item → (k : ℕ) × IsUsedBy a.types.now new.used u item k)
    → IsImported a new u.interface u.there.now item → (k : ℕ) × IsUsedBy a.types.now new.used u item k
use_kept a old new f p u item h i = h (i.0, i.1, i.2, imported_before a old new f p i.0 u.there.now item i.1 i.3)

pub named_stands : {E : Type 0} (a : Importing) (old new : ImportScope) (u : Use) (i : Name) (item : ItemKind) → identifier_in (interface_in a.types.now u.interface) ≡ Some i → (r : Result (Option ℕ) E)
    → IfOk r (λ o. IfSome o (IsUsedAs a.types.now new.used i u.there.now item)) → IfOk r (λ o. IfNone o (Never (IsImportedAs a old i u.there.now item)))
    → OnOk r (IsImported a old u.interface u.there.now item → (k : ℕ) × IsUsedBy a.types.now new.used u item k)
named_stands a old new u i item e (Ok (Some k)) found none = λ g. (k, (i, e, found))
named_stands a old new u i item e (Ok None) found none = λ g. absurd (none g.1 (subst (λ n. IsImportedAs a old n u.there.now item g.1) (same_Some g.0 i (sym g.2 ∙ e)) g.3))
named_stands a old new u i item e (Err x) found none = tt
