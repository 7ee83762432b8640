-- An interface with its types alone, and a world as a component type.
use Rattle.std.proofs.Common.{◌≡◌, ℕ, ◌+◌, List, [], ◌∷◌, ◌++◌, map, take, Option, Some, is_some, Bool, true, false, not, ◌==◌, filter, if◌then◌else◌, slice_get, refl, sym, ap, subst, ◌∙◌, inl, inr}
use Rattle.std.proofs.lemmas.List.{append-nil}
use Rattle.std.specs.List.{flat_map}
use Rattle.std.specs.Cmp.Lexicographic.{pointwise}
use Rattle.std.proofs.lemmas.Slice.Eq.{bytes_eq-Decides}
use Rattle.wac_types_base.specs.declared.item.«Type».{«Type» as TypeKind}
use Rattle.wac_types_base.specs.declared.item.ItemKind.{ItemKind}
use Rattle.wac_types_base.specs.declared.ids.InterfaceId.{InterfaceId}
use Rattle.wac_types_base.specs.declared.defined.UsedType.{UsedType}
use Rattle.wac_types_base.specs.declared.defined.Interface.{Interface}
use Rattle.wac_types_base.specs.Record.{Collection}
use Rattle.wac_types_base.specs.Entries.{AreDistinct, Name, IsNew, names_of, value_at, with_values}
use Rattle.wac_types_base.specs.Graph.{Among}
use Rattle.wac_types_base.specs.Collection.{IsAcyclic, Grows, Stands}
use Rattle.wac_types_base.specs.Stated.{Stated, kind_of, interface_of, world_of, uses_of, imports_of, exports_of, stated_of}
use Rattle.wac_types_base.proofs.Looked.{take-one_more}
use Rattle.wac_types_base.proofs.Loops.{map-append, names-with_values}
use Rattle.wac_types_base.proofs.Telling.{item_kind, kind_stated}
use Rattle.wac_types_base.proofs.Lists.{among_filtered}
use Rattle.wac_types_written.specs.Components.{AddsMissing, AreApart, AreMissing, component_of, not_imported}
use Rattle.wac_types_written.specs.Forms.{FoundStand, IsOf, ItemsStand, UsesStand, is_type_item, stated_found, stated_items, stated_uses, type_items}
use Rattle.wac_types_written.specs.Walked.{AreUsed, below_items, below_uses}
use Rattle.wac_types_written.specs.Written.{dependencies, is_type, missing_uses, types_only, used_by_world, used_through, with_firsts}
use Rattle.wac_types_written.proofs.Growing.{items_kept, stated_kept, uses_kept}
use Rattle.wac_types_written.proofs.Ids.{interface_states}
use Rattle.wac_types_written.proofs.Loops.{filter_last, filter_names, place_new}
use Rattle.wac_types_written.proofs.Parts.{interface_exports, interface_uses, world_exports, world_imports, world_uses}
use Rattle.wac_types_written.proofs.Walking.{found_with}

-- ---- types alone

types_are : (c : Collection) → IsAcyclic c → (k : ItemKind) → Stands c k → is_type (kind_of (stated_of c k)) ≡ is_type_item k
types_are c a k s = ap is_type (kind_stated c a k s) ∙ by_kind k
  where
    by_kind : (k : ItemKind) → is_type (item_kind k) ≡ is_type_item k
    by_kind (ItemKind.Ty (TypeKind.Resource r)) = refl
    by_kind (ItemKind.Ty (TypeKind.Func f)) = refl
    by_kind (ItemKind.Ty (TypeKind.Value v)) = refl
    by_kind (ItemKind.Ty (TypeKind.Interface i)) = refl
    by_kind (ItemKind.Ty (TypeKind.World w)) = refl
    by_kind (ItemKind.Ty (TypeKind.Module m)) = refl
    by_kind (ItemKind.Func f) = refl
    by_kind (ItemKind.Instance i) = refl
    by_kind (ItemKind.Component w) = refl
    by_kind (ItemKind.Module m) = refl
    by_kind (ItemKind.Value v) = refl

types_filtered : (c : Collection) → IsAcyclic c → (xs : List (Name × ItemKind)) → ItemsStand c xs → filter (λ e. is_type (kind_of e.1)) (stated_items c xs) ≡ stated_items c (type_items xs)
types_filtered c a [] h = refl
types_filtered c a (x ∷ xs) h =
    ap (λ b. if b then (x.0, stated_of c x.1) ∷ filter (λ (e : Name × Stated). is_type (kind_of e.1)) (stated_items c xs) else filter (λ (e : Name × Stated). is_type (kind_of e.1)) (stated_items c xs)) (types_are c a x.1 (h x (inl refl)))
    ∙ by_test (is_type_item x.1) (types_filtered c a xs (λ y m. h y (inr m)))
  where
    by_test : (b : Bool) → filter (λ e. is_type (kind_of e.1)) (stated_items c xs) ≡ stated_items c (type_items xs)
        → (if b then (x.0, stated_of c x.1) ∷ filter (λ (e : Name × Stated). is_type (kind_of e.1)) (stated_items c xs) else filter (λ (e : Name × Stated). is_type (kind_of e.1)) (stated_items c xs)) ≡ stated_items c (if b then x ∷ type_items xs else type_items xs)
    by_test true e = ap (λ l. (x.0, stated_of c x.1) ∷ l) e
    by_test false e = e

pub types_stand : (c : Collection) (xs : List (Name × ItemKind)) → ItemsStand c xs → ItemsStand c (type_items xs)
types_stand c xs h x m = h x (among_filtered (λ x. is_type_item x.1) xs x m).0

-- the interface of these parts in a larger collection is that with its types alone
pub only_types : (c d : Collection) → IsAcyclic c → Grows c d → (id : InterfaceId) (i : Interface) → slice_get c.interfaces id.index ≡ Some i → id.collection ≡ c.number → UsesStand c i.uses → ItemsStand c i.exports
    → interface_of i.id (stated_uses d i.uses) (stated_items d (type_items i.exports)) ≡ types_only (stated_of c (ItemKind.Instance id))
only_types c d a g id i at own u e =
    let us = stated_uses c i.uses in
    let es = stated_items c i.exports in
    ap (λ us. interface_of i.id us (stated_items d (type_items i.exports))) (uses_kept c d g i.uses u)
    ∙ ap (interface_of i.id us) (items_kept c d g (type_items i.exports) (types_stand c i.exports e) ∙ sym (types_filtered c a i.exports e))
    ∙ ap (λ us. interface_of i.id us (filter (λ (e : Name × Stated). is_type (kind_of e.1)) es)) (sym (interface_uses i.id us es))
    ∙ ap (λ es. interface_of i.id (uses_of (interface_of i.id us (stated_items c i.exports))) (filter (λ (e : Name × Stated). is_type (kind_of e.1)) es)) (sym (interface_exports i.id us es))
    ∙ ap types_only (sym (interface_states c a id i at own))

-- ---- names

-- a name of an entry has a value
pub has_value : {T : Type 0} (es : List (Name × T)) (n : Name) → Among n (names_of es) → is_some (value_at es n) ≡ true
has_value [] n m = absurd m
has_value (e ∷ es) n m = by_test (pointwise ◌==◌ n e.0) refl m (has_value es n)
  where
    by_test : (b : Bool) → pointwise ◌==◌ n e.0 ≡ b → Among n (names_of (e ∷ es)) → (Among n (names_of es) → is_some (value_at es n) ≡ true) → is_some (if b then Some e.1 else value_at es n) ≡ true
    by_test true q m h = refl
    by_test false q (inl p) h = let t = (bytes_eq-Decides n e.0).1 p in absurd (cc (q, t))
    by_test false q (inr m) h = h m

filter_fails : {T : Type 0} (p : Name → Bool) (es : List (Name × T)) (n : Name) → Among n (names_of (filter (λ e. p e.0) es)) → p n ≡ true
filter_fails p [] n m = absurd m
filter_fails p (e ∷ es) n m = by_test (p e.0) refl m (filter_fails p es n)
  where
    by_test : (b : Bool) → p e.0 ≡ b → Among n (names_of (if b then e ∷ filter (λ e. p e.0) es else filter (λ e. p e.0) es)) → (Among n (names_of (filter (λ e. p e.0) es)) → p n ≡ true) → p n ≡ true
    by_test true q (inl i) h = ap p i ∙ q
    by_test true q (inr k) h = h k
    by_test false q k h = h k

names_kept : (c d : Collection) (es : List (Name × InterfaceId)) (all : List (Name × ItemKind)) → stated_items d all ≡ with_values types_only (stated_found c es) → names_of all ≡ names_of es
names_kept c d es all h =
    sym (names-with_values (stated_of d) all) ∙ ap names_of h ∙ names-with_values types_only (stated_found c es) ∙ names-with_values (λ i. stated_of c (ItemKind.Instance i)) es

module _ (c d : Collection) (used : List (Name × InterfaceId)) (imports all : List (Name × ItemKind)) where
  -- what is missing is named as no import
  pub missing_apart : AreMissing c d used imports all → AreApart all imports
  missing_apart h n m k =
      let not_there : not (is_some (value_at imports n)) ≡ true = filter_fails (λ n. not (is_some (value_at imports n))) used n (subst (λ l. Among n l) (names_kept c d (not_imported imports used) all h.are) m) in
      let there = has_value imports n k in
      absurd (cc (not_there, there))

-- ---- one more that is missing

found_append : (c : Collection) (xs ys : List (Name × InterfaceId)) → with_values types_only (stated_found c (xs ++ ys)) ≡ with_values types_only (stated_found c xs) ++ with_values types_only (stated_found c ys)
found_append c xs ys =
    ap (with_values types_only) (map-append (λ (e : Name × InterfaceId). (e.0, stated_of c (ItemKind.Instance e.1))) xs ys)
    ∙ map-append (λ (e : Name × Stated). (e.0, types_only e.1)) (stated_found c xs) (stated_found c ys)

found_kept : (c d : Collection) → Grows c d → (es : List (Name × InterfaceId)) → FoundStand c es → stated_found d es ≡ stated_found c es
found_kept c d g [] h = refl
found_kept c d g (e ∷ es) h = ap (λ x. (e.0, x) ∷ stated_found d es) (stated_kept c d g (ItemKind.Instance e.1) (h e (inl refl))) ∙ ap (λ l. (e.0, stated_of c (ItemKind.Instance e.1)) ∷ l) (found_kept c d g es (λ y m. h y (inr m)))

pub missing_none : (c : Collection) (imports : List (Name × ItemKind)) → AreMissing c c [] imports []
missing_none c imports = record { stand = λ x m. absurd m; are = refl }

pub missing_new : (c d : Collection) (used : List (Name × InterfaceId)) (imports all : List (Name × ItemKind)) (i : ℕ) (n : Name) (id : InterfaceId) → AreDistinct (names_of used) → AreMissing c d (take i used) imports all → slice_get used i ≡ Some (n, id) → IsNew n all
missing_new c d used imports all i n id distinct h at m =
    place_new used i n id (take i used) distinct at refl (filter_names (λ e. not (is_some (value_at imports e.0))) (take i used) n (subst (λ l. Among n l) (names_kept c d (not_imported imports (take i used)) all h.are) m))

pub missing_next : (c d e : Collection) (used : List (Name × InterfaceId)) (imports all more : List (Name × ItemKind)) (i : ℕ) (n : Name) (id : InterfaceId)
    → Grows c d → Grows d e → FoundStand c used → AreMissing c d (take i used) imports all → slice_get used i ≡ Some (n, id) → Stands c (ItemKind.Instance id) → AddsMissing d e (n, id) imports all more → AreMissing c e (take (i + 1) used) imports more
missing_next c d e used imports all more i n id g h stand m at s added =
    let p : Name × InterfaceId → Bool = λ e. not (is_some (value_at imports e.0)) in
    let one : List (Name × InterfaceId) = filter p ((n, id) ∷ []) in
    let one_stands : FoundStand c one = λ y k. subst (λ (z : Name × InterfaceId). Stands c (ItemKind.Instance z.1)) (sym (only_one (among_filtered p ((n, id) ∷ []) y k).0)) s in
    record {
      stand = added.stand;
      are = added.are ∙ ap (λ l. l ++ with_values types_only (stated_found d one)) (items_kept d e h all m.stand ∙ m.are)
          ∙ ap (λ l. with_values types_only (stated_found c (not_imported imports (take i used))) ++ with_values types_only l) (found_kept c d g one one_stands)
          ∙ sym (found_append c (not_imported imports (take i used)) one)
          ∙ ap (λ l. with_values types_only (stated_found c l)) (sym (filter_last p (take i used) (n, id)) ∙ ap (filter p) (sym (take-one_more used i (n, id) at)));
    }
  where
    only_one : {y : Name × InterfaceId} → Among y ((n, id) ∷ []) → y ≡ (n, id)
    only_one (inl e) = e
    only_one (inr k) = absurd k

pub items_stand_both : (c : Collection) (xs ys : List (Name × ItemKind)) → ItemsStand c xs → ItemsStand c ys → ItemsStand c (xs ++ ys)
items_stand_both c [] ys h k x m = k x m
items_stand_both c (y ∷ xs) ys h k x (inl e) = h x (inl e)
items_stand_both c (y ∷ xs) ys h k x (inr m) = items_stand_both c xs ys (λ z n. h z (inr n)) k x m

-- an import has its name
pub missing_there : (c : Collection) (n : Name) (id : InterfaceId) (imports all : List (Name × ItemKind)) → ItemsStand c all → is_some (value_at imports n) ≡ true → AddsMissing c c (n, id) imports all all
missing_there c n id imports all stand there = record {
  stand = stand;
  are = sym (append-nil (stated_items c all)) ∙ ap (λ b. stated_items c all ++ with_values types_only (stated_found c (if not b then (n, id) ∷ [] else []))) (sym there);
}

-- none has
pub missing_added : (c d : Collection) → Grows c d → (n m : Name) (id only : InterfaceId) (imports all : List (Name × ItemKind)) → ItemsStand c all → is_some (value_at imports n) ≡ false → m ≡ n → IsOf d (types_only (stated_of c (ItemKind.Instance id))) (ItemKind.Instance only)
    → AddsMissing c d (n, id) imports all (all ++ (m, ItemKind.Instance only) ∷ [])
missing_added c d g n m id only imports all stand none name is =
    let x = types_only (stated_of c (ItemKind.Instance id)) in
    let one : List (Name × ItemKind) = (m, ItemKind.Instance only) ∷ [] in
    record {
      stand = items_stand_both d all one (λ y k. g.stand y.1 (stand y k)) (λ y k. subst (λ (z : Name × ItemKind). Stands d z.1) (sym (only_one k)) is.stands);
      are = map-append (λ (e : Name × ItemKind). (e.0, stated_of d e.1)) all one ∙ ap (λ k. stated_items d all ++ (k, stated_of d (ItemKind.Instance only)) ∷ []) name ∙ ap (λ y. stated_items d all ++ (n, y) ∷ []) is.states
          ∙ ap (λ b. stated_items d all ++ with_values types_only (stated_found c (if not b then (n, id) ∷ [] else []))) (sym none);
    }
  where
    only_one : {y : Name × ItemKind} → Among y ((m, ItemKind.Instance only) ∷ []) → y ≡ (m, ItemKind.Instance only)
    only_one (inl e) = e
    only_one (inr k) = absurd k

-- ---- component types

filter_found : (c : Collection) (imports : List (Name × ItemKind)) (es : List (Name × InterfaceId)) → filter (λ e. not (is_some (value_at (stated_items c imports) e.0))) (stated_found c es) ≡ stated_found c (not_imported imports es)
filter_found c imports [] = refl
filter_found c imports (e ∷ es) =
    ap (λ b. if not b then (e.0, stated_of c (ItemKind.Instance e.1)) ∷ rest else rest) (found_with (stated_of c) imports e.0)
    ∙ by_test (not (is_some (value_at imports e.0))) (filter_found c imports es)
  where
    rest : List (Name × Stated)
    rest = filter (λ e. not (is_some (value_at (stated_items c imports) e.0))) (stated_found c es)

    by_test : (b : Bool) → rest ≡ stated_found c (not_imported imports es) → (if b then (e.0, stated_of c (ItemKind.Instance e.1)) ∷ rest else rest) ≡ stated_found c (if b then e ∷ not_imported imports es else not_imported imports es)
    by_test true h = ap (λ l. (e.0, stated_of c (ItemKind.Instance e.1)) ∷ l) h
    by_test false h = h

module _ (c : Collection) (id : Option Name) (uses : List (Name × UsedType)) (imports exports : List (Name × ItemKind)) where
  abbrev whole : Stated
  whole = world_of id (stated_uses c uses) (stated_items c imports) (stated_items c exports)

  used_is : (es : List (Name × InterfaceId)) → AreUsed c uses imports exports es → used_by_world whole ≡ stated_found c es
  used_is es h =
      let us = stated_uses c uses in
      let is = stated_items c imports in
      let xs = stated_items c exports in
      ap (λ l. with_firsts [] (flat_map used_through l ++ (flat_map (λ (e : Name × Stated). dependencies e.1) (imports_of whole) ++ flat_map (λ (e : Name × Stated). dependencies e.1) (exports_of whole)))) (world_uses id us is xs)
      ∙ ap (λ l. with_firsts [] (below_uses c uses ++ (flat_map (λ (e : Name × Stated). dependencies e.1) l ++ flat_map (λ (e : Name × Stated). dependencies e.1) (exports_of whole)))) (world_imports id us is xs)
      ∙ ap (λ l. with_firsts [] (below_uses c uses ++ (below_items c imports ++ flat_map (λ (e : Name × Stated). dependencies e.1) l))) (world_exports id us is xs)
      ∙ sym h.are

  missing_are : (es : List (Name × InterfaceId)) → AreUsed c uses imports exports es → missing_uses whole ≡ with_values types_only (stated_found c (not_imported imports es))
  missing_are es h =
      ap (λ l. map (λ (e : Name × Stated). (e.0, types_only e.1)) (filter (λ (e : Name × Stated). not (is_some (value_at (imports_of whole) e.0))) l)) (used_is es h)
      ∙ ap (λ l. map (λ (e : Name × Stated). (e.0, types_only e.1)) (filter (λ (e : Name × Stated). not (is_some (value_at l e.0))) (stated_found c es))) (world_imports id (stated_uses c uses) (stated_items c imports) (stated_items c exports))
      ∙ ap (with_values types_only) (filter_found c imports es)

  -- the world of these imports is the component type
  pub component_is : (d e : Collection) → Grows c d → Grows d e → (es : List (Name × InterfaceId)) (all : List (Name × ItemKind)) → AreUsed c uses imports exports es → AreMissing c d es imports all → UsesStand c uses → ItemsStand c imports → ItemsStand c exports → ItemsStand d (all ++ imports)
      → world_of id (stated_uses e uses) (stated_items e (all ++ imports)) (stated_items e exports) ≡ component_of c id uses imports exports
  component_is d e g h es all used missing us is xs stand =
      let ys = stated_items c exports in
      ap (λ u. world_of id u (stated_items e (all ++ imports)) (stated_items e exports))
      (uses_kept d e h uses (λ u m. g.stand (ItemKind.Instance u.1.interface) (us u m)) ∙ uses_kept c d g uses us ∙ sym (world_uses id (stated_uses c uses) (stated_items c imports) ys))
      ∙ ap (λ l. world_of id (uses_of whole) l (stated_items e exports))
      (items_kept d e h (all ++ imports) stand ∙ map-append (λ (x : Name × ItemKind). (x.0, stated_of d x.1)) all imports
      ∙ ap (λ l. l ++ stated_items d imports) (missing.are ∙ sym (missing_are es used))
      ∙ ap (λ l. missing_uses whole ++ l) (items_kept c d g imports is ∙ sym (world_imports id (stated_uses c uses) (stated_items c imports) ys)))
      ∙ ap (world_of id (uses_of whole) (missing_uses whole ++ imports_of whole))
      (items_kept d e h exports (λ x m. g.stand x.1 (xs x m)) ∙ items_kept c d g exports xs ∙ sym (world_exports id (stated_uses c uses) (stated_items c imports) ys))
