-- When the items of one map give those of another, and where a refusal leads.
use Rattle.std.proofs.Common.{◌≡◌, ℕ, ◌+◌, List, [], ◌∷◌, ◌++◌, take, Option, Some, None, Bool, true, false, refl, sym, ap, subst, ◌∙◌, ◌⊎◌, inl, inr}
use Rattle.std.specs.Prelude.{if◌then◌else◌, ◌==◌, slice_get}
use Rattle.std.specs.Option.{option_map}
use Rattle.std.specs.Cmp.Lexicographic.{pointwise}
use Rattle.std.proofs.lemmas.Slice.Eq.{bytes_eq-Decides}
use Rattle.wac_types_base.specs.declared.item.ItemKind.{ItemKind}
use Rattle.wac_types_base.specs.declared.item.ExternKind.{ExternKind}
use Rattle.wac_types_base.specs.declared.defined.Interface.{Interface}
use Rattle.wac_types_base.specs.declared.defined.World.{World}
use Rattle.wac_types_base.specs.declared.defined.UsedType.{UsedType}
use Rattle.wac_types_base.specs.declared.ids.InterfaceId.{InterfaceId}
use Rattle.wac_types_base.specs.declared.ids.WorldId.{WorldId}
use Rattle.wac_types_base.specs.Record.{Collection}
use Rattle.wac_types_base.specs.Graph.{Among}
use Rattle.wac_types_base.specs.Entries.{Name, value_at, names_of, AreDistinct}
use Rattle.wac_types_base.specs.Collection.{Slot, Stands, IsAcyclic, slots_of, used, items, interface_entry, world_entry}
use Rattle.wac_types_base.specs.Tree.{Tree, Fields, instance, component, put}
use Rattle.wac_types_base.specs.Fits.{HasField, Fits, FieldsFit, instance_fits, component_fits, module_fits, type_fits}
use Rattle.wac_types_base.proofs.Adding.{option_map-some, Among-left, Among-right}
use Rattle.wac_types_base.proofs.Looked.{take-one_more}
use Rattle.wac_types_base.proofs.Walking.{slice_get-Among, child_smaller}
use Rattle.wac_types_base.proofs.Slots.{slots_interface, slots_world}
use Rattle.wac_types_base.proofs.Lists.{joined}
use Rattle.wac_types_fit.specs.Ordered.{InOrder, AllInOrder}
use Rattle.wac_types_fit.specs.Lookups.{lookup}
use Rattle.wac_types_fit.specs.Trees.{tree_in, Fit, IsInside}
use Rattle.wac_types_fit.specs.Frames.{Step, Disagree, Misses, ends, in_type, in_instance, in_exports, in_imports, core_export, core_import, item_missing, item_differs}
use Rattle.wac_types_fit.specs.Checking.{AreInside, GivesName, GivesAll, NameDisagrees, name_missing, name_differs, ItemsDisagree}
use Rattle.wac_types_fit.proofs.Looking.{looked-put, looked-other, looked-has, has-looked, in_order-at, given, all_given}
use Rattle.wac_types_fit.proofs.Ordering.{AllInOrder-put, named_in_order}
use Rattle.wac_types_fit.proofs.Unfolded.{fields_in, instance_tree, component_tree}

-- ---- looking up

value_is : {T : Type 0} (b : Bool) (n : Name) (k : T) (x : Name × T) (es : List (Name × T)) (o : Option T) → pointwise ◌==◌ n x.0 ≡ b → (o ≡ Some k → Among (n, k) es) → (if b then Some x.1 else o) ≡ Some k → Among (n, k) (x ∷ es)
value_is true n k x es o e h f = let v : x.1 ≡ k = cc f in inl (joined (n, k) x ((bytes_eq-Decides n x.0).0 e) (sym v))
value_is false n k x es o e h f = inr (h f)

-- what is found is there
pub value_at-among : {T : Type 0} (es : List (Name × T)) (n : Name) (k : T) → value_at es n ≡ Some k → Among (n, k) es
value_at-among [] n k e = absurd (cc e)
value_at-among (x ∷ es) n k e = value_is (pointwise ◌==◌ n x.0) n k x es (value_at es n) refl (value_at-among es n k) e

pub name-among : {K T : Type 0} (es : List (K × T)) (n : K) (k : T) → Among (n, k) es → Among n (names_of es)
name-among [] n k m = absurd m
name-among (x ∷ es) n k (inl e) = inl (ap (λ p. p.0) e)
name-among (x ∷ es) n k (inr m) = inr (name-among es n k m)

pub differs : (a b : Name) → (a ≡ b → ⊥) → pointwise ◌==◌ a b ≡ false
differs a b h = by_test (pointwise ◌==◌ a b) refl
  where
    by_test : (t : Bool) → pointwise ◌==◌ a b ≡ t → t ≡ false
    by_test true e = absurd (h ((bytes_eq-Decides a b).0 e))
    by_test false e = refl

-- what is there is found, where no name stands twice
pub among-value_at : {T : Type 0} (es : List (Name × T)) (n : Name) (k : T) → AreDistinct (names_of es) → Among (n, k) es → value_at es n ≡ Some k
among-value_at [] n k d m = absurd m
among-value_at (x ∷ es) n k d (inl e) =
    let same : n ≡ x.0 = ap (λ p. p.0) e in
    let value : k ≡ x.1 = ap (λ p. p.1) e in
    rw ((bytes_eq-Decides n x.0).1 same) (ap Some (sym value))
among-value_at (x ∷ es) n k d (inr m) =
    let other = differs n x.0 (λ e. d.0 (subst (λ y. Among y (names_of es)) e (name-among es n k m))) in
    rw other (among-value_at es n k d.1 m)

looked_more : (b : Bool) (n m : Name) (t : Tree) (xs : Fields) (c : Collection) (k : ItemKind) (o : Option ItemKind) → pointwise ◌==◌ n m ≡ b → tree_in c k ≡ t → lookup n xs ≡ option_map (tree_in c) o → lookup n (put m t xs) ≡ option_map (tree_in c) (if b then Some k else o)
looked_more true n m t xs c k o e f h =
    let is : n ≡ m = (bytes_eq-Decides n m).0 e in
    subst (λ i. lookup n (put i t xs) ≡ Some (tree_in c k)) is (looked-put n t xs ∙ ap Some (sym f))
looked_more false n m t xs c k o e f h = looked-other n m t xs (λ is. absurd (cc (e, (bytes_eq-Decides n m).1 is))) ∙ h

-- what a map of items has under a name is the tree of the item of that name
pub looked_in : (c : Collection) (es : List (Name × ItemKind)) (n : Name) → lookup n (fields_in c es) ≡ option_map (tree_in c) (value_at es n)
looked_in c [] n = refl
looked_in c (e ∷ es) n = looked_more (pointwise ◌==◌ n e.0) n e.0 (tree_in c e.1) (fields_in c es) c e.1 (value_at es n) refl refl (looked_in c es n)

pub ordered_in : (c : Collection) (es : List (Name × ItemKind)) → AllInOrder (fields_in c es)
ordered_in c [] = tt
ordered_in c (e ∷ es) = AllInOrder-put e.0 (tree_in c e.1) (fields_in c es) (named_in_order c e.1) (ordered_in c es)

-- ---- where each item asked is given, the maps fit

module _ (c d : Collection) (es fs : List (Name × ItemKind)) where
  gives_field : GivesAll c es d fs → (n : Name) (u : Tree) → HasField n u (fields_in d fs) → (t : Tree) × HasField n t (fields_in c es) × Fits t u
  gives_field g n u h =
      let at = option_map-some (tree_in d) (value_at fs n) u (sym (looked_in d fs n) ∙ has-looked n u (fields_in d fs) (ordered_in d fs) h) in
      let r = g n at.0 (value_at-among fs n at.0 at.1) in (
        tree_in c r.0,
        looked-has n (tree_in c r.0) (fields_in c es) (looked_in c es n ∙ ap (option_map (tree_in c)) r.1),
        subst (λ v. Fits (tree_in c r.0) v) (sym at.2) r.2,
      )

  pub gives_fields : GivesAll c es d fs → FieldsFit (fields_in c es) (fields_in d fs)
  gives_fields g = all_given (fields_in c es) (fields_in d fs) (gives_field g)

  name_misses : (side : ExternKind) (n : Name) (k : ItemKind) (ss : List Step) → value_at fs n ≡ Some k → NameDisagrees side c es d n k ss → Misses side ss (fields_in c es) (fields_in d fs)
  name_misses side n k ss e (name_missing none) = item_missing (looked_in c es n ∙ ap (option_map (tree_in c)) none) (looked_in d fs n ∙ ap (option_map (tree_in d)) e)
  name_misses side n k ss e (name_differs j rest at h) = item_differs (looked_in c es n ∙ ap (option_map (tree_in c)) at) (looked_in d fs n ∙ ap (option_map (tree_in d)) e) h

  pub items_miss : (side : ExternKind) (ss : List Step) → ItemsDisagree side c es d fs ss → Misses side ss (fields_in c es) (fields_in d fs)
  items_miss side ss h = name_misses side h.name h.kind ss h.asked h.disagrees

-- ---- instances and components

module _ (c d : Collection) (a : IsAcyclic c) (b : IsAcyclic d) where
  module _ (i j : InterfaceId) (x y : Interface) (e : slice_get c.interfaces i.index ≡ Some x) (o : i.collection ≡ c.number) (f : slice_get d.interfaces j.index ≡ Some y) (p : j.collection ≡ d.number) where
    pub instance_gives : GivesAll c x.exports d y.exports → Fit c (ItemKind.Instance i) d (ItemKind.Instance j)
    instance_gives g =
        subst (λ t. Fits t (tree_in d (ItemKind.Instance j))) (sym (instance_tree c a i x e o))
        (subst (λ u. Fits (instance (fields_in c x.exports)) u) (sym (instance_tree d b j y f p)) (instance_fits (gives_fields c d x.exports y.exports g)))

    pub instance_misses : (ss : List Step) → ItemsDisagree ExternKind.Export c x.exports d y.exports ss → Disagree ss (tree_in c (ItemKind.Instance i)) (tree_in d (ItemKind.Instance j))
    instance_misses ss h =
        subst (λ t. Disagree ss t (tree_in d (ItemKind.Instance j))) (sym (instance_tree c a i x e o))
        (subst (λ u. Disagree ss (instance (fields_in c x.exports)) u) (sym (instance_tree d b j y f p)) (in_instance (items_miss c d x.exports y.exports ExternKind.Export ss h)))

  module _ (i j : WorldId) (x y : World) (e : slice_get c.worlds i.index ≡ Some x) (o : i.collection ≡ c.number) (f : slice_get d.worlds j.index ≡ Some y) (p : j.collection ≡ d.number) where
    by_trees : (P : Tree → Tree → Type 0) → P (component (fields_in c x.imports) (fields_in c x.exports)) (component (fields_in d y.imports) (fields_in d y.exports)) → P (tree_in c (ItemKind.Component i)) (tree_in d (ItemKind.Component j))
    by_trees P h =
        subst (λ t. P t (tree_in d (ItemKind.Component j))) (sym (component_tree c a i x e o))
        (subst (λ u. P (component (fields_in c x.imports) (fields_in c x.exports)) u) (sym (component_tree d b j y f p)) h)

    pub component_gives : GivesAll d y.imports c x.imports → GivesAll c x.exports d y.exports → Fit c (ItemKind.Component i) d (ItemKind.Component j)
    component_gives g h = by_trees Fits (component_fits (gives_fields d c y.imports x.imports g) (gives_fields c d x.exports y.exports h))

    pub exports_miss : (ss : List Step) → ItemsDisagree ExternKind.Export c x.exports d y.exports ss → Disagree ss (tree_in c (ItemKind.Component i)) (tree_in d (ItemKind.Component j))
    exports_miss ss h = by_trees (Disagree ss) (in_exports (items_miss c d x.exports y.exports ExternKind.Export ss h))

    pub imports_miss : (ss : List Step) → ItemsDisagree ExternKind.Import d y.imports c x.imports ss → Disagree ss (tree_in c (ItemKind.Component i)) (tree_in d (ItemKind.Component j))
    imports_miss ss h = by_trees (Disagree ss) (in_imports (items_miss d c y.imports x.imports ExternKind.Import ss h))

-- ---- items are inside

pub as_slot : (es : List (Name × ItemKind)) (n : Name) (k : ItemKind) → Among (n, k) es → Among (Some k) (items es)
as_slot [] n k m = absurd m
as_slot (x ∷ es) n k (inl e) = inl (ap (λ v. Some v.1) e)
as_slot (x ∷ es) n k (inr m) = inr (as_slot es n k m)

pub slot_inside : (c : Collection) → IsAcyclic c → (k : ItemKind) (row : List Slot) → Stands c k → slots_of c k ≡ row → (j : ItemKind) → Among (Some j) row → IsInside c j k
slot_inside c acyclic k row stands is j m =
    let p = slice_get-Among row (Some j) m in
    child_smaller c acyclic k stands p.0 j (subst (λ l. slice_get l p.0 ≡ Some (Some j)) (sym is) p.2)

pub exports_inside : (c : Collection) → IsAcyclic c → (id : InterfaceId) (x : Interface) → Stands c (ItemKind.Instance id) → slice_get c.interfaces id.index ≡ Some x → id.collection ≡ c.number → AreInside c (ItemKind.Instance id) x.exports
exports_inside c acyclic id x stands e h n j m =
    slot_inside c acyclic (ItemKind.Instance id) (interface_entry x).1 stands (slots_interface c id x e h) j (Among-right (Some j) (used x.uses) (items x.exports) (as_slot x.exports n j m))

pub world_imports_inside : (c : Collection) → IsAcyclic c → (id : WorldId) (x : World) → Stands c (ItemKind.Component id) → slice_get c.worlds id.index ≡ Some x → id.collection ≡ c.number → AreInside c (ItemKind.Component id) x.imports
world_imports_inside c acyclic id x stands e h n j m =
    slot_inside c acyclic (ItemKind.Component id) (world_entry x).1 stands (slots_world c id x e h) j
    (Among-right (Some j) (used x.uses) (items x.imports ++ items x.exports) (Among-left (Some j) (items x.imports) (items x.exports) (as_slot x.imports n j m)))

pub world_exports_inside : (c : Collection) → IsAcyclic c → (id : WorldId) (x : World) → Stands c (ItemKind.Component id) → slice_get c.worlds id.index ≡ Some x → id.collection ≡ c.number → AreInside c (ItemKind.Component id) x.exports
world_exports_inside c acyclic id x stands e h n j m =
    slot_inside c acyclic (ItemKind.Component id) (world_entry x).1 stands (slots_world c id x e h) j
    (Among-right (Some j) (used x.uses) (items x.imports ++ items x.exports) (Among-right (Some j) (items x.imports) (items x.exports) (as_slot x.exports n j m)))

-- what is found is inside
pub found_inside : (c : Collection) (k : ItemKind) (es : List (Name × ItemKind)) → AreInside c k es → (n : Name) (j : ItemKind) → value_at es n ≡ Some j → IsInside c j k
found_inside c k es h n j e = h n j (value_at-among es n j e)

-- ---- one more item

pub Among-last : {X : Type 0} (xs : List X) (x y : X) → Among y (xs ++ x ∷ []) → Among y xs ⊎ (y ≡ x)
Among-last [] x y (inl e) = inr e
Among-last [] x y (inr m) = absurd m
Among-last (z ∷ xs) x y (inl e) = inl (inl e)
Among-last (z ∷ xs) x y (inr m) = elim (Among-last xs x y m) [ inl n ↦ inl (inr n) | inr e ↦ inr e ]

pub gives_more : (c d : Collection) (es fs : List (Name × ItemKind)) (i : ℕ) (n : Name) (k : ItemKind) → slice_get fs i ≡ Some (n, k) → GivesAll c es d (take i fs) → GivesName c es d n k → GivesAll c es d (take (i + 1) fs)
gives_more c d es fs i n k at before this m j h =
    elim (Among-last (take i fs) (n, k) (m, j) (subst (Among (m, j)) (take-one_more fs i (n, k) at) h)) [
      | inl a ↦ before m j a
      | inr e ↦ subst (λ v. GivesName c es d v j) (sym (ap (λ p. p.0) e)) (subst (λ v. GivesName c es d n v) (sym (ap (λ p. p.1) e)) this)
    ]

-- ---- trees to which the steps of a refusal lead do not fit

lacks : (n : Name) (u : Tree) (xs ys : Fields) → AllInOrder xs → lookup n xs ≡ None → lookup n ys ≡ Some u → FieldsFit xs ys → ⊥
lacks n u xs ys o e f h =
    let g = given xs ys n u h (looked-has n u ys f) in
    let k = has-looked n g.0 xs o g.1 in
    absurd (cc (e, k))

at_name : (n : Name) (t u : Tree) (xs ys : Fields) → AllInOrder xs → lookup n xs ≡ Some t → lookup n ys ≡ Some u → FieldsFit xs ys → Fits t u
at_name n t u xs ys o e f h =
    let g = given xs ys n u h (looked-has n u ys f) in
    let k = has-looked n g.0 xs o g.1 in
    let is : g.0 ≡ t = cc (e, k) in
    subst (λ v. Fits v u) is g.2

inside : (n : Name) (t : Tree) (xs : Fields) → AllInOrder xs → lookup n xs ≡ Some t → InOrder t
inside n t xs o e = in_order-at n t xs o (looked-has n t xs e)

mutual
  pub disagree_no : (ss : List Step) (t u : Tree) → InOrder t → InOrder u → Disagree ss t u → Fits t u → ⊥
  disagree_no ss t u a b (ends i n) f = n f
  disagree_no ss t u a b (in_type {t = v} {u = w} h) (type_fits f) = disagree_no ss v w a b h f
  disagree_no ss t u a b (in_instance {xs = xs} {ys = ys} h) (instance_fits f) = misses_no ExternKind.Export ss xs ys a b h f
  disagree_no ss t u a b (in_exports {es = es} {fs = fs} h) (component_fits f g) = misses_no ExternKind.Export ss es fs a.1 b.1 h g
  disagree_no ss t u a b (in_imports {is = is} {js = js} h) (component_fits f g) = misses_no ExternKind.Import ss js is b.0 a.0 h f
  disagree_no ss t u a b (core_export {n = n} x m h) (module_fits f g) = h (g (n, x) m)
  disagree_no ss t u a b (core_import k x m h) (module_fits f g) = h (f (k, x) m)

  misses_no : (side : ExternKind) (ss : List Step) (xs ys : Fields) → AllInOrder xs → AllInOrder ys → Misses side ss xs ys → FieldsFit xs ys → ⊥
  misses_no side ss xs ys a b (item_missing {n = n} {u = u} e g) f = lacks n u xs ys a e g f
  misses_no side ss xs ys a b (item_differs {n = n} {t = t} {u = u} {ss = rest} e g h) f =
      disagree_no rest t u (inside n t xs a e) (inside n u ys b g) h (at_name n t u xs ys a e g f)

-- ---- the interface of a used type is a child

pub used_among : (us : List (Name × UsedType)) (n : Name) (u : UsedType) → Among (n, u) us → Among (Some (ItemKind.Instance u.interface)) (used us)
used_among [] n u m = absurd m
used_among (x ∷ us) n u (inl e) = inl (ap (λ v. Some (ItemKind.Instance v.1.interface)) e)
used_among (x ∷ us) n u (inr m) = inr (used_among us n u m)
