-- Where asks keep nothing, no tree fits them all.
use Rattle.std.specs.Prelude.{◌==◌, ◌⊎◌, cond, filter, is_none, not, drop, option_map, if◌then◌else◌, ◌&&◌}
use Rattle.std.proofs.lemmas.Option.{none-some, same_Some}
use Rattle.std.specs.Cmp.Lexicographic.{pointwise, bytes_decides}
use Rattle.std.proofs.Common.{◌≡◌, List, [], ◌∷◌, ◌++◌, append_assoc, map, length, Bool, true, false, true≢false, Option, Some, None, inl, inr, refl, sym, ap, subst, ◌∙◌}
use Rattle.wac_types_base.specs.Entries.{Name, AreDistinct, names_of, value_at}
use Rattle.wac_types_base.specs.Graph.{Wholes, node, no_more, more, hole, Among}
use Rattle.wac_types_base.specs.Collection.{Shape, primitive, tuple, list, fixed_size_list, option, result, variant, record_of, flags, enum, alias, stream, future, resource, resource_alias, func, interface, world, module_type, type_of, borrow_of, own_of}
use Rattle.wac_types_base.specs.Stated.{Stated, row, folded_row, interface_of, shape_kind, kind_of, Used, uses_of, Parts, parts_at, only_places, first_parts, exports_of, as_type, is_interface}
use Rattle.wac_types_base.specs.Tree.{Tree, rigid, instance, component, core_module, handle_own, handle_borrow, type_item, Fields, tree}
use Rattle.wac_types_base.specs.Fits.{Fits, rigid_fits, own_fits, borrow_fits, instance_fits, type_fits, FieldsFit}
use Rattle.wac_types_fit.specs.Ordered.{AllInOrder}
use Rattle.wac_types_fit.specs.Meets.{FitsAll, Clash}
use Rattle.wac_types_fit.proofs.Looking.{looked-has, has-looked, in_order-at, given}
use Rattle.wac_types_fit.proofs.Meeting.{FitsAll-left, FitsAll-right, mapped-some}
use Rattle.wac_composition.specs.Classes.{is_instance_kind}
use Rattle.wac_composition.specs.Tests.{fits}
use Rattle.wac_composition.specs.Merging.{Merge, both, merged_with, merged_exports, has_use, merged_interface, rebuilt, if_kind, same_tree_as, merge_at, merge, Asked, narrower, in_family, kept_from, kept}
use Rattle.wac_composition.specs.Regular.{IsFlat, IsFlatItem, Regular, flat, an_instance, an_interface, AreRegular}
use Rattle.wac_composition.specs.OuterLaws.{trees_asked, KeepNothing}
use Rattle.wac_composition.specs.Sound.{fields_of}
use Rattle.wac_composition.proofs.FitBack.{fits_decides}
use Rattle.wac_composition.proofs.KeptFits.{fields_looked, folded_firsts, exports_at, interface_tree, instance_tree, item_tree, row_again, both_is, if_is, trees_append, append_nil, no_more_kept, kept_meets}
use Rattle.wac_composition.proofs.Closures.{filter_among}
use Rattle.std.proofs.lemmas.List.{map-append}
use Rattle.wac_types_base.proofs.Made.{only_firsts, exports_are, made_exports}
use Rattle.wac_composition.proofs.MergeRows.{EachEntry, EachPlace, names_each, drop_each}

-- ---- flat trees

flat_only : (t u : Tree) → IsFlat u → Fits t u → t ≡ u
flat_only t (rigid s r) f rigid_fits = refl
flat_only t (handle_own u) f own_fits = refl
flat_only t (handle_borrow u) f borrow_fits = refl
flat_only t (instance xs) f h = absurd f
flat_only t (component is es) f h = absurd f
flat_only t (core_module is es) f h = absurd f
flat_only t (type_item u) f h = absurd f

item_only : (t u : Tree) → IsFlatItem u → Fits t u → t ≡ u
item_only t (rigid s r) f h = flat_only t (rigid s r) f h
item_only t (handle_own u) f h = flat_only t (handle_own u) f h
item_only t (handle_borrow u) f h = flat_only t (handle_borrow u) f h
item_only t (type_item u) f (type_fits {t = v} h) = ap type_item (flat_only v u f h)
item_only t (instance xs) f h = absurd f
item_only t (component is es) f h = absurd f
item_only t (core_module is es) f h = absurd f

flat_same : (t u : Tree) → IsFlat t → Fits t u → t ≡ u
flat_same (rigid s r) u f rigid_fits = refl
flat_same (handle_own t) u f own_fits = refl
flat_same (handle_borrow t) u f borrow_fits = refl
flat_same (instance xs) u f h = absurd f
flat_same (component is es) u f h = absurd f
flat_same (core_module is es) u f h = absurd f
flat_same (type_item t) u f h = absurd f

item_same : (t u : Tree) → IsFlatItem t → Fits t u → t ≡ u
item_same (rigid s r) u f h = flat_same (rigid s r) u f h
item_same (handle_own t) u f h = flat_same (handle_own t) u f h
item_same (handle_borrow t) u f h = flat_same (handle_borrow t) u f h
item_same (type_item t) u f (type_fits {u = v} h) = ap type_item (flat_same t v f h)
item_same (instance xs) u f h = absurd f
item_same (component is es) u f h = absurd f
item_same (core_module is es) u f h = absurd f

-- ---- what is compared as it is

module _ (os : List (Option (Stated × Merge))) where
  pub merge_flat : (s : Shape) (y : Stated) → is_instance_kind (shape_kind s) ≡ false → is_interface (shape_kind s) ≡ false → merge_at s os y ≡ same_tree_as (rebuilt s os) y
  merge_flat (primitive p) y g h = refl
  merge_flat tuple y g h = refl
  merge_flat list y g h = refl
  merge_flat (fixed_size_list n) y g h = refl
  merge_flat option y g h = refl
  merge_flat result y g h = refl
  merge_flat (variant ns) y g h = refl
  merge_flat (record_of ns) y g h = refl
  merge_flat (flags ns) y g h = refl
  merge_flat (enum ns) y g h = refl
  merge_flat alias y g h = refl
  merge_flat stream y g h = refl
  merge_flat future y g h = refl
  merge_flat (resource n) y g h = refl
  merge_flat (resource_alias n) y g h = refl
  merge_flat (func ns a) y g h = refl
  merge_flat (world i us is es) y g h = refl
  merge_flat (module_type m) y g h = refl
  merge_flat (own_of s) y g h = refl
  merge_flat (borrow_of s) y g h = refl
  merge_flat (interface i us es) y g h = absurd (true≢false g)
  merge_flat (type_of (primitive p)) y g h = refl
  merge_flat (type_of tuple) y g h = refl
  merge_flat (type_of list) y g h = refl
  merge_flat (type_of (fixed_size_list n)) y g h = refl
  merge_flat (type_of option) y g h = refl
  merge_flat (type_of result) y g h = refl
  merge_flat (type_of (variant ns)) y g h = refl
  merge_flat (type_of (record_of ns)) y g h = refl
  merge_flat (type_of (flags ns)) y g h = refl
  merge_flat (type_of (enum ns)) y g h = refl
  merge_flat (type_of alias) y g h = refl
  merge_flat (type_of stream) y g h = refl
  merge_flat (type_of future) y g h = refl
  merge_flat (type_of (resource n)) y g h = refl
  merge_flat (type_of (resource_alias n)) y g h = refl
  merge_flat (type_of (func ns a)) y g h = refl
  merge_flat (type_of (world i us is es)) y g h = refl
  merge_flat (type_of (module_type m)) y g h = refl
  merge_flat (type_of (own_of s)) y g h = refl
  merge_flat (type_of (borrow_of s)) y g h = refl
  merge_flat (type_of (type_of s)) y g h = refl
  merge_flat (type_of (interface i us es)) y g h = absurd (true≢false h)

flat_clash : (s : Shape) (ts : Wholes Shape) (y : Stated) → IsFlatItem (tree (node s ts)) → same_tree_as (rebuilt s (folded_row merge_at ts)) y ≡ None → Clash (tree (node s ts)) (tree y)
flat_clash s ts y f e t o a b =
    let x = rebuilt s (folded_row merge_at ts) in
    let same : x ≡ node s ts = ap (λ os. node s (row os)) (folded_firsts merge_at ts) ∙ ap (node s) (row_again ts) in
    let here : t ≡ tree (node s ts) = item_only t (tree (node s ts)) f a in
    let fit : Fits (tree (node s ts)) (tree y) = subst (λ u. Fits u (tree y)) here b in
    let back : Fits (tree y) (tree (node s ts)) = subst (λ u. Fits u (tree (node s ts))) (here ∙ item_same (tree (node s ts)) (tree y) f fit) a in
    let one : fits x y ≡ true = ap (λ w. fits w y) same ∙ (fits_decides (node s ts) y).1 fit in
    let two : fits y x ≡ true = ap (fits y) same ∙ (fits_decides y (node s ts)).1 back in
    none-some _ (sym e ∙ (λ i. if_kind (one i && two i) (Some x)))

-- ---- instances

instance_item : (u : Tree) (ws : Fields) → IsFlatItem u → Fits (instance ws) u → ⊥
instance_item u ws f h = no (subst IsFlatItem (sym (item_only (instance ws) u f h)) f)
  where
    no : IsFlatItem (instance ws) → ⊥
    no f = f

typed_item : (u : Tree) (ws : Fields) → IsFlatItem u → Fits (type_item (instance ws)) u → ⊥
typed_item u ws f h = no (subst IsFlatItem (sym (item_only (type_item (instance ws)) u f h)) f)
  where
    no : IsFlatItem (type_item (instance ws)) → ⊥
    no f = f

-- two maps whose items under a name clash
fields_clash : (xs ys : List (Name × Stated)) (n : Name) (x y : Stated) → value_at xs n ≡ Some x → value_at ys n ≡ Some y → Clash (tree x) (tree y)
    → (ws : Fields) → AllInOrder ws → FieldsFit ws (fields_of xs) → FieldsFit ws (fields_of ys) → ⊥
fields_clash xs ys n x y a b c ws o f g =
    let p = given ws (fields_of xs) n (tree x) f (looked-has n (tree x) (fields_of xs) (fields_looked xs n ∙ ap (option_map tree) a)) in
    let q = given ws (fields_of ys) n (tree y) g (looked-has n (tree y) (fields_of ys) (fields_looked ys n ∙ ap (option_map tree) b)) in
    let same : q.0 ≡ p.0 = same_Some _ _ (sym (has-looked n q.0 ws o q.1) ∙ has-looked n p.0 ws o p.1) in
    c p.0 (in_order-at n p.0 ws o p.1) p.2 (subst (λ t. Fits t (tree y)) same q.2)

instances_clash : (xs ys : List (Name × Stated)) (n : Name) (x y : Stated) → value_at xs n ≡ Some x → value_at ys n ≡ Some y → Clash (tree x) (tree y) → Clash (instance (fields_of xs)) (instance (fields_of ys))
instances_clash xs ys n x y a b c t o (instance_fits {xs = ws} f) (instance_fits g) = fields_clash xs ys n x y a b c ws o f g

types_clash : (t u : Tree) → Clash t u → Clash (type_item t) (type_item u)
types_clash t u c w o (type_fits {t = v} f) (type_fits g) = c v o f g

not_given : (xs : Fields) (y : Stated) → Regular y → is_instance_kind (kind_of y) ≡ false → Clash (instance xs) (tree y)
not_given xs y (flat a b f) e t o (instance_fits {xs = ws} h) g = instance_item (tree y) ws f g
not_given xs y (an_instance a d r) e t o h g = absurd (true≢false (sym a ∙ e))
not_given xs y (an_interface a d r) e t o (instance_fits {xs = ws} h) g = no ws (fields_of (exports_of y)) (subst (Fits (instance ws)) (item_tree y a) g)
  where
    no : (vs ws : Fields) → Fits (instance vs) (type_item (instance ws)) → ⊥
    no vs ws f = elim f [ ]

not_typed : (xs : Fields) (y : Stated) → Regular y → is_interface (kind_of y) ≡ false → Clash (type_item (instance xs)) (tree y)
not_typed xs y (flat a b f) e t o (type_fits (instance_fits {xs = ws} h)) g = typed_item (tree y) ws f g
not_typed xs y (an_interface a d r) e t o h g = absurd (true≢false (sym a ∙ e))
not_typed xs y (an_instance a d r) e t o (type_fits {t = v} h) g = no v (fields_of (exports_of y)) (subst (Fits (type_item v)) (instance_tree y a) g)
  where
    no : (v : Tree) (ws : Fields) → Fits (type_item v) (instance ws) → ⊥
    no v ws f = elim f [ ]

-- ---- merged exports

-- what a merge refuses, no tree fits beside what it merges with
abbrev pub ClashesBoth : Stated → Merge → Type 0
ClashesBoth x m = Regular x → (y : Stated) → Regular y → m y ≡ None → Clash (tree x) (tree y)

record Refused (es : List (Name × (Stated × Merge))) (fs : List (Name × Stated)) : Type 0 where
  name : Name
  first : Stated
  second : Stated
  among : Among (name, first) (first_parts es)
  there : value_at fs name ≡ Some second
  clash : Regular first → Regular second → Clash (tree first) (tree second)

refused_with : (m : Merge) (x : Stated) (o : Option Stated) → merged_with m x o ≡ None → (y : Stated) × (o ≡ Some y) × (m y ≡ None)
refused_with m x None e = absurd (none-some _ (sym e))
refused_with m x (Some y) e = (y, refl, e)

refused_all : (es : List (Name × (Stated × Merge))) (fs : List (Name × Stated)) → EachEntry ClashesBoth es → merged_exports es fs ≡ None → Refused es fs
refused_all [] fs h e = absurd (none-some _ (sym e))
refused_all (e ∷ es) fs h q = go (λ r. refused_all es fs h.1 r) (merged_with e.1.1 e.1.0 (value_at fs e.0)) refl (merged_exports es fs) refl q
  where
    go : (merged_exports es fs ≡ None → Refused es fs) → (o : Option Stated) → merged_with e.1.1 e.1.0 (value_at fs e.0) ≡ o → (u : Option (List (Name × Stated))) → merged_exports es fs ≡ u → both (λ x xs. (e.0, x) ∷ xs) o u ≡ None → Refused (e ∷ es) fs
    go rest None a u b r =
        let w = refused_with e.1.1 e.1.0 (value_at fs e.0) a in
        record { name = e.0; first = e.1.0; second = w.0; among = inl refl; there = w.1; clash = λ i j. h.0 i w.0 j w.2 }
    go rest (Some x) a None b r =
        let l = rest b in
        record { name = l.name; first = l.first; second = l.second; among = inr l.among; there = l.there; clash = l.clash }
    go rest (Some x) a (Some xs) b r = absurd (none-some _ (sym r))

-- in a map without a name twice, an entry is what stands under its name
among_names : (xs : List (Name × Stated)) (n : Name) (x : Stated) → Among (n, x) xs → Among n (names_of xs)
among_names [] n x m = m
among_names (y ∷ xs) n x (inl e) = inl (ap (λ (p : Name × Stated). p.0) e)
among_names (y ∷ xs) n x (inr m) = inr (among_names xs n x m)

pub value_there : (xs : List (Name × Stated)) (n : Name) (x : Stated) → AreDistinct (names_of xs) → Among (n, x) xs → value_at xs n ≡ Some x
value_there [] n x d m = absurd m
value_there (y ∷ xs) n x d (inl e) = ap (λ (b : Bool). if b then Some y.1 else value_at xs n) ((bytes_decides n y.0).1 (ap (λ (p : Name × Stated). p.0) e)) ∙ ap Some (sym (ap (λ (p : Name × Stated). p.1) e))
value_there (y ∷ xs) n x d (inr m) = go (value_there xs n x d.1 m) (pointwise ◌==◌ n y.0) refl
  where
    go : value_at xs n ≡ Some x → (b : Bool) → pointwise ◌==◌ n y.0 ≡ b → (if b then Some y.1 else value_at xs n) ≡ Some x
    go rest true q = absurd (d.0 (subst (λ k. Among k (names_of xs)) ((bytes_decides n y.0).0 q) (among_names xs n x m)))
    go rest false q = rest

-- ---- the exports that a label and its places give

pub own_exports : (i : Option Name) (us : List (Name × Option Name)) (es : List Name) (ts : Wholes Shape) → exports_at (interface i us es) (folded_row merge_at ts) ≡ exports_of (node (interface i us es) ts)
own_exports i us es ts = exports_are i us es (folded_row merge_at ts) ts (folded_firsts merge_at ts) ∙ sym (exports_are i us es (only_places ts) ts (only_firsts ts))

map_none : {A B : Type 0} (f : A → B) (o : Option A) → option_map f o ≡ None → o ≡ None
map_none f None e = refl
map_none f (Some x) e = absurd (none-some _ (sym e))

interface_none : (p : Parts Merge) (y : Stated) → merged_interface p y ≡ None → merged_exports p.exports (exports_of y) ≡ None
interface_none p y e = map_none _ (merged_exports p.exports (exports_of y)) e

-- ---- all kinds

abbrev EachRegular : Stated → Type 0
EachRegular x = AreDistinct (names_of (exports_of x)) × ((n : Name) (y : Stated) → value_at (exports_of x) n ≡ Some y → Regular y)

instance_regular : (y : Stated) → is_instance_kind (kind_of y) ≡ true → Regular y → EachRegular y
instance_regular y e (an_instance a d k) = (d, k)
instance_regular y e (flat a b f) = absurd (true≢false (sym e ∙ a))
instance_regular y e (an_interface a d k) = (d, k)

interface_regular : (y : Stated) → is_interface (kind_of y) ≡ true → Regular y → EachRegular y
interface_regular y e (an_interface a d k) = (d, k)
interface_regular y e (flat a b f) = absurd (true≢false (sym e ∙ b))
interface_regular y e (an_instance a d k) = (d, k)

clash_along : {t u t' u' : Tree} → t' ≡ t → u' ≡ u → Clash t u → Clash t' u'
clash_along {u = u} {t' = t'} a b c = subst (Clash t') (sym b) (subst (λ w. Clash w u) (sym a) c)

-- the maps of two interfaces whose merging is refused
maps_clash : (i : Option Name) (us : List (Name × Option Name)) (es : List Name) (ts : Wholes Shape) (y : Stated) → EachPlace ClashesBoth (folded_row merge_at ts)
    → EachRegular (node (interface i us es) ts) → EachRegular y → merged_interface (parts_at (interface i us es) (folded_row merge_at ts)) y ≡ None
    → Clash (instance (fields_of (exports_at (interface i us es) (folded_row merge_at ts)))) (instance (fields_of (exports_of y)))
maps_clash i us es ts y h r q e =
    let os = folded_row merge_at ts in
    let l = refused_all (parts_at (interface i us es) os).exports (exports_of y) (names_each ClashesBoth es (drop (length us) os) (drop_each ClashesBoth us os h)) (interface_none (parts_at (interface i us es) os) y e) in
    let same = own_exports i us es ts in
    let own : value_at (exports_of (node (interface i us es) ts)) l.name ≡ Some l.first = value_there (exports_of (node (interface i us es) ts)) l.name l.first r.0 (subst (Among (l.name, l.first)) same l.among) in
    instances_clash (exports_at (interface i us es) os) (exports_of y) l.name l.first l.second (ap (λ xs. value_at xs l.name) same ∙ own) l.there (l.clash (r.1 l.name l.first own) (q.1 l.name l.second l.there))

merge_at_clashes : (s : Shape) (ts : Wholes Shape) → EachPlace ClashesBoth (folded_row merge_at ts) → ClashesBoth (node s ts) (merge_at s (folded_row merge_at ts))
merge_at_clashes (interface i us es) ts h r y q e = go (is_instance_kind (kind_of y)) refl e
  where
    own : tree (node (interface i us es) ts) ≡ instance (fields_of (exports_at (interface i us es) (folded_row merge_at ts)))
    own = interface_tree i us es (folded_row merge_at ts) ts (folded_firsts merge_at ts)

    go : (b : Bool) → is_instance_kind (kind_of y) ≡ b → if_kind b (merged_interface (parts_at (interface i us es) (folded_row merge_at ts)) y) ≡ None → Clash (tree (node (interface i us es) ts)) (tree y)
    go true k e = clash_along own (instance_tree y k) (maps_clash i us es ts y h (instance_regular (node (interface i us es) ts) refl r) (instance_regular y k q) e)
    go false k e = clash_along own refl (not_given (fields_of (exports_at (interface i us es) (folded_row merge_at ts))) y q k)
merge_at_clashes (type_of (interface i us es)) ts h r y q e = go (is_interface (kind_of y)) refl e
  where
    own : tree (node (type_of (interface i us es)) ts) ≡ type_item (instance (fields_of (exports_at (interface i us es) (folded_row merge_at ts))))
    own = ap type_item (interface_tree i us es (folded_row merge_at ts) ts (folded_firsts merge_at ts))

    go : (b : Bool) → is_interface (kind_of y) ≡ b → if_kind b (option_map as_type (merged_interface (parts_at (interface i us es) (folded_row merge_at ts)) y)) ≡ None → Clash (tree (node (type_of (interface i us es)) ts)) (tree y)
    go true k e =
        clash_along own (item_tree y k)
        (types_clash _ _ (maps_clash i us es ts y h (interface_regular (node (type_of (interface i us es)) ts) refl r) (interface_regular y k q) (map_none as_type _ e)))
    go false k e = clash_along own refl (not_typed (fields_of (exports_at (interface i us es) (folded_row merge_at ts))) y q k)
merge_at_clashes s ts h (flat a b f) y q e = flat_clash s ts y f (sym (merge_flat (folded_row merge_at ts) s y a b) ∙ e)
merge_at_clashes s ts h (an_instance a d k) y q e = absurd (true≢false (sym a))
merge_at_clashes s ts h (an_interface a d k) y q e = absurd (true≢false (sym a))

mutual
  pub merge_clashes : (x : Stated) → ClashesBoth x (merge x)
  merge_clashes (node s ts) r y q e = merge_at_clashes s ts (row_clashes ts) r y q e

  row_clashes : (ts : Wholes Shape) → EachPlace ClashesBoth (folded_row merge_at ts)
  row_clashes no_more = tt
  row_clashes (hole ts) = row_clashes ts
  row_clashes (more t ts) = (merge_clashes t, row_clashes ts)

-- ---- what is merged is of a family again

pub value_among : (xs : List (Name × Stated)) (n : Name) (x : Stated) → value_at xs n ≡ Some x → Among (n, x) xs
value_among [] n x e = absurd (none-some _ e)
value_among (y ∷ xs) n x e = go (value_among xs n x) (pointwise ◌==◌ n y.0) refl e
  where
    go : (value_at xs n ≡ Some x → Among (n, x) xs) → (b : Bool) → pointwise ◌==◌ n y.0 ≡ b → (if b then Some y.1 else value_at xs n) ≡ Some x → Among (n, x) (y ∷ xs)
    go rest true q r = inl (λ i. ((bytes_decides n y.0).0 q i, sym (same_Some _ _ r) i))
    go rest false q r = inr (rest r)

pub among_append : {X : Type 0} (xs ys : List X) (x : X) → Among x (xs ++ ys) → Among x xs ⊎ Among x ys
among_append [] ys x m = inr m
among_append (z ∷ xs) ys x (inl e) = inl (inl e)
among_append (z ∷ xs) ys x (inr m) = elim (among_append xs ys x m) [ inl k ↦ inl (inr k) | inr k ↦ inr k ]

pub distinct_append : (ms ns : List Name) → AreDistinct ms → AreDistinct ns → ((n : Name) → Among n ms → Among n ns → ⊥) → AreDistinct (ms ++ ns)
distinct_append [] ns a b c = b
distinct_append (m ∷ ms) ns a b c = (λ k. elim (among_append ms ns m k) [ inl i ↦ a.0 i | inr i ↦ c m (inl refl) i ], distinct_append ms ns a.1 b (λ n i j. c n (inr i) j))

pub name_passing : (t : Name × Stated → Bool) (fs : List (Name × Stated)) (n : Name) → Among n (names_of (filter t fs)) → (f : Name × Stated) × Among f fs × (t f ≡ true) × (n ≡ f.0)
name_passing t [] n m = absurd m
name_passing t (f ∷ fs) n m = go (name_passing t fs n) (t f) refl m
  where
    go : (Among n (names_of (filter t fs)) → (f : Name × Stated) × Among f fs × (t f ≡ true) × (n ≡ f.0)) → (b : Bool) → t f ≡ b → Among n (names_of (cond b (f ∷ filter t fs) (filter t fs))) → (g : Name × Stated) × Among g (f ∷ fs) × (t g ≡ true) × (n ≡ g.0)
    go rest true e (inl d) = (f, inl refl, e, d)
    go rest true e (inr k) = let r = rest k in (r.0, inr r.1, r.2, r.3)
    go rest false e k = let r = rest k in (r.0, inr r.1, r.2, r.3)

pub among_name : (fs : List (Name × Stated)) (f : Name × Stated) → Among f fs → Among f.0 (names_of fs)
among_name [] f m = absurd m
among_name (g ∷ fs) f (inl e) = inl (ap (λ (p : Name × Stated). p.0) e)
among_name (g ∷ fs) f (inr m) = inr (among_name fs f m)

pub distinct_filter : (t : Name × Stated → Bool) (fs : List (Name × Stated)) → AreDistinct (names_of fs) → AreDistinct (names_of (filter t fs))
distinct_filter t [] d = tt
distinct_filter t (f ∷ fs) d = go (distinct_filter t fs d.1) (t f)
  where
    go : AreDistinct (names_of (filter t fs)) → (b : Bool) → AreDistinct (names_of (cond b (f ∷ filter t fs) (filter t fs)))
    go rest true = (λ m. let r = name_passing t fs f.0 m in d.0 (subst (λ k. Among k (names_of fs)) (sym r.3) (among_name fs r.0 r.1)), rest)
    go rest false = rest

pub name_found : {A : Type 0} (es : List (Name × A)) (n : Name) → Among n (names_of es) → is_none (value_at es n) ≡ false
name_found [] n m = absurd m
name_found (e ∷ es) n m = go (name_found es n) (pointwise ◌==◌ n e.0) refl m
  where
    go : (Among n (names_of es) → is_none (value_at es n) ≡ false) → (b : Bool) → pointwise ◌==◌ n e.0 ≡ b → Among n (names_of (e ∷ es)) → is_none (if b then Some e.1 else value_at es n) ≡ false
    go rest true q k = refl
    go rest false q (inl d) = absurd (true≢false (sym ((bytes_decides n e.0).1 d) ∙ q))
    go rest false q (inr k) = rest k

first_names_of : {A : Type 0} (es : List (Name × (Stated × A))) → names_of (first_parts es) ≡ names_of es
first_names_of [] = refl
first_names_of (e ∷ es) = ap (λ l. e.0 ∷ l) (first_names_of es)

abbrev RegularBoth : Stated → Merge → Type 0
RegularBoth x m = Regular x → (y : Stated) → Regular y → (z : Stated) → m y ≡ Some z → Regular z

pub merged_names : (es : List (Name × (Stated × Merge))) (fs xs : List (Name × Stated)) → merged_exports es fs ≡ Some xs → names_of xs ≡ names_of es
merged_names [] fs xs e = ap names_of (sym (same_Some _ _ e))
merged_names (e ∷ es) fs xs q =
    let b = both_is (λ x ys. (e.0, x) ∷ ys) (merged_with e.1.1 e.1.0 (value_at fs e.0)) (merged_exports es fs) xs q in
    ap names_of (sym b.4) ∙ ap (λ l. e.0 ∷ l) (merged_names es fs b.1 b.3)

with_regular : (x : Stated) (m : Merge) (o : Option Stated) (z : Stated) → RegularBoth x m → Regular x → ((y : Stated) → o ≡ Some y → Regular y) → merged_with m x o ≡ Some z → Regular z
with_regular x m None z h r k e = subst Regular (same_Some _ _ e) r
with_regular x m (Some y) z h r k e = h r y (k y refl) z e

merged_regular : (es : List (Name × (Stated × Merge))) (fs xs : List (Name × Stated)) → EachEntry RegularBoth es → merged_exports es fs ≡ Some xs → ((n : Name) (x : Stated) → Among (n, x) (first_parts es) → Regular x)
    → ((n : Name) (y : Stated) → value_at fs n ≡ Some y → Regular y) → (n : Name) (z : Stated) → Among (n, z) xs → Regular z
merged_regular [] fs xs h e a b n z m = absurd (subst (Among (n, z)) (sym (same_Some _ _ e)) m)
merged_regular (e ∷ es) fs xs h q a b n z m =
    let w = both_is (λ x ys. (e.0, x) ∷ ys) (merged_with e.1.1 e.1.0 (value_at fs e.0)) (merged_exports es fs) xs q in
    elim (subst (Among (n, z)) (sym w.4) m) [
      | inl d ↦ subst Regular (sym (ap (λ (p : Name × Stated). p.1) d)) (with_regular e.1.0 e.1.1 (value_at fs e.0) w.0 h.0 (a e.0 e.1.0 (inl refl)) (λ y r. b e.0 y r) w.2)
      | inr k ↦ merged_regular es fs w.1 h.1 w.3 (λ i x j. a i x (inr j)) b n z k
    ]

module _ (i : Option Name) (us : List (Name × Option Name)) (es : List Name) (ts : Wholes Shape) (y : Stated) where
  abbrev p : Parts Merge
  p = parts_at (interface i us es) (folded_row merge_at ts)

  abbrev uses : List Used
  uses = map (λ u. u.0) p.uses ++ filter (λ (u : Used). not (has_use (map (λ v. v.0) p.uses) u.name)) (uses_of y)

  abbrev rest : List (Name × Stated)
  rest = filter (λ (f : Name × Stated). is_none (value_at p.exports f.0)) (exports_of y)

  abbrev Is : Stated → Type 0
  Is z = (is_instance_kind (kind_of z) ≡ true) × (is_interface (kind_of (as_type z)) ≡ true) × EachRegular z × EachRegular (as_type z)

  module _ (h : EachEntry RegularBoth p.exports) (r : EachRegular (node (interface i us es) ts)) (q : EachRegular y) (xs : List (Name × Stated)) (e : merged_exports p.exports (exports_of y) ≡ Some xs) where
    own : (n : Name) (x : Stated) → Among (n, x) (first_parts p.exports) → Regular x
    own n x k = r.1 n x (value_there (exports_of (node (interface i us es) ts)) n x r.0 (subst (Among (n, x)) (own_exports i us es ts) k))

    names_are : names_of xs ≡ names_of p.exports
    names_are = merged_names p.exports (exports_of y) xs e

    first_distinct : AreDistinct (names_of xs)
    first_distinct = subst AreDistinct (sym (names_are ∙ sym (first_names_of p.exports) ∙ ap names_of (own_exports i us es ts))) r.0

    apart : (n : Name) → Among n (names_of xs) → Among n (names_of rest) → ⊥
    apart n a b =
        let f = name_passing (λ (f : Name × Stated). is_none (value_at p.exports f.0)) (exports_of y) n b in
        true≢false (sym f.2 ∙ ap (λ k. is_none (value_at p.exports k)) (sym f.3) ∙ name_found p.exports n (subst (Among n) names_are a))

    distinct : AreDistinct (names_of (xs ++ rest))
    distinct =
        subst AreDistinct (sym (map-append (λ (f : Name × Stated). f.0) xs rest))
        (distinct_append (names_of xs) (names_of rest) first_distinct (distinct_filter (λ (f : Name × Stated). is_none (value_at p.exports f.0)) (exports_of y) q.0) apart)

    each : (n : Name) (w : Stated) → value_at (xs ++ rest) n ≡ Some w → Regular w
    each n w k = elim (among_append xs rest (n, w) (value_among (xs ++ rest) n w k)) [
      | inl a ↦ merged_regular p.exports (exports_of y) xs h e own (λ i x e. q.1 i x e) n w a
      | inr b ↦ q.1 n w (value_there (exports_of y) n w q.0 (filter_among (λ (f : Name × Stated). is_none (value_at p.exports f.0)) (exports_of y) (n, w) b).0)
    ]

    made_each : EachRegular (interface_of p.identifier uses (xs ++ rest))
    made_each =
        let made = made_exports p.identifier uses (xs ++ rest) in
        (subst (λ l. AreDistinct (names_of l)) (sym made) distinct, λ n w k. each n w (ap (λ l. value_at l n) (sym made) ∙ k))

  interface_each : (z : Stated) → EachEntry RegularBoth p.exports → EachRegular (node (interface i us es) ts) → EachRegular y → merged_interface p y ≡ Some z → Is z
  interface_each z h r q e =
      let m = mapped-some (λ (xs : List (Name × Stated)). interface_of p.identifier uses (xs ++ rest)) (merged_exports p.exports (exports_of y)) z e in
      let whole = made_each h r q m.0 m.1 in
      subst Is m.2 (refl, refl, whole, whole)

same_regular : (s : Shape) (ts : Wholes Shape) (y z : Stated) → Regular (node s ts) → same_tree_as (rebuilt s (folded_row merge_at ts)) y ≡ Some z → Regular z
same_regular s ts y z r e =
    let x = rebuilt s (folded_row merge_at ts) in
    let same : x ≡ node s ts = ap (λ os. node s (row os)) (folded_firsts merge_at ts) ∙ ap (node s) (row_again ts) in
    subst Regular (sym same ∙ same_Some _ _ (if_is (fits x y && fits y x) (Some x) z e).1) r

merge_at_regular : (s : Shape) (ts : Wholes Shape) → EachPlace RegularBoth (folded_row merge_at ts) → RegularBoth (node s ts) (merge_at s (folded_row merge_at ts))
merge_at_regular (interface i us es) ts h r y q z e =
    let b = if_is (is_instance_kind (kind_of y)) (merged_interface (parts_at (interface i us es) (folded_row merge_at ts)) y) z e in
    let w = interface_each i us es ts y z (names_each RegularBoth es (drop (length us) (folded_row merge_at ts)) (drop_each RegularBoth us (folded_row merge_at ts) h)) (instance_regular (node (interface i us es) ts) refl r) (instance_regular y b.0 q) b.1 in
    an_instance w.0 w.2.0 w.2.1
merge_at_regular (type_of (interface i us es)) ts h r y q z e =
    let b = if_is (is_interface (kind_of y)) (option_map as_type (merged_interface (parts_at (interface i us es) (folded_row merge_at ts)) y)) z e in
    let m = mapped-some as_type (merged_interface (parts_at (interface i us es) (folded_row merge_at ts)) y) z b.1 in
    let w = interface_each i us es ts y m.0 (names_each RegularBoth es (drop (length us) (folded_row merge_at ts)) (drop_each RegularBoth us (folded_row merge_at ts) h)) (interface_regular (node (type_of (interface i us es)) ts) refl r) (interface_regular y b.0 q) m.1 in
    subst Regular m.2 (an_interface w.1 w.3.0 w.3.1)
merge_at_regular s ts h (flat a b f) y q z e = same_regular s ts y z (flat a b f) (sym (merge_flat (folded_row merge_at ts) s y a b) ∙ e)
merge_at_regular s ts h (an_instance a d k) y q z e = absurd (true≢false (sym a))
merge_at_regular s ts h (an_interface a d k) y q z e = absurd (true≢false (sym a))

mutual
  merge_regular : (x : Stated) → RegularBoth x (merge x)
  merge_regular (node s ts) r y q z e = merge_at_regular s ts (row_regular ts) r y q z e

  row_regular : (ts : Wholes Shape) → EachPlace RegularBoth (folded_row merge_at ts)
  row_regular no_more = tt
  row_regular (hole ts) = row_regular ts
  row_regular (more t ts) = (merge_regular t, row_regular ts)

-- ---- a list of asks

narrower_none : (x y : Stated) → narrower x y ≡ None → (Fits (tree x) (tree y) → ⊥) × (Fits (tree y) (tree x) → ⊥)
narrower_none x y e = go (fits x y) refl (fits y x) refl e
  where
    go : (a : Bool) → fits x y ≡ a → (b : Bool) → fits y x ≡ b → (if a then Some x else (if b then Some y else None)) ≡ None → (Fits (tree x) (tree y) → ⊥) × (Fits (tree y) (tree x) → ⊥)
    go true p b q e = absurd (none-some _ (sym e))
    go false p true q e = absurd (none-some _ (sym e))
    go false p false q e = (λ f. true≢false (sym ((fits_decides x y).1 f) ∙ p), λ f. true≢false (sym ((fits_decides y x).1 f) ∙ q))

-- asks behind a first one that keep something go on from there
pub kept_further : (before as_ bs : List Asked) (x w : Stated) → kept_from before (Some x) as_ ≡ Some w → kept_from before (Some x) (as_ ++ bs) ≡ kept_from (before ++ as_) (Some w) bs
kept_further before [] bs x w e = λ i. kept_from (sym (append_nil before) i) (Some (same_Some _ _ e i)) bs
kept_further before (c ∷ as_) bs x w e = go (λ v r. kept_further (before ++ c ∷ []) as_ bs v w r) (if in_family (before ++ c ∷ []) then merge x c.1 else narrower x c.1) e
  where
    go : ((v : Stated) → kept_from (before ++ c ∷ []) (Some v) as_ ≡ Some w → kept_from (before ++ c ∷ []) (Some v) (as_ ++ bs) ≡ kept_from ((before ++ c ∷ []) ++ as_) (Some w) bs)
        → (o : Option Stated) → kept_from (before ++ c ∷ []) o as_ ≡ Some w → kept_from (before ++ c ∷ []) o (as_ ++ bs) ≡ kept_from (before ++ c ∷ as_) (Some w) bs
    go further None r = absurd (no_more_kept (before ++ c ∷ []) as_ w r)
    go further (Some v) r = further v r ∙ ap (λ l. kept_from l (Some w) bs) (append_assoc before (c ∷ []) as_)

-- whose asks are of a family keep what is of one
regular_first : (as_ : List Asked) (a : Asked) → AreRegular (as_ ++ a ∷ []) → AreRegular as_
regular_first as_ a r b m = r b (left as_ m)
  where
    left : (cs : List Asked) → Among b cs → Among b (cs ++ a ∷ [])
    left [] k = absurd k
    left (c ∷ cs) (inl d) = inl d
    left (c ∷ cs) (inr k) = inr (left cs k)

regular_last : (as_ : List Asked) (a : Asked) → AreRegular (as_ ++ a ∷ []) → Regular a.1
regular_last as_ a r = r a (last as_)
  where
    last : (cs : List Asked) → Among a (cs ++ a ∷ [])
    last [] = inl refl
    last (c ∷ cs) = inr (last cs)

narrower_regular : (x y z : Stated) → Regular x → Regular y → narrower x y ≡ Some z → Regular z
narrower_regular x y z r q e = go (fits x y) (fits y x) e
  where
    go : (a b : Bool) → (if a then Some x else (if b then Some y else None)) ≡ Some z → Regular z
    go true b e = subst Regular (same_Some _ _ e) r
    go false true e = subst Regular (same_Some _ _ e) q
    go false false e = absurd (none-some _ e)

step_regular : (b : Bool) (x y z : Stated) → Regular x → Regular y → (if b then merge x y else narrower x y) ≡ Some z → Regular z
step_regular true x y z r q e = merge_regular x r y q z e
step_regular false x y z r q e = narrower_regular x y z r q e

kept_regular : (before as_ : List Asked) (x z : Stated) → Regular x → AreRegular as_ → kept_from before (Some x) as_ ≡ Some z → Regular z
kept_regular before [] x z r k e = subst Regular (same_Some _ _ e) r
kept_regular before (a ∷ as_) x z r k e = go (λ w i j. kept_regular (before ++ a ∷ []) as_ w z i (λ b m. k b (inr m)) j) (if in_family (before ++ a ∷ []) then merge x a.1 else narrower x a.1) refl e
  where
    go : ((w : Stated) → Regular w → kept_from (before ++ a ∷ []) (Some w) as_ ≡ Some z → Regular z) → (o : Option Stated) → (if in_family (before ++ a ∷ []) then merge x a.1 else narrower x a.1) ≡ o → kept_from (before ++ a ∷ []) o as_ ≡ Some z → Regular z
    go further None q r = absurd (no_more_kept (before ++ a ∷ []) as_ z r)
    go further (Some w) q j = further w (step_regular (in_family (before ++ a ∷ [])) x a.1 w r (k a (inl refl)) q) j

from_none : (b : Asked) (bs as_ : List Asked) (x : Stated) → kept (b ∷ bs) ≡ Some x → kept_from (b ∷ bs) (Some x) as_ ≡ None → KeepNothing (b ∷ bs ++ as_)
from_none b bs [] x so e = absurd (none-some _ (sym e))
from_none b bs (c ∷ cs) x so e =
    go (λ w s r. subst (λ l. KeepNothing (b ∷ l)) (append_assoc bs (c ∷ []) cs) (from_none b (bs ++ c ∷ []) cs w s r)) (in_family (b ∷ bs ++ c ∷ [])) refl (if in_family (b ∷ bs ++ c ∷ []) then merge x c.1 else narrower x c.1) refl e
  where
    refused : (f : Bool) → in_family (b ∷ bs ++ c ∷ []) ≡ f → (if f then merge x c.1 else narrower x c.1) ≡ None → KeepNothing (b ∷ bs ++ c ∷ cs)
    refused f g q = record {
      before = b ∷ bs;
      ask = c;
      later = cs;
      are = refl;
      item = x;
      so_far = so;
      of_family = λ i r t o a.
          let h : merge x c.1 ≡ None = ap (λ (k : Bool). if k then merge x c.1 else narrower x c.1) (sym i ∙ g) ∙ q in
          let all : FitsAll t (trees_asked (b ∷ bs) ++ tree c.1 ∷ []) = subst (FitsAll t) (trees_append (b ∷ bs) c) a in
          let mine = regular_first (b ∷ bs) c r in
          merge_clashes x (kept_regular (b ∷ []) bs b.1 x (mine b (inl refl)) (λ d m. mine d (inr m)) so) c.1 (regular_last (b ∷ bs) c r) h t o
          ((kept_meets (b ∷ bs) x so).greatest t o (FitsAll-left t (trees_asked (b ∷ bs)) (tree c.1 ∷ []) all)) (FitsAll-right t (trees_asked (b ∷ bs)) (tree c.1 ∷ []) all).0;
      of_none = λ i. narrower_none x c.1 (ap (λ (k : Bool). if k then merge x c.1 else narrower x c.1) (sym i ∙ g) ∙ q);
    }

    go : ((w : Stated) → kept (b ∷ bs ++ c ∷ []) ≡ Some w → kept_from (b ∷ bs ++ c ∷ []) (Some w) cs ≡ None → KeepNothing (b ∷ bs ++ c ∷ cs)) → (f : Bool) → in_family (b ∷ bs ++ c ∷ []) ≡ f → (o : Option Stated)
        → (if in_family (b ∷ bs ++ c ∷ []) then merge x c.1 else narrower x c.1) ≡ o → kept_from (b ∷ bs ++ c ∷ []) o cs ≡ None → KeepNothing (b ∷ bs ++ c ∷ cs)
    go further f g None q r = refused f g (ap (λ (k : Bool). if k then merge x c.1 else narrower x c.1) (sym g) ∙ q)
    go further f g (Some w) q r = further w (kept_further (b ∷ []) bs (c ∷ []) b.1 x so ∙ ap (λ o. kept_from (b ∷ bs ++ c ∷ []) o []) q) r

pub none_kept : (a : Asked) (asks : List Asked) → kept (a ∷ asks) ≡ None → KeepNothing (a ∷ asks)
none_kept a asks e = from_none a [] asks a.1 refl e
