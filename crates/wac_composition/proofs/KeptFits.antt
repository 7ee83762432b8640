-- What several asks of one outer import keep is the greatest tree that fits each of them.
use Rattle.std.specs.Prelude.{◌==◌, drop, option_map, is_none, not, cond, filter, if◌then◌else◌, ◌&&◌, ⊤}
use Rattle.std.proofs.lemmas.Option.{none-some, same_Some}
use Rattle.std.specs.Cmp.Lexicographic.{pointwise, bytes_decides}
use Rattle.std.proofs.Common.{◌≡◌, List, [], ◌∷◌, ◌++◌, append_assoc, map, length, Bool, true, false, true≢false, Option, Some, None, inl, inr, refl, sym, ap, subst, ◌∙◌}
use Rattle.wac_types_base.proofs.Lists.{value_append, value_behind}
use Rattle.wac_types_base.specs.Entries.{Name, value_at}
use Rattle.wac_types_base.specs.Graph.{Wholes, node, no_more, more, hole, Among}
use Rattle.wac_types_base.specs.Collection.{Shape, primitive, tuple, list, fixed_size_list, option, result, variant, record_of, flags, enum, alias, stream, future, resource, resource_alias, func, interface, world, module_type, type_of, own_of, borrow_of}
use Rattle.wac_types_base.specs.Stated.{Stated, row, folded_row, places_in, with_names, names, filled, Used, names_used, used_places, interface_of, shape_kind, kind_of, Parts, parts_at, only_places, first_parts, exports_of, uses_of, as_type, is_interface}
use Rattle.wac_types_base.specs.Tree.{Tree, instance, type_item, end, no_fields, put, fields, past, tree, trees}
use Rattle.wac_types_base.specs.Fits.{HasField, Fits, FieldsFit, type_fits}
use Rattle.wac_types_fit.specs.Ordered.{InOrder, AllInOrder}
use Rattle.wac_types_fit.specs.Meets.{FitsAll, IsMeet}
use Rattle.wac_types_fit.proofs.Meeting.{Joins, FieldsMeet, fields_meet, meet_one, meet_narrower, meet_more, mapped-some}
use Rattle.wac_types_fit.specs.Lookups.{lookup}
use Rattle.wac_types_fit.proofs.Looking.{looked-has, has-looked, all_given, looked-put, looked-other}
use Rattle.wac_types_fit.proofs.Ordering.{tree_in_order, AllInOrder-put}
use Rattle.wac_types_fit.proofs.TreeLaws.{Fits-refl}
use Rattle.wac_composition.specs.Names.{has_track}
use Rattle.wac_composition.specs.Classes.{spelled, is_instance_kind}
use Rattle.wac_composition.specs.Tests.{fits}
use Rattle.wac_composition.specs.Merging.{Merge, both, merged_with, merged_exports, has_use, merged_interface, rebuilt, if_kind, same_tree_as, merge_at, merge, Asked, narrower, in_family, kept_from, kept, identified_by, identified}
use Rattle.wac_composition.specs.Asks.{Ask}
use Rattle.wac_composition.specs.OuterImports.{asked_in, outer_of}
use Rattle.wac_composition.specs.OuterLaws.{trees_asked, Kept_is_meet}
use Rattle.wac_composition.specs.Sound.{fields_of}
use Rattle.wac_composition.proofs.FitLaws.{fits_is}
use Rattle.wac_types_base.proofs.Made.{firsts, first_names, only_firsts, row_places, names_filled}
use Rattle.wac_composition.proofs.MergeRows.{EachEntry, EachPlace, names_each, drop_each}

-- ---- the map that named items are

pub fields_ordered : (es : List (Name × Stated)) → AllInOrder (fields_of es)
fields_ordered [] = tt
fields_ordered (e ∷ es) = AllInOrder-put e.0 (tree e.1) (fields_of es) (tree_in_order e.1) (fields_ordered es)

-- it has what the first entry of a name is
pub fields_looked : (es : List (Name × Stated)) (n : Name) → lookup n (fields_of es) ≡ option_map tree (value_at es n)
fields_looked [] n = refl
fields_looked (e ∷ es) n = go (fields_looked es n) (pointwise ◌==◌ n e.0) refl
  where
    go : lookup n (fields_of es) ≡ option_map tree (value_at es n) → (b : Bool) → pointwise ◌==◌ n e.0 ≡ b → lookup n (put e.0 (tree e.1) (fields_of es)) ≡ option_map tree (if b then Some e.1 else value_at es n)
    go rest true q =
        let is : n ≡ e.0 = (bytes_decides n e.0).0 q in
        subst (λ m. lookup m (put e.0 (tree e.1) (fields_of es)) ≡ Some (tree e.1)) (sym is) (looked-put e.0 (tree e.1) (fields_of es))
    go rest false q = looked-other n e.0 (tree e.1) (fields_of es) (λ is. true≢false (sym ((bytes_decides n e.0).1 is) ∙ q)) ∙ rest

-- a map fits another, where each entry is one that fits
pub fields_fit : (xs ys : List (Name × Stated)) → ((n : Name) (y : Stated) → value_at ys n ≡ Some y → (x : Stated) × (value_at xs n ≡ Some x) × Fits (tree x) (tree y)) → FieldsFit (fields_of xs) (fields_of ys)
fields_fit xs ys h = all_given (fields_of xs) (fields_of ys) (λ n u f. go n u (value_at ys n) refl (sym (fields_looked ys n) ∙ has-looked n u (fields_of ys) (fields_ordered ys) f))
  where
    go : (n : Name) (u : Tree) (o : Option Stated) → value_at ys n ≡ o → option_map tree o ≡ Some u → (t : Tree) × HasField n t (fields_of xs) × Fits t u
    go n u None e q = absurd (none-some _ q)
    go n u (Some y) e q =
        let g = h n y e in
        (tree g.0, looked-has n (tree g.0) (fields_of xs) (fields_looked xs n ∙ ap (option_map tree) g.1), subst (Fits (tree g.0)) (same_Some _ _ q) g.2)

-- ---- the tree of an interface

pub folded_firsts : {A : Type 0} (f : Shape → List (Option (Stated × A)) → A) (ts : Wholes Shape) → firsts (folded_row f ts) ≡ places_in ts
folded_firsts f no_more = refl
folded_firsts f (hole ts) = ap (λ l. None ∷ l) (folded_firsts f ts)
folded_firsts f (more t ts) = ap (λ l. Some t ∷ l) (folded_firsts f ts)

fields_with : (ns : List Name) (ts : Wholes Shape) → fields ns (trees ts) ≡ fields_of (with_names ns (places_in ts))
fields_with [] ts = refl
fields_with (n ∷ ns) no_more = refl
fields_with (n ∷ ns) (hole ts) = fields_with ns ts
fields_with (n ∷ ns) (more t ts) = ap (put n (tree t)) (fields_with ns ts)

no_fields_with : (ns : List Name) → fields ns end ≡ no_fields
no_fields_with [] = refl
no_fields_with (n ∷ ns) = refl

no_names_with : (ns : List Name) → fields_of (first_parts (with_names {A = Stated × ⊤} ns [])) ≡ no_fields
no_names_with [] = refl
no_names_with (n ∷ ns) = refl

module _ {A U : Type 0} (ns : List Name) where
  -- behind the used interfaces
  pub fields_behind : (us : List U) (os : List (Option (Stated × A))) (ts : Wholes Shape) → firsts os ≡ places_in ts → fields ns (past us (trees ts)) ≡ fields_of (first_parts (with_names ns (drop (length us) os)))
  fields_behind [] os ts e = fields_with ns ts ∙ ap (λ l. fields_of (with_names ns l)) (sym e) ∙ ap fields_of (sym (first_names ns os))
  fields_behind (u ∷ us) [] no_more e = no_fields_with ns ∙ sym (empty ns)
    where
      empty : (ms : List Name) → fields_of (first_parts (with_names {A = Stated × A} ms [])) ≡ no_fields
      empty [] = refl
      empty (m ∷ ms) = refl
  fields_behind (u ∷ us) [] (hole ts) e = absurd (let c : ⊥ = cc e in c)
  fields_behind (u ∷ us) [] (more t ts) e = absurd (let c : ⊥ = cc e in c)
  fields_behind (u ∷ us) (o ∷ os) no_more e = absurd (let c : ⊥ = cc e in c)
  fields_behind (u ∷ us) (o ∷ os) (hole ts) e = fields_behind us os ts cc
  fields_behind (u ∷ us) (o ∷ os) (more t ts) e = fields_behind us os ts cc

-- the exports that the label and the places of an interface give
abbrev pub exports_at : {A : Type 0} → Shape → List (Option (Stated × A)) → List (Name × Stated)
exports_at s os = first_parts (parts_at s os).exports

pub interface_tree : {A : Type 0} (i : Option Name) (us : List (Name × Option Name)) (es : List Name) (os : List (Option (Stated × A))) (ts : Wholes Shape) → firsts os ≡ places_in ts → tree (node (interface i us es) ts) ≡ instance (fields_of (exports_at (interface i us es) os))
interface_tree i us es os ts e = ap instance (fields_behind es us os ts e)

-- an instance is of its exports
pub instance_tree : (y : Stated) → is_instance_kind (kind_of y) ≡ true → tree y ≡ instance (fields_of (exports_of y))
instance_tree (node (interface i us es) ts) e = interface_tree i us es (only_places ts) ts (only_firsts ts)
instance_tree (node (primitive p) ts) e = absurd (true≢false (sym e))
instance_tree (node tuple ts) e = absurd (true≢false (sym e))
instance_tree (node list ts) e = absurd (true≢false (sym e))
instance_tree (node (fixed_size_list n) ts) e = absurd (true≢false (sym e))
instance_tree (node option ts) e = absurd (true≢false (sym e))
instance_tree (node result ts) e = absurd (true≢false (sym e))
instance_tree (node (variant ns) ts) e = absurd (true≢false (sym e))
instance_tree (node (record_of ns) ts) e = absurd (true≢false (sym e))
instance_tree (node (flags ns) ts) e = absurd (true≢false (sym e))
instance_tree (node (enum ns) ts) e = absurd (true≢false (sym e))
instance_tree (node alias ts) e = absurd (true≢false (sym e))
instance_tree (node stream ts) e = absurd (true≢false (sym e))
instance_tree (node future ts) e = absurd (true≢false (sym e))
instance_tree (node (resource n) ts) e = absurd (true≢false (sym e))
instance_tree (node (resource_alias n) ts) e = absurd (true≢false (sym e))
instance_tree (node (func ps a) ts) e = absurd (true≢false (sym e))
instance_tree (node (world i us is es) ts) e = absurd (true≢false (sym e))
instance_tree (node (module_type m) ts) e = absurd (true≢false (sym e))
instance_tree (node (own_of s) ts) e = absurd (true≢false (sym e))
instance_tree (node (borrow_of s) ts) e = absurd (true≢false (sym e))
instance_tree (node (type_of s) ts) e = absurd (typed s e)
  where
    typed : (s : Shape) → is_instance_kind (shape_kind (type_of s)) ≡ true → ⊥
    typed (interface i us es) e = true≢false (sym e)
    typed (primitive p) e = true≢false (sym e)
    typed tuple e = true≢false (sym e)
    typed list e = true≢false (sym e)
    typed (fixed_size_list n) e = true≢false (sym e)
    typed option e = true≢false (sym e)
    typed result e = true≢false (sym e)
    typed (variant ns) e = true≢false (sym e)
    typed (record_of ns) e = true≢false (sym e)
    typed (flags ns) e = true≢false (sym e)
    typed (enum ns) e = true≢false (sym e)
    typed alias e = true≢false (sym e)
    typed stream e = true≢false (sym e)
    typed future e = true≢false (sym e)
    typed (resource n) e = true≢false (sym e)
    typed (resource_alias n) e = true≢false (sym e)
    typed (func ps a) e = true≢false (sym e)
    typed (world i us is es) e = true≢false (sym e)
    typed (module_type m) e = true≢false (sym e)
    typed (own_of s) e = true≢false (sym e)
    typed (borrow_of s) e = true≢false (sym e)
    typed (type_of s) e = true≢false (sym e)

made_behind : (us : List Used) (xs : List (Name × Stated)) → fields (names xs) (past (names_used us) (trees (row (used_places us ++ filled xs)))) ≡ fields_of xs
made_behind [] xs = fields_with (names xs) (row (filled xs)) ∙ ap (λ l. fields_of (with_names (names xs) l)) (row_places (filled xs)) ∙ ap fields_of (names_filled xs)
made_behind (u ∷ us) xs = made_behind us xs

pub made_tree : (i : Option Name) (us : List Used) (xs : List (Name × Stated)) → tree (interface_of i us xs) ≡ instance (fields_of xs)
made_tree i us xs = ap instance (made_behind us xs)

-- ---- two trees

abbrev Meet : Stated → Stated → Stated → Type 0
Meet z x y = IsMeet (tree z) (tree x ∷ tree y ∷ [])

-- what fits another is the meet of both
first_meet : (x y : Stated) → Fits (tree x) (tree y) → Meet x x y
first_meet x y f = meet_narrower (tree x) (tree y) (tree_in_order x) f

second_meet : (x y : Stated) → Fits (tree y) (tree x) → Meet y x y
second_meet x y f = record { ordered = tree_in_order y; fits = (f, (Fits-refl (tree y), tt)); greatest = λ w o g. g.1.0 }

typed_great : (m t u w : Tree) → IsMeet m (t ∷ u ∷ []) → InOrder w → Fits w (type_item t) → Fits w (type_item u) → Fits w (type_item m)
typed_great m t u w h o (type_fits {t = v} f) (type_fits g) = type_fits (h.greatest v o (f, (g, tt)))

typed_meet : (m t u : Tree) → IsMeet m (t ∷ u ∷ []) → IsMeet (type_item m) (type_item t ∷ type_item u ∷ [])
typed_meet m t u h = record {
  ordered = h.ordered;
  fits = (type_fits h.fits.0, (type_fits h.fits.1.0, tt));
  greatest = λ w o f. typed_great m t u w h o f.0 f.1.0;
}

-- ---- merged exports

-- what a merge gives is the meet of both
abbrev pub MeetsBoth : Stated → Merge → Type 0
MeetsBoth x m = (y z : Stated) → m y ≡ Some z → Meet z x y

pub both_is : {A B C : Type 0} (f : A → B → C) (a : Option A) (b : Option B) (c : C) → both f a b ≡ Some c → (x : A) × (y : B) × (a ≡ Some x) × (b ≡ Some y) × (f x y ≡ c)
both_is f (Some x) (Some y) c e = (x, y, refl, refl, same_Some _ _ e)
both_is f (Some x) None c e = absurd (none-some _ e)
both_is f None b c e = absurd (none-some _ e)

-- name by name: of each entry of the first, what is merged
record Merged (es : List (Name × (Stated × Merge))) (fs xs : List (Name × Stated)) : Type 0 where
  alone : (n : Name) (x : Stated) → value_at (first_parts es) n ≡ Some x → value_at fs n ≡ None → value_at xs n ≡ Some x
  in_both : (n : Name) (x y : Stated) → value_at (first_parts es) n ≡ Some x → value_at fs n ≡ Some y → (z : Stated) × (value_at xs n ≡ Some z) × Meet z x y
  others : (n : Name) → value_at (first_parts es) n ≡ None → value_at xs n ≡ None

merged_all : (es : List (Name × (Stated × Merge))) (fs xs : List (Name × Stated)) → EachEntry MeetsBoth es → merged_exports es fs ≡ Some xs → Merged es fs xs
merged_all [] fs xs h e =
    subst (Merged [] fs) (same_Some _ _ e) (record { alone = λ n x q. absurd (none-some _ q); in_both = λ n x y q r. absurd (none-some _ q); others = λ n q. refl })
merged_all (e ∷ es) fs xs h q =
    let b = both_is (λ x ys. (e.0, x) ∷ ys) (merged_with e.1.1 e.1.0 (value_at fs e.0)) (merged_exports es fs) xs q in
    let z = b.0 in
    let rest = b.1 in
    let all = merged_all es fs rest h.1 b.3 in
    subst (Merged (e ∷ es) fs) b.4 (record {
      alone = λ n x p r. go_alone n x (pointwise ◌==◌ n e.0) refl z b.2 rest (all.alone n x) p r;
      in_both = λ n x y p r. go_both n x y (pointwise ◌==◌ n e.0) refl z b.2 rest (all.in_both n x y) p r;
      others = λ n p. go_others n (pointwise ◌==◌ n e.0) z rest (all.others n) p;
    })
  where
    kept_alone : (o : Option Stated) (z : Stated) → o ≡ None → merged_with e.1.1 e.1.0 o ≡ Some z → e.1.0 ≡ z
    kept_alone None z p r = same_Some _ _ r
    kept_alone (Some y) z p r = absurd (none-some _ (sym p))

    kept_both : (o : Option Stated) (y z : Stated) → o ≡ Some y → merged_with e.1.1 e.1.0 o ≡ Some z → Meet z e.1.0 y
    kept_both None y z p r = absurd (none-some _ p)
    kept_both (Some w) y z p r = subst (λ k. Meet z e.1.0 k) (same_Some _ _ p) (h.0 w z r)

    go_alone : (n : Name) (x : Stated) (b : Bool) → pointwise ◌==◌ n e.0 ≡ b → (z : Stated) → merged_with e.1.1 e.1.0 (value_at fs e.0) ≡ Some z → (rest : List (Name × Stated)) → (value_at (first_parts es) n ≡ Some x → value_at fs n ≡ None → value_at rest n ≡ Some x)
        → (if b then Some e.1.0 else value_at (first_parts es) n) ≡ Some x → value_at fs n ≡ None → (if b then Some z else value_at rest n) ≡ Some x
    go_alone n x true t z m rest r p q =
        let none : value_at fs e.0 ≡ None = ap (value_at fs) (sym ((bytes_decides n e.0).0 t)) ∙ q in
        ap Some (sym (kept_alone (value_at fs e.0) z none m) ∙ same_Some _ _ p)
    go_alone n x false t z m rest r p q = r p q

    go_both : (n : Name) (x y : Stated) (b : Bool) → pointwise ◌==◌ n e.0 ≡ b → (z : Stated) → merged_with e.1.1 e.1.0 (value_at fs e.0) ≡ Some z → (rest : List (Name × Stated)) → (value_at (first_parts es) n ≡ Some x → value_at fs n ≡ Some y → (w : Stated) × (value_at rest n ≡ Some w) × Meet w x y)
        → (if b then Some e.1.0 else value_at (first_parts es) n) ≡ Some x → value_at fs n ≡ Some y → (w : Stated) × ((if b then Some z else value_at rest n) ≡ Some w) × Meet w x y
    go_both n x y true t z m rest r p q =
        let there : value_at fs e.0 ≡ Some y = ap (value_at fs) (sym ((bytes_decides n e.0).0 t)) ∙ q in
        (z, refl, subst (λ k. Meet z k y) (same_Some _ _ p) (kept_both (value_at fs e.0) y z there m))
    go_both n x y false t z m rest r p q = r p q

    go_others : (n : Name) (b : Bool) (z : Stated) (rest : List (Name × Stated)) → (value_at (first_parts es) n ≡ None → value_at rest n ≡ None) → (if b then Some e.1.0 else value_at (first_parts es) n) ≡ None → (if b then Some z else value_at rest n) ≡ None
    go_others n true z rest r p = absurd (none-some _ (sym p))
    go_others n false z rest r p = r p

-- ---- the merged interface

-- those whose names pass a test
pub value_passing : (t : Name → Bool) (fs : List (Name × Stated)) (n : Name) (y : Stated) → t n ≡ true → value_at fs n ≡ Some y → value_at (filter (λ f. t f.0) fs) n ≡ Some y
value_passing t [] n y p e = absurd (none-some _ e)
value_passing t (f ∷ fs) n y p e = go (value_passing t fs n y p) (pointwise ◌==◌ n f.0) refl (t f.0) refl e
  where
    go : (value_at fs n ≡ Some y → value_at (filter (λ f. t f.0) fs) n ≡ Some y) → (b : Bool) → pointwise ◌==◌ n f.0 ≡ b → (k : Bool) → t f.0 ≡ k → (if b then Some f.1 else value_at fs n) ≡ Some y → value_at (cond k (f ∷ filter (λ f. t f.0) fs) (filter (λ f. t f.0) fs)) n ≡ Some y
    go rest true q false r e = absurd (true≢false (sym (ap t (sym ((bytes_decides n f.0).0 q)) ∙ p) ∙ r))
    go rest true q true r e = ap (λ (b : Bool). if b then Some f.1 else value_at (filter (λ f. t f.0) fs) n) q ∙ e
    go rest false q true r e = ap (λ (b : Bool). if b then Some f.1 else value_at (filter (λ f. t f.0) fs) n) q ∙ rest e
    go rest false q false r e = rest e

value_first : {A : Type 0} (es : List (Name × (Stated × A))) (n : Name) → value_at (first_parts es) n ≡ option_map (λ x. x.0) (value_at es n)
value_first [] n = refl
value_first (e ∷ es) n = go (value_first es n) (pointwise ◌==◌ n e.0)
  where
    go : value_at (first_parts es) n ≡ option_map (λ x. x.0) (value_at es n) → (b : Bool) → (if b then Some e.1.0 else value_at (first_parts es) n) ≡ option_map (λ x. x.0) (if b then Some e.1 else value_at es n)
    go rest true = refl
    go rest false = rest

none_first : {A : Type 0} (o : Option (Stated × A)) → option_map (λ x. x.0) o ≡ None → is_none o ≡ true
none_first None e = refl
none_first (Some x) e = absurd (none-some _ (sym e))

none_passing : (t : Name → Bool) (fs : List (Name × Stated)) (n : Name) → value_at fs n ≡ None → value_at (filter (λ f. t f.0) fs) n ≡ None
none_passing t [] n e = refl
none_passing t (f ∷ fs) n e = go (none_passing t fs n) (pointwise ◌==◌ n f.0) refl (t f.0) e
  where
    go : (value_at fs n ≡ None → value_at (filter (λ f. t f.0) fs) n ≡ None) → (b : Bool) → pointwise ◌==◌ n f.0 ≡ b → (k : Bool) → (if b then Some f.1 else value_at fs n) ≡ None → value_at (cond k (f ∷ filter (λ f. t f.0) fs) (filter (λ f. t f.0) fs)) n ≡ None
    go rest true q k e = absurd (none-some _ (sym e))
    go rest false q true e = ap (λ (b : Bool). if b then Some f.1 else value_at (filter (λ f. t f.0) fs) n) q ∙ rest e
    go rest false q false e = rest e

joined_trees : (p q r : Option Stated) → ((x : Stated) → p ≡ Some x → q ≡ None → r ≡ Some x) → ((x y : Stated) → p ≡ Some x → q ≡ Some y → (z : Stated) × (r ≡ Some z) × Meet z x y) → (p ≡ None → r ≡ q)
    → Joins (option_map tree p) (option_map tree q) (option_map tree r)
joined_trees None q r f g h = ap (option_map tree) (h refl)
joined_trees (Some x) None r f g h = ap (option_map tree) (f x refl refl)
joined_trees (Some x) (Some y) r f g h = let m = g x y refl refl in (tree m.0, ap (option_map tree) m.1, m.2)

-- the map of the merged interface is the meet of both
maps_meet : (es : List (Name × (Stated × Merge))) (fs xs : List (Name × Stated)) → Merged es fs xs → FieldsMeet (fields_of (first_parts es)) (fields_of fs) (fields_of (xs ++ filter (λ f. is_none (value_at es f.0)) fs))
maps_meet es fs xs m =
    let rest = filter (λ (f : Name × Stated). is_none (value_at es f.0)) fs in
    record {
      ordered = fields_ordered (xs ++ rest);
      joins = λ n.
          subst (λ o. Joins o (lookup n (fields_of fs)) (lookup n (fields_of (xs ++ rest)))) (sym (fields_looked (first_parts es) n))
          (subst (λ o. Joins (option_map tree (value_at (first_parts es) n)) o (lookup n (fields_of (xs ++ rest)))) (sym (fields_looked fs n))
          (subst (λ o. Joins (option_map tree (value_at (first_parts es) n)) (option_map tree (value_at fs n)) o) (sym (fields_looked (xs ++ rest) n))
          (joined_trees (value_at (first_parts es) n) (value_at fs n) (value_at (xs ++ rest) n)
          (λ x p q. value_append xs rest n x (m.alone n x p q))
          (λ x y p q. let z = m.in_both n x y p q in (z.0, value_append xs rest n z.0 z.1, z.2))
          (λ p. value_behind xs rest n (m.others n p) ∙ behind n (none_first (value_at es n) (sym (value_first es n) ∙ p)) (value_at fs n) refl))));
    }
  where
    behind : (n : Name) → is_none (value_at es n) ≡ true → (o : Option Stated) → value_at fs n ≡ o → value_at (filter (λ (f : Name × Stated). is_none (value_at es f.0)) fs) n ≡ value_at fs n
    behind n e None q = none_passing (λ k. is_none (value_at es k)) fs n q ∙ sym q
    behind n e (Some y) q = value_passing (λ k. is_none (value_at es k)) fs n y e q ∙ sym q

pub if_is : (b : Bool) (o : Option Stated) (z : Stated) → if_kind b o ≡ Some z → (b ≡ true) × (o ≡ Some z)
if_is true o z e = (refl, e)
if_is false o z e = absurd (none-some _ e)

-- the trees of what is merged, as instances
record MeetsTrees (p : Parts Merge) (y z : Stated) : Type 0 where
  made : List (Name × Stated)
  tree_is : tree z ≡ instance (fields_of made)
  meet : IsMeet (instance (fields_of made)) (instance (fields_of (first_parts p.exports)) ∷ instance (fields_of (exports_of y)) ∷ [])

merged_fits : (p : Parts Merge) (y z : Stated) → EachEntry MeetsBoth p.exports → merged_interface p y ≡ Some z → MeetsTrees p y z
merged_fits p y z h e =
    let uses = map (λ u. u.0) p.uses ++ filter (λ (u : Used). not (has_use (map (λ v. v.0) p.uses) u.name)) (uses_of y) in
    let rest = filter (λ (f : Name × Stated). is_none (value_at p.exports f.0)) (exports_of y) in
    let m = mapped-some (λ (xs : List (Name × Stated)). interface_of p.identifier uses (xs ++ rest)) (merged_exports p.exports (exports_of y)) z e in
    record {
      made = m.0 ++ rest;
      tree_is = ap tree (sym m.2) ∙ made_tree p.identifier uses (m.0 ++ rest);
      meet = fields_meet (fields_of (first_parts p.exports)) (fields_of (exports_of y)) (fields_of (m.0 ++ rest)) (fields_ordered (first_parts p.exports)) (fields_ordered (exports_of y))
          (maps_meet p.exports (exports_of y) m.0 (merged_all p.exports (exports_of y) m.0 h m.1));
    }

-- ---- all kinds

pub row_again : (ts : Wholes Shape) → row (places_in ts) ≡ ts
row_again no_more = refl
row_again (hole ts) = ap hole (row_again ts)
row_again (more t ts) = ap (more t) (row_again ts)

-- what is compared as it is
same_fits : (s : Shape) (ts : Wholes Shape) (y z : Stated) → same_tree_as (rebuilt s (folded_row merge_at ts)) y ≡ Some z → Meet z (node s ts) y
same_fits s ts y z e =
    let x = rebuilt s (folded_row merge_at ts) in
    let b = if_is (fits x y && fits y x) (Some x) z e in
    let same : x ≡ node s ts = ap (λ os. node s (row os)) (folded_firsts merge_at ts) ∙ ap (node s) (row_again ts) in
    subst (λ w. Meet w (node s ts) y) (same_Some _ _ b.1) (subst (λ w. Meet x w y) same (first_meet x y (fits_is (tree x) (tree y) (left (fits x y) (fits y x) b.0))))
  where
    left : (a b : Bool) → (a && b) ≡ true → a ≡ true
    left true b e = refl
    left false b e = e

-- the type of an interface is of its exports
pub item_tree : (y : Stated) → is_interface (kind_of y) ≡ true → tree y ≡ type_item (instance (fields_of (exports_of y)))
item_tree (node (type_of (interface i us es)) ts) e = ap type_item (interface_tree i us es (only_places ts) ts (only_firsts ts))
item_tree (node (interface i us es) ts) e = absurd (true≢false (sym e))
item_tree (node (primitive p) ts) e = absurd (true≢false (sym e))
item_tree (node tuple ts) e = absurd (true≢false (sym e))
item_tree (node list ts) e = absurd (true≢false (sym e))
item_tree (node (fixed_size_list n) ts) e = absurd (true≢false (sym e))
item_tree (node option ts) e = absurd (true≢false (sym e))
item_tree (node result ts) e = absurd (true≢false (sym e))
item_tree (node (variant ns) ts) e = absurd (true≢false (sym e))
item_tree (node (record_of ns) ts) e = absurd (true≢false (sym e))
item_tree (node (flags ns) ts) e = absurd (true≢false (sym e))
item_tree (node (enum ns) ts) e = absurd (true≢false (sym e))
item_tree (node alias ts) e = absurd (true≢false (sym e))
item_tree (node stream ts) e = absurd (true≢false (sym e))
item_tree (node future ts) e = absurd (true≢false (sym e))
item_tree (node (resource n) ts) e = absurd (true≢false (sym e))
item_tree (node (resource_alias n) ts) e = absurd (true≢false (sym e))
item_tree (node (func ps a) ts) e = absurd (true≢false (sym e))
item_tree (node (world i us is es) ts) e = absurd (true≢false (sym e))
item_tree (node (module_type m) ts) e = absurd (true≢false (sym e))
item_tree (node (own_of s) ts) e = absurd (true≢false (sym e))
item_tree (node (borrow_of s) ts) e = absurd (true≢false (sym e))
item_tree (node (type_of (primitive p)) ts) e = absurd (true≢false (sym e))
item_tree (node (type_of tuple) ts) e = absurd (true≢false (sym e))
item_tree (node (type_of list) ts) e = absurd (true≢false (sym e))
item_tree (node (type_of (fixed_size_list n)) ts) e = absurd (true≢false (sym e))
item_tree (node (type_of option) ts) e = absurd (true≢false (sym e))
item_tree (node (type_of result) ts) e = absurd (true≢false (sym e))
item_tree (node (type_of (variant ns)) ts) e = absurd (true≢false (sym e))
item_tree (node (type_of (record_of ns)) ts) e = absurd (true≢false (sym e))
item_tree (node (type_of (flags ns)) ts) e = absurd (true≢false (sym e))
item_tree (node (type_of (enum ns)) ts) e = absurd (true≢false (sym e))
item_tree (node (type_of alias) ts) e = absurd (true≢false (sym e))
item_tree (node (type_of stream) ts) e = absurd (true≢false (sym e))
item_tree (node (type_of future) ts) e = absurd (true≢false (sym e))
item_tree (node (type_of (resource n)) ts) e = absurd (true≢false (sym e))
item_tree (node (type_of (resource_alias n)) ts) e = absurd (true≢false (sym e))
item_tree (node (type_of (func ps a)) ts) e = absurd (true≢false (sym e))
item_tree (node (type_of (world i us is es)) ts) e = absurd (true≢false (sym e))
item_tree (node (type_of (module_type m)) ts) e = absurd (true≢false (sym e))
item_tree (node (type_of (own_of s)) ts) e = absurd (true≢false (sym e))
item_tree (node (type_of (borrow_of s)) ts) e = absurd (true≢false (sym e))
item_tree (node (type_of (type_of s)) ts) e = absurd (true≢false (sym e))

pub typed_tree : (z : Stated) → tree (as_type z) ≡ type_item (tree z)
typed_tree (node s ts) = refl

met : {m t u m' t' u' : Tree} → m' ≡ m → t' ≡ t → u' ≡ u → IsMeet m (t ∷ u ∷ []) → IsMeet m' (t' ∷ u' ∷ [])
met {t = t} {u = u} {m' = m'} {t' = t'} a b c h =
    subst (λ w. IsMeet m' (t' ∷ w ∷ [])) (sym c) (subst (λ w. IsMeet m' (w ∷ u ∷ [])) (sym b) (subst (λ w. IsMeet w (t ∷ u ∷ [])) (sym a) h))

merge_at_fits : (s : Shape) (ts : Wholes Shape) → EachPlace MeetsBoth (folded_row merge_at ts) → (y z : Stated) → merge_at s (folded_row merge_at ts) y ≡ Some z → Meet z (node s ts) y
merge_at_fits (interface i us es) ts h y z e =
    let os = folded_row merge_at ts in
    let b = if_is (is_instance_kind (kind_of y)) (merged_interface (parts_at (interface i us es) os) y) z e in
    let f = merged_fits (parts_at (interface i us es) os) y z (names_each MeetsBoth es (drop (length us) os) (drop_each MeetsBoth us os h)) b.1 in
    met f.tree_is (interface_tree i us es os ts (folded_firsts merge_at ts)) (instance_tree y b.0) f.meet
merge_at_fits (type_of (interface i us es)) ts h y z e =
    let os = folded_row merge_at ts in
    let b = if_is (is_interface (kind_of y)) (option_map as_type (merged_interface (parts_at (interface i us es) os) y)) z e in
    let m = mapped-some as_type (merged_interface (parts_at (interface i us es) os) y) z b.1 in
    let f = merged_fits (parts_at (interface i us es) os) y m.0 (names_each MeetsBoth es (drop (length us) os) (drop_each MeetsBoth us os h)) m.1 in
    let own : tree (node (type_of (interface i us es)) ts) ≡ type_item (instance (fields_of (exports_at (interface i us es) os))) = ap type_item (interface_tree i us es os ts (folded_firsts merge_at ts)) in
    met (ap tree (sym m.2) ∙ typed_tree m.0 ∙ ap type_item f.tree_is) own (item_tree y b.0)
    (typed_meet (instance (fields_of f.made)) (instance (fields_of (exports_at (interface i us es) os))) (instance (fields_of (exports_of y))) f.meet)
merge_at_fits (primitive p) ts h y z e = same_fits (primitive p) ts y z e
merge_at_fits tuple ts h y z e = same_fits tuple ts y z e
merge_at_fits list ts h y z e = same_fits list ts y z e
merge_at_fits (fixed_size_list n) ts h y z e = same_fits (fixed_size_list n) ts y z e
merge_at_fits option ts h y z e = same_fits option ts y z e
merge_at_fits result ts h y z e = same_fits result ts y z e
merge_at_fits (variant ns) ts h y z e = same_fits (variant ns) ts y z e
merge_at_fits (record_of ns) ts h y z e = same_fits (record_of ns) ts y z e
merge_at_fits (flags ns) ts h y z e = same_fits (flags ns) ts y z e
merge_at_fits (enum ns) ts h y z e = same_fits (enum ns) ts y z e
merge_at_fits alias ts h y z e = same_fits alias ts y z e
merge_at_fits stream ts h y z e = same_fits stream ts y z e
merge_at_fits future ts h y z e = same_fits future ts y z e
merge_at_fits (resource n) ts h y z e = same_fits (resource n) ts y z e
merge_at_fits (resource_alias n) ts h y z e = same_fits (resource_alias n) ts y z e
merge_at_fits (func ps a) ts h y z e = same_fits (func ps a) ts y z e
merge_at_fits (world i us is es) ts h y z e = same_fits (world i us is es) ts y z e
merge_at_fits (module_type m) ts h y z e = same_fits (module_type m) ts y z e
merge_at_fits (own_of s) ts h y z e = same_fits (own_of s) ts y z e
merge_at_fits (borrow_of s) ts h y z e = same_fits (borrow_of s) ts y z e
merge_at_fits (type_of (primitive p)) ts h y z e = same_fits (type_of (primitive p)) ts y z e
merge_at_fits (type_of tuple) ts h y z e = same_fits (type_of tuple) ts y z e
merge_at_fits (type_of list) ts h y z e = same_fits (type_of list) ts y z e
merge_at_fits (type_of (fixed_size_list n)) ts h y z e = same_fits (type_of (fixed_size_list n)) ts y z e
merge_at_fits (type_of option) ts h y z e = same_fits (type_of option) ts y z e
merge_at_fits (type_of result) ts h y z e = same_fits (type_of result) ts y z e
merge_at_fits (type_of (variant ns)) ts h y z e = same_fits (type_of (variant ns)) ts y z e
merge_at_fits (type_of (record_of ns)) ts h y z e = same_fits (type_of (record_of ns)) ts y z e
merge_at_fits (type_of (flags ns)) ts h y z e = same_fits (type_of (flags ns)) ts y z e
merge_at_fits (type_of (enum ns)) ts h y z e = same_fits (type_of (enum ns)) ts y z e
merge_at_fits (type_of alias) ts h y z e = same_fits (type_of alias) ts y z e
merge_at_fits (type_of stream) ts h y z e = same_fits (type_of stream) ts y z e
merge_at_fits (type_of future) ts h y z e = same_fits (type_of future) ts y z e
merge_at_fits (type_of (resource n)) ts h y z e = same_fits (type_of (resource n)) ts y z e
merge_at_fits (type_of (resource_alias n)) ts h y z e = same_fits (type_of (resource_alias n)) ts y z e
merge_at_fits (type_of (func ps a)) ts h y z e = same_fits (type_of (func ps a)) ts y z e
merge_at_fits (type_of (world i us is es)) ts h y z e = same_fits (type_of (world i us is es)) ts y z e
merge_at_fits (type_of (module_type m)) ts h y z e = same_fits (type_of (module_type m)) ts y z e
merge_at_fits (type_of (own_of s)) ts h y z e = same_fits (type_of (own_of s)) ts y z e
merge_at_fits (type_of (borrow_of s)) ts h y z e = same_fits (type_of (borrow_of s)) ts y z e
merge_at_fits (type_of (type_of s)) ts h y z e = same_fits (type_of (type_of s)) ts y z e

mutual
  pub merge_fits : (x : Stated) → MeetsBoth x (merge x)
  merge_fits (node s ts) y z e = merge_at_fits s ts (row_fits ts) y z e

  row_fits : (ts : Wholes Shape) → EachPlace MeetsBoth (folded_row merge_at ts)
  row_fits no_more = tt
  row_fits (hole ts) = row_fits ts
  row_fits (more t ts) = (merge_fits t, row_fits ts)

-- ---- what a list of asks keeps

narrower_fits : (x : Stated) → MeetsBoth x (narrower x)
narrower_fits x y z e = go (fits x y) refl (fits y x) refl e
  where
    go : (a : Bool) → fits x y ≡ a → (b : Bool) → fits y x ≡ b → (if a then Some x else (if b then Some y else None)) ≡ Some z → Meet z x y
    go true p b q e = subst (λ t. Meet t x y) (same_Some _ _ e) (first_meet x y (fits_is (tree x) (tree y) p))
    go false p true q e = subst (λ t. Meet t x y) (same_Some _ _ e) (second_meet x y (fits_is (tree y) (tree x) q))
    go false p false q e = absurd (none-some _ e)

step_fits : (b : Bool) (x : Stated) → MeetsBoth x (λ y. if b then merge x y else narrower x y)
step_fits true x = merge_fits x
step_fits false x = narrower_fits x

pub no_more_kept : (before as_ : List Asked) (z : Stated) → kept_from before None as_ ≡ Some z → ⊥
no_more_kept before [] z e = none-some _ e
no_more_kept before (a ∷ as_) z e = none-some _ e

pub trees_append : (before : List Asked) (a : Asked) → trees_asked (before ++ a ∷ []) ≡ trees_asked before ++ tree a.1 ∷ []
trees_append [] a = refl
trees_append (b ∷ before) a = ap (λ l. tree b.1 ∷ l) (trees_append before a)

pub append_nil : (xs : List Asked) → xs ++ [] ≡ xs
append_nil [] = refl
append_nil (x ∷ xs) = ap (λ l. x ∷ l) (append_nil xs)

from_meets : (before : List Asked) (x : Stated) (as_ : List Asked) (z : Stated) → IsMeet (tree x) (trees_asked before) → kept_from before (Some x) as_ ≡ Some z → IsMeet (tree z) (trees_asked (before ++ as_))
from_meets before x [] z h e = subst (λ l. IsMeet (tree z) (trees_asked l)) (sym (append_nil before)) (subst (λ t. IsMeet (tree t) (trees_asked before)) (same_Some _ _ e) h)
from_meets before x (a ∷ as_) z h e = go (λ w i r. from_meets (before ++ a ∷ []) w as_ z i r) (if in_family (before ++ a ∷ []) then merge x a.1 else narrower x a.1) refl e
  where
    go : ((w : Stated) → IsMeet (tree w) (trees_asked (before ++ a ∷ [])) → kept_from (before ++ a ∷ []) (Some w) as_ ≡ Some z → IsMeet (tree z) (trees_asked ((before ++ a ∷ []) ++ as_))) → (o : Option Stated) → (if in_family (before ++ a ∷ []) then merge x a.1 else narrower x a.1) ≡ o
        → kept_from (before ++ a ∷ []) o as_ ≡ Some z → IsMeet (tree z) (trees_asked (before ++ a ∷ as_))
    go further None q r = absurd (no_more_kept (before ++ a ∷ []) as_ z r)
    go further (Some w) q r =
        let two = step_fits (in_family (before ++ a ∷ [])) x a.1 w q in
        let both_ = meet_more (tree x) (tree w) (tree a.1) (trees_asked before) h two in
        subst (λ l. IsMeet (tree z) (trees_asked l)) (append_assoc before (a ∷ []) as_) (further w (subst (IsMeet (tree w)) (sym (trees_append before a)) both_) r)

-- what is kept is the meet of the asks
pub kept_meets : Kept_is_meet
kept_meets [] z e = absurd (none-some _ e)
kept_meets (b ∷ bs) z e = from_meets (b ∷ []) b.1 bs z (meet_one (tree b.1) (tree_in_order b.1)) e

fits_each : (t : Tree) (asks : List Asked) → FitsAll t (trees_asked asks) → (a : Asked) → Among a asks → Fits t (tree a.1)
fits_each t [] h a m = absurd m
fits_each t (b ∷ bs) h a (inl d) = subst (λ (y : Asked). Fits t (tree y.1)) (sym d) h.0
fits_each t (b ∷ bs) h a (inr m) = fits_each t bs h.1 a m

-- so it fits each ask
pub kept_fits : (asks : List Asked) (z : Stated) → kept asks ≡ Some z → (a : Asked) → Among a asks → Fits (tree z) (tree a.1)
kept_fits asks z e a m = fits_each (tree z) asks (kept_meets asks z e).fits a m

-- under its identifier it is the same tree
pub identified_tree : (n : Name) (as_ : List Asked) (x : Stated) → tree (identified n as_ x) ≡ tree x
identified_tree n [] x = refl
identified_tree n (a ∷ []) x = refl
identified_tree n (a ∷ b ∷ as_) x = go (is_instance_kind (kind_of x)) refl (has_track n)
  where
    go : (i : Bool) → is_instance_kind (kind_of x) ≡ i → (t : Bool) → tree (identified_by (i && t) n x) ≡ tree x
    go false e t = refl
    go true e false = refl
    go true e true = made_tree (Some n) (uses_of x) (exports_of x) ∙ sym (instance_tree x e)

-- ---- the outer import of a class

asked_among : {A : Type 0} (as_ : List (Ask A)) (a : Ask A) → Among a as_ → Among (a.name, a.item) (asked_in as_)
asked_among [] a m = m
asked_among (b ∷ as_) a (inl e) = inl (ap (λ (c : Ask _). (c.name, c.item)) e)
asked_among (b ∷ as_) a (inr m) = inr (asked_among as_ a m)

pub outer_fits : {A : Type 0} (asks : List (Ask A)) (n : Name) (x : Stated) → outer_of asks ≡ Some (n, x) → (a : Ask A) → Among a asks → Fits (tree x) (tree a.item)
outer_fits asks n x e a m =
    let k = mapped-some {B = Name × Stated} (λ (y : Stated). (spelled asks, identified (spelled asks) (asked_in asks) y)) (kept (asked_in asks)) (n, x) e in
    let is : tree x ≡ tree k.0 = ap (λ (q : Name × Stated). tree q.1) (sym k.2) ∙ identified_tree (spelled asks) (asked_in asks) k.0 in
    subst (λ t. Fits t (tree a.item)) (sym is) (kept_fits (asked_in asks) k.0 k.1 (a.name, a.item) (asked_among asks a m))
