-- What asks keep has the tree of an instance only where it is one.
use Rattle.std.specs.Prelude.{drop, is_none, not, filter, if◌then◌else◌, ◌&&◌}
use Rattle.std.proofs.lemmas.Option.{none-some, same_Some}
use Rattle.std.proofs.Common.{◌≡◌, List, [], ◌∷◌, ◌++◌, map, length, Bool, true, false, true≢false, Option, Some, None, inl, inr, refl, sym, ap, subst, ◌∙◌}
use Rattle.wac_types_base.specs.Entries.{Name, value_at}
use Rattle.wac_types_base.specs.Graph.{Wholes, node, no_more, more, hole, Among}
use Rattle.wac_types_base.specs.Collection.{Shape, primitive, tuple, list, fixed_size_list, option, result, variant, record_of, flags, enum, alias, stream, future, resource, resource_alias, func, interface, world, module_type, type_of, borrow_of, own_of}
use Rattle.wac_types_base.specs.Stated.{Stated, folded_row, interface_of, shape_kind, kind_of, Used, uses_of, Parts, parts_at, first_parts, exports_of}
use Rattle.wac_types_base.specs.Tree.{Tree, Fields, tree}
use Rattle.wac_types_base.specs.Fits.{Fits, instance_fits}
use Rattle.wac_composition.specs.Names.{has_track}
use Rattle.wac_composition.specs.Asks.{Ask}
use Rattle.wac_composition.specs.Classes.{class, spelled, is_instance_kind}
use Rattle.wac_composition.specs.Tests.{fits}
use Rattle.wac_composition.specs.Merging.{Merge, merged_with, merged_exports, has_use, merged_interface, merge_at, merge, Asked, narrower, in_family, kept_from, kept, identified_by, identified}
use Rattle.wac_composition.specs.OuterImports.{asked_in, outer_of, outer_imports}
use Rattle.wac_composition.specs.Sound.{IsStraight, an_instance, no_instance}
use Rattle.wac_composition.proofs.KeptFits.{instance_tree, both_is, if_is, merge_fits, no_more_kept}
use Rattle.wac_composition.proofs.Clashing.{value_among, among_append, own_exports}
use Rattle.wac_composition.proofs.Closures.{filter_among}
use Rattle.wac_composition.proofs.OuterClasses.{within, outer_of_ask}
use Rattle.wac_types_fit.proofs.Meeting.{mapped-some}
use Rattle.wac_types_base.proofs.Made.{made_exports}
use Rattle.wac_composition.proofs.MergeRows.{EachEntry, EachPlace, names_each, drop_each}

-- ---- what is no instance by its kind is none by its tree

-- what fits an instance is one, and fits nothing else
fitted : (t : Tree) (xs : Fields) → Fits (Tree.instance xs) t → (ys : Fields) × (t ≡ Tree.instance ys)
fitted t xs (instance_fits {ys = ys} f) = (ys, refl)

no_tree : (x : Stated) → IsStraight x → is_instance_kind (kind_of x) ≡ false → (xs : Fields) → tree x ≡ Tree.instance xs → ⊥
no_tree x (an_instance e h) k xs q = true≢false (sym e ∙ k)
no_tree x (no_instance f) k xs q = f xs q

-- what fits a straight type that is no instance is straight
straight_below : (x z : Stated) → IsStraight x → is_instance_kind (kind_of x) ≡ false → Fits (tree z) (tree x) → IsStraight z
straight_below x z s k f = no_instance (λ zs e. let i = fitted (tree x) zs (subst (λ t. Fits t (tree x)) e f) in no_tree x s k i.0 i.1)

instance_shape : (s : Shape) → is_instance_kind (shape_kind s) ≡ true → (i : Option Name) × (us : List (Name × Option Name)) × (es : List Name) × (s ≡ interface i us es)
instance_shape (interface i us es) e = (i, us, es, refl)
instance_shape (primitive p) e = absurd (true≢false (sym e))
instance_shape tuple e = absurd (true≢false (sym e))
instance_shape list e = absurd (true≢false (sym e))
instance_shape (fixed_size_list n) e = absurd (true≢false (sym e))
instance_shape option e = absurd (true≢false (sym e))
instance_shape result e = absurd (true≢false (sym e))
instance_shape (variant ns) e = absurd (true≢false (sym e))
instance_shape (record_of ns) e = absurd (true≢false (sym e))
instance_shape (flags ns) e = absurd (true≢false (sym e))
instance_shape (enum ns) e = absurd (true≢false (sym e))
instance_shape alias e = absurd (true≢false (sym e))
instance_shape stream e = absurd (true≢false (sym e))
instance_shape future e = absurd (true≢false (sym e))
instance_shape (resource n) e = absurd (true≢false (sym e))
instance_shape (resource_alias n) e = absurd (true≢false (sym e))
instance_shape (func ps a) e = absurd (true≢false (sym e))
instance_shape (world i us is es) e = absurd (true≢false (sym e))
instance_shape (module_type m) e = absurd (true≢false (sym e))
instance_shape (own_of s) e = absurd (true≢false (sym e))
instance_shape (borrow_of s) e = absurd (true≢false (sym e))
instance_shape (type_of (primitive p)) e = absurd (true≢false (sym e))
instance_shape (type_of tuple) e = absurd (true≢false (sym e))
instance_shape (type_of list) e = absurd (true≢false (sym e))
instance_shape (type_of (fixed_size_list n)) e = absurd (true≢false (sym e))
instance_shape (type_of option) e = absurd (true≢false (sym e))
instance_shape (type_of result) e = absurd (true≢false (sym e))
instance_shape (type_of (variant ns)) e = absurd (true≢false (sym e))
instance_shape (type_of (record_of ns)) e = absurd (true≢false (sym e))
instance_shape (type_of (flags ns)) e = absurd (true≢false (sym e))
instance_shape (type_of (enum ns)) e = absurd (true≢false (sym e))
instance_shape (type_of alias) e = absurd (true≢false (sym e))
instance_shape (type_of stream) e = absurd (true≢false (sym e))
instance_shape (type_of future) e = absurd (true≢false (sym e))
instance_shape (type_of (resource n)) e = absurd (true≢false (sym e))
instance_shape (type_of (resource_alias n)) e = absurd (true≢false (sym e))
instance_shape (type_of (func ps a)) e = absurd (true≢false (sym e))
instance_shape (type_of (world i us is es)) e = absurd (true≢false (sym e))
instance_shape (type_of (module_type m)) e = absurd (true≢false (sym e))
instance_shape (type_of (own_of s)) e = absurd (true≢false (sym e))
instance_shape (type_of (borrow_of s)) e = absurd (true≢false (sym e))
instance_shape (type_of (interface i us es)) e = absurd (true≢false (sym e))
instance_shape (type_of (type_of s)) e = absurd (true≢false (sym e))

-- the exports of a straight instance
straight_exports : (x : Stated) → is_instance_kind (kind_of x) ≡ true → IsStraight x → (n : Name) (y : Stated) → Among (n, y) (exports_of x) → IsStraight y
straight_exports x k (an_instance e h) = h
straight_exports x k (no_instance f) = absurd (f _ (instance_tree x k))

-- ---- merging

abbrev StraightBoth : Stated → Merge → Type 0
StraightBoth x m = IsStraight x → (y : Stated) → IsStraight y → (z : Stated) → m y ≡ Some z → IsStraight z

with_straight : (x : Stated) (m : Merge) (o : Option Stated) (z : Stated) → StraightBoth x m → IsStraight x → ((y : Stated) → o ≡ Some y → IsStraight y) → merged_with m x o ≡ Some z → IsStraight z
with_straight x m None z h r k e = subst IsStraight (same_Some _ _ e) r
with_straight x m (Some y) z h r k e = h r y (k y refl) z e

merged_straight : (es : List (Name × (Stated × Merge))) (fs xs : List (Name × Stated)) → EachEntry StraightBoth es → merged_exports es fs ≡ Some xs → ((n : Name) (x : Stated) → Among (n, x) (first_parts es) → IsStraight x)
    → ((n : Name) (y : Stated) → value_at fs n ≡ Some y → IsStraight y) → (n : Name) (z : Stated) → Among (n, z) xs → IsStraight z
merged_straight [] fs xs h e a b n z m = absurd (subst (Among (n, z)) (sym (same_Some _ _ e)) m)
merged_straight (e ∷ es) fs xs h q a b n z m =
    let w = both_is (λ x ys. (e.0, x) ∷ ys) (merged_with e.1.1 e.1.0 (value_at fs e.0)) (merged_exports es fs) xs q in
    elim (subst (Among (n, z)) (sym w.4) m) [
      | inl d ↦ subst IsStraight (sym (ap (λ (p : Name × Stated). p.1) d)) (with_straight e.1.0 e.1.1 (value_at fs e.0) w.0 h.0 (a e.0 e.1.0 (inl refl)) (λ y r. b e.0 y r) w.2)
      | inr k ↦ merged_straight es fs w.1 h.1 w.3 (λ i x j. a i x (inr j)) b n z k
    ]

-- the merged interface
module _ (i : Option Name) (us : List (Name × Option Name)) (es : List Name) (ts : Wholes Shape) (y : Stated) where
  abbrev p : Parts Merge
  p = parts_at (interface i us es) (folded_row merge_at ts)

  abbrev rest : List (Name × Stated)
  rest = filter (λ (f : Name × Stated). is_none (value_at p.exports f.0)) (exports_of y)

  abbrev uses : List Used
  uses = map (λ u. u.0) p.uses ++ filter (λ (u : Used). not (has_use (map (λ v. v.0) p.uses) u.name)) (uses_of y)

  module _ (h : EachPlace StraightBoth (folded_row merge_at ts)) (r : IsStraight (node (interface i us es) ts)) (q : IsStraight y) (k : is_instance_kind (kind_of y) ≡ true) where
    own : (n : Name) (x : Stated) → Among (n, x) (first_parts p.exports) → IsStraight x
    own n x a = straight_exports (node (interface i us es) ts) refl r n x (subst (Among (n, x)) (own_exports i us es ts) a)

    each : (xs : List (Name × Stated)) → merged_exports p.exports (exports_of y) ≡ Some xs → (n : Name) (w : Stated) → Among (n, w) (xs ++ rest) → IsStraight w
    each xs m n w a = elim (among_append xs rest (n, w) a) [
      | inl c ↦ merged_straight p.exports (exports_of y) xs (names_each StraightBoth es (drop (length us) (folded_row merge_at ts)) (drop_each StraightBoth us (folded_row merge_at ts) h)) m own
          (λ j x s. straight_exports y k q j x (value_among (exports_of y) j x s)) n w c
      | inr c ↦ straight_exports y k q n w (filter_among (λ (f : Name × Stated). is_none (value_at p.exports f.0)) (exports_of y) (n, w) c).0
    ]

    made : (z : Stated) → merged_interface p y ≡ Some z → IsStraight z
    made z s =
        let m = mapped-some (λ (xs : List (Name × Stated)). interface_of p.identifier uses (xs ++ rest)) (merged_exports p.exports (exports_of y)) z s in
        subst IsStraight m.2 (an_instance refl (λ n w a. each m.0 m.1 n w (subst (Among (n, w)) (made_exports p.identifier uses (m.0 ++ rest)) a)))

interface_straight : (i : Option Name) (us : List (Name × Option Name)) (es : List Name) (ts : Wholes Shape) → EachPlace StraightBoth (folded_row merge_at ts) → StraightBoth (node (interface i us es) ts) (merge_at (interface i us es) (folded_row merge_at ts))
interface_straight i us es ts h r y q z e =
    let b = if_is (is_instance_kind (kind_of y)) (merged_interface (parts_at (interface i us es) (folded_row merge_at ts)) y) z e in
    made i us es ts y h r q b.0 z b.1

straight_at : (s : Shape) (ts : Wholes Shape) → EachPlace StraightBoth (folded_row merge_at ts) → IsStraight (node s ts) → (y : Stated) → IsStraight y → (z : Stated) → merge (node s ts) y ≡ Some z → (b : Bool) → is_instance_kind (shape_kind s) ≡ b → IsStraight z
straight_at s ts h r y q z e false k = straight_below (node s ts) z r k (merge_fits (node s ts) y z e).fits.0
straight_at s ts h r y q z e true k =
    let f = instance_shape s k in
    interface_straight f.0 f.1 f.2 ts h (subst (λ u. IsStraight (node u ts)) f.3 r) y q z (subst (λ u. merge (node u ts) y ≡ Some z) f.3 e)

mutual
  merge_straight : (x : Stated) → StraightBoth x (merge x)
  merge_straight (node s ts) r y q z e = straight_at s ts (row_straight ts) r y q z e (is_instance_kind (shape_kind s)) refl

  row_straight : (ts : Wholes Shape) → EachPlace StraightBoth (folded_row merge_at ts)
  row_straight no_more = tt
  row_straight (hole ts) = row_straight ts
  row_straight (more t ts) = (merge_straight t, row_straight ts)

-- ---- a list of asks

narrower_straight : (x : Stated) → StraightBoth x (narrower x)
narrower_straight x r y q z e = go (fits x y) (fits y x) e
  where
    go : (a b : Bool) → (if a then Some x else (if b then Some y else None)) ≡ Some z → IsStraight z
    go true b e = subst IsStraight (same_Some _ _ e) r
    go false true e = subst IsStraight (same_Some _ _ e) q
    go false false e = absurd (none-some _ e)

step_straight : (b : Bool) (x : Stated) → StraightBoth x (λ y. if b then merge x y else narrower x y)
step_straight true x = merge_straight x
step_straight false x = narrower_straight x

from_straight : (before : List Asked) (x : Stated) (as_ : List Asked) (z : Stated) → IsStraight x → ((a : Asked) → Among a as_ → IsStraight a.1) → kept_from before (Some x) as_ ≡ Some z → IsStraight z
from_straight before x [] z r h e = subst IsStraight (same_Some _ _ e) r
from_straight before x (a ∷ as_) z r h e = go (λ w i q. from_straight (before ++ a ∷ []) w as_ z i (λ b m. h b (inr m)) q) (if in_family (before ++ a ∷ []) then merge x a.1 else narrower x a.1) refl e
  where
    go : ((w : Stated) → IsStraight w → kept_from (before ++ a ∷ []) (Some w) as_ ≡ Some z → IsStraight z) → (o : Option Stated) → (if in_family (before ++ a ∷ []) then merge x a.1 else narrower x a.1) ≡ o
        → kept_from (before ++ a ∷ []) o as_ ≡ Some z → IsStraight z
    go further None q s = absurd (no_more_kept (before ++ a ∷ []) as_ z s)
    go further (Some w) q s = further w (step_straight (in_family (before ++ a ∷ [])) x r a.1 (h a (inl refl)) w q) s

kept_straight : (asks : List Asked) (z : Stated) → ((a : Asked) → Among a asks → IsStraight a.1) → kept asks ≡ Some z → IsStraight z
kept_straight [] z h e = absurd (none-some _ e)
kept_straight (a ∷ asks) z h e = from_straight (a ∷ []) a.1 asks z (h a (inl refl)) (λ b m. h b (inr m)) e

identified_straight : (n : Name) (as_ : List Asked) (x : Stated) → IsStraight x → IsStraight (identified n as_ x)
identified_straight n [] x s = s
identified_straight n (a ∷ []) x s = s
identified_straight n (a ∷ b ∷ as_) x s = go (is_instance_kind (kind_of x)) refl (has_track n)
  where
    go : (i : Bool) → is_instance_kind (kind_of x) ≡ i → (t : Bool) → IsStraight (identified_by (i && t) n x)
    go false k t = s
    go true k false = s
    go true k true = an_instance refl (λ m y a. straight_exports x k s m y (subst (Among (m, y)) (made_exports (Some n) (uses_of x) (exports_of x)) a))

asked_straight : {A : Type 0} (as_ : List (Ask A)) → ((a : Ask A) → Among a as_ → IsStraight a.item) → (b : Asked) → Among b (asked_in as_) → IsStraight b.1
asked_straight [] h b m = absurd m
asked_straight (a ∷ as_) h b (inl e) = subst (λ (c : Asked). IsStraight c.1) (sym e) (h a (inl refl))
asked_straight (a ∷ as_) h b (inr m) = asked_straight as_ (λ c k. h c (inr k)) b m

class_straight : {A : Type 0} (as_ : List (Ask A)) → ((a : Ask A) → Among a as_ → IsStraight a.item) → (n : Name) (x : Stated) → outer_of as_ ≡ Some (n, x) → IsStraight x
class_straight as_ h n x e =
    let k = mapped-some {B = Name × Stated} (λ (y : Stated). (spelled as_, identified (spelled as_) (asked_in as_) y)) (kept (asked_in as_)) (n, x) e in
    subst IsStraight (ap (λ (q : Name × Stated). q.1) k.2) (identified_straight (spelled as_) (asked_in as_) k.0 (kept_straight (asked_in as_) k.0 (asked_straight as_ h) k.1))

-- where all that is asked is straight, so are the outer imports
pub outer_straight : {A : Type 0} (asks : List (Ask A)) → ((a : Ask A) → Among a asks → IsStraight a.item) → (n : Name) (x : Stated) → value_at (outer_imports asks) n ≡ Some x → IsStraight x
outer_straight asks h n x e =
    let a = outer_of_ask asks n x e in
    class_straight (class asks a.0) (λ b m. h b (within asks a.0 b a.1 m)) n x a.2
