-- What the outer import of several asks uses, its asks use.
use Rattle.std.proofs.Common.{◌≡◌, Bool, true, false, true≢false, List, [], ◌∷◌, ◌++◌, map, Option, Some, None, ◌⊎◌, inl, inr, refl, sym, ap, ◌∙◌, subst}
use Rattle.std.specs.Prelude.{option_map, not, ◌&&◌, is_none, filter, if◌then◌else◌}
use Rattle.std.specs.List.{flat_map}
use Rattle.std.proofs.lemmas.Option.{none-some, same_Some}
use Rattle.wac_types_base.specs.Entries.{Name, value_at}
use Rattle.wac_types_base.specs.Graph.{Wholes, node, Among}
use Rattle.wac_types_base.specs.Collection.{Shape, interface, type_of}
use Rattle.wac_types_base.specs.Stated.{Stated, Used, Kind, IsInstance, IsInterface, kind_of, row, places_of, folded_row, Parts, parts_at, as_type, is_interface, interface_of, uses_of, exports_of}
use Rattle.wac_types_base.proofs.Made.{made_exports}
use Rattle.wac_types_base.proofs.Adding.{Among-left, Among-right}
use Rattle.wac_types_base.proofs.Lists.{among_split, among_filtered, among_mapped}
use Rattle.wac_types_fit.proofs.Items.{value_at-among}
use Rattle.wac_types_fit.proofs.Meeting.{mapped-some}
use Rattle.wac_composition.specs.Names.{has_track}
use Rattle.wac_composition.specs.Asks.{Ask}
use Rattle.wac_composition.specs.Classes.{is_instance_kind, spelled}
use Rattle.wac_composition.specs.Circles.{used_inside}
use Rattle.wac_composition.specs.Tests.{fits}
use Rattle.wac_composition.specs.Writable.{has_items}
use Rattle.wac_composition.specs.Merging.{Merge, Asked, merged_with, merged_exports, merged_interface, has_use, rebuilt, same_tree_as, merge_at, merge, narrower, in_family, kept_from, kept, identified_by, identified}
use Rattle.wac_composition.specs.OuterImports.{asked_in, outer_of}
use Rattle.wac_composition.proofs.Lists.{mapped_among, among_flat, flat_among}
use Rattle.wac_composition.proofs.Again.{made_uses}
use Rattle.wac_composition.proofs.KeptFits.{folded_firsts, row_again, both_is, if_is, no_more_kept}
use Rattle.wac_graph_encode.proofs.UsedParts.{by_places, item_in_place, told_items, only_uses, uses_told, items_told, used_in_item, used_of, inside_is}

-- ---- interfaces

instance_items : (k : Kind) → is_instance_kind k ≡ true → has_items k ≡ true
instance_items IsInstance e = refl
instance_items k e = absurd (true≢false (sym e))

interface_items : (k : Kind) → is_interface k ≡ true → has_items k ≡ true
interface_items IsInterface e = refl
interface_items k e = absurd (true≢false (sym e))

-- what an interface that is made uses
made_inside : (i : Option Name) (us : List Used) (es : List (Name × Stated)) → used_inside (interface_of i us es) ≡ map used_of us ++ flat_map used_in_item es
made_inside i us es =
    inside_is (interface_of i us es) refl ∙ ap (λ l. map used_of l ++ flat_map used_in_item (exports_of (interface_of i us es))) (made_uses i us es)
    ∙ ap (λ l. map used_of us ++ flat_map used_in_item l) (made_exports i us es)

use_inside : (x : Stated) → has_items (kind_of x) ≡ true → (u : Used) → Among u (uses_of x) → Among u.interface (used_inside x)
use_inside x h u m = subst (Among u.interface) (sym (inside_is x h)) (Among-left u.interface (map used_of (uses_of x)) (flat_map used_in_item (exports_of x)) (among_mapped used_of (uses_of x) u m))

item_inside : (x : Stated) → has_items (kind_of x) ≡ true → (e : Name × Stated) → Among e (exports_of x) → (w : Stated) → Among w (used_inside e.1) → Among w (used_inside x)
item_inside x h e m w n = subst (Among w) (sym (inside_is x h)) (Among-right w (map used_of (uses_of x)) (flat_map used_in_item (exports_of x)) (flat_among used_in_item (exports_of x) e w m n))

-- ---- what is merged

-- what z uses, x or y does
abbrev ComesFrom : Stated → Stated → Stated → Type 0
ComesFrom x y z = (w : Stated) → Among w (used_inside z) → Among w (used_inside x) ⊎ Among w (used_inside y)

abbrev Merges : Stated → Type 0
Merges x = (y z : Stated) → merge x y ≡ Some z → ComesFrom x y z

-- some item uses it
abbrev SomeUses : List (Name × Stated) → Stated → Type 0
SomeUses es w = (e : Name × Stated) × Among e es × Among w (used_inside e.1)

merged_items : (es fs xs : List (Name × Stated)) → ((e : Name × Stated) → Among e es → Merges e.1) → merged_exports (told_items merge es) fs ≡ Some xs → (w : Stated) → SomeUses xs w → SomeUses es w ⊎ SomeUses fs w
merged_items [] fs xs h q w (d, m, n) = absurd (subst (Among d) (sym (same_Some _ _ q)) m)
merged_items (e ∷ es) fs xs h q w (d, m, n) =
    let b = both_is (λ x ys. (e.0, x) ∷ ys) (merged_with (merge e.1) e.1 (value_at fs e.0)) (merged_exports (told_items merge es) fs) xs q in
    by b.0 b.2 b.1 (λ k. merged_items es fs b.1 (λ f j. h f (inr j)) b.3 w (d, k, n)) (subst (Among d) (sym b.4) m)
  where
    first : (o : Option Stated) (z : Stated) → value_at fs e.0 ≡ o → merged_with (merge e.1) e.1 o ≡ Some z → Among w (used_inside z) → SomeUses (e ∷ es) w ⊎ SomeUses fs w
    first None z p r k = inl (e, inl refl, subst (λ v. Among w (used_inside v)) (sym (same_Some _ _ r)) k)
    first (Some v) z p r k = elim (h e (inl refl) v z r w k) [
      | inl j ↦ inl (e, inl refl, j)
      | inr j ↦ inr ((e.0, v), value_at-among fs e.0 v p, j)
    ]

    by : (z : Stated) → merged_with (merge e.1) e.1 (value_at fs e.0) ≡ Some z → (rest : List (Name × Stated)) → (Among d rest → SomeUses es w ⊎ SomeUses fs w) → Among d ((e.0, z) ∷ rest) → SomeUses (e ∷ es) w ⊎ SomeUses fs w
    by z r rest s (inl p) = first (value_at fs e.0) z refl r (subst (λ (f : Name × Stated). Among w (used_inside f.1)) p n)
    by z r rest s (inr k) = elim (s k) [
      | inl j ↦ inl (j.0, inr j.1, j.2)
      | inr j ↦ inr j
    ]

-- a merged interface
record IsMadeFrom (x y z : Stated) : Type 0 where
  identifier : Option Name
  uses : List Used
  items : List (Name × Stated)
  is : z ≡ interface_of identifier uses items
  from : ComesFrom x y (interface_of identifier uses items)

module _ (i : Option Name) (us : List (Name × Option Name)) (es : List Name) (ts : Wholes Shape) where
  abbrev here : Stated
  here = node (interface i us es) ts

  merged_parts : ((e : Name × Stated) → Among e (exports_of here) → Merges e.1) → (y z : Stated) → has_items (kind_of y) ≡ true → merged_interface (parts_at (interface i us es) (folded_row merge_at ts)) y ≡ Some z → IsMadeFrom here y z
  merged_parts h y z t e = record { identifier = i; uses = us_; items = is_; is = sym m.2; from = from_both }
    where
      p : Parts Merge
      p = parts_at (interface i us es) (folded_row merge_at ts)

      own : List Used
      own = map (λ u. u.0) p.uses

      more : List Used
      more = filter (λ (u : Used). not (has_use (map (λ v. v.0) p.uses) u.name)) (uses_of y)

      others : List (Name × Stated)
      others = filter (λ (f : Name × Stated). is_none (value_at p.exports f.0)) (exports_of y)

      m : (xs : List (Name × Stated)) × (merged_exports p.exports (exports_of y) ≡ Some xs) × (interface_of i (own ++ more) (xs ++ others) ≡ z)
      m = mapped-some (λ (xs : List (Name × Stated)). interface_of i (own ++ more) (xs ++ others)) (merged_exports p.exports (exports_of y)) z e

      us_ : List Used
      us_ = own ++ more

      is_ : List (Name × Stated)
      is_ = m.0 ++ others

      own_are : own ≡ uses_of here
      own_are = ap (map (λ u. u.0)) (uses_told merge_at us ts) ∙ only_uses merge (uses_of here)

      merged : merged_exports (told_items merge (exports_of here)) (exports_of y) ≡ Some m.0
      merged = ap (λ l. merged_exports l (exports_of y)) (sym (items_told merge_at us es ts)) ∙ m.1

      from_use : (w : Stated) (u : Used) → Among u us_ → w ≡ u.interface → Among w (used_inside here) ⊎ Among w (used_inside y)
      from_use w u a q = elim (among_split u own more a) [
        | inl k ↦ inl (subst (λ v. Among v (used_inside here)) (sym q) (use_inside here refl u (subst (Among u) own_are k)))
        | inr k ↦ inr (subst (λ v. Among v (used_inside y)) (sym q) (use_inside y t u (among_filtered (λ (u : Used). not (has_use (map (λ v. v.0) p.uses) u.name)) (uses_of y) u k).0))
      ]

      from_item : (w : Stated) (f : Name × Stated) → Among f is_ → Among w (used_inside f.1) → Among w (used_inside here) ⊎ Among w (used_inside y)
      from_item w f a n = elim (among_split f m.0 others a) [
        | inl k ↦ elim (merged_items (exports_of here) (exports_of y) m.0 h merged w (f, k, n)) [
          | inl j ↦ inl (item_inside here refl j.0 j.1 w j.2)
          | inr j ↦ inr (item_inside y t j.0 j.1 w j.2)
        ]
        | inr k ↦ inr (item_inside y t f (among_filtered (λ (f : Name × Stated). is_none (value_at p.exports f.0)) (exports_of y) f k).0 w n)
      ]

      from_both : ComesFrom here y (interface_of i us_ is_)
      from_both w a = elim (among_split w (map used_of us_) (flat_map used_in_item is_) (subst (Among w) (made_inside i us_ is_) a)) [
        | inl k ↦ let r = mapped_among used_of us_ w k in from_use w r.0 r.1 r.2
        | inr k ↦ let r = among_flat used_in_item is_ w k in from_item w r.0 r.1 r.2
      ]

-- what is kept as it is
same_is : (s : Shape) (ts : Wholes Shape) (y z : Stated) → same_tree_as (rebuilt s (folded_row merge_at ts)) y ≡ Some z → ComesFrom (node s ts) y z
same_is s ts y z e w m =
    let x = rebuilt s (folded_row merge_at ts) in
    let b = if_is (fits x y && fits y x) (Some x) z e in
    let same : x ≡ node s ts = ap (λ os. node s (row os)) (folded_firsts merge_at ts) ∙ ap (node s) (row_again ts) in
    inl (subst (λ v. Among w (used_inside v)) (sym (same_Some _ _ b.1) ∙ same) m)

made_from : (x y z : Stated) → IsMadeFrom x y z → ComesFrom x y z
made_from x y z f w m = f.from w (subst (λ q. Among w (used_inside q)) f.is m)

typed_from : (x y z : Stated) → ((v : Stated) × IsMadeFrom x y v × (as_type v ≡ z)) → ComesFrom x y z
typed_from x y z (v, f, e) w m = f.from w (subst (λ q. Among w (used_inside (as_type q))) f.is (subst (λ q. Among w (used_inside q)) (sym e) m))

merge_uses : (x : Stated) → Merges x
merge_uses = by_places Merges step
  where
    step : (x : Stated) → ((y : Stated) → Among (Some y) (places_of x) → Merges y) → Merges x
    step (node (interface i us es) ts) below y z e =
        let b = if_is (is_instance_kind (kind_of y)) (merged_interface (parts_at (interface i us es) (folded_row merge_at ts)) y) z e in
        made_from (node (interface i us es) ts) y z (merged_parts i us es ts (λ d k. below d.1 (item_in_place (node (interface i us es) ts) refl d k)) y z (instance_items (kind_of y) b.0) b.1)
    step (node (type_of (interface i us es)) ts) below y z e =
        let b = if_is (is_interface (kind_of y)) (option_map as_type (merged_interface (parts_at (interface i us es) (folded_row merge_at ts)) y)) z e in
        typed_from (node (interface i us es) ts) y z (from b.0 (mapped-some as_type (merged_interface (parts_at (interface i us es) (folded_row merge_at ts)) y) z b.1))
      where
        from : is_interface (kind_of y) ≡ true → ((v : Stated) × (merged_interface (parts_at (interface i us es) (folded_row merge_at ts)) y ≡ Some v) × (as_type v ≡ z)) → (v : Stated) × IsMadeFrom (node (interface i us es) ts) y v × (as_type v ≡ z)
        from h (v, is, same) = (v, merged_parts i us es ts (λ d k. below d.1 (item_in_place (node (type_of (interface i us es)) ts) refl d k)) y v (interface_items (kind_of y) h) is, same)
    step (node s ts) below y z e = same_is s ts y z e

narrower_uses : (x y z : Stated) → narrower x y ≡ Some z → ComesFrom x y z
narrower_uses x y z e w m = by (fits x y) (fits y x) e
  where
    by : (s t : Bool) → (if s then Some x else (if t then Some y else None)) ≡ Some z → Among w (used_inside x) ⊎ Among w (used_inside y)
    by true t q = inl (subst (λ v. Among w (used_inside v)) (sym (same_Some _ _ q)) m)
    by false true q = inr (subst (λ v. Among w (used_inside v)) (sym (same_Some _ _ q)) m)
    by false false q = absurd (none-some _ q)

-- ---- what several asks keep

abbrev SomeAskedUses : List Asked → Stated → Type 0
SomeAskedUses as_ w = (a : Asked) × Among a as_ × Among w (used_inside a.1)

step_uses : (b : Bool) (x y z : Stated) → (if b then merge x y else narrower x y) ≡ Some z → ComesFrom x y z
step_uses true x y z e = merge_uses x y z e
step_uses false x y z e = narrower_uses x y z e

from_uses : (before : List Asked) (x : Stated) (as_ : List Asked) (z : Stated) → kept_from before (Some x) as_ ≡ Some z → (w : Stated) → Among w (used_inside z) → Among w (used_inside x) ⊎ SomeAskedUses as_ w
from_uses before x [] z e w m = inl (subst (λ v. Among w (used_inside v)) (sym (same_Some _ _ e)) m)
from_uses before x (a ∷ as_) z e w m = go (λ v r. from_uses (before ++ a ∷ []) v as_ z r w m) (if in_family (before ++ a ∷ []) then merge x a.1 else narrower x a.1) refl e
  where
    go : ((v : Stated) → kept_from (before ++ a ∷ []) (Some v) as_ ≡ Some z → Among w (used_inside v) ⊎ SomeAskedUses as_ w) → (o : Option Stated) → (if in_family (before ++ a ∷ []) then merge x a.1 else narrower x a.1) ≡ o
        → kept_from (before ++ a ∷ []) o as_ ≡ Some z → Among w (used_inside x) ⊎ SomeAskedUses (a ∷ as_) w
    go further None q r = absurd (no_more_kept (before ++ a ∷ []) as_ z r)
    go further (Some v) q r = elim (further v r) [
      | inl k ↦ elim (step_uses (in_family (before ++ a ∷ [])) x a.1 v q w k) [
        | inl j ↦ inl j
        | inr j ↦ inr (a, inl refl, j)
      ]
      | inr k ↦ inr (k.0, inr k.1, k.2)
    ]

kept_uses : (as_ : List Asked) (z : Stated) → kept as_ ≡ Some z → (w : Stated) → Among w (used_inside z) → SomeAskedUses as_ w
kept_uses [] z e w m = absurd (none-some _ e)
kept_uses (a ∷ as_) z e w m = elim (from_uses (a ∷ []) a.1 as_ z e w m) [
  | inl k ↦ (a, inl refl, k)
  | inr k ↦ (k.0, inr k.1, k.2)
]

-- under its identifier it uses the same
identified_uses : (n : Name) (as_ : List Asked) (x : Stated) → used_inside (identified n as_ x) ≡ used_inside x
identified_uses n [] x = refl
identified_uses n (a ∷ []) x = refl
identified_uses n (a ∷ b ∷ as_) x = go (is_instance_kind (kind_of x)) refl (has_track n)
  where
    go : (i : Bool) → is_instance_kind (kind_of x) ≡ i → (t : Bool) → used_inside (identified_by (i && t) n x) ≡ used_inside x
    go false e t = refl
    go true e false = refl
    go true e true = made_inside (Some n) (uses_of x) (exports_of x) ∙ sym (inside_is x (instance_items (kind_of x) e))

pub uses_kept : {A : Type 0} (asks : List (Ask A)) (n : Name) (x : Stated) → outer_of asks ≡ Some (n, x) → (w : Stated) → Among w (used_inside x) → (a : Ask A) × Among a asks × Among w (used_inside a.item)
uses_kept {A = A} asks n x e w m = found (mapped-some outer (kept (asked_in asks)) (n, x) e)
  where
    outer : Stated → Name × Stated
    outer y = (spelled asks, identified (spelled asks) (asked_in asks) y)

    back : (q : Asked) → Among w (used_inside q.1) → ((b : Ask A) × Among b asks × (q ≡ (b.name, b.item))) → (a : Ask A) × Among a asks × Among w (used_inside a.item)
    back q u (b, k, same) = (b, k, subst (λ (p : Asked). Among w (used_inside p.1)) same u)

    asked : SomeAskedUses (asked_in asks) w → (a : Ask A) × Among a asks × Among w (used_inside a.item)
    asked (q, k, u) = back q u (mapped_among (λ (c : Ask A). (c.name, c.item)) asks q k)

    found : ((z : Stated) × (kept (asked_in asks) ≡ Some z) × (outer z ≡ (n, x))) → (a : Ask A) × Among a asks × Among w (used_inside a.item)
    found (z, is, same) = asked (kept_uses (asked_in asks) z is w (subst (Among w) (ap (λ (q : Name × Stated). used_inside q.1) (sym same) ∙ identified_uses (spelled asks) (asked_in asks) z) m))
