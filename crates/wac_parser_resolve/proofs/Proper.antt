-- What is made of proper types is proper, and so is what is read of one.
use Rattle.std.specs.Prelude.{drop, option_map, ⊤}
use Rattle.std.proofs.lemmas.Option.{none-some, same_Some}
use Rattle.std.proofs.Common.{◌≡◌, ◌+◌, List, [], ◌∷◌, ◌++◌, length, Bool, true, false, true≢false, Option, Some, None, inl, inr, refl, sym, ap, subst, ◌∙◌}
use Rattle.wac_types_base.specs.Entries.{Name, value_at}
use Rattle.wac_types_base.specs.Graph.{Wholes, node, no_more, more, hole, Among}
use Rattle.wac_types_base.specs.Collection.{Shape, primitive, tuple, list, fixed_size_list, option, result, variant, record_of, flags, enum, alias, stream, future, resource, resource_alias, func, interface, world, module_type, type_of, borrow_of, own_of}
use Rattle.wac_types_base.specs.Stated.{Stated, places_in, with_names, names, filled, leaf, over, func_of, Used, names_used, used_places, interface_of, world_of, as_type, own, borrow, untyped, untyped_shape, shape_kind, uses_from, Parts, parts_at, only_places, exports_of, imports_of, uses_of, instance_type, places_of}
use Rattle.wac_types_base.specs.Tree.{Tree, Fields, trees, tree, tree_at}
use Rattle.wac_composition.specs.Classes.{is_instance_kind}
use Rattle.wac_composition.specs.Sound.{IsStraight, an_instance, no_instance}
use Rattle.wac_composition.proofs.Lists.{mapped_among}
use Rattle.wac_types_base.proofs.Made.{row_places}
use Rattle.wac_types_base.proofs.Lists.{among_split, among_drop}
use Rattle.wac_parser_resolve.specs.Proper.{NoInstance, NamesNoInstance, Proper, proper}
use Rattle.wac_types_fit.proofs.Items.{value_at-among}

pub below : (x y : Stated) → Proper x → Among (Some y) (places_of x) → Proper y
below x y (proper l h) m = h y m

-- ---- made of labels and places

abbrev pub AllPlaces : List (Option Stated) → Type 0
AllPlaces os = (y : Stated) → Among (Some y) os → Proper y

pub over_proper : (s : Shape) (os : List (Option Stated)) → NamesNoInstance s os → AllPlaces os → Proper (over s os)
over_proper s os l h = proper (subst (NamesNoInstance s) (sym (row_places os)) l) (λ y m. h y (subst (λ ps. Among (Some y) ps) (row_places os) m))

pub leaf_proper : (s : Shape) → NamesNoInstance s [] → Proper (leaf s)
leaf_proper s l = proper l (λ y m. absurd m)

pub typed_proper : (x : Stated) → Proper x → Proper (as_type x)
typed_proper (node s ts) (proper l h) = proper l h

pub own_proper : (x : Stated) → Proper x → Proper (own x)
own_proper (node s ts) (proper l h) = proper l h

pub borrow_proper : (x : Stated) → Proper x → Proper (borrow x)
borrow_proper (node s ts) (proper l h) = proper l h

untyped_names : (s : Shape) (os : List (Option Stated)) → NamesNoInstance s os → NamesNoInstance (untyped_shape s) os
untyped_names (primitive p) os l = l
untyped_names tuple os l = l
untyped_names list os l = l
untyped_names (fixed_size_list n) os l = l
untyped_names option os l = l
untyped_names result os l = l
untyped_names (variant ns) os l = l
untyped_names (record_of ns) os l = l
untyped_names (flags ns) os l = l
untyped_names (enum ns) os l = l
untyped_names alias os l = l
untyped_names stream os l = l
untyped_names future os l = l
untyped_names (resource n) os l = l
untyped_names (resource_alias n) os l = l
untyped_names (func ps a) os l = l
untyped_names (interface i us es) os l = l
untyped_names (world i us is es) os l = l
untyped_names (module_type m) os l = l
untyped_names (type_of s) os l = l
untyped_names (borrow_of s) os l = l
untyped_names (own_of s) os l = l

pub untyped_proper : (x : Stated) → Proper x → Proper (untyped x)
untyped_proper (node s ts) (proper l h) = proper (untyped_names s (places_in ts) l) h

-- ---- what stands in interfaces and worlds

with_among : {A : Type 0} (ns : List Name) (os : List (Option A)) (e : Name × A) → Among e (with_names ns os) → Among (Some e.1) os
with_among [] os e m = absurd m
with_among (n ∷ ns) [] e m = absurd m
with_among (n ∷ ns) (None ∷ os) e m = inr (with_among ns os e m)
with_among {A = A} (n ∷ ns) (Some x ∷ os) e (inl q) = inl (ap (λ (f : Name × A). Some f.1) q)
with_among (n ∷ ns) (Some x ∷ os) e (inr m) = inr (with_among ns os e m)

uses_among : {A : Type 0} (us : List (Name × Option Name)) (os : List (Option (Stated × A))) (u : Used × A) → Among u (uses_from us os) → Among (Some (u.0.interface, u.1)) os
uses_among [] os u m = absurd m
uses_among (v ∷ us) [] u m = absurd m
uses_among (v ∷ us) (None ∷ os) u m = inr (uses_among us os u m)
uses_among {A = A} (v ∷ us) (Some x ∷ os) u (inl q) = inl (ap (λ (w : Used × A). Some (w.0.interface, w.1)) q)
uses_among (v ∷ us) (Some x ∷ os) u (inr m) = inr (uses_among us os u m)

only_among : (ts : Wholes Shape) (y : Stated × ⊤) → Among (Some y) (only_places ts) → Among (Some y.0) (places_in ts)
only_among no_more y m = absurd m
only_among (hole ts) y (inl q) = absurd (none-some _ (sym q))
only_among (hole ts) y (inr m) = inr (only_among ts y m)
only_among (more t ts) y (inl q) = inl (ap (option_map (λ (x : Stated × ⊤). x.0)) q)
only_among (more t ts) y (inr m) = inr (only_among ts y m)

-- the parts stand in the places
pub record InPlaces {A : Type 0} (p : Parts A) (os : List (Option (Stated × A))) : Type 0 where
  pub uses : (u : Used × A) → Among u p.uses → Among (Some (u.0.interface, u.1)) os
  pub imports : (e : Name × (Stated × A)) → Among e p.imports → Among (Some e.1) os
  pub exports : (e : Name × (Stated × A)) → Among e p.exports → Among (Some e.1) os

no_parts : {A : Type 0} (os : List (Option (Stated × A))) → InPlaces (record { identifier = None; uses = []; imports = []; exports = [] }) os
no_parts os = record { uses = λ u m. absurd m; imports = λ e m. absurd m; exports = λ e m. absurd m }

pub in_places : {A : Type 0} (s : Shape) (os : List (Option (Stated × A))) → InPlaces (parts_at s os) os
in_places (interface i us es) os = record {
  uses = uses_among us os;
  imports = λ e m. absurd m;
  exports = λ e m. among_drop (length us) os (Some e.1) (with_among es (drop (length us) os) e m);
}
in_places (world i us is es) os = record {
  uses = uses_among us os;
  imports = λ e m. among_drop (length us) os (Some e.1) (with_among is (drop (length us) os) e m);
  exports = λ e m. among_drop (length us + length is) os (Some e.1) (with_among es (drop (length us + length is) os) e m);
}
in_places (primitive p) os = no_parts os
in_places tuple os = no_parts os
in_places list os = no_parts os
in_places (fixed_size_list n) os = no_parts os
in_places option os = no_parts os
in_places result os = no_parts os
in_places (variant ns) os = no_parts os
in_places (record_of ns) os = no_parts os
in_places (flags ns) os = no_parts os
in_places (enum ns) os = no_parts os
in_places alias os = no_parts os
in_places stream os = no_parts os
in_places future os = no_parts os
in_places (resource n) os = no_parts os
in_places (resource_alias n) os = no_parts os
in_places (func ps a) os = no_parts os
in_places (module_type m) os = no_parts os
in_places (type_of s) os = no_parts os
in_places (borrow_of s) os = no_parts os
in_places (own_of s) os = no_parts os

abbrev pub AllItems : List (Name × Stated) → Type 0
AllItems xs = (e : Name × Stated) → Among e xs → Proper e.1

abbrev pub AllUses : List Used → Type 0
AllUses us = (u : Used) → Among u us → Proper u.interface

exports_among : (x : Stated) (e : Name × Stated) → Among e (exports_of x) → Among (Some e.1) (places_of x)
exports_among (node s ts) e m =
    let r = mapped_among (λ (f : Name × (Stated × ⊤)). (f.0, f.1.0)) (parts_at (untyped_shape s) (only_places ts)).exports e m in
    subst (λ (f : Name × Stated). Among (Some f.1) (places_in ts)) (sym r.2) (only_among ts r.0.1 ((in_places (untyped_shape s) (only_places ts)).exports r.0 r.1))

imports_among : (x : Stated) (e : Name × Stated) → Among e (imports_of x) → Among (Some e.1) (places_of x)
imports_among (node s ts) e m =
    let r = mapped_among (λ (f : Name × (Stated × ⊤)). (f.0, f.1.0)) (parts_at (untyped_shape s) (only_places ts)).imports e m in
    subst (λ (f : Name × Stated). Among (Some f.1) (places_in ts)) (sym r.2) (only_among ts r.0.1 ((in_places (untyped_shape s) (only_places ts)).imports r.0 r.1))

used_among : (x : Stated) (u : Used) → Among u (uses_of x) → Among (Some u.interface) (places_of x)
used_among (node s ts) u m =
    let r = mapped_among (λ (v : Used × ⊤). v.0) (parts_at (untyped_shape s) (only_places ts)).uses u m in
    subst (λ (v : Used). Among (Some v.interface) (places_in ts)) (sym r.2) (only_among ts (r.0.0.interface, r.0.1) ((in_places (untyped_shape s) (only_places ts)).uses r.0 r.1))

pub exports_proper : (x : Stated) → Proper x → AllItems (exports_of x)
exports_proper x h e m = below x e.1 h (exports_among x e m)

pub imports_proper : (x : Stated) → Proper x → AllItems (imports_of x)
imports_proper x h e m = below x e.1 h (imports_among x e m)

pub uses_proper : (x : Stated) → Proper x → AllUses (uses_of x)
uses_proper x h u m = below x u.interface h (used_among x u m)

pub item_proper : (xs : List (Name × Stated)) (n : Name) (y : Stated) → AllItems xs → value_at xs n ≡ Some y → Proper y
item_proper xs n y h e = h (n, y) (value_at-among xs n y e)

-- ---- functions, interfaces and worlds that are made

pub filled_places : (xs : List (Name × Stated)) → AllItems xs → AllPlaces (filled xs)
filled_places xs h y m = let r = mapped_among (λ (x : Name × Stated). Some x.1) xs (Some y) m in subst Proper (sym (same_Some _ _ r.2)) (h r.0 r.1)

used_all : (us : List Used) → AllUses us → AllPlaces (used_places us)
used_all us h y m = let r = mapped_among (λ (u : Used). Some u.interface) us (Some y) m in subst Proper (sym (same_Some _ _ r.2)) (h r.0 r.1)

pub behind_places : (os ps : List (Option Stated)) → AllPlaces os → AllPlaces ps → AllPlaces (os ++ ps)
behind_places os ps h k y m = elim (among_split (Some y) os ps m) [ inl a ↦ h y a | inr b ↦ k y b ]

abbrev pub IfProper : Option Stated → Type 0
IfProper o = (y : Stated) → o ≡ Some y → Proper y

pub if_some : (x : Stated) → Proper x → IfProper (Some x)
if_some x h y e = subst Proper (same_Some _ _ e) h

pub if_none : IfProper None
if_none y e = absurd (none-some _ e)

pub one_place : (o : Option Stated) → IfProper o → AllPlaces (o ∷ [])
one_place o h y (inl e) = h y (sym e)
one_place o h y (inr m) = absurd m

pub two_places : (o p : Option Stated) → IfProper o → IfProper p → AllPlaces (o ∷ p ∷ [])
two_places o p h k y (inl e) = h y (sym e)
two_places o p h k y (inr m) = one_place p k y m

pub func_proper : (ps : List (Name × Stated)) (o : Option Stated) (a : Bool) → AllItems ps → IfProper o → Proper (func_of ps o a)
func_proper ps o a h k = over_proper (func (names ps) a) (filled ps ++ o ∷ []) tt (behind_places (filled ps) (o ∷ []) (filled_places ps h) (one_place o k))

pub interface_proper : (i : Option Name) (us : List Used) (xs : List (Name × Stated)) → AllUses us → AllItems xs → Proper (interface_of i us xs)
interface_proper i us xs h k =
    over_proper (interface i (names_used us) (names xs)) (used_places us ++ filled xs) tt (behind_places (used_places us) (filled xs) (used_all us h) (filled_places xs k))

pub world_proper : (i : Option Name) (us : List Used) (xs ys : List (Name × Stated)) → AllUses us → AllItems xs → AllItems ys → Proper (world_of i us xs ys)
world_proper i us xs ys h k l =
    over_proper (world i (names_used us) (names xs) (names ys)) (used_places us ++ (filled xs ++ filled ys)) tt
    (behind_places (used_places us) (filled xs ++ filled ys) (used_all us h) (behind_places (filled xs) (filled ys) (filled_places xs k) (filled_places ys l)))

pub instance_proper : (w : Stated) → Proper w → Proper (instance_type w)
instance_proper w h = interface_proper None (uses_of w) (exports_of w) (uses_proper w h) (exports_proper w h)

-- ---- what is no instance by its kind is none by its tree

mutual
  no_tree : (x : Stated) → Proper x → NoInstance x → (xs : Fields) → tree x ≡ Tree.instance xs → ⊥
  no_tree (node alias ts) (proper l h) k xs e = alias_tree ts l h xs e
  no_tree (node (resource_alias n) ts) (proper l h) k xs e = resource_tree n ts l h xs e
  no_tree (node (interface i us es) ts) p k xs e = k refl
  no_tree (node (primitive p) ts) q k xs e = cc
  no_tree (node tuple ts) q k xs e = cc
  no_tree (node list ts) q k xs e = cc
  no_tree (node (fixed_size_list n) ts) q k xs e = cc
  no_tree (node option ts) q k xs e = cc
  no_tree (node result ts) q k xs e = cc
  no_tree (node (variant ns) ts) q k xs e = cc
  no_tree (node (record_of ns) ts) q k xs e = cc
  no_tree (node (flags ns) ts) q k xs e = cc
  no_tree (node (enum ns) ts) q k xs e = cc
  no_tree (node stream ts) q k xs e = cc
  no_tree (node future ts) q k xs e = cc
  no_tree (node (resource n) ts) q k xs e = cc
  no_tree (node (func ps a) ts) q k xs e = cc
  no_tree (node (world i us is es) ts) q k xs e = cc
  no_tree (node (module_type m) ts) q k xs e = cc
  no_tree (node (type_of s) ts) q k xs e = cc
  no_tree (node (borrow_of s) ts) q k xs e = cc
  no_tree (node (own_of s) ts) q k xs e = cc

  alias_tree : (ts : Wholes Shape) → NamesNoInstance alias (places_in ts) → AllPlaces (places_in ts) → (xs : Fields) → tree_at alias (trees ts) ≡ Tree.instance xs → ⊥
  alias_tree no_more l h xs e = cc
  alias_tree (hole ts) l h xs e = cc
  alias_tree (more t ts) l h xs e = no_tree t (h t (inl refl)) l xs e

  resource_tree : (n : Name) (ts : Wholes Shape) → NamesNoInstance (resource_alias n) (places_in ts) → AllPlaces (places_in ts) → (xs : Fields) → tree_at (resource_alias n) (trees ts) ≡ Tree.instance xs → ⊥
  resource_tree n no_more l h xs e = cc
  resource_tree n (hole ts) l h xs e = cc
  resource_tree n (more t ts) l h xs e = no_tree t (h t (inl refl)) l xs e

mutual
  pub straight : (x : Stated) → Proper x → IsStraight x
  straight (node s ts) p = go (places_straight ts (λ y m. below (node s ts) y p m)) (is_instance_kind (shape_kind s)) refl
    where
      go : ((y : Stated) → Among (Some y) (places_in ts) → IsStraight y) → (b : Bool) → is_instance_kind (shape_kind s) ≡ b → IsStraight (node s ts)
      go rest true e = an_instance e (λ n y m. rest y (exports_among (node s ts) (n, y) m))
      go rest false e = no_instance (no_tree (node s ts) p (λ q. true≢false (sym (ap is_instance_kind q) ∙ e)))

  places_straight : (ts : Wholes Shape) → AllPlaces (places_in ts) → (y : Stated) → Among (Some y) (places_in ts) → IsStraight y
  places_straight no_more h y m = absurd m
  places_straight (hole ts) h y (inl e) = absurd (none-some _ (sym e))
  places_straight (hole ts) h y (inr m) = places_straight ts (λ z k. h z (inr k)) y m
  places_straight (more t ts) h y (inl e) = subst IsStraight (sym (same_Some _ _ e)) (straight t (h t (inl refl)))
  places_straight (more t ts) h y (inr m) = places_straight ts (λ z k. h z (inr k)) y m
