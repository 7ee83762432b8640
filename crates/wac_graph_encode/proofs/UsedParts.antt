-- What an item uses, by its uses and exports, and induction over what stands in its places.
use Rattle.std.proofs.Common.{◌≡◌, true, false, true≢false, List, [], ◌∷◌, ◌++◌, map, length, drop, Option, Some, refl, sym, ap, ◌∙◌, subst, inl, inr}
use Rattle.std.specs.List.{flat_map}
use Rattle.std.proofs.lemmas.Option.{none-some, same_Some}
use Rattle.wac_types_base.specs.Entries.{Name}
use Rattle.wac_types_base.specs.Graph.{Wholes, node, no_more, more, hole, Among}
use Rattle.wac_types_base.specs.Collection.{Shape, interface, type_of}
use Rattle.wac_types_base.specs.Stated.{Stated, Used, folded, folded_row, kind_of, places_in, places_of, only_places, first_parts, with_names, uses_from, uses_of, exports_of}
use Rattle.wac_composition.specs.Asks.{below_use, used_at, used_by}
use Rattle.wac_composition.specs.Circles.{used_inside, used_inside_at}
use Rattle.wac_composition.specs.Writable.{has_items}

-- ---- induction

mutual
  -- what is so of each type of which it is so of those in its places is so of all
  pub by_places : (P : Stated → Type 0) → ((x : Stated) → ((y : Stated) → Among (Some y) (places_of x) → P y) → P x) → (x : Stated) → P x
  by_places P step (node s ts) = step (node s ts) (in_row P step ts)

  in_row : (P : Stated → Type 0) → ((x : Stated) → ((y : Stated) → Among (Some y) (places_of x) → P y) → P x) → (ts : Wholes Shape) → (y : Stated) → Among (Some y) (places_in ts) → P y
  in_row P step no_more y m = absurd m
  in_row P step (hole ts) y (inl e) = absurd (none-some _ (sym e))
  in_row P step (hole ts) y (inr m) = in_row P step ts y m
  in_row P step (more t ts) y (inl e) = subst P (sym (same_Some _ _ e)) (by_places P step t)
  in_row P step (more t ts) y (inr m) = in_row P step ts y m

-- ---- places

no_names : {A : Type 0} (ns : List Name) → with_names {A = A} ns [] ≡ []
no_names [] = refl
no_names (n ∷ ns) = refl

use_place : (us : List (Name × Option Name)) (ts : Wholes Shape) (u : Used) → Among u (map (λ v. v.0) (uses_from us (only_places ts))) → Among (Some u.interface) (places_in ts)
use_place [] ts u m = absurd m
use_place (v ∷ us) no_more u m = absurd m
use_place (v ∷ us) (hole ts) u m = inr (use_place us ts u m)
use_place (v ∷ us) (more t ts) u (inl e) = inl (ap (λ (w : Used). Some w.interface) e)
use_place (v ∷ us) (more t ts) u (inr m) = inr (use_place us ts u m)

item_place : (ns : List Name) (ts : Wholes Shape) (e : Name × Stated) → Among e (first_parts (with_names ns (only_places ts))) → Among (Some e.1) (places_in ts)
item_place [] ts e m = absurd m
item_place (n ∷ ns) no_more e m = absurd m
item_place (n ∷ ns) (hole ts) e m = inr (item_place ns ts e m)
item_place (n ∷ ns) (more t ts) e (inl q) = inl (ap (λ (f : Name × Stated). Some f.1) q)
item_place (n ∷ ns) (more t ts) e (inr m) = inr (item_place ns ts e m)

item_behind : {U : Type 0} (us : List U) (ns : List Name) (ts : Wholes Shape) (e : Name × Stated) → Among e (first_parts (with_names ns (drop (length us) (only_places ts)))) → Among (Some e.1) (places_in ts)
item_behind [] ns ts e m = item_place ns ts e m
item_behind (u ∷ us) ns no_more e m = absurd (subst (λ l. Among e (first_parts l)) (no_names ns) m)
item_behind (u ∷ us) ns (hole ts) e m = inr (item_behind us ns ts e m)
item_behind (u ∷ us) ns (more t ts) e m = inr (item_behind us ns ts e m)

-- what is used, and what is exported, stands in places
pub use_in_place : (x : Stated) → has_items (kind_of x) ≡ true → (u : Used) → Among u (uses_of x) → Among (Some u.interface) (places_of x)
use_in_place (node (interface i us es) ts) h u m = use_place us ts u m
use_in_place (node (type_of (interface i us es)) ts) h u m = use_place us ts u m
use_in_place (node s ts) h u m = absurd (true≢false (sym h))

pub item_in_place : (x : Stated) → has_items (kind_of x) ≡ true → (e : Name × Stated) → Among e (exports_of x) → Among (Some e.1) (places_of x)
item_in_place (node (interface i us es) ts) h e m = item_behind us es ts e m
item_in_place (node (type_of (interface i us es)) ts) h e m = item_behind us es ts e m
item_in_place (node s ts) h e m = absurd (true≢false (sym h))

-- ---- what a fold finds

module _ {A : Type 0} (g : Stated → A) where
  abbrev pub told_uses : List Used → List (Used × A)
  told_uses us = map (λ u. (u, g u.interface)) us

  abbrev pub told_items : List (Name × Stated) → List (Name × (Stated × A))
  told_items es = map (λ e. (e.0, (e.1, g e.1))) es

  pub only_uses : (us : List Used) → map (λ u. u.0) (told_uses us) ≡ us
  only_uses [] = refl
  only_uses (u ∷ us) = ap (λ l. u ∷ l) (only_uses us)

module _ {A : Type 0} (f : Shape → List (Option (Stated × A)) → A) where
  pub uses_told : (us : List (Name × Option Name)) (ts : Wholes Shape) → uses_from us (folded_row f ts) ≡ told_uses (folded f) (map (λ u. u.0) (uses_from us (only_places ts)))
  uses_told [] ts = refl
  uses_told (u ∷ us) no_more = refl
  uses_told (u ∷ us) (hole ts) = uses_told us ts
  uses_told (u ∷ us) (more t ts) = ap (λ l. (record { name = u.0; there = u.1; interface = t }, folded f t) ∷ l) (uses_told us ts)

  items_at : (ns : List Name) (ts : Wholes Shape) → with_names ns (folded_row f ts) ≡ told_items (folded f) (first_parts (with_names ns (only_places ts)))
  items_at [] ts = refl
  items_at (n ∷ ns) no_more = refl
  items_at (n ∷ ns) (hole ts) = items_at ns ts
  items_at (n ∷ ns) (more t ts) = ap (λ l. (n, (t, folded f t)) ∷ l) (items_at ns ts)

  pub items_told : {U : Type 0} (us : List U) (ns : List Name) (ts : Wholes Shape) → with_names ns (drop (length us) (folded_row f ts)) ≡ told_items (folded f) (first_parts (with_names ns (drop (length us) (only_places ts))))
  items_told [] ns ts = items_at ns ts
  items_told (u ∷ us) ns no_more = no_names ns ∙ sym (ap (λ l. told_items (folded f) (first_parts l)) (no_names ns))
  items_told (u ∷ us) ns (hole ts) = items_told us ns ts
  items_told (u ∷ us) ns (more t ts) = items_told us ns ts

-- ---- what is used

abbrev pub with_used : Used → List Stated
with_used u = u.interface ∷ used_by u.interface

abbrev pub used_by_item : Name × Stated → List Stated
used_by_item e = used_by e.1

abbrev pub used_in_item : Name × Stated → List Stated
used_in_item e = used_inside e.1

abbrev pub used_of : Used → Stated
used_of u = u.interface

uses_inside : (us : List Used) → map (λ u. u.0.interface) (told_uses used_inside us) ≡ map used_of us
uses_inside [] = refl
uses_inside (u ∷ us) = ap (λ l. u.interface ∷ l) (uses_inside us)

items_inside : (es : List (Name × Stated)) → flat_map (λ e. e.1.1) (told_items used_inside es) ≡ flat_map used_in_item es
items_inside [] = refl
items_inside (e ∷ es) = ap (λ l. used_inside e.1 ++ l) (items_inside es)

uses_by : (us : List Used) → flat_map below_use (told_uses used_by us) ≡ flat_map with_used us
uses_by [] = refl
uses_by (u ∷ us) = ap (λ l. with_used u ++ l) (uses_by us)

items_by : (es : List (Name × Stated)) → flat_map (λ e. e.1.1) (told_items used_by es) ≡ flat_map used_by_item es
items_by [] = refl
items_by (e ∷ es) = ap (λ l. used_by e.1 ++ l) (items_by es)

two : {X : Type 0} {a b c d : List X} → a ≡ b → c ≡ d → a ++ c ≡ b ++ d
two p q i = p i ++ q i

-- what an interface uses inside is what it uses, and what its exports do
pub inside_is : (x : Stated) → has_items (kind_of x) ≡ true → used_inside x ≡ map used_of (uses_of x) ++ flat_map used_in_item (exports_of x)
inside_is (node (interface i us es) ts) h =
    two (ap (map (λ u. u.0.interface)) (uses_told used_inside_at us ts) ∙ uses_inside (uses_of (node (interface i us es) ts)))
    (ap (flat_map (λ e. e.1.1)) (items_told used_inside_at us es ts) ∙ items_inside (exports_of (node (interface i us es) ts)))
inside_is (node (type_of (interface i us es)) ts) h =
    two (ap (map (λ u. u.0.interface)) (uses_told used_inside_at us ts) ∙ uses_inside (uses_of (node (interface i us es) ts)))
    (ap (flat_map (λ e. e.1.1)) (items_told used_inside_at us es ts) ∙ items_inside (exports_of (node (interface i us es) ts)))
inside_is (node s ts) h = absurd (true≢false (sym h))

-- and it uses, in all, what these use too
pub used_is : (x : Stated) → has_items (kind_of x) ≡ true → used_by x ≡ flat_map with_used (uses_of x) ++ flat_map used_by_item (exports_of x)
used_is (node (interface i us es) ts) h =
    two (ap (flat_map below_use) (uses_told used_at us ts) ∙ uses_by (uses_of (node (interface i us es) ts)))
    (ap (flat_map (λ e. e.1.1)) (items_told used_at us es ts) ∙ items_by (exports_of (node (interface i us es) ts)))
used_is (node (type_of (interface i us es)) ts) h =
    two (ap (flat_map below_use) (uses_told used_at us ts) ∙ uses_by (uses_of (node (interface i us es) ts)))
    (ap (flat_map (λ e. e.1.1)) (items_told used_at us es ts) ∙ items_by (exports_of (node (interface i us es) ts)))
used_is (node s ts) h = absurd (true≢false (sym h))

-- what is no interface uses nothing
pub none_used : (x : Stated) → has_items (kind_of x) ≡ false → (used_inside x ≡ []) × (used_by x ≡ [])
none_used (node (interface i us es) ts) h = absurd (true≢false h)
none_used (node (type_of (interface i us es)) ts) h = absurd (true≢false h)
none_used (node s ts) h = (refl, refl)
