-- What a composition of proper types asks is proper.
use Rattle.std.specs.Prelude.{map, not, is_some, filter, option_map}
use Rattle.std.proofs.lemmas.Option.{none-some, same_Some}
use Rattle.std.specs.List.{flat_map}
use Rattle.std.proofs.Common.{◌≡◌, List, ◌∷◌, ◌++◌, Option, Some, None, inl, inr, refl, sym, subst}
use Rattle.wac_types_base.specs.Entries.{Name, value_at}
use Rattle.wac_types_base.specs.Graph.{Wholes, node, no_more, more, hole, Among}
use Rattle.wac_types_base.specs.Collection.{Shape, primitive, tuple, list, fixed_size_list, option, result, variant, record_of, flags, enum, alias, stream, future, resource, resource_alias, func, interface, world, module_type, type_of, borrow_of, own_of}
use Rattle.wac_types_base.specs.Stated.{Stated, Kind, IsFunction, IsInstance, IsComponent, IsModule, IsValue, IsResource, IsFunctionType, IsValueType, IsInterface, IsWorld, IsModuleType, Used, parts_at, folded_row, places_in, imports_of, uses_of, kind_of, identifier_of}
use Rattle.wac_types_base.proofs.Lists.{among_split, from_filtered}
use Rattle.wac_composition.specs.Composition.{Placed, Made, Composition}
use Rattle.wac_composition.specs.Asks.{Ask, ToFill, ToUse, below_use, below_parts, used_at, used_by, used_by_kind, used_by_definition, explicit_ask, filled_asks, asked_for, named_asks, asks_of}
use Rattle.wac_composition.proofs.Closures.{filter_among}
use Rattle.wac_composition.proofs.Lists.{mapped_among, among_flat}
use Rattle.wac_parser_resolve.specs.Proper.{Proper}
use Rattle.wac_parser_resolve.proofs.Proper.{below, in_places, AllPlaces, imports_proper, uses_proper}

-- ---- the interfaces that are used

abbrev AllOf : List Stated → Type 0
AllOf xs = (y : Stated) → Among y xs → Proper y

abbrev AllFound : List (Option (Stated × List Stated)) → Type 0
AllFound os = (o : Stated × List Stated) → Among (Some o) os → Proper o.0 × AllOf o.1

parts_proper : (s : Shape) (os : List (Option (Stated × List Stated))) → AllFound os → AllOf (below_parts (parts_at s os))
parts_proper s os h y m = elim (among_split y (flat_map below_use (parts_at s os).uses) (flat_map (λ e. e.1.1) (parts_at s os).exports) m) [
  | inl a ↦ let r = among_flat below_use (parts_at s os).uses y a in in_use r.0 (h (r.0.0.interface, r.0.1) ((in_places s os).uses r.0 r.1)) r.2
  | inr b ↦ let r = among_flat (λ (e : Name × (Stated × List Stated)). e.1.1) (parts_at s os).exports y b in (h r.0.1 ((in_places s os).exports r.0 r.1)).1 y r.2
]
  where
    in_use : (u : Used × List Stated) → Proper u.0.interface × AllOf u.1 → Among y (below_use u) → Proper y
    in_use u f (inl e) = subst Proper (sym e) f.0
    in_use u f (inr n) = f.1 y n

-- what a label uses, its parts do
used_in : (s : Shape) (os : List (Option (Stated × List Stated))) → AllFound os → AllOf (used_at s os)
used_in (interface i us es) os h y m = parts_proper (interface i us es) os h y m
used_in (type_of (interface i us es)) os h y m = parts_proper (interface i us es) os h y m
used_in (primitive p) os h y m = absurd m
used_in tuple os h y m = absurd m
used_in list os h y m = absurd m
used_in (fixed_size_list n) os h y m = absurd m
used_in option os h y m = absurd m
used_in result os h y m = absurd m
used_in (variant ns) os h y m = absurd m
used_in (record_of ns) os h y m = absurd m
used_in (flags ns) os h y m = absurd m
used_in (enum ns) os h y m = absurd m
used_in alias os h y m = absurd m
used_in stream os h y m = absurd m
used_in future os h y m = absurd m
used_in (resource n) os h y m = absurd m
used_in (resource_alias n) os h y m = absurd m
used_in (func ps a) os h y m = absurd m
used_in (world i us is es) os h y m = absurd m
used_in (module_type t) os h y m = absurd m
used_in (borrow_of s) os h y m = absurd m
used_in (own_of s) os h y m = absurd m
used_in (type_of (primitive p)) os h y m = absurd m
used_in (type_of tuple) os h y m = absurd m
used_in (type_of list) os h y m = absurd m
used_in (type_of (fixed_size_list n)) os h y m = absurd m
used_in (type_of option) os h y m = absurd m
used_in (type_of result) os h y m = absurd m
used_in (type_of (variant ns)) os h y m = absurd m
used_in (type_of (record_of ns)) os h y m = absurd m
used_in (type_of (flags ns)) os h y m = absurd m
used_in (type_of (enum ns)) os h y m = absurd m
used_in (type_of alias) os h y m = absurd m
used_in (type_of stream) os h y m = absurd m
used_in (type_of future) os h y m = absurd m
used_in (type_of (resource n)) os h y m = absurd m
used_in (type_of (resource_alias n)) os h y m = absurd m
used_in (type_of (func ps a)) os h y m = absurd m
used_in (type_of (world i us is es)) os h y m = absurd m
used_in (type_of (module_type t)) os h y m = absurd m
used_in (type_of (type_of s)) os h y m = absurd m
used_in (type_of (borrow_of s)) os h y m = absurd m
used_in (type_of (own_of s)) os h y m = absurd m

mutual
  used_proper : (x : Stated) → Proper x → AllOf (used_by x)
  used_proper (node s ts) p = used_in s (folded_row used_at ts) (row_proper ts (λ y m. below (node s ts) y p m))

  row_proper : (ts : Wholes Shape) → AllPlaces (places_in ts) → AllFound (folded_row used_at ts)
  row_proper no_more h o m = absurd m
  row_proper (hole ts) h o (inl e) = absurd (none-some _ (sym e))
  row_proper (hole ts) h o (inr m) = row_proper ts (λ z k. h z (inr k)) o m
  row_proper (more t ts) h o (inl e) = subst (λ (f : Stated × List Stated). Proper f.0 × AllOf f.1) (sym (same_Some _ _ e)) (h t (inl refl), used_proper t (h t (inl refl)))
  row_proper (more t ts) h o (inr m) = row_proper ts (λ z k. h z (inr k)) o m

used_by_world : (x : Stated) → Proper x → AllOf (flat_map (λ u. u.interface ∷ used_by u.interface) (uses_of x))
used_by_world x h y m = let r = among_flat (λ (u : Used). u.interface ∷ used_by u.interface) (uses_of x) y m in go r.0 (uses_proper x h r.0 r.1) r.2
  where
    go : (u : Used) → Proper u.interface → Among y (u.interface ∷ used_by u.interface) → Proper y
    go u f (inl e) = subst Proper (sym e) f
    go u f (inr n) = used_proper u.interface f y n

used_of_kind : (k : Kind) (n : Option Name) (x : Stated) → Proper x → AllOf (used_by_kind k n x)
used_of_kind IsInterface None x h y m = used_proper x h y m
used_of_kind IsInterface (Some n) x h y m = absurd m
used_of_kind IsWorld None x h y m = used_by_world x h y m
used_of_kind IsWorld (Some n) x h y m = absurd m
used_of_kind IsFunction n x h y m = absurd m
used_of_kind IsInstance n x h y m = absurd m
used_of_kind IsComponent n x h y m = absurd m
used_of_kind IsModule n x h y m = absurd m
used_of_kind IsValue n x h y m = absurd m
used_of_kind IsResource n x h y m = absurd m
used_of_kind IsFunctionType n x h y m = absurd m
used_of_kind IsValueType n x h y m = absurd m
used_of_kind IsModuleType n x h y m = absurd m

-- ---- asks

module _ {A : Type 0} where
  abbrev AllAsks : List (Ask A) → Type 0
  AllAsks as_ = (a : Ask A) → Among a as_ → Proper a.item

  for_proper : (by : A) (xs : List Stated) → AllOf xs → AllAsks (asked_for by xs)
  for_proper by xs h a m =
      let r = from_filtered (λ x. option_map (λ n. record { asking = ToUse; by = by; name = n; item = x }) (identifier_of x)) xs a m in
      go r.0 (identifier_of r.0) (h r.0 r.1) r.2
    where
      go : (x : Stated) (o : Option Name) → Proper x → option_map (λ n. record { asking = ToUse; by = by; name = n; item = x }) o ≡ Some a → Proper a.item
      go x None f e = absurd (none-some _ e)
      go x (Some n) f e = subst (λ (b : Ask A). Proper b.item) (same_Some _ _ e) f

  module _ {I : Type 0} (c : Composition A I) (imports : (i : Placed A) → Among i c.imports → Proper i.item) (made : (m : Made A I) → Among m c.made → Proper m.world) (defined : (d : Placed A) → Among d c.definitions → Proper d.item) where
    filled_proper : (m : Made A I) → Proper m.world → AllAsks (filled_asks m)
    filled_proper m h a n =
        let r = mapped_among (λ (e : Name × Stated). record { asking = ToFill; by = m.by; name = e.0; item = e.1 }) (filter (λ e. not (is_some (value_at m.arguments e.0))) (imports_of m.world)) a n in
        subst (λ (b : Ask A). Proper b.item) (sym r.2) (imports_proper m.world h r.0 (filter_among (λ e. not (is_some (value_at m.arguments e.0))) (imports_of m.world) r.0 r.1).0)

    named_proper : AllAsks (named_asks c)
    named_proper a n = elim (among_split a (map explicit_ask c.imports) (flat_map filled_asks c.made) n) [
      | inl k ↦ let r = mapped_among explicit_ask c.imports a k in subst (λ (b : Ask A). Proper b.item) (sym r.2) (imports r.0 r.1)
      | inr k ↦ let r = among_flat filled_asks c.made a k in filled_proper r.0 (made r.0 r.1) a r.2
    ]

    used_asks_proper : AllAsks (flat_map (λ a. asked_for a.by (used_by a.item)) (named_asks c) ++ flat_map (λ d. asked_for d.by (used_by_definition d.item)) c.definitions)
    used_asks_proper a n = elim (among_split a (flat_map (λ (b : Ask A). asked_for b.by (used_by b.item)) (named_asks c)) (flat_map (λ (d : Placed A). asked_for d.by (used_by_definition d.item)) c.definitions) n) [
      | inl k ↦ let r = among_flat (λ (b : Ask A). asked_for b.by (used_by b.item)) (named_asks c) a k in
          for_proper r.0.by (used_by r.0.item) (used_proper r.0.item (named_proper r.0 r.1)) a r.2
      | inr k ↦ let r = among_flat (λ (d : Placed A). asked_for d.by (used_by_definition d.item)) c.definitions a k in
          for_proper r.0.by (used_by_definition r.0.item) (used_of_kind (kind_of r.0.item) (identifier_of r.0.item) r.0.item (defined r.0 r.1)) a r.2
    ]

    pub asks_proper : AllAsks (asks_of c)
    asks_proper a n = elim (among_split a (named_asks c) (flat_map (λ (b : Ask A). asked_for b.by (used_by b.item)) (named_asks c) ++ flat_map (λ (d : Placed A). asked_for d.by (used_by_definition d.item)) c.definitions) n) [
      | inl k ↦ named_proper a k
      | inr k ↦ used_asks_proper a k
    ]
