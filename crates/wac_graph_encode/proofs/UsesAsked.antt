-- What the asks of a composition use is asked.
use Rattle.std.proofs.Common.{◌≡◌, Bool, true, false, List, map, Option, Some, None, refl, sym, ap, subst, inl, inr}
use Rattle.std.specs.Prelude.{option_map}
use Rattle.std.specs.List.{flat_map}
use Rattle.std.proofs.lemmas.Option.{none-some, same_Some}
use Rattle.wac_types_base.specs.Entries.{Name}
use Rattle.wac_types_base.specs.Graph.{Among}
use Rattle.wac_types_base.specs.Stated.{Stated, Used, Kind, IsInterface, IsWorld, kind_of, places_of, uses_of, exports_of, identifier_of}
use Rattle.wac_types_base.proofs.Adding.{Among-left, Among-right}
use Rattle.wac_types_base.proofs.Lists.{among_split, from_filtered}
use Rattle.wac_composition.specs.Composition.{Placed, Composition}
use Rattle.wac_composition.specs.Asks.{Ask, ToUse, used_by, used_by_kind, used_by_definition, asked_for, named_asks, asks_to_use, asks_of}
use Rattle.wac_composition.specs.Circles.{used_inside}
use Rattle.wac_composition.specs.Writable.{has_items}
use Rattle.wac_composition.proofs.Lists.{mapped_among, among_flat, flat_among}
use Rattle.wac_graph_asks.proofs.Origins.{among_mapped}
use Rattle.wac_graph_encode.proofs.UsedParts.{by_places, use_in_place, item_in_place, with_used, used_by_item, used_in_item, used_of, inside_is, used_is, none_used}

-- ---- all that is used is closed

-- what is used inside is used
abbrev UsesInside : Stated → Type 0
UsesInside x = (y : Stated) → Among y (used_inside x) → Among y (used_by x)

inside_used : (x : Stated) → UsesInside x
inside_used = by_places UsesInside step
  where
    step : (x : Stated) → ((y : Stated) → Among (Some y) (places_of x) → UsesInside y) → UsesInside x
    step x below y m = go (has_items (kind_of x)) refl
      where
        go : (b : Bool) → has_items (kind_of x) ≡ b → Among y (used_by x)
        go false h = absurd (subst (Among y) (none_used x h).0 m)
        go true h = subst (Among y) (sym (used_is x h)) (elim (among_split y (map used_of (uses_of x)) (flat_map used_in_item (exports_of x)) (subst (Among y) (inside_is x h) m)) [
          | inl a ↦ let r = mapped_among used_of (uses_of x) y a in
              Among-left y (flat_map with_used (uses_of x)) (flat_map used_by_item (exports_of x)) (flat_among with_used (uses_of x) r.0 y r.1 (inl r.2))
          | inr b ↦ let r = among_flat used_in_item (exports_of x) y b in
              Among-right y (flat_map with_used (uses_of x)) (flat_map used_by_item (exports_of x)) (flat_among used_by_item (exports_of x) r.0 y r.1 (below r.0.1 (item_in_place x h r.0 r.1) y r.2))
        ])

-- what something that is used uses is used
abbrev UsesAll : Stated → Type 0
UsesAll x = (y z : Stated) → Among y (used_by x) → Among z (used_by y) → Among z (used_by x)

by_use : (u : Used) → UsesAll u.interface → (y z : Stated) → Among y (with_used u) → Among z (used_by y) → Among z (with_used u)
by_use u f y z (inl e) n = inr (subst (λ w. Among z (used_by w)) e n)
by_use u f y z (inr m) n = inr (f y z m n)

uses_all : (x : Stated) → UsesAll x
uses_all = by_places UsesAll step
  where
    step : (x : Stated) → ((y : Stated) → Among (Some y) (places_of x) → UsesAll y) → UsesAll x
    step x below y z m n = go (has_items (kind_of x)) refl
      where
        go : (b : Bool) → has_items (kind_of x) ≡ b → Among z (used_by x)
        go false h = absurd (subst (Among y) (none_used x h).1 m)
        go true h = subst (Among z) (sym (used_is x h)) (elim (among_split y (flat_map with_used (uses_of x)) (flat_map used_by_item (exports_of x)) (subst (Among y) (used_is x h) m)) [
          | inl a ↦ let r = among_flat with_used (uses_of x) y a in
              Among-left z (flat_map with_used (uses_of x)) (flat_map used_by_item (exports_of x))
              (flat_among with_used (uses_of x) r.0 z r.1 (by_use r.0 (below r.0.interface (use_in_place x h r.0 r.1)) y z r.2 n))
          | inr b ↦ let r = among_flat used_by_item (exports_of x) y b in
              Among-right z (flat_map with_used (uses_of x)) (flat_map used_by_item (exports_of x))
              (flat_among used_by_item (exports_of x) r.0 z r.1 (below r.0.1 (item_in_place x h r.0 r.1) y z r.2 n))
        ])

-- so it is of what a definition uses
defined_all : (k : Kind) (o : Option Name) (x y z : Stated) → Among y (used_by_kind k o x) → Among z (used_by y) → Among z (used_by_kind k o x)
defined_all IsInterface None x y z m n = uses_all x y z m n
defined_all IsWorld None x y z m n =
    let r = among_flat with_used (uses_of x) y m in
    flat_among with_used (uses_of x) r.0 z r.1 (by_use r.0 (uses_all r.0.interface) y z r.2 n)
defined_all k o x y z m n = absurd m

-- ---- asks

module _ {A I : Type 0} (c : Composition A I) where
  -- that interface is asked under its identifier
  abbrev IsAsked : List (Ask A) → Name → Stated → Type 0
  IsAsked asks i y = (b : Ask A) × Among b asks × (b.name ≡ i) × (b.item ≡ y)

  abbrev to_use : A → Stated → Option (Ask A)
  to_use by x = option_map (λ n. record { asking = ToUse; by = by; name = n; item = x }) (identifier_of x)

  asked_among : (by : A) (xs : List Stated) (y : Stated) (i : Name) → Among y xs → identifier_of y ≡ Some i → IsAsked (asked_for by xs) i y
  asked_among by xs y i m e = (
    record { asking = ToUse; by = by; name = i; item = y },
    among_mapped (to_use by) xs y (record { asking = ToUse; by = by; name = i; item = y }) m (ap (option_map (λ n. record { asking = ToUse; by = by; name = n; item = y })) e),
    refl,
    refl,
  )

  item_asked : (by : A) (x : Stated) (o : Option Name) (a : Ask A) → option_map (λ n. record { asking = ToUse; by = by; name = n; item = x }) o ≡ Some a → x ≡ a.item
  item_asked by x None a e = absurd (none-some _ e)
  item_asked by x (Some n) a e = ap (λ (b : Ask A). b.item) (same_Some _ _ e)

  -- what an ask for a used interface uses is used with it
  used_with : (by : A) (xs : List Stated) → ((x z : Stated) → Among x xs → Among z (used_by x) → Among z xs) → (a : Ask A) → Among a (asked_for by xs) → (y : Stated) → Among y (used_inside a.item) → Among y xs
  used_with by xs closed a m y n =
      let r = from_filtered (to_use by) xs a m in
      let is = item_asked by r.0 (identifier_of r.0) a r.2 in
      closed r.0 y r.1 (inside_used r.0 y (subst (λ x. Among y (used_inside x)) (sym is) n))

  abbrev for_named : Ask A → List (Ask A)
  for_named a = asked_for a.by (used_by a.item)

  abbrev for_defined : Placed A → List (Ask A)
  for_defined d = asked_for d.by (used_by_definition d.item)

  of_named : (i : Name) (y : Stated) → (a : Ask A) → Among a (named_asks c) → Among y (used_by a.item) → identifier_of y ≡ Some i → IsAsked (asks_of c) i y
  of_named i y a m n e =
      let b = asked_among a.by (used_by a.item) y i n e in (
        b.0,
        Among-right b.0 (named_asks c) (asks_to_use c) (Among-left b.0 (flat_map for_named (named_asks c)) (flat_map for_defined c.definitions) (flat_among for_named (named_asks c) a b.0 m b.1)),
        b.2,
        b.3,
      )

  of_defined : (i : Name) (y : Stated) → (d : Placed A) → Among d c.definitions → Among y (used_by_definition d.item) → identifier_of y ≡ Some i → IsAsked (asks_of c) i y
  of_defined i y d m n e =
      let b = asked_among d.by (used_by_definition d.item) y i n e in (
        b.0,
        Among-right b.0 (named_asks c) (asks_to_use c) (Among-right b.0 (flat_map for_named (named_asks c)) (flat_map for_defined c.definitions) (flat_among for_defined c.definitions d b.0 m b.1)),
        b.2,
        b.3,
      )

  pub uses_asked : (a : Ask A) → Among a (asks_of c) → (y : Stated) → Among y (used_inside a.item) → (i : Name) → identifier_of y ≡ Some i → IsAsked (asks_of c) i y
  uses_asked a m y n i e = elim (among_split a (named_asks c) (asks_to_use c) m) [
    | inl k ↦ of_named i y a k (inside_used a.item y n) e
    | inr k ↦ elim (among_split a (flat_map for_named (named_asks c)) (flat_map for_defined c.definitions) k) [
      | inl j ↦ let r = among_flat for_named (named_asks c) a j in
          of_named i y r.0 r.1 (used_with r.0.by (used_by r.0.item) (uses_all r.0.item) a r.2 y n) e
      | inr j ↦ let r = among_flat for_defined c.definitions a j in
          of_defined i y r.0 r.1 (used_with r.0.by (used_by_definition r.0.item) (defined_all (kind_of r.0.item) (identifier_of r.0.item) r.0.item) a r.2 y n) e
    ]
  ]
