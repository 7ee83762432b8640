-- What a composition asks from outside, in order.
use Rattle.std.specs.Prelude.{List, [], ◌∷◌, ◌++◌, map, not, Option, None, option_map, is_some, filter, filter_map}
use Rattle.std.specs.List.{flat_map}
use Rattle.wac_types_base.specs.Entries.{Name, value_at}
use Rattle.wac_types_base.specs.Collection.{Shape, interface, type_of}
use Rattle.wac_types_base.specs.Stated.{Stated, folded, Parts, parts_at, Used, Kind, IsInterface, IsWorld, kind_of, imports_of, uses_of, identifier_of}
use Rattle.wac_composition.specs.Composition.{Placed, Made, Composition}

pub data Asking : Type 0 where
  -- an import that is asked for by its name
  ByName : Asking
  -- an import of an instance that no argument is given for
  ToFill : Asking
  -- an interface that an asked type or a definition uses
  ToUse : Asking

pub record Ask (A : Type 0) : Type 0 where
  pub asking : Asking
  -- a use counts as asked by the one whose type uses it
  pub by : A
  pub name : Name
  pub item : Stated

-- ---- the interfaces that are used, each before those that it uses itself

abbrev pub below_use : Used × List Stated → List Stated
below_use u = u.0.interface ∷ u.1

abbrev pub below_parts : Parts (List Stated) → List Stated
below_parts p = flat_map below_use p.uses ++ flat_map (λ e. e.1.1) p.exports

-- what a component uses, it imports itself
abbrev pub used_at : Shape → List (Option (Stated × List Stated)) → List Stated
used_at (interface i us es) os = below_parts (parts_at (interface i us es) os)
used_at (type_of (interface i us es)) os = below_parts (parts_at (interface i us es) os)
used_at s os = []

abbrev pub used_by : Stated → List Stated
used_by = folded used_at

-- A definition of an interface or a world with identifier is written as a component type, which imports what it uses.
abbrev pub used_by_kind : Kind → Option Name → Stated → List Stated
used_by_kind IsInterface None x = used_by x
used_by_kind IsWorld None x = flat_map (λ u. u.interface ∷ used_by u.interface) (uses_of x)
used_by_kind k n x = []

abbrev pub used_by_definition : Stated → List Stated
used_by_definition x = used_by_kind (kind_of x) (identifier_of x) x

-- ---- the asks

abbrev pub explicit_ask : {A : Type 0} → Placed A → Ask A
explicit_ask i = record { asking = ByName; by = i.by; name = i.name; item = i.item }

-- the imports of an instance that no argument is given for, in its world's order
abbrev pub filled_asks : {A I : Type 0} → Made A I → List (Ask A)
filled_asks m = map (λ e. record { asking = ToFill; by = m.by; name = e.0; item = e.1 })
    (filter (λ e. not (is_some (value_at m.arguments e.0))) (imports_of m.world))

abbrev pub asked_for : {A : Type 0} → A → List Stated → List (Ask A)
asked_for by xs = filter_map (λ x. option_map (λ n. record { asking = ToUse; by = by; name = n; item = x }) (identifier_of x)) xs

-- those of imports, then those of instances
abbrev pub named_asks : {A I : Type 0} → Composition A I → List (Ask A)
named_asks c = map explicit_ask c.imports ++ flat_map filled_asks c.made

-- those of used interfaces: of the asked types, and of definitions
abbrev pub asks_to_use : {A I : Type 0} → Composition A I → List (Ask A)
asks_to_use c = flat_map (λ a. asked_for a.by (used_by a.item)) (named_asks c)
    ++ flat_map (λ d. asked_for d.by (used_by_definition d.item)) c.definitions

abbrev pub asks_of : {A I : Type 0} → Composition A I → List (Ask A)
asks_of c = named_asks c ++ asks_to_use c
