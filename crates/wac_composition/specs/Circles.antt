-- Imports whose interfaces use each other in a circle. Each is written behind those that it uses, but for one that waits for it:
-- of that one nothing stands yet, so what is used of it is written out.
use Rattle.std.specs.Prelude.{ℕ, zero, suc, Bool, true, false, ◌||◌, List, [], ◌∷◌, ◌++◌, map, length, Option, Some, None, option_map, filter, filter_map, if◌then◌else◌}
use Rattle.std.specs.List.{flat_map, fold}
use Rattle.wac_types_base.specs.Entries.{Name, value_at, names_of, has_name}
use Rattle.wac_types_base.specs.Collection.{Shape, interface, world, type_of}
use Rattle.wac_types_base.specs.Stated.{Stated, folded, Parts, parts_at, Used, kind_of, as_type, interface_of, imports_of, exports_of, identifier_of}
use Rattle.wac_composition.specs.Writable.{has_items}
use Rattle.wac_types_written.specs.Written.{found_in, over_own}

-- ---- the interfaces that an item uses, in it and in its items

abbrev pub used_in_parts : Parts (List Stated) → List Stated
used_in_parts p = map (λ u. u.0.interface) p.uses ++ flat_map (λ e. e.1.1) p.exports

abbrev pub used_inside_at : Shape → List (Option (Stated × List Stated)) → List Stated
used_inside_at (interface i us es) os = used_in_parts (parts_at (interface i us es) os)
used_inside_at (type_of (interface i us es)) os = used_in_parts (parts_at (interface i us es) os)
used_inside_at s os = []

abbrev pub used_inside : Stated → List Stated
used_inside = folded used_inside_at

-- ---- an item with the uses of those interfaces alone that stand

module _ (stands : Name → Bool) where
  abbrev pub is_standing : Option Name → Bool
  is_standing None = true
  is_standing (Some i) = stands i

  abbrev pub with_standing_uses : Parts Stated → Stated
  with_standing_uses p =
      interface_of p.identifier (filter (λ u. is_standing (identifier_of u.interface)) (map (λ u. u.0) p.uses)) (found_in p.exports)

  -- what a component type uses it imports itself
  abbrev pub beside_at : Shape → List (Option (Stated × Stated)) → Stated
  beside_at (interface i us es) os = with_standing_uses (parts_at (interface i us es) os)
  beside_at (type_of (interface i us es)) os = as_type (with_standing_uses (parts_at (interface i us es) os))
  beside_at s os = over_own s os

  abbrev pub beside : Stated → Stated
  beside = folded beside_at

-- ---- imports in the order in which they are written, each as it is written; `spell` gives the name of the import that is
-- asked under a name

module _ (spell : Name → Name) (imports : List (Name × Stated)) where
  abbrev pub used_names : Option Stated → List Name
  used_names None = []
  used_names (Some x) = filter_map (λ i. option_map spell (identifier_of i)) (used_inside x)

  -- behind those that are written: this import, behind those that it uses and for which it waits
  abbrev pub put : ℕ → (waiting written : List Name) → Name → List Name
  put zero ws ns n = ns
  put (suc k) ws ns n =
      if has_name ws n || has_name ns n then ns else fold (put k (n ∷ ws)) ns (used_names (value_at imports n)) ++ n ∷ []

  abbrev pub written_names : List Name
  written_names = fold (put (length imports) []) [] (names_of imports)

  -- the interface stands that is asked under this name
  abbrev pub stands_in : List Name → Name → Bool
  stands_in standing i = has_name standing (spell i)

  abbrev pub under : Name → Option Stated → List (Name × Stated)
  under n None = []
  under n (Some x) = (n, x) ∷ []

  abbrev pub written_from : (standing rest : List Name) → List (Name × Stated)
  written_from ns [] = []
  written_from ns (n ∷ rest) = under n (option_map (beside (stands_in ns)) (value_at imports n)) ++ written_from (ns ++ n ∷ []) rest

  abbrev pub as_written : List (Name × Stated)
  as_written = written_from [] written_names

-- those of them that are interfaces
abbrev pub interfaces_in : List (Name × Stated) → List (Name × Stated)
interfaces_in is = filter (λ e. has_items (kind_of e.1)) is

abbrev pub interfaces_written : (Name → Name) → List (Name × Stated) → List (Name × Stated)
interfaces_written spell is = as_written spell (interfaces_in is)

-- ---- the imports of each component type that stands in an item

abbrev pub Imports : Type 0
Imports = List (List (Name × Stated))

abbrev pub in_items : List (Name × (Stated × Imports)) → Imports
in_items es = flat_map (λ e. e.1.1) es

abbrev pub in_world : Parts Imports → Imports
in_world p = map (λ e. (e.0, e.1.0)) p.imports ∷ (in_items p.imports ++ in_items p.exports)

abbrev pub imports_inside_at : Shape → List (Option (Stated × Imports)) → Imports
imports_inside_at (interface i us es) os = in_items (parts_at (interface i us es) os).exports
imports_inside_at (type_of (interface i us es)) os = in_items (parts_at (interface i us es) os).exports
imports_inside_at (world i us is es) os = in_world (parts_at (world i us is es) os)
imports_inside_at (type_of (world i us is es)) os = in_world (parts_at (world i us is es) os)
imports_inside_at s os = []

abbrev pub imports_inside : Stated → Imports
imports_inside = folded imports_inside_at

-- the interfaces that they import, each as it is written, under the item's name
abbrev pub written_inside : Name × Stated → List (Name × Stated)
written_inside e = map (λ x. (e.0, x.1)) (flat_map (interfaces_written (λ n. n)) (imports_inside e.1))

-- the item itself, and these
abbrev pub written_whole : Name × Stated → List (Name × Stated)
written_whole e = e ∷ written_inside e

-- the interfaces that an imported package exports, each as it is written: over those that it imports, and those that are exported
-- before it
abbrev pub exports_written : Stated → List (Name × Stated)
exports_written w =
    written_from (λ n. n) (interfaces_in (exports_of w)) (names_of (imports_of w))
    (written_names (λ n. n) (interfaces_in (exports_of w)))

-- these, and those of the component types that stand in it
abbrev pub written_package : Name × Stated → List (Name × Stated)
written_package e = written_inside e ++ map (λ x. (e.0, x.1)) (exports_written e.1)
