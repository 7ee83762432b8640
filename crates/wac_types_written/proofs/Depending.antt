-- What an interface uses, part by part.
use Rattle.std.proofs.Common.{◌≡◌, List, [], ◌∷◌, ◌++◌, map, Option, refl, ap, ◌∙◌}
use Rattle.std.specs.List.{flat_map}
use Rattle.wac_types_base.specs.Entries.{Name}
use Rattle.wac_types_base.specs.Graph.{Wholes, node}
use Rattle.wac_types_base.specs.Collection.{Shape, primitive, tuple, list, fixed_size_list, option, result, variant, record_of, flags, enum, alias, stream, future, resource, resource_alias, func, interface, world, module_type, type_of, borrow_of, own_of}
use Rattle.wac_types_base.specs.Stated.{Stated, names, filled, Used, names_used, used_places, as_type, interface_of}
use Rattle.wac_types_written.specs.Written.{dependencies, dependencies_at, dependencies_in, through_use, used_through}
use Rattle.wac_types_written.proofs.Parts.{found_use, found_item, found_places, interface_parts}

uses_through : (us : List Used) → flat_map through_use (map (found_use dependencies) us) ≡ flat_map used_through us
uses_through [] = refl
uses_through (u ∷ us) = ap (λ l. used_through u ++ l) (uses_through us)

items_through : (xs : List (Name × Stated)) → flat_map (λ (e : Name × (Stated × List (Name × Stated))). e.1.1) (map (found_item dependencies) xs) ≡ flat_map (λ (e : Name × Stated). dependencies e.1) xs
items_through [] = refl
items_through (x ∷ xs) = ap (λ l. dependencies x.1 ++ l) (items_through xs)

module _ (i : Option Name) (us : List Used) (es : List (Name × Stated)) where
  -- what its uses name, behind what that uses, and what its exports use
  pub interface_depends : dependencies (interface_of i us es) ≡ flat_map used_through us ++ flat_map (λ (e : Name × Stated). dependencies e.1) es
  interface_depends =
      ap (λ os. dependencies_at (interface i (names_used us) (names es)) os) (found_places dependencies_at (used_places us ++ filled es))
      ∙ ap dependencies_in (interface_parts dependencies i us es)
      ∙ ap (λ l. l ++ flat_map (λ (e : Name × (Stated × List (Name × Stated))). e.1.1) (map (found_item dependencies) es)) (uses_through us)
      ∙ ap (λ l. flat_map used_through us ++ l) (items_through es)

  pub type_depends : dependencies (as_type (interface_of i us es)) ≡ dependencies (interface_of i us es)
  type_depends = refl

-- neither an interface, nor the type of one
abbrev pub IsNoInterface : Shape → Type 0
IsNoInterface (interface i us es) = ⊥
IsNoInterface (type_of (interface i us es)) = ⊥
IsNoInterface s = Unit {0}

pub nothing_depends : (s : Shape) (ts : Wholes Shape) → IsNoInterface s → dependencies (node s ts) ≡ []
nothing_depends (primitive p) ts h = refl
nothing_depends tuple ts h = refl
nothing_depends list ts h = refl
nothing_depends (fixed_size_list n) ts h = refl
nothing_depends option ts h = refl
nothing_depends result ts h = refl
nothing_depends (variant ns) ts h = refl
nothing_depends (record_of ns) ts h = refl
nothing_depends (flags ns) ts h = refl
nothing_depends (enum ns) ts h = refl
nothing_depends alias ts h = refl
nothing_depends stream ts h = refl
nothing_depends future ts h = refl
nothing_depends (resource n) ts h = refl
nothing_depends (resource_alias n) ts h = refl
nothing_depends (func ps a) ts h = refl
nothing_depends (world i us is es) ts h = refl
nothing_depends (module_type m) ts h = refl
nothing_depends (borrow_of s) ts h = refl
nothing_depends (own_of s) ts h = refl
nothing_depends (type_of (primitive p)) ts h = refl
nothing_depends (type_of tuple) ts h = refl
nothing_depends (type_of list) ts h = refl
nothing_depends (type_of (fixed_size_list n)) ts h = refl
nothing_depends (type_of option) ts h = refl
nothing_depends (type_of result) ts h = refl
nothing_depends (type_of (variant ns)) ts h = refl
nothing_depends (type_of (record_of ns)) ts h = refl
nothing_depends (type_of (flags ns)) ts h = refl
nothing_depends (type_of (enum ns)) ts h = refl
nothing_depends (type_of alias) ts h = refl
nothing_depends (type_of stream) ts h = refl
nothing_depends (type_of future) ts h = refl
nothing_depends (type_of (resource n)) ts h = refl
nothing_depends (type_of (resource_alias n)) ts h = refl
nothing_depends (type_of (func ps a)) ts h = refl
nothing_depends (type_of (world i us is es)) ts h = refl
nothing_depends (type_of (module_type m)) ts h = refl
nothing_depends (type_of (borrow_of s)) ts h = refl
nothing_depends (type_of (own_of s)) ts h = refl
nothing_depends (type_of (type_of s)) ts h = refl
nothing_depends (interface i us es) ts h = absurd h
nothing_depends (type_of (interface i us es)) ts h = absurd h
