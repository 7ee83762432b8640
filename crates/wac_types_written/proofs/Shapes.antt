-- What has no world in it stays as it is; interfaces and worlds are made of what their parts become.
use Rattle.std.proofs.Common.{◌≡◌, List, [], ◌∷◌, ◌++◌, map, Option, Some, None, refl, sym, ap, ◌∙◌}
use Rattle.std.specs.Option.{option_map}
use Rattle.std.proofs.lemmas.List.{map-append}
use Rattle.wac_types_base.specs.Entries.{Name, with_values}
use Rattle.wac_types_base.specs.Graph.{Wholes, node, no_more, more, hole}
use Rattle.wac_types_base.specs.Collection.{Shape, primitive, tuple, list, fixed_size_list, option, result, variant, record_of, flags, enum, alias, stream, future, resource, resource_alias, func, interface, world, module_type, type_of, borrow_of, own_of}
use Rattle.wac_types_base.specs.Stated.{Stated, row, folded_row, names, filled, Used, names_used, used_places, as_type, over, interface_of, world_of, Parts}
use Rattle.wac_types_written.specs.Written.{WorldMaker, component_type, formed, formed_at, found_in, made_of, over_own, used_with, written}
use Rattle.wac_types_written.specs.Forms.{formed_use}
use Rattle.wac_types_written.proofs.Parts.{pairs, found_use, found_item, found_places, world_parts}

own_row : {A : Type 0} (f : Shape → List (Option (Stated × A)) → A) (ts : Wholes Shape) → row (map (option_map (λ x. x.0)) (folded_row f ts)) ≡ ts
own_row f no_more = refl
own_row f (hole ts) = ap (λ l. hole l) (own_row f ts)
own_row f (more t ts) = ap (λ l. more t l) (own_row f ts)

-- neither an interface nor a world, nor the type of one
abbrev pub IsInside : Shape → Type 0
IsInside (interface i us es) = ⊥
IsInside (world i us is es) = ⊥
IsInside s = Unit {0}

abbrev pub IsPlain : Shape → Type 0
IsPlain (type_of s) = IsInside s
IsPlain s = IsInside s

module _ (make : WorldMaker) where
  own_same : (s : Shape) (ts : Wholes Shape) → over_own s (folded_row (formed_at make) ts) ≡ node s ts
  own_same s ts = ap (node s) (own_row (formed_at make) ts)

  typed_same : (s : Shape) (ts : Wholes Shape) → IsInside s → formed make (node (type_of s) ts) ≡ node (type_of s) ts
  typed_same (primitive p) ts h = own_same (type_of (primitive p)) ts
  typed_same tuple ts h = own_same (type_of tuple) ts
  typed_same list ts h = own_same (type_of list) ts
  typed_same (fixed_size_list n) ts h = own_same (type_of (fixed_size_list n)) ts
  typed_same option ts h = own_same (type_of option) ts
  typed_same result ts h = own_same (type_of result) ts
  typed_same (variant ns) ts h = own_same (type_of (variant ns)) ts
  typed_same (record_of ns) ts h = own_same (type_of (record_of ns)) ts
  typed_same (flags ns) ts h = own_same (type_of (flags ns)) ts
  typed_same (enum ns) ts h = own_same (type_of (enum ns)) ts
  typed_same alias ts h = own_same (type_of alias) ts
  typed_same stream ts h = own_same (type_of stream) ts
  typed_same future ts h = own_same (type_of future) ts
  typed_same (resource n) ts h = own_same (type_of (resource n)) ts
  typed_same (resource_alias n) ts h = own_same (type_of (resource_alias n)) ts
  typed_same (func ps a) ts h = own_same (type_of (func ps a)) ts
  typed_same (module_type m) ts h = own_same (type_of (module_type m)) ts
  typed_same (borrow_of s) ts h = own_same (type_of (borrow_of s)) ts
  typed_same (own_of s) ts h = own_same (type_of (own_of s)) ts
  typed_same (type_of s) ts h = own_same (type_of (type_of s)) ts
  typed_same (interface i us es) ts h = absurd h
  typed_same (world i us is es) ts h = absurd h

  pub plain_formed : (s : Shape) (ts : Wholes Shape) → IsPlain s → formed make (node s ts) ≡ node s ts
  plain_formed (primitive p) ts h = own_same (primitive p) ts
  plain_formed tuple ts h = own_same tuple ts
  plain_formed list ts h = own_same list ts
  plain_formed (fixed_size_list n) ts h = own_same (fixed_size_list n) ts
  plain_formed option ts h = own_same option ts
  plain_formed result ts h = own_same result ts
  plain_formed (variant ns) ts h = own_same (variant ns) ts
  plain_formed (record_of ns) ts h = own_same (record_of ns) ts
  plain_formed (flags ns) ts h = own_same (flags ns) ts
  plain_formed (enum ns) ts h = own_same (enum ns) ts
  plain_formed alias ts h = own_same alias ts
  plain_formed stream ts h = own_same stream ts
  plain_formed future ts h = own_same future ts
  plain_formed (resource n) ts h = own_same (resource n) ts
  plain_formed (resource_alias n) ts h = own_same (resource_alias n) ts
  plain_formed (func ps a) ts h = own_same (func ps a) ts
  plain_formed (module_type m) ts h = own_same (module_type m) ts
  plain_formed (borrow_of s) ts h = own_same (borrow_of s) ts
  plain_formed (own_of s) ts h = own_same (own_of s) ts
  plain_formed (type_of s) ts h = typed_same s ts h
  plain_formed (interface i us es) ts h = absurd h
  plain_formed (world i us is es) ts h = absurd h

  -- ---- interfaces

  found_row : (os : List (Option Stated)) → map (λ o. option_map (λ x. x.1) o) (pairs (formed make) os) ≡ map (option_map (formed make)) os
  found_row [] = refl
  found_row (None ∷ os) = ap (λ l. None ∷ l) (found_row os)
  found_row (Some t ∷ os) = ap (λ l. Some (formed make t) ∷ l) (found_row os)

  places_formed : (us : List Used) → map (option_map (formed make)) (used_places us) ≡ used_places (map (formed_use make) us)
  places_formed [] = refl
  places_formed (u ∷ us) = ap (λ l. Some (formed make u.interface) ∷ l) (places_formed us)

  items_formed : (xs : List (Name × Stated)) → map (option_map (formed make)) (filled xs) ≡ filled (with_values (formed make) xs)
  items_formed [] = refl
  items_formed (x ∷ xs) = ap (λ l. Some (formed make x.1) ∷ l) (items_formed xs)

  use_names_same : (us : List Used) → names_used (map (formed_use make) us) ≡ names_used us
  use_names_same [] = refl
  use_names_same (u ∷ us) = ap (λ l. (u.name, u.there) ∷ l) (use_names_same us)

  item_names_same : (xs : List (Name × Stated)) → names (with_values (formed make) xs) ≡ names xs
  item_names_same [] = refl
  item_names_same (x ∷ xs) = ap (λ l. x.0 ∷ l) (item_names_same xs)

  row_formed : (us : List Used) (es : List (Name × Stated)) → map (λ o. option_map (λ x. x.1) o) (folded_row (formed_at make) (row (used_places us ++ filled es))) ≡ used_places (map (formed_use make) us) ++ filled (with_values (formed make) es)
  row_formed us es =
      ap (map (λ o. option_map (λ x. x.1) o)) (found_places (formed_at make) (used_places us ++ filled es)) ∙ found_row (used_places us ++ filled es)
      ∙ map-append (option_map (formed make)) (used_places us) (filled es)
      ∙ ap (λ l. l ++ map (option_map (formed make)) (filled es)) (places_formed us) ∙ ap (λ l. used_places (map (formed_use make) us) ++ l) (items_formed es)

  -- an interface is formed part by part
  pub interface_by_parts : (i : Option Name) (us : List Used) (es : List (Name × Stated)) → formed make (interface_of i us es) ≡ interface_of i (map (formed_use make) us) (with_values (formed make) es)
  interface_by_parts i us es =
      ap (over (interface i (names_used us) (names es))) (row_formed us es)
      ∙ ap (λ ns. over (interface i ns (names es)) (used_places (map (formed_use make) us) ++ filled (with_values (formed make) es))) (sym (use_names_same us))
      ∙ ap (λ ns. over (interface i (names_used (map (formed_use make) us)) ns) (used_places (map (formed_use make) us) ++ filled (with_values (formed make) es))) (sym (item_names_same es))

  pub interface_type_by_parts : (i : Option Name) (us : List Used) (es : List (Name × Stated)) → formed make (as_type (interface_of i us es)) ≡ as_type (formed make (interface_of i us es))
  interface_type_by_parts i us es = refl

  -- ---- worlds

  uses_with : (us : List Used) → map used_with (map (found_use (formed make)) us) ≡ map (formed_use make) us
  uses_with [] = refl
  uses_with (u ∷ us) = ap (λ l. formed_use make u ∷ l) (uses_with us)

  items_with : (xs : List (Name × Stated)) → found_in (map (found_item (formed make)) xs) ≡ with_values (formed make) xs
  items_with [] = refl
  items_with (x ∷ xs) = ap (λ l. (x.0, formed make x.1) ∷ l) (items_with xs)

  module _ (i : Option Name) (us : List Used) (is es : List (Name × Stated)) where
    -- a world is made of what its parts became
    pub world_by_parts : formed make (world_of i us is es) ≡ make i (map (formed_use make) us) (with_values (formed make) is) (with_values (formed make) es)
    world_by_parts =
        ap (λ os. formed_at make (world i (names_used us) (names is) (names es)) os) (found_places (formed_at make) (used_places us ++ (filled is ++ filled es)))
        ∙ ap (λ (p : Parts Stated). made_of make p) (world_parts (formed make) i us is es)
        ∙ (λ j. make i (uses_with us j) (items_with is j) (items_with es j))

    pub world_type_by_parts : formed make (as_type (world_of i us is es)) ≡ as_type (formed make (world_of i us is es))
    world_type_by_parts = refl

-- what has no world in it is written as it is
pub plain_same : (s : Shape) (ts : Wholes Shape) → IsPlain s → written (node s ts) ≡ node s ts
plain_same = plain_formed component_type
