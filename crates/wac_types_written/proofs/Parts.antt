-- The parts of interfaces and worlds that are made of parts, with what is found of each.
use Rattle.std.proofs.Common.{◌≡◌, ◌+◌, List, [], ◌∷◌, ◌++◌, map, length, drop, Option, Some, None, refl, sym, ap, ◌∙◌}
use Rattle.std.specs.Prelude.{⊤}
use Rattle.std.specs.Option.{option_map}
use Rattle.std.proofs.lemmas.List.{map-append, drop-drop}
use Rattle.wac_types_base.specs.Entries.{Name}
use Rattle.wac_types_base.specs.Collection.{Shape, interface, world}
use Rattle.wac_types_base.specs.Stated.{Stated, row, folded, folded_row, names, filled, Used, names_used, used_places, with_names, uses_from, only_places, first_parts, Parts, parts_at, exports_of, imports_of, uses_of, interface_of, world_of}

module _ {A : Type 0} (h : Stated → A) where
  abbrev with_found : Stated → Stated × A
  with_found t = (t, h t)

  abbrev pub pairs : List (Option Stated) → List (Option (Stated × A))
  pairs os = map (option_map (λ t. (t, h t))) os

  abbrev pub found_use : Used → Used × A
  found_use u = (u, h u.interface)

  abbrev pub found_item : Name × Stated → Name × (Stated × A)
  found_item e = (e.0, (e.1, h e.1))

  uses_found : (us : List Used) (rest : List (Option (Stated × A))) → uses_from (names_used us) (pairs (used_places us) ++ rest) ≡ map found_use us
  uses_found [] rest = refl
  uses_found (u ∷ us) rest = ap (λ l. found_use u ∷ l) (uses_found us rest)

  past_uses : (us : List Used) (rest : List (Option (Stated × A))) → drop (length (names_used us)) (pairs (used_places us) ++ rest) ≡ rest
  past_uses [] rest = refl
  past_uses (u ∷ us) rest = past_uses us rest

  items_found : (xs : List (Name × Stated)) (rest : List (Option (Stated × A))) → with_names (names xs) (pairs (filled xs) ++ rest) ≡ map found_item xs
  items_found [] rest = refl
  items_found (x ∷ xs) rest = ap (λ l. found_item x ∷ l) (items_found xs rest)

  last_found : (xs : List (Name × Stated)) → with_names (names xs) (pairs (filled xs)) ≡ map found_item xs
  last_found [] = refl
  last_found (x ∷ xs) = ap (λ l. found_item x ∷ l) (last_found xs)

  past_items : (xs : List (Name × Stated)) (rest : List (Option (Stated × A))) → drop (length (names xs)) (pairs (filled xs) ++ rest) ≡ rest
  past_items [] rest = refl
  past_items (x ∷ xs) rest = past_items xs rest

  pairs_append : (os ps : List (Option Stated)) → pairs (os ++ ps) ≡ pairs os ++ pairs ps
  pairs_append os ps = map-append (option_map (λ t. (t, h t))) os ps

  pairs_world : (us : List Used) (is es : List (Name × Stated)) → pairs (used_places us ++ (filled is ++ filled es)) ≡ pairs (used_places us) ++ (pairs (filled is) ++ pairs (filled es))
  pairs_world us is es = pairs_append (used_places us) (filled is ++ filled es) ∙ ap (λ l. pairs (used_places us) ++ l) (pairs_append (filled is) (filled es))

  -- an interface of these
  pub interface_parts : (i : Option Name) (us : List Used) (es : List (Name × Stated))
      → parts_at (interface i (names_used us) (names es)) (pairs (used_places us ++ filled es)) ≡ record { identifier = i; uses = map found_use us; imports = []; exports = map found_item es }
  interface_parts i us es =
      ap (parts_at (interface i (names_used us) (names es))) (pairs_append (used_places us) (filled es))
      ∙ (λ j. record { identifier = i; uses = uses_found us (pairs (filled es)) j; imports = []; exports = (ap (with_names (names es)) (past_uses us (pairs (filled es))) ∙ last_found es) j })

  past_both : (us : List Used) (is es : List (Name × Stated)) → drop (length (names_used us) + length (names is)) (pairs (used_places us) ++ (pairs (filled is) ++ pairs (filled es))) ≡ pairs (filled es)
  past_both us is es =
      sym (drop-drop (length (names is)) (length (names_used us)) (pairs (used_places us) ++ (pairs (filled is) ++ pairs (filled es))))
      ∙ ap (drop (length (names is))) (past_uses us (pairs (filled is) ++ pairs (filled es))) ∙ past_items is (pairs (filled es))

  -- a world of these
  pub world_parts : (i : Option Name) (us : List Used) (is es : List (Name × Stated))
      → parts_at (world i (names_used us) (names is) (names es)) (pairs (used_places us ++ (filled is ++ filled es))) ≡ record { identifier = i; uses = map found_use us; imports = map found_item is; exports = map found_item es }
  world_parts i us is es =
      ap (parts_at (world i (names_used us) (names is) (names es))) (pairs_world us is es)
      ∙ (λ j. record {
        identifier = i;
        uses = uses_found us (pairs (filled is) ++ pairs (filled es)) j;
        imports = (ap (with_names (names is)) (past_uses us (pairs (filled is) ++ pairs (filled es))) ∙ items_found is (pairs (filled es))) j;
        exports = (ap (with_names (names es)) (past_both us is es) ∙ last_found es) j;
      })

-- ---- what a fold finds, and what is read without

pub found_places : {A : Type 0} (f : Shape → List (Option (Stated × A)) → A) (os : List (Option Stated)) → folded_row f (row os) ≡ pairs (folded f) os
found_places f [] = refl
found_places f (None ∷ os) = ap (λ l. None ∷ l) (found_places f os)
found_places f (Some t ∷ os) = ap (λ l. Some (t, folded f t) ∷ l) (found_places f os)

read_places : (os : List (Option Stated)) → only_places (row os) ≡ pairs (λ t. tt) os
read_places [] = refl
read_places (None ∷ os) = ap (λ l. None ∷ l) (read_places os)
read_places (Some t ∷ os) = ap (λ l. Some (t, tt) ∷ l) (read_places os)

abbrev Nothing : Stated → ⊤
Nothing t = tt

own_uses : (us : List Used) → map (λ u. u.0) (map (found_use Nothing) us) ≡ us
own_uses [] = refl
own_uses (u ∷ us) = ap (λ l. u ∷ l) (own_uses us)

own_items : (xs : List (Name × Stated)) → first_parts (map (found_item Nothing) xs) ≡ xs
own_items [] = refl
own_items (x ∷ xs) = ap (λ l. x ∷ l) (own_items xs)

module _ (i : Option Name) (us : List Used) (is es : List (Name × Stated)) where
  whole_world : parts_at (world i (names_used us) (names is) (names es)) (only_places (row (used_places us ++ (filled is ++ filled es)))) ≡ record { identifier = i; uses = map (found_use Nothing) us; imports = map (found_item Nothing) is; exports = map (found_item Nothing) es }
  whole_world = ap (parts_at (world i (names_used us) (names is) (names es))) (read_places (used_places us ++ (filled is ++ filled es))) ∙ world_parts Nothing i us is es

  pub world_uses : uses_of (world_of i us is es) ≡ us
  world_uses = ap (λ (p : Parts ⊤). map (λ u. u.0) p.uses) whole_world ∙ own_uses us

  pub world_imports : imports_of (world_of i us is es) ≡ is
  world_imports = ap (λ (p : Parts ⊤). first_parts p.imports) whole_world ∙ own_items is

  pub world_exports : exports_of (world_of i us is es) ≡ es
  world_exports = ap (λ (p : Parts ⊤). first_parts p.exports) whole_world ∙ own_items es

module _ (i : Option Name) (us : List Used) (es : List (Name × Stated)) where
  whole_interface : parts_at (interface i (names_used us) (names es)) (only_places (row (used_places us ++ filled es))) ≡ record { identifier = i; uses = map (found_use Nothing) us; imports = []; exports = map (found_item Nothing) es }
  whole_interface = ap (parts_at (interface i (names_used us) (names es))) (read_places (used_places us ++ filled es)) ∙ interface_parts Nothing i us es

  pub interface_uses : uses_of (interface_of i us es) ≡ us
  interface_uses = ap (λ (p : Parts ⊤). map (λ u. u.0) p.uses) whole_interface ∙ own_uses us

  pub interface_exports : exports_of (interface_of i us es) ≡ es
  interface_exports = ap (λ (p : Parts ⊤). first_parts p.exports) whole_interface ∙ own_items es
