-- The stated types of interfaces and worlds, by their entries.
use Rattle.std.proofs.Common.{◌≡◌, ◌+◌, List, [], ◌∷◌, ◌++◌, map, length, Bool, true, false, ◌==◌, cond, Option, Some, None, drop, slice_get, refl, sym, ap, ◌∙◌}
use Rattle.std.specs.Prelude.{⊤}
use Rattle.std.specs.Option.{option_map}
use Rattle.std.specs.Cmp.Lexicographic.{pointwise}
use Rattle.std.proofs.lemmas.List.{map-append, append-nil, drop-drop}
use Rattle.wac_types_base.specs.declared.ids.WorldId.{WorldId}
use Rattle.wac_types_base.specs.declared.ids.InterfaceId.{InterfaceId}
use Rattle.wac_types_base.specs.declared.item.ItemKind.{ItemKind}
use Rattle.wac_types_base.specs.declared.defined.UsedType.{UsedType}
use Rattle.wac_types_base.specs.declared.defined.Interface.{Interface}
use Rattle.wac_types_base.specs.declared.defined.World.{World}
use Rattle.wac_types_base.specs.Record.{Collection}
use Rattle.wac_types_base.specs.Entries.{Name, names_of, value_at, with_values}
use Rattle.wac_types_base.specs.Collection.{Slot, Stands, IsAcyclic, Grows, item_node, interface_entry, world_entry, interface, world, use_names, used, items}
use Rattle.wac_types_base.specs.Stated.{Stated, row, over, stated_in, stated_of, stated_entry, Used, names, filled, names_used, used_places, with_names, uses_from, only_places, first_parts, exports_of, imports_of, uses_of, interface_of, world_of}
use Rattle.wac_types_base.proofs.Slots.{entry_at-is}
use Rattle.wac_types_base.proofs.Telling.{stated_step}

module _ (c : Collection) where
  abbrev with_unit : Stated → Stated × ⊤
  with_unit t = (t, tt)

  -- what is read in places
  abbrev read_in : List Slot → List (Option (Stated × ⊤))
  read_in xs = map (option_map with_unit) (map (option_map (stated_of c)) xs)

  only_row : (os : List (Option Stated)) → only_places (row os) ≡ map (option_map with_unit) os
  only_row [] = refl
  only_row (None ∷ os) = ap (λ xs. None ∷ xs) (only_row os)
  only_row (Some t ∷ os) = ap (λ xs. Some (with_unit t) ∷ xs) (only_row os)

  read_append : (xs ys : List Slot) → read_in (xs ++ ys) ≡ read_in xs ++ read_in ys
  read_append [] ys = refl
  read_append (x ∷ xs) ys = ap (λ zs. option_map with_unit (option_map (stated_of c) x) ∷ zs) (read_append xs ys)

  -- ---- uses

  abbrev pub used_of : List (Name × UsedType) → List (Used × ⊤)
  used_of us = map (λ u. (record { name = u.0; there = u.1.name; interface = stated_of c (ItemKind.Instance u.1.interface) }, tt)) us

  abbrev pub stated_uses : List (Name × UsedType) → List Used
  stated_uses us = map (λ u. u.0) (used_of us)

  uses_read : (us : List (Name × UsedType)) (rest : List (Option (Stated × ⊤))) → uses_from (use_names us) (read_in (used us) ++ rest) ≡ used_of us
  uses_read [] rest = refl
  uses_read (u ∷ us) rest = ap (λ zs. (record { name = u.0; there = u.1.name; interface = stated_of c (ItemKind.Instance u.1.interface) }, tt) ∷ zs) (uses_read us rest)

  past_uses : (us : List (Name × UsedType)) (rest : List (Option (Stated × ⊤))) → drop (length (use_names us)) (read_in (used us) ++ rest) ≡ rest
  past_uses [] rest = refl
  past_uses (u ∷ us) rest = past_uses us rest

  -- ---- items

  past_items : (xs : List (Name × ItemKind)) (rest : List (Option (Stated × ⊤))) → drop (length (names_of xs)) (read_in (items xs) ++ rest) ≡ rest
  past_items [] rest = refl
  past_items (x ∷ xs) rest = past_items xs rest

  abbrev items_with : List (Name × ItemKind) → List (Name × (Stated × ⊤))
  items_with xs = map (λ x. (x.0, (stated_of c x.1, tt))) xs

  items_read : (xs : List (Name × ItemKind)) (rest : List (Option (Stated × ⊤))) → with_names (names_of xs) (read_in (items xs) ++ rest) ≡ items_with xs
  items_read [] rest = refl
  items_read (x ∷ xs) rest = ap (λ zs. (x.0, (stated_of c x.1, tt)) ∷ zs) (items_read xs rest)

  first_read : (xs : List (Name × ItemKind)) → first_parts (items_with xs) ≡ with_values (stated_of c) xs
  first_read [] = refl
  first_read (x ∷ xs) = ap (λ zs. (x.0, stated_of c x.1) ∷ zs) (first_read xs)

  last_items : (xs : List (Name × ItemKind)) → first_parts (with_names (names_of xs) (read_in (items xs))) ≡ with_values (stated_of c) xs
  last_items xs =
      ap (λ os. first_parts (with_names (names_of xs) os)) (sym (append-nil (read_in (items xs))))
      ∙ ap first_parts (items_read xs []) ∙ first_read xs

  -- ---- worlds and interfaces

  abbrev stated_row : List Slot → List (Option (Stated × ⊤))
  stated_row xs = only_places (row (map (option_map (stated_of c)) xs))

  world_places : (w : World) → stated_row (world_entry w).1 ≡ read_in (used w.uses) ++ (read_in (items w.imports) ++ read_in (items w.exports))
  world_places w =
      only_row (map (option_map (stated_of c)) (used w.uses ++ (items w.imports ++ items w.exports))) ∙ read_append (used w.uses) (items w.imports ++ items w.exports)
      ∙ ap (λ xs. read_in (used w.uses) ++ xs) (read_append (items w.imports) (items w.exports))

  interface_places : (i : Interface) → stated_row (interface_entry i).1 ≡ read_in (used i.uses) ++ read_in (items i.exports)
  interface_places i = only_row (map (option_map (stated_of c)) (used i.uses ++ items i.exports)) ∙ read_append (used i.uses) (items i.exports)

  pub world_uses : (w : World) → uses_of (stated_entry c (world_entry w)) ≡ stated_uses w.uses
  world_uses w =
      ap (λ os. map (λ u. u.0) (uses_from (use_names w.uses) os)) (world_places w)
      ∙ ap (map (λ u. u.0)) (uses_read w.uses (read_in (items w.imports) ++ read_in (items w.exports)))

  pub world_imports : (w : World) → imports_of (stated_entry c (world_entry w)) ≡ with_values (stated_of c) w.imports
  world_imports w =
      ap (λ os. first_parts (with_names (names_of w.imports) (drop (length (use_names w.uses)) os))) (world_places w)
      ∙ ap (λ os. first_parts (with_names (names_of w.imports) os)) (past_uses w.uses (read_in (items w.imports) ++ read_in (items w.exports)))
      ∙ ap first_parts (items_read w.imports (read_in (items w.exports))) ∙ first_read w.imports

  past_both : (us : List (Name × UsedType)) (xs : List (Name × ItemKind)) (rest : List (Option (Stated × ⊤)))
      → drop (length (use_names us) + length (names_of xs)) (read_in (used us) ++ (read_in (items xs) ++ rest)) ≡ rest
  past_both us xs rest =
      sym (drop-drop (length (names_of xs)) (length (use_names us)) (read_in (used us) ++ (read_in (items xs) ++ rest)))
      ∙ ap (drop (length (names_of xs))) (past_uses us (read_in (items xs) ++ rest)) ∙ past_items xs rest

  pub world_exports : (w : World) → exports_of (stated_entry c (world_entry w)) ≡ with_values (stated_of c) w.exports
  world_exports w =
      ap (λ os. first_parts (with_names (names_of w.exports) (drop (length (use_names w.uses) + length (names_of w.imports)) os))) (world_places w)
      ∙ ap (λ os. first_parts (with_names (names_of w.exports) os)) (past_both w.uses w.imports (read_in (items w.exports))) ∙ last_items w.exports

  pub interface_exports : (i : Interface) → exports_of (stated_entry c (interface_entry i)) ≡ with_values (stated_of c) i.exports
  interface_exports i =
      ap (λ os. first_parts (with_names (names_of i.exports) (drop (length (use_names i.uses)) os))) (interface_places i)
      ∙ ap (λ os. first_parts (with_names (names_of i.exports) os)) (past_uses i.uses (read_in (items i.exports))) ∙ last_items i.exports

  pub interface_uses : (i : Interface) → uses_of (stated_entry c (interface_entry i)) ≡ stated_uses i.uses
  interface_uses i =
      ap (λ os. map (λ u. u.0) (uses_from (use_names i.uses) os)) (interface_places i)
      ∙ ap (map (λ u. u.0)) (uses_read i.uses (read_in (items i.exports)))

  -- ---- what they are made of

  pub names_again : (us : List (Name × UsedType)) → names_used (stated_uses us) ≡ use_names us
  names_again [] = refl
  names_again (u ∷ us) = ap (λ zs. (u.0, u.1.name) ∷ zs) (names_again us)

  pub places_again : (us : List (Name × UsedType)) → used_places (stated_uses us) ≡ map (option_map (stated_of c)) (used us)
  places_again [] = refl
  places_again (u ∷ us) = ap (λ zs. Some (stated_of c (ItemKind.Instance u.1.interface)) ∷ zs) (places_again us)

  pub item_names : (xs : List (Name × ItemKind)) → names (with_values (stated_of c) xs) ≡ names_of xs
  item_names [] = refl
  item_names (x ∷ xs) = ap (λ zs. x.0 ∷ zs) (item_names xs)

  pub item_places : (xs : List (Name × ItemKind)) → filled (with_values (stated_of c) xs) ≡ map (option_map (stated_of c)) (items xs)
  item_places [] = refl
  item_places (x ∷ xs) = ap (λ zs. Some (stated_of c x.1) ∷ zs) (item_places xs)

  places_append : (xs ys : List Slot) → map (option_map (stated_of c)) (xs ++ ys) ≡ map (option_map (stated_of c)) xs ++ map (option_map (stated_of c)) ys
  places_append xs ys = map-append (option_map (stated_of c)) xs ys

  item_places_are : (is es : List (Name × ItemKind)) → filled (with_values (stated_of c) is) ++ filled (with_values (stated_of c) es) ≡ map (option_map (stated_of c)) (items is ++ items es)
  item_places_are is es =
      ap (λ os. os ++ filled (with_values (stated_of c) es)) (item_places is) ∙ ap (λ os. map (option_map (stated_of c)) (items is) ++ os) (item_places es)
      ∙ sym (places_append (items is) (items es))

  -- an interface is made of its identifier, its uses and its exports
  pub interface_made : (i : Interface) → interface_of i.id (stated_uses i.uses) (with_values (stated_of c) i.exports) ≡ stated_entry c (interface_entry i)
  interface_made i =
      ap (λ ns. over (interface i.id ns (names (with_values (stated_of c) i.exports))) (used_places (stated_uses i.uses) ++ filled (with_values (stated_of c) i.exports))) (names_again i.uses)
      ∙ ap (λ ns. over (interface i.id (use_names i.uses) ns) (used_places (stated_uses i.uses) ++ filled (with_values (stated_of c) i.exports))) (item_names i.exports)
      ∙ ap (λ os. over (interface i.id (use_names i.uses) (names_of i.exports)) (os ++ filled (with_values (stated_of c) i.exports))) (places_again i.uses)
      ∙ ap (λ os. over (interface i.id (use_names i.uses) (names_of i.exports)) (map (option_map (stated_of c)) (used i.uses) ++ os)) (item_places i.exports)
      ∙ ap (over (interface i.id (use_names i.uses) (names_of i.exports))) (sym (places_append (used i.uses) (items i.exports)))

  -- a world is made of its identifier, its uses, its imports and its exports
  pub world_made : (w : World) → world_of w.id (stated_uses w.uses) (with_values (stated_of c) w.imports) (with_values (stated_of c) w.exports) ≡ stated_entry c (world_entry w)
  world_made w =
      let is = with_values (stated_of c) w.imports in
      let es = with_values (stated_of c) w.exports in
      ap (λ ns. over (world w.id ns (names is) (names es)) (used_places (stated_uses w.uses) ++ (filled is ++ filled es))) (names_again w.uses)
      ∙ ap (λ ns. over (world w.id (use_names w.uses) ns (names es)) (used_places (stated_uses w.uses) ++ (filled is ++ filled es))) (item_names w.imports)
      ∙ ap (λ ns. over (world w.id (use_names w.uses) (names_of w.imports) ns) (used_places (stated_uses w.uses) ++ (filled is ++ filled es))) (item_names w.exports)
      ∙ ap (λ os. over (world w.id (use_names w.uses) (names_of w.imports) (names_of w.exports)) (os ++ (filled is ++ filled es))) (places_again w.uses)
      ∙ ap (λ os. over (world w.id (use_names w.uses) (names_of w.imports) (names_of w.exports)) (map (option_map (stated_of c)) (used w.uses) ++ os)) (item_places_are w.imports w.exports)
      ∙ ap (over (world w.id (use_names w.uses) (names_of w.imports) (names_of w.exports))) (sym (places_append (used w.uses) (items w.imports ++ items w.exports)))

  -- ---- of ids

  module _ (acyclic : IsAcyclic c) where
    pub world_stated : (id : WorldId) (w : World) → slice_get c.worlds id.index ≡ Some w → id.collection ≡ c.number → stated_of c (ItemKind.Component id) ≡ stated_entry c (world_entry w)
    unfolding item_node
    world_stated id w at own = stated_step c acyclic (ItemKind.Component id) (world_entry w) (entry_at-is world_entry c.number c.worlds id.collection id.index w at own)

    pub interface_stated : (id : InterfaceId) (i : Interface) → slice_get c.interfaces id.index ≡ Some i → id.collection ≡ c.number → stated_of c (ItemKind.Instance id) ≡ stated_entry c (interface_entry i)
    unfolding item_node
    interface_stated id i at own = stated_step c acyclic (ItemKind.Instance id) (interface_entry i) (entry_at-is interface_entry c.number c.interfaces id.collection id.index i at own)

    -- the imports and the exports of a world, and the exports of an interface, with their stated types
    pub imports_stated : (id : WorldId) (w : World) → slice_get c.worlds id.index ≡ Some w → id.collection ≡ c.number → imports_of (stated_of c (ItemKind.Component id)) ≡ with_values (stated_of c) w.imports
    imports_stated id w at own = ap imports_of (world_stated id w at own) ∙ world_imports w

    pub exports_stated : (id : WorldId) (w : World) → slice_get c.worlds id.index ≡ Some w → id.collection ≡ c.number → exports_of (stated_of c (ItemKind.Component id)) ≡ with_values (stated_of c) w.exports
    exports_stated id w at own = ap exports_of (world_stated id w at own) ∙ world_exports w

    pub instance_exports_stated : (id : InterfaceId) (i : Interface) → slice_get c.interfaces id.index ≡ Some i → id.collection ≡ c.number → exports_of (stated_of c (ItemKind.Instance id)) ≡ with_values (stated_of c) i.exports
    instance_exports_stated id i at own = ap exports_of (interface_stated id i at own) ∙ interface_exports i

-- ---- items under a name

pub value_with : {T U : Type 0} (f : T → U) (xs : List (Name × T)) (n : Name) → value_at (with_values f xs) n ≡ option_map f (value_at xs n)
value_with f [] n = refl
value_with f (x ∷ xs) n = by_test (pointwise ◌==◌ n x.0) (value_with f xs n)
  where
    by_test : (b : Bool) → value_at (with_values f xs) n ≡ option_map f (value_at xs n) → cond b (Some (f x.1)) (value_at (with_values f xs) n) ≡ option_map f (cond b (Some x.1) (value_at xs n))
    by_test true later = refl
    by_test false later = later

-- an export of an interface, with its stated type
pub export_stated : (c : Collection) (id : InterfaceId) (x : Interface) (n : Name) (k : ItemKind) → IsAcyclic c → slice_get c.interfaces id.index ≡ Some x → id.collection ≡ c.number → value_at x.exports n ≡ Some k
    → value_at (exports_of (stated_of c (ItemKind.Instance id))) n ≡ Some (stated_of c k)
export_stated c id x n k acyclic at own is =
    ap (λ l. value_at l n) (instance_exports_stated c acyclic id x at own) ∙ value_with (stated_of c) x.exports n ∙ ap (option_map (stated_of c)) is

-- an import of a world, with its stated type
pub import_stated : (c : Collection) (id : WorldId) (x : World) (n : Name) (k : ItemKind) → IsAcyclic c → slice_get c.worlds id.index ≡ Some x → id.collection ≡ c.number → value_at x.imports n ≡ Some k
    → value_at (imports_of (stated_of c (ItemKind.Component id))) n ≡ Some (stated_of c k)
import_stated c id x n k acyclic at own is =
    ap (λ l. value_at l n) (imports_stated c acyclic id x at own) ∙ value_with (stated_of c) x.imports n ∙ ap (option_map (stated_of c)) is

-- ---- in a collection that grows

pub stated_kept : (c d : Collection) → Grows c d → (k : ItemKind) → Stands c k → stated_of d k ≡ stated_of c k
stated_kept c d grows k stands = ap stated_in (grows.keep k stands)
