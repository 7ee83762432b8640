-- What items use, by their entries.
use Rattle.std.specs.List.{flat_map}
use Rattle.std.specs.Option.{option_map}
use Rattle.std.proofs.Common.{◌≡◌, List, [], ◌∷◌, ◌++◌, map, length, Option, Some, drop, slice_get, refl, sym, ap, ◌∙◌}
use Rattle.wac_types_base.specs.declared.ids.WorldId.{WorldId}
use Rattle.wac_types_base.specs.declared.ids.InterfaceId.{InterfaceId}
use Rattle.wac_types_base.specs.declared.item.ItemKind.{ItemKind}
use Rattle.wac_types_base.specs.declared.item.«Type».{«Type» as TypeKind}
use Rattle.wac_types_base.specs.declared.defined.UsedType.{UsedType}
use Rattle.wac_types_base.specs.declared.defined.Interface.{Interface}
use Rattle.wac_types_base.specs.declared.defined.World.{World}
use Rattle.wac_types_base.specs.Record.{Collection}
use Rattle.wac_types_base.specs.Entries.{Name, names_of, values_of}
use Rattle.wac_types_base.specs.Collection.{Shape, Slot, Stands, IsAcyclic, item_node, labelled, interface_entry, world_entry, interface, type_of, use_names, used, items}
use Rattle.wac_types_base.specs.Stated.{Stated, Kind, IsInstance, IsInterface, IsWorld, row, folded_row, stated_of, stated_entry, with_names, uses_from, parts_at, shape_kind, kind_of, uses_of, identifier_of}
use Rattle.wac_types_base.proofs.GraphLemmas.{value_of}
use Rattle.wac_types_base.proofs.Slots.{entry_at-is}
use Rattle.wac_types_base.proofs.Telling.{stated_step, folded_places, item_kind, label_kind, kind_stated}
use Rattle.wac_types_base.proofs.Stating.{stated_uses, world_uses, world_stated, interface_stated}
use Rattle.wac_types_parts.specs.Parts.{IsOfInterface}
use Rattle.wac_composition.specs.Asks.{below_use, below_parts, used_at, used_by, used_by_kind, used_by_definition}
use Rattle.wac_graph_asks.specs.AskedUses.{with_used, all_with_used, used_by_world, used_by_items}

module _ (c : Collection) where
  -- what is found in places
  abbrev found_in : List Slot → List (Option (Stated × List Stated))
  found_in xs = map (option_map (λ t. (t, used_by t))) (map (option_map (stated_of c)) xs)

  found_append : (xs ys : List Slot) → found_in (xs ++ ys) ≡ found_in xs ++ found_in ys
  found_append [] ys = refl
  found_append (x ∷ xs) ys = ap (λ l. option_map (λ t. (t, used_by t)) (option_map (stated_of c) x) ∷ l) (found_append xs ys)

  uses_found : (us : List (Name × UsedType)) (rest : List (Option (Stated × List Stated))) → flat_map below_use (uses_from (use_names us) (found_in (used us) ++ rest)) ≡ all_with_used c (values_of us)
  uses_found [] rest = refl
  uses_found (u ∷ us) rest = ap (λ l. with_used c u.1.interface ++ l) (uses_found us rest)

  past_uses : (us : List (Name × UsedType)) (rest : List (Option (Stated × List Stated))) → drop (length (use_names us)) (found_in (used us) ++ rest) ≡ rest
  past_uses [] rest = refl
  past_uses (u ∷ us) rest = past_uses us rest

  items_found : (xs : List (Name × ItemKind)) → flat_map (λ e. e.1.1) (with_names (names_of xs) (found_in (items xs))) ≡ used_by_items c (values_of xs)
  items_found [] = refl
  items_found (x ∷ xs) = ap (λ l. used_by (stated_of c x.1) ++ l) (items_found xs)

  abbrev below : Interface → List (Option (Stated × List Stated)) → List Stated
  below i os = below_parts (parts_at (interface i.id (use_names i.uses) (names_of i.exports)) os)

  interface_below : (i : Interface) → below i (folded_row used_at (row (map (option_map (stated_of c)) (interface_entry i).1))) ≡ all_with_used c (values_of i.uses) ++ used_by_items c (values_of i.exports)
  interface_below i =
      let rest = found_in (items i.exports) in
      ap (below i) (folded_places used_at (map (option_map (stated_of c)) (interface_entry i).1) ∙ found_append (used i.uses) (items i.exports))
      ∙ ap (λ l. l ++ flat_map (λ e. e.1.1) (with_names (names_of i.exports) (drop (length (use_names i.uses)) (found_in (used i.uses) ++ rest)))) (uses_found i.uses rest)
      ∙ ap (λ os. all_with_used c (values_of i.uses) ++ flat_map (λ e. e.1.1) (with_names (names_of i.exports) os)) (past_uses i.uses rest)
      ∙ ap (λ l. all_with_used c (values_of i.uses) ++ l) (items_found i.exports)

  worlds_found : (us : List (Name × UsedType)) → flat_map (λ u. u.interface ∷ used_by u.interface) (stated_uses c us) ≡ all_with_used c (values_of us)
  worlds_found [] = refl
  worlds_found (u ∷ us) = ap (λ l. with_used c u.1.interface ++ l) (worlds_found us)

  -- ---- of ids

  module _ (acyclic : IsAcyclic c) where
    module _ (id : InterfaceId) (x : Interface) (at : slice_get c.interfaces id.index ≡ Some x) (own : id.collection ≡ c.number) where
      pub instance_uses : used_by (stated_of c (ItemKind.Instance id)) ≡ all_with_used c (values_of x.uses) ++ used_by_items c (values_of x.exports)
      instance_uses = ap used_by (interface_stated c acyclic id x at own) ∙ interface_below x

      typed_stated : stated_of c (ItemKind.Ty (TypeKind.Interface id)) ≡ stated_entry c (type_of (interface_entry x).0, (interface_entry x).1)
      unfolding item_node
      typed_stated = stated_step c acyclic (ItemKind.Ty (TypeKind.Interface id)) (type_of (interface_entry x).0, (interface_entry x).1) (ap (labelled type_of) (entry_at-is interface_entry c.number c.interfaces id.collection id.index x at own))

      pub interface_uses : used_by (stated_of c (ItemKind.Ty (TypeKind.Interface id))) ≡ all_with_used c (values_of x.uses) ++ used_by_items c (values_of x.exports)
      interface_uses = ap used_by typed_stated ∙ interface_below x

      pub identified : identifier_of (stated_of c (ItemKind.Instance id)) ≡ x.id
      identified = ap identifier_of (interface_stated c acyclic id x at own)

      -- of a definition
      pub interface_definition_uses : used_by_definition (stated_of c (ItemKind.Ty (TypeKind.Interface id))) ≡ used_by_kind IsInterface x.id (stated_of c (ItemKind.Ty (TypeKind.Interface id)))
      interface_definition_uses =
          let t = stated_of c (ItemKind.Ty (TypeKind.Interface id)) in
          ap (λ k. used_by_kind k (identifier_of t) t) (ap kind_of typed_stated) ∙ ap (λ n. used_by_kind IsInterface n t) (ap identifier_of typed_stated)

    module _ (id : WorldId) (x : World) (at : slice_get c.worlds id.index ≡ Some x) (own : id.collection ≡ c.number) where
      pub component_uses : used_by_world c id ≡ all_with_used c (values_of x.uses)
      component_uses = ap (λ t. flat_map (λ u. u.interface ∷ used_by u.interface) (uses_of t)) (world_stated c acyclic id x at own) ∙ ap (flat_map (λ u. u.interface ∷ used_by u.interface)) (world_uses c x) ∙ worlds_found x.uses

      typed_world : stated_of c (ItemKind.Ty (TypeKind.World id)) ≡ stated_entry c (type_of (world_entry x).0, (world_entry x).1)
      unfolding item_node
      typed_world = stated_step c acyclic (ItemKind.Ty (TypeKind.World id)) (type_of (world_entry x).0, (world_entry x).1) (ap (labelled type_of) (entry_at-is world_entry c.number c.worlds id.collection id.index x at own))

      pub world_definition_uses : used_by_definition (stated_of c (ItemKind.Ty (TypeKind.World id))) ≡ used_by_kind IsWorld x.id (stated_of c (ItemKind.Ty (TypeKind.World id)))
      world_definition_uses =
          let t = stated_of c (ItemKind.Ty (TypeKind.World id)) in
          ap (λ k. used_by_kind k (identifier_of t) t) (ap kind_of typed_world) ∙ ap (λ n. used_by_kind IsWorld n t) (ap identifier_of typed_world)

      pub world_uses_again : flat_map (λ u. u.interface ∷ used_by u.interface) (uses_of (stated_of c (ItemKind.Ty (TypeKind.World id)))) ≡ used_by_world c id
      world_uses_again =
          ap (λ t. flat_map (λ u. u.interface ∷ used_by u.interface) (uses_of t)) typed_world
          ∙ sym (ap (λ t. flat_map (λ u. u.interface ∷ used_by u.interface) (uses_of t)) (world_stated c acyclic id x at own))

    -- ---- of what is no interface

    no_uses : (s : Shape) (os : List (Option (Stated × List Stated))) → (shape_kind s ≡ IsInstance → ⊥) → (shape_kind s ≡ IsInterface → ⊥) → used_at s os ≡ []
    no_uses (interface i us es) os a b = absurd (a refl)
    no_uses (type_of (interface i us es)) os a b = absurd (b refl)
    no_uses s os a b = refl

    not_instance : (k : ItemKind) → ((i : InterfaceId) → IsOfInterface k i → ⊥) → item_kind k ≡ IsInstance → ⊥
    not_instance (ItemKind.Instance i) h e = h i refl
    not_instance (ItemKind.Ty (TypeKind.Resource r)) h e = absurd (cc e)
    not_instance (ItemKind.Ty (TypeKind.Func r)) h e = absurd (cc e)
    not_instance (ItemKind.Ty (TypeKind.Value r)) h e = absurd (cc e)
    not_instance (ItemKind.Ty (TypeKind.Interface r)) h e = absurd (cc e)
    not_instance (ItemKind.Ty (TypeKind.World r)) h e = absurd (cc e)
    not_instance (ItemKind.Ty (TypeKind.Module r)) h e = absurd (cc e)
    not_instance (ItemKind.Func r) h e = absurd (cc e)
    not_instance (ItemKind.Component r) h e = absurd (cc e)
    not_instance (ItemKind.Module r) h e = absurd (cc e)
    not_instance (ItemKind.Value r) h e = absurd (cc e)

    not_interface : (k : ItemKind) → ((i : InterfaceId) → IsOfInterface k i → ⊥) → item_kind k ≡ IsInterface → ⊥
    not_interface (ItemKind.Ty (TypeKind.Interface i)) h e = h i refl
    not_interface (ItemKind.Ty (TypeKind.Resource r)) h e = absurd (cc e)
    not_interface (ItemKind.Ty (TypeKind.Func r)) h e = absurd (cc e)
    not_interface (ItemKind.Ty (TypeKind.Value r)) h e = absurd (cc e)
    not_interface (ItemKind.Instance r) h e = absurd (cc e)
    not_interface (ItemKind.Ty (TypeKind.World r)) h e = absurd (cc e)
    not_interface (ItemKind.Ty (TypeKind.Module r)) h e = absurd (cc e)
    not_interface (ItemKind.Func r) h e = absurd (cc e)
    not_interface (ItemKind.Component r) h e = absurd (cc e)
    not_interface (ItemKind.Module r) h e = absurd (cc e)
    not_interface (ItemKind.Value r) h e = absurd (cc e)

    pub other_uses : (k : ItemKind) → Stands c k → ((i : InterfaceId) → IsOfInterface k i → ⊥) → used_by (stated_of c k) ≡ []
    other_uses k stands h =
        let v = value_of (item_node c k) stands in
        let label = label_kind c k v.0 v.1 in
        ap used_by (stated_step c acyclic k v.0 v.1)
        ∙ no_uses v.0.0 (folded_row used_at (row (map (option_map (stated_of c)) v.0.1))) (λ e. not_instance k h (sym label ∙ e)) (λ e. not_interface k h (sym label ∙ e))

    -- a definition that is neither an interface nor a world uses nothing
    pub other_definition_uses : (k : ItemKind) → Stands c k → (item_kind k ≡ IsInterface → ⊥) → (item_kind k ≡ IsWorld → ⊥) → used_by_definition (stated_of c k) ≡ []
    other_definition_uses k stands a b =
        let t = stated_of c k in
        ap (λ j. used_by_kind j (identifier_of t) t) (kind_stated c acyclic k stands) ∙ none (item_kind k) (identifier_of t) t a b
      where
        none : (j : Kind) (n : Option Name) (t : Stated) → (j ≡ IsInterface → ⊥) → (j ≡ IsWorld → ⊥) → used_by_kind j n t ≡ []
        none IsInterface n t a b = absurd (a refl)
        none IsWorld n t a b = absurd (b refl)
        none j n t a b = refl
