-- The interfaces that an item uses: its own uses, and those of its exports.
use Rattle.std.specs.List.{flat_map}
use Rattle.std.specs.Option.{option_map}
use Rattle.std.proofs.Common.{◌≡◌, List, [], ◌∷◌, ◌++◌, map, length, Option, Some, drop, slice_get, refl, sym, ap, subst, ◌∙◌, inl, inr}
use Rattle.wac_types_base.specs.declared.ids.InterfaceId.{InterfaceId}
use Rattle.wac_types_base.specs.declared.item.ItemKind.{ItemKind}
use Rattle.wac_types_base.specs.declared.item.«Type».{«Type» as TypeKind}
use Rattle.wac_types_base.specs.declared.defined.UsedType.{UsedType}
use Rattle.wac_types_base.specs.declared.defined.Interface.{Interface}
use Rattle.wac_types_base.specs.Record.{Collection}
use Rattle.wac_types_base.specs.Entries.{Name, names_of}
use Rattle.wac_types_base.specs.Graph.{Wholes, node}
use Rattle.wac_types_base.specs.Collection.{Shape, Slot, Stands, IsAcyclic, item_node, labelled, interface_entry, interface, type_of, use_names, used, items}
use Rattle.wac_types_base.specs.Stated.{Kind, IsInstance, IsInterface, Stated, row, folded_row, kind_of, shape_kind, stated_of, stated_entry, with_names, uses_from, parts_at}
use Rattle.wac_types_base.proofs.Slots.{entry_at-is}
use Rattle.wac_types_base.proofs.Standing.{interface_found}
use Rattle.wac_types_base.proofs.Telling.{item_kind, kind_stated, stated_step, folded_places}
use Rattle.wac_types_base.proofs.Stating.{interface_stated}
use Rattle.wac_composition.specs.Circles.{used_inside, used_inside_at, used_in_parts}
use Rattle.wac_types_parts.specs.Parts.{exports_of, uses_of, IsOfInterface}
use Rattle.wac_types_parts.proofs.PartLaws.{uses_there, uses_missing, exports_there, exports_missing}
use Rattle.wac_types_parts.proofs.PartsStated.{stands_or_not, stated_nothing}
use Rattle.wac_graph_asks.proofs.UseSteps.{instance_stands}
use Rattle.wac_graph_causes.specs.Orders.{interfaces_used, used_in_items}

-- ---- what is of no interface

abbrev HasNone : Kind → Type 0
HasNone IsInstance = ⊥
HasNone IsInterface = ⊥
HasNone k = Unit {0}

none_at : (s : Shape) (ts : Wholes Shape) → HasNone (shape_kind s) → used_inside (node s ts) ≡ []
none_at (interface i us es) ts h = absurd h
none_at (type_of (interface i us es)) ts h = absurd h
none_at s ts h = refl

none_inside : (x : Stated) → HasNone (kind_of x) → used_inside x ≡ []
none_inside (node s ts) h = none_at s ts h

none_kind : (k : ItemKind) → ((i : InterfaceId) → IsOfInterface k i → ⊥) → HasNone (item_kind k)
none_kind (ItemKind.Instance i) h = absurd (h i refl)
none_kind (ItemKind.Ty (TypeKind.Interface i)) h = absurd (h i refl)
none_kind k h = tt

module _ (c : Collection) where
  -- what is found in places
  abbrev found_in : List Slot → List (Option (Stated × List Stated))
  found_in xs = map (option_map (λ t. (t, used_inside t))) (map (option_map (stated_of c)) xs)

  found_append : (xs ys : List Slot) → found_in (xs ++ ys) ≡ found_in xs ++ found_in ys
  found_append [] ys = refl
  found_append (x ∷ xs) ys = ap (λ l. option_map (λ t. (t, used_inside t)) (option_map (stated_of c) x) ∷ l) (found_append xs ys)

  uses_found : (us : List (Name × UsedType)) (rest : List (Option (Stated × List Stated))) → map (λ u. u.0.interface) (uses_from (use_names us) (found_in (used us) ++ rest)) ≡ interfaces_used c us
  uses_found [] rest = refl
  uses_found (u ∷ us) rest = ap (λ l. stated_of c (ItemKind.Instance u.1.interface) ∷ l) (uses_found us rest)

  past_uses : (us : List (Name × UsedType)) (rest : List (Option (Stated × List Stated))) → drop (length (use_names us)) (found_in (used us) ++ rest) ≡ rest
  past_uses [] rest = refl
  past_uses (u ∷ us) rest = past_uses us rest

  items_found : (xs : List (Name × ItemKind)) → flat_map (λ e. e.1.1) (with_names (names_of xs) (found_in (items xs))) ≡ used_in_items c xs
  items_found [] = refl
  items_found (x ∷ xs) = ap (λ l. used_inside (stated_of c x.1) ++ l) (items_found xs)

  abbrev inside : Interface → List (Option (Stated × List Stated)) → List Stated
  inside i os = used_in_parts (parts_at (interface i.id (use_names i.uses) (names_of i.exports)) os)

  interface_inside : (i : Interface) → inside i (folded_row used_inside_at (row (map (option_map (stated_of c)) (interface_entry i).1))) ≡ interfaces_used c i.uses ++ used_in_items c i.exports
  interface_inside i =
      let rest = found_in (items i.exports) in
      ap (inside i) (folded_places used_inside_at (map (option_map (stated_of c)) (interface_entry i).1) ∙ found_append (used i.uses) (items i.exports))
      ∙ ap (λ l. l ++ flat_map (λ e. e.1.1) (with_names (names_of i.exports) (drop (length (use_names i.uses)) (found_in (used i.uses) ++ rest)))) (uses_found i.uses rest)
      ∙ ap (λ os. interfaces_used c i.uses ++ flat_map (λ e. e.1.1) (with_names (names_of i.exports) os)) (past_uses i.uses rest)
      ∙ ap (λ l. interfaces_used c i.uses ++ l) (items_found i.exports)

  module _ (acyclic : IsAcyclic c) where
    module _ (id : InterfaceId) (x : Interface) (at : slice_get c.interfaces id.index ≡ Some x) (own : id.collection ≡ c.number) where
      instance_inside : used_inside (stated_of c (ItemKind.Instance id)) ≡ interfaces_used c x.uses ++ used_in_items c x.exports
      instance_inside = ap used_inside (interface_stated c acyclic id x at own) ∙ interface_inside x

      typed_stated : stated_of c (ItemKind.Ty (TypeKind.Interface id)) ≡ stated_entry c (type_of (interface_entry x).0, (interface_entry x).1)
      unfolding item_node
      typed_stated = stated_step c acyclic (ItemKind.Ty (TypeKind.Interface id)) (type_of (interface_entry x).0, (interface_entry x).1) (ap (labelled type_of) (entry_at-is interface_entry c.number c.interfaces id.collection id.index x at own))

      type_inside : used_inside (stated_of c (ItemKind.Ty (TypeKind.Interface id))) ≡ interfaces_used c x.uses ++ used_in_items c x.exports
      type_inside = ap used_inside typed_stated ∙ interface_inside x

      parts_inside : interfaces_used c x.uses ++ used_in_items c x.exports ≡ interfaces_used c (uses_of c id) ++ used_in_items c (exports_of c id)
      parts_inside = ap (λ us. interfaces_used c us ++ used_in_items c x.exports) (sym (uses_there c id x at own)) ∙ ap (λ es. interfaces_used c (uses_of c id) ++ used_in_items c es) (sym (exports_there c id x at own))

    -- what an instance uses, and where there is none, nothing
    instance_uses : (id : InterfaceId) → used_inside (stated_of c (ItemKind.Instance id)) ≡ interfaces_used c (uses_of c id) ++ used_in_items c (exports_of c id)
    instance_uses id = elim (stands_or_not c (ItemKind.Instance id)) [
      | inl s ↦ let v = interface_found c id s in instance_inside id v.value v.at v.own ∙ parts_inside id v.value v.at v.own
      | inr n ↦ ap used_inside (stated_nothing c (ItemKind.Instance id) n) ∙ sym (λ i. interfaces_used c (uses_missing c id n i) ++ used_in_items c (exports_missing c id n i))
    ]

    -- an interface type uses what its instance uses
    pub same_inside : (k : ItemKind) (id : InterfaceId) → IsOfInterface k id → Stands c k → used_inside (stated_of c k) ≡ used_inside (stated_of c (ItemKind.Instance id))
    same_inside (ItemKind.Instance j) id h s = ap (λ i. used_inside (stated_of c (ItemKind.Instance i))) h
    same_inside (ItemKind.Ty (TypeKind.Interface j)) id h s =
        let v = interface_found c id (instance_stands c (ItemKind.Ty (TypeKind.Interface j)) id h s) in
        ap (λ i. used_inside (stated_of c (ItemKind.Ty (TypeKind.Interface i)))) h ∙ type_inside id v.value v.at v.own ∙ sym (instance_inside id v.value v.at v.own)
    same_inside k id h s = absurd h

    -- what is of no interface uses none
    pub nothing_used : (k : ItemKind) → (Stands c k → (i : InterfaceId) → IsOfInterface k i → ⊥) → used_inside (stated_of c k) ≡ []
    nothing_used k h = elim (stands_or_not c k) [
      | inl s ↦ none_inside (stated_of c k) (subst HasNone (sym (kind_stated c acyclic k s)) (none_kind k (h s)))
      | inr n ↦ ap used_inside (stated_nothing c k n)
    ]

    -- an item uses what its interface does, and its exports
    pub item_uses : (k : ItemKind) (id : InterfaceId) → IsOfInterface k id → Stands c k → used_inside (stated_of c k) ≡ interfaces_used c (uses_of c id) ++ used_in_items c (exports_of c id)
    item_uses k id h s = same_inside k id h s ∙ instance_uses id
