-- What the items of a collection state is regular, where no component and no module is in it.
use Rattle.std.specs.Prelude.{slice_get}
use Rattle.std.proofs.Common.{◌≡◌, ℕ, zero, suc, ◌<◌, List, Option, Some, None, true, false, refl, sym, ap, subst, ◌∙◌, inl, inr, arith}
use Rattle.std.specs.Option.{option_map}
use Rattle.wac_types_base.specs.declared.item.ValueType.{ValueType}
use Rattle.wac_types_base.specs.declared.item.«Type».{«Type» as TypeKind}
use Rattle.wac_types_base.specs.declared.item.ItemKind.{ItemKind}
use Rattle.wac_types_base.specs.declared.ids.DefinedTypeId.{DefinedTypeId}
use Rattle.wac_types_base.specs.declared.ids.ResourceId.{ResourceId}
use Rattle.wac_types_base.specs.declared.ids.FuncTypeId.{FuncTypeId}
use Rattle.wac_types_base.specs.declared.ids.InterfaceId.{InterfaceId}
use Rattle.wac_types_base.specs.declared.defined.DefinedType.{DefinedType}
use Rattle.wac_types_base.specs.declared.defined.Resource.{Resource}
use Rattle.wac_types_base.specs.declared.defined.ResourceAlias.{ResourceAlias}
use Rattle.wac_types_base.specs.declared.defined.Interface.{Interface}
use Rattle.wac_types_base.specs.Record.{Collection}
use Rattle.wac_types_base.specs.Graph.{Among}
use Rattle.wac_types_base.specs.Entries.{Name, value_at}
use Rattle.wac_types_base.specs.Collection.{Stands, IsAcyclic, size_of}
use Rattle.wac_types_base.specs.Stated.{Stated, kind_of, stated_of, as_type, exports_of, is_interface}
use Rattle.wac_types_base.specs.Tree.{Tree, rigid, instance, component, core_module, handle_own, handle_borrow, type_item}
use Rattle.wac_types_base.proofs.Adding.{option_map-some}
use Rattle.wac_types_base.proofs.Slots.{stands_typed_func, stands_typed_value, stands_typed_interface, stands_typed_world, stands_typed_module}
use Rattle.wac_types_base.proofs.Standing.{func_found, resource_found, defined_found, interface_found, world_found, module_found}
use Rattle.wac_types_base.proofs.Stating.{value_with, instance_exports_stated}
use Rattle.wac_types_base.proofs.Telling.{item_kind, kind_stated, value_source, resource_source}
use Rattle.wac_types_fit.specs.Meets.{IsPlain}
use Rattle.wac_types_fit.specs.Trees.{tree_in}
use Rattle.wac_types_fit.proofs.Looking.{looked-has}
use Rattle.wac_types_fit.proofs.Items.{looked_in, exports_inside, found_inside}
use Rattle.wac_types_fit.proofs.Unfolded.{primitive_tree, own_tree, borrow_tree, defined_tree, alias_tree, root_tree, source_tree, func_tree, fields_in, instance_tree, component_tree, module_tree, type_func, type_value, type_interface, type_world, type_module, interface_size}
use Rattle.wac_types_merge.proofs.Clashing.{plain_has}
use Rattle.wac_composition.specs.Classes.{is_instance_kind}
use Rattle.wac_composition.specs.Again.{IsWell}
use Rattle.wac_composition.proofs.Clashing.{value_among}
use Rattle.wac_composition.proofs.Again.{entries_of}
use Rattle.wac_composition.specs.Regular.{IsFlat as IsFlatThing, IsFlatItem, Regular, flat, an_instance, an_interface}
use Rattle.wac_merging.proofs.Well.{made_stated, typed_stated}

-- ---- trees without parts

module _ (c : Collection) (acyclic : IsAcyclic c) where
  abbrev FlatBelow : ℕ → Type 0
  FlatBelow n = (v : ValueType) → size_of c (ItemKind.Value v) < n → Stands c (ItemKind.Value v) → IsFlatThing (tree_in c (ItemKind.Value v))

  defined_flat : (n : ℕ) (d : DefinedTypeId) (x : DefinedType) → slice_get c.defined_types d.index ≡ Some x → d.collection ≡ c.number → size_of c (ItemKind.Value (ValueType.Defined d)) < suc n → FlatBelow n
      → IsFlatThing (tree_in c (ItemKind.Value (ValueType.Defined d)))
  defined_flat n d (DefinedType.Alias t) at own lt below =
      let s = value_source c acyclic (ValueType.Defined d) d (DefinedType.Alias t) t refl at own refl in
      let less = s.1 in
      subst IsFlatThing (sym (alias_tree c acyclic d t at own)) (below t (omega (arith, lt, less)) s.0)
  defined_flat n d (DefinedType.Tuple ts) at own lt below = subst IsFlatThing (sym (defined_tree c acyclic d (DefinedType.Tuple ts) at own)) tt
  defined_flat n d (DefinedType.List t) at own lt below = subst IsFlatThing (sym (defined_tree c acyclic d (DefinedType.List t) at own)) tt
  defined_flat n d (DefinedType.FixedSizeList t k) at own lt below = subst IsFlatThing (sym (defined_tree c acyclic d (DefinedType.FixedSizeList t k) at own)) tt
  defined_flat n d (DefinedType.Option t) at own lt below = subst IsFlatThing (sym (defined_tree c acyclic d (DefinedType.Option t) at own)) tt
  defined_flat n d (DefinedType.Result ok err) at own lt below = subst IsFlatThing (sym (defined_tree c acyclic d (DefinedType.Result ok err) at own)) tt
  defined_flat n d (DefinedType.Variant v) at own lt below = subst IsFlatThing (sym (defined_tree c acyclic d (DefinedType.Variant v) at own)) tt
  defined_flat n d (DefinedType.Record r) at own lt below = subst IsFlatThing (sym (defined_tree c acyclic d (DefinedType.Record r) at own)) tt
  defined_flat n d (DefinedType.Flags f) at own lt below = subst IsFlatThing (sym (defined_tree c acyclic d (DefinedType.Flags f) at own)) tt
  defined_flat n d (DefinedType.Enum e) at own lt below = subst IsFlatThing (sym (defined_tree c acyclic d (DefinedType.Enum e) at own)) tt
  defined_flat n d (DefinedType.Stream o) at own lt below = subst IsFlatThing (sym (defined_tree c acyclic d (DefinedType.Stream o) at own)) tt
  defined_flat n d (DefinedType.Future o) at own lt below = subst IsFlatThing (sym (defined_tree c acyclic d (DefinedType.Future o) at own)) tt

  flat_below : (n : ℕ) → FlatBelow n
  flat_below zero v lt s = absurd (omega arith)
  flat_below (suc n) (ValueType.Primitive p) lt s = subst IsFlatThing (sym (primitive_tree c acyclic p)) tt
  flat_below (suc n) (ValueType.Borrow r) lt s = subst IsFlatThing (sym (borrow_tree c acyclic r s)) tt
  flat_below (suc n) (ValueType.Own r) lt s = subst IsFlatThing (sym (own_tree c acyclic r s)) tt
  flat_below (suc n) (ValueType.Defined d) lt s = let f = defined_found c d s in defined_flat n d f.value f.at f.own lt (flat_below n)

  value_flat : (v : ValueType) → Stands c (ItemKind.Value v) → IsFlatThing (tree_in c (ItemKind.Value v))
  value_flat v s = flat_below (suc (size_of c (ItemKind.Value v))) v (omega arith) s

  func_flat : (f : FuncTypeId) → Stands c (ItemKind.Func f) → IsFlatThing (tree_in c (ItemKind.Func f))
  func_flat f s = let x = func_found c f s in subst IsFlatThing (sym (func_tree c acyclic f x.value x.at x.own)) tt

  abbrev resource_kind : ResourceId → ItemKind
  resource_kind r = ItemKind.Ty (TypeKind.Resource r)

  aliased_flat : (n : ℕ) (r : ResourceId) (x : Resource) (o : Option ResourceAlias) → slice_get c.resources r.index ≡ Some x → r.collection ≡ c.number → x.alias ≡ o → size_of c (resource_kind r) < suc n
      → ((t : ResourceId) → size_of c (resource_kind t) < n → Stands c (resource_kind t) → IsFlatThing (tree_in c (resource_kind t))) → IsFlatThing (tree_in c (resource_kind r))
  aliased_flat n r x None at own is lt below = subst IsFlatThing (sym (root_tree c acyclic r x at own is)) tt
  aliased_flat n r x (Some b) at own is lt below =
      let s = resource_source c acyclic r x b at own is in
      let less = s.1 in
      subst IsFlatThing (sym (source_tree c acyclic r x b at own is)) (below b.source (omega (arith, lt, less)) s.0)

  resource_below : (n : ℕ) (r : ResourceId) → size_of c (resource_kind r) < n → Stands c (resource_kind r) → IsFlatThing (tree_in c (resource_kind r))
  resource_below zero r lt s = absurd (omega arith)
  resource_below (suc n) r lt s = let f = resource_found c r s in aliased_flat n r f.value f.value.alias f.at f.own refl lt (resource_below n)

  resource_flat : (r : ResourceId) → Stands c (resource_kind r) → IsFlatThing (tree_in c (resource_kind r))
  resource_flat r s = resource_below (suc (size_of c (resource_kind r))) r (omega arith) s

flat_item : (t : Tree) → IsFlatThing t → IsFlatItem t
flat_item (rigid s r) f = f
flat_item (handle_own t) f = f
flat_item (handle_borrow t) f = f
flat_item (instance xs) f = absurd f
flat_item (component is es) f = absurd f
flat_item (core_module is es) f = absurd f
flat_item (type_item t) f = absurd f

-- ---- items

module _ (c : Collection) (a : IsAcyclic c) where
  abbrev RegularBelow : ℕ → Type 0
  RegularBelow n = (j : ItemKind) → size_of c j < n → Stands c j → IsWell (stated_of c j) → IsPlain (tree_in c j) → Regular (stated_of c j)

  -- what is no interface
  flat_regular : (k : ItemKind) → Stands c k → is_instance_kind (item_kind k) ≡ false → is_interface (item_kind k) ≡ false → IsFlatItem (tree_in c k) → Regular (stated_of c k)
  unfolding tree_in
  flat_regular k s g h f = let e = kind_stated c a k s in flat (ap (λ i. is_instance_kind i) e ∙ g) (ap (λ i. is_interface i) e ∙ h) f

  -- the exports of an interface
  module _ (n : ℕ) (i : InterfaceId) (x : Interface) (at : slice_get c.interfaces i.index ≡ Some x) (own : i.collection ≡ c.number) (s : Stands c (ItemKind.Instance i)) (lt : size_of c (ItemKind.Instance i) < suc n) (plain : IsPlain (tree_in c (ItemKind.Instance i))) (below : RegularBelow n) where
    abbrev exports : List (Name × Stated)
    exports = exports_of (stated_of c (ItemKind.Instance i))

    export_regular : ((m : Name) (y : Stated) → Among (m, y) exports → IsWell y) → (m : Name) (y : Stated) → value_at exports m ≡ Some y → Regular y
    export_regular well m y v =
        let o = option_map-some (stated_of c) (value_at x.exports m) y (sym (value_with (stated_of c) x.exports m) ∙ ap (λ l. value_at l m) (sym (instance_exports_stated c a i x at own)) ∙ v) in
        let inside = found_inside c (ItemKind.Instance i) x.exports (exports_inside c a i x s at own) m o.0 o.1 in
        let less = inside.1 in
        let has = looked-has m (tree_in c o.0) (fields_in c x.exports) (looked_in c x.exports m ∙ ap (option_map (tree_in c)) o.1) in
        subst Regular (sym o.2)
        (below o.0 (omega (arith, lt, less)) inside.0 (subst IsWell o.2 (well m y (value_among exports m y v))) (plain_has m (tree_in c o.0) (fields_in c x.exports) has (subst IsPlain (instance_tree c a i x at own) plain)))

  typed_exports : (i : InterfaceId) (x : Interface) → slice_get c.interfaces i.index ≡ Some x → i.collection ≡ c.number → exports_of (stated_of c (ItemKind.Ty (TypeKind.Interface i))) ≡ exports_of (stated_of c (ItemKind.Instance i))
  typed_exports i x at own =
      let made = made_stated c a i x at own in
      ap exports_of (typed_stated c a i x at own) ∙ ap (λ t. exports_of (as_type t)) made ∙ ap exports_of (sym made)

  regular_below : (n : ℕ) → RegularBelow n
  regular_below zero k lt s w plain = absurd (omega arith)
  regular_below (suc n) (ItemKind.Instance i) lt s w plain =
      let f = interface_found c i s in
      let kind : is_instance_kind (kind_of (stated_of c (ItemKind.Instance i))) ≡ true = ap (λ k. is_instance_kind k) (kind_stated c a (ItemKind.Instance i) s) in
      let e = entries_of (stated_of c (ItemKind.Instance i)) (inl kind) w in
      an_instance kind e.0 (export_regular n i f.value f.at f.own s lt plain (regular_below n) e.1)
  regular_below (suc n) (ItemKind.Ty (TypeKind.Interface i)) lt s w plain =
      let r = stands_typed_interface c i s in
      let f = interface_found c i r in
      let same = interface_size c a i s in
      let kind : is_interface (kind_of (stated_of c (ItemKind.Ty (TypeKind.Interface i)))) ≡ true = ap (λ k. is_interface k) (kind_stated c a (ItemKind.Ty (TypeKind.Interface i)) s) in
      let e = entries_of (stated_of c (ItemKind.Ty (TypeKind.Interface i))) (inr kind) w in
      let typed = typed_exports i f.value f.at f.own in
      an_interface kind e.0 (λ m y v.
      export_regular n i f.value f.at f.own r (omega (arith, lt, same)) (subst IsPlain (type_interface c a i s) plain) (regular_below n)
      (λ l z q. e.1 l z (subst (Among (l, z)) (sym typed) q)) m y (ap (λ l. value_at l m) (sym typed) ∙ v))
  regular_below (suc n) (ItemKind.Func f) lt s w plain = flat_regular (ItemKind.Func f) s refl refl (flat_item _ (func_flat c a f s))
  regular_below (suc n) (ItemKind.Value v) lt s w plain = flat_regular (ItemKind.Value v) s refl refl (flat_item _ (value_flat c a v s))
  regular_below (suc n) (ItemKind.Component l) lt s w plain = let f = world_found c l s in absurd (subst IsPlain (component_tree c a l f.value f.at f.own) plain)
  regular_below (suc n) (ItemKind.Module l) lt s w plain = let f = module_found c l s in absurd (subst IsPlain (module_tree c a l f.value f.at f.own) plain)
  regular_below (suc n) (ItemKind.Ty (TypeKind.Resource r)) lt s w plain = flat_regular (ItemKind.Ty (TypeKind.Resource r)) s refl refl (flat_item _ (resource_flat c a r s))
  regular_below (suc n) (ItemKind.Ty (TypeKind.Func f)) lt s w plain =
      flat_regular (ItemKind.Ty (TypeKind.Func f)) s refl refl (subst IsFlatItem (sym (type_func c a f s)) (func_flat c a f (stands_typed_func c f s)))
  regular_below (suc n) (ItemKind.Ty (TypeKind.Value v)) lt s w plain =
      flat_regular (ItemKind.Ty (TypeKind.Value v)) s refl refl (subst IsFlatItem (sym (type_value c a v s)) (value_flat c a v (stands_typed_value c v s)))
  regular_below (suc n) (ItemKind.Ty (TypeKind.World l)) lt s w plain =
      let f = world_found c l (stands_typed_world c l s) in
      absurd (subst IsPlain (component_tree c a l f.value f.at f.own) (subst IsPlain (type_world c a l s) plain))
  regular_below (suc n) (ItemKind.Ty (TypeKind.Module l)) lt s w plain =
      let f = module_found c l (stands_typed_module c l s) in
      absurd (subst IsPlain (module_tree c a l f.value f.at f.own) (subst IsPlain (type_module c a l s) plain))

  pub regular_stated : (k : ItemKind) → Stands c k → IsWell (stated_of c k) → IsPlain (tree_in c k) → Regular (stated_of c k)
  regular_stated k s w plain = regular_below (suc (size_of c k)) k (omega arith) s w plain
