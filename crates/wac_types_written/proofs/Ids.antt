-- What ids state, and what stands in their entries.
use Rattle.std.proofs.Common.{◌≡◌, suc, List, [], ◌∷◌, ◌++◌, Option, Some, None, slice_get, refl, sym, ap, subst, ◌∙◌, inl, inr}
use Rattle.wac_types_base.specs.declared.item.ValueType.{ValueType}
use Rattle.wac_types_base.specs.declared.item.«Type».{«Type» as TypeKind}
use Rattle.wac_types_base.specs.declared.item.ItemKind.{ItemKind}
use Rattle.wac_types_base.specs.declared.ids.InterfaceId.{InterfaceId}
use Rattle.wac_types_base.specs.declared.ids.WorldId.{WorldId}
use Rattle.wac_types_base.specs.declared.defined.DefinedType.{DefinedType}
use Rattle.wac_types_base.specs.declared.defined.ResourceAlias.{ResourceAlias}
use Rattle.wac_types_base.specs.declared.defined.UsedType.{UsedType}
use Rattle.wac_types_base.specs.declared.defined.Interface.{Interface}
use Rattle.wac_types_base.specs.declared.defined.World.{World}
use Rattle.wac_types_base.specs.Record.{Collection}
use Rattle.wac_types_base.specs.Entries.{Name}
use Rattle.wac_types_base.specs.Graph.{Among}
use Rattle.wac_types_base.specs.Collection.{Shape, primitive, Entry, Slot, SlotStands, HasChildren, Stands, IsAcyclic, item_node, value_node, labelled, size_of, defined_entry, resource_entry, resource_entry_at, func_entry, interface_entry, world_entry, module_entry, used, items, type_of, borrow_of, own_of}
use Rattle.wac_types_base.specs.Stated.{stated_of, stated_entry, interface_of, world_of, relabelled, as_type, stated_use}
use Rattle.wac_types_base.proofs.GraphLemmas.{value_of, is_there}
use Rattle.wac_types_base.proofs.Copying.{Among-All}
use Rattle.wac_types_base.proofs.Replacing.{labelled_there}
use Rattle.wac_types_base.proofs.Slots.{entry_at-is}
use Rattle.wac_types_base.proofs.Stating as base
use Rattle.wac_types_base.proofs.Telling.{child_stands, entry_size, row_size, stated_step, entry_from, labelled_kind}
use Rattle.wac_types_written.specs.Forms.{ItemsStand, UsesStand, stated_items, stated_uses}
use Rattle.wac_types_written.specs.Written.{WorldMaker, dependencies, formed}
use Rattle.wac_types_written.proofs.Depending.{IsNoInterface, nothing_depends}
use Rattle.wac_types_written.proofs.Shapes.{IsInside, IsPlain, plain_formed}

-- ---- entries

uses_are : (c : Collection) (us : List (Name × UsedType)) → base.stated_uses c us ≡ stated_uses c us
uses_are c [] = refl
uses_are c (u ∷ us) = ap (λ l. stated_use c u ∷ l) (uses_are c us)

pub interface_entry_states : (c : Collection) (i : Interface) → stated_entry c (interface_entry i) ≡ interface_of i.id (stated_uses c i.uses) (stated_items c i.exports)
interface_entry_states c i = sym (base.interface_made c i) ∙ ap (λ us. interface_of i.id us (stated_items c i.exports)) (uses_are c i.uses)

pub world_entry_states : (c : Collection) (w : World) → stated_entry c (world_entry w) ≡ world_of w.id (stated_uses c w.uses) (stated_items c w.imports) (stated_items c w.exports)
world_entry_states c w = sym (base.world_made c w) ∙ ap (λ us. world_of w.id us (stated_items c w.imports) (stated_items c w.exports)) (uses_are c w.uses)

-- ---- what stands in places

used_place : (us : List (Name × UsedType)) (rest : List Slot) (u : Name × UsedType) → Among u us → Among (Some (ItemKind.Instance u.1.interface)) (used us ++ rest)
used_place [] rest u m = absurd m
used_place (x ∷ us) rest u (inl e) = inl (ap (λ (x : Name × UsedType). Some (ItemKind.Instance x.1.interface)) e)
used_place (x ∷ us) rest u (inr m) = inr (used_place us rest u m)

behind_used : (us : List (Name × UsedType)) (rest : List Slot) (x : Slot) → Among x rest → Among x (used us ++ rest)
behind_used [] rest x m = m
behind_used (u ∷ us) rest x m = inr (behind_used us rest x m)

item_place : (xs : List (Name × ItemKind)) (rest : List Slot) (x : Name × ItemKind) → Among x xs → Among (Some x.1) (items xs ++ rest)
item_place [] rest x m = absurd m
item_place (y ∷ xs) rest x (inl e) = inl (ap (λ (x : Name × ItemKind). Some x.1) e)
item_place (y ∷ xs) rest x (inr m) = inr (item_place xs rest x m)

last_place : (xs : List (Name × ItemKind)) (x : Name × ItemKind) → Among x xs → Among (Some x.1) (items xs)
last_place [] x m = absurd m
last_place (y ∷ xs) x (inl e) = inl (ap (λ (x : Name × ItemKind). Some x.1) e)
last_place (y ∷ xs) x (inr m) = inr (last_place xs x m)

behind_items : (xs : List (Name × ItemKind)) (rest : List Slot) (x : Slot) → Among x rest → Among x (items xs ++ rest)
behind_items [] rest x m = m
behind_items (y ∷ xs) rest x m = inr (behind_items xs rest x m)

module _ (c : Collection) where
  used_stand : (us : List (Name × UsedType)) (rest : List Slot) → UsesStand c us → ((x : Slot) → Among x rest → SlotStands c x) → (x : Slot) → Among x (used us ++ rest) → SlotStands c x
  used_stand [] rest h r x m = r x m
  used_stand (u ∷ us) rest h r x (inl e) = subst (SlotStands c) (sym e) (h u (inl refl))
  used_stand (u ∷ us) rest h r x (inr m) = used_stand us rest (λ v n. h v (inr n)) r x m

  items_stand : (xs : List (Name × ItemKind)) (rest : List Slot) → ItemsStand c xs → ((x : Slot) → Among x rest → SlotStands c x) → (x : Slot) → Among x (items xs ++ rest) → SlotStands c x
  items_stand [] rest h r x m = r x m
  items_stand (y ∷ xs) rest h r x (inl e) = subst (SlotStands c) (sym e) (h y (inl refl))
  items_stand (y ∷ xs) rest h r x (inr m) = items_stand xs rest (λ v n. h v (inr n)) r x m

  last_stand : (xs : List (Name × ItemKind)) → ItemsStand c xs → (x : Slot) → Among x (items xs) → SlotStands c x
  last_stand [] h x m = absurd m
  last_stand (y ∷ xs) h x (inl e) = subst (SlotStands c) (sym e) (h y (inl refl))
  last_stand (y ∷ xs) h x (inr m) = last_stand xs (λ v n. h v (inr n)) x m

  pub interface_children : (i : Interface) → UsesStand c i.uses → ItemsStand c i.exports → HasChildren c (interface_entry i)
  interface_children i u e = Among-All (SlotStands c) (interface_entry i).1 (used_stand i.uses (items i.exports) u (last_stand i.exports e))

  pub world_children : (w : World) → UsesStand c w.uses → ItemsStand c w.imports → ItemsStand c w.exports → HasChildren c (world_entry w)
  world_children w u i e = Among-All (SlotStands c) (world_entry w).1 (used_stand w.uses (items w.imports ++ items w.exports) u (items_stand w.imports (items w.exports) i (last_stand w.exports e)))

  module _ (a : IsAcyclic c) where
    interface_node : (id : InterfaceId) (i : Interface) → slice_get c.interfaces id.index ≡ Some i → id.collection ≡ c.number → item_node c (ItemKind.Instance id) ≡ Some (interface_entry i)
    unfolding item_node
    interface_node id i at own = entry_at-is interface_entry c.number c.interfaces id.collection id.index i at own

    world_node : (id : WorldId) (w : World) → slice_get c.worlds id.index ≡ Some w → id.collection ≡ c.number → item_node c (ItemKind.Component id) ≡ Some (world_entry w)
    unfolding item_node
    world_node id w at own = entry_at-is world_entry c.number c.worlds id.collection id.index w at own

    -- an interface states what it is made of
    pub interface_states : (id : InterfaceId) (i : Interface) → slice_get c.interfaces id.index ≡ Some i → id.collection ≡ c.number → stated_of c (ItemKind.Instance id) ≡ interface_of i.id (stated_uses c i.uses) (stated_items c i.exports)
    interface_states id i at own = stated_step c a (ItemKind.Instance id) (interface_entry i) (interface_node id i at own) ∙ interface_entry_states c i

    pub world_states : (id : WorldId) (w : World) → slice_get c.worlds id.index ≡ Some w → id.collection ≡ c.number → stated_of c (ItemKind.Component id) ≡ world_of w.id (stated_uses c w.uses) (stated_items c w.imports) (stated_items c w.exports)
    world_states id w at own = stated_step c a (ItemKind.Component id) (world_entry w) (world_node id w at own) ∙ world_entry_states c w

    pub interface_stands : (id : InterfaceId) (i : Interface) → slice_get c.interfaces id.index ≡ Some i → id.collection ≡ c.number → Stands c (ItemKind.Instance id)
    interface_stands id i at own = is_there _ _ (interface_node id i at own)

    pub world_stands : (id : WorldId) (w : World) → slice_get c.worlds id.index ≡ Some w → id.collection ≡ c.number → Stands c (ItemKind.Component id)
    world_stands id w at own = is_there _ _ (world_node id w at own)

    pub interface_uses_stand : (id : InterfaceId) (i : Interface) → slice_get c.interfaces id.index ≡ Some i → id.collection ≡ c.number → UsesStand c i.uses
    interface_uses_stand id i at own u m = child_stands c a (ItemKind.Instance id) (interface_entry i) (interface_node id i at own) (ItemKind.Instance u.1.interface) (used_place i.uses (items i.exports) u m)

    pub interface_exports_stand : (id : InterfaceId) (i : Interface) → slice_get c.interfaces id.index ≡ Some i → id.collection ≡ c.number → ItemsStand c i.exports
    interface_exports_stand id i at own x m = child_stands c a (ItemKind.Instance id) (interface_entry i) (interface_node id i at own) x.1 (behind_used i.uses (items i.exports) (Some x.1) (last_place i.exports x m))

    pub world_uses_stand : (id : WorldId) (w : World) → slice_get c.worlds id.index ≡ Some w → id.collection ≡ c.number → UsesStand c w.uses
    world_uses_stand id w at own u m = child_stands c a (ItemKind.Component id) (world_entry w) (world_node id w at own) (ItemKind.Instance u.1.interface) (used_place w.uses (items w.imports ++ items w.exports) u m)

    pub world_imports_stand : (id : WorldId) (w : World) → slice_get c.worlds id.index ≡ Some w → id.collection ≡ c.number → ItemsStand c w.imports
    world_imports_stand id w at own x m = child_stands c a (ItemKind.Component id) (world_entry w) (world_node id w at own) x.1 (behind_used w.uses (items w.imports ++ items w.exports) (Some x.1) (item_place w.imports (items w.exports) x m))

    pub world_exports_stand : (id : WorldId) (w : World) → slice_get c.worlds id.index ≡ Some w → id.collection ≡ c.number → ItemsStand c w.exports
    world_exports_stand id w at own x m = child_stands c a (ItemKind.Component id) (world_entry w) (world_node id w at own) x.1 (behind_used w.uses (items w.imports ++ items w.exports) (Some x.1) (behind_items w.imports (items w.exports) (Some x.1) (last_place w.exports x m)))

    -- ---- sizes

    pub interface_size : (id : InterfaceId) (i : Interface) → slice_get c.interfaces id.index ≡ Some i → id.collection ≡ c.number → size_of c (ItemKind.Instance id) ≡ suc (row_size c (interface_entry i).1)
    interface_size id i at own = entry_size c a (ItemKind.Instance id) (interface_entry i) (interface_node id i at own)

    pub world_size : (id : WorldId) (w : World) → slice_get c.worlds id.index ≡ Some w → id.collection ≡ c.number → size_of c (ItemKind.Component id) ≡ suc (row_size c (world_entry w).1)
    world_size id w at own = entry_size c a (ItemKind.Component id) (world_entry w) (world_node id w at own)

    -- ---- types

    typed : (l : Shape → Shape) (k j : ItemKind) → item_node c k ≡ labelled l (item_node c j) → Stands c j → stated_of c k ≡ relabelled l (stated_of c j)
    typed l k j is stands =
        let v = value_of _ stands in
        let at : item_node c k ≡ Some (l v.0.0, v.0.1) = is ∙ ap (labelled l) v.1 in
        stated_step c a k (l v.0.0, v.0.1) at ∙ sym (ap (relabelled l) (stated_step c a j v.0 v.1))

    pub interface_type_states : (id : InterfaceId) → Stands c (ItemKind.Instance id) → stated_of c (ItemKind.Ty (TypeKind.Interface id)) ≡ as_type (stated_of c (ItemKind.Instance id))
    unfolding item_node
    interface_type_states id stands = typed type_of (ItemKind.Ty (TypeKind.Interface id)) (ItemKind.Instance id) refl stands

    pub world_type_states : (id : WorldId) → Stands c (ItemKind.Component id) → stated_of c (ItemKind.Ty (TypeKind.World id)) ≡ as_type (stated_of c (ItemKind.Component id))
    unfolding item_node
    world_type_states id stands = typed type_of (ItemKind.Ty (TypeKind.World id)) (ItemKind.Component id) refl stands

  pub interface_type_stands : (id : InterfaceId) → Stands c (ItemKind.Instance id) → Stands c (ItemKind.Ty (TypeKind.Interface id))
  unfolding item_node
  interface_type_stands id s = labelled_there type_of _ s

  pub world_type_stands : (id : WorldId) → Stands c (ItemKind.Component id) → Stands c (ItemKind.Ty (TypeKind.World id))
  unfolding item_node
  world_type_stands id s = labelled_there type_of _ s

-- ---- items that have no world in them

abbrev pub IsOther : ItemKind → Type 0
IsOther (ItemKind.Instance i) = ⊥
IsOther (ItemKind.Component w) = ⊥
IsOther (ItemKind.Ty (TypeKind.Interface i)) = ⊥
IsOther (ItemKind.Ty (TypeKind.World w)) = ⊥
IsOther k = Unit {0}

-- neither an interface nor a world, as a thing and as a type
record IsLeaf (e : Entry) : Type 0 where
  plain : IsPlain e.0
  inside : IsInside e.0
  alone : IsNoInterface e.0
  typed : IsNoInterface (type_of e.0)

defined_leaf : (x : DefinedType) → IsLeaf (defined_entry x)
defined_leaf (DefinedType.Tuple ts) = record { plain = tt; inside = tt; alone = tt; typed = tt }
defined_leaf (DefinedType.List t) = record { plain = tt; inside = tt; alone = tt; typed = tt }
defined_leaf (DefinedType.FixedSizeList t n) = record { plain = tt; inside = tt; alone = tt; typed = tt }
defined_leaf (DefinedType.Option t) = record { plain = tt; inside = tt; alone = tt; typed = tt }
defined_leaf (DefinedType.Result ok err) = record { plain = tt; inside = tt; alone = tt; typed = tt }
defined_leaf (DefinedType.Variant v) = record { plain = tt; inside = tt; alone = tt; typed = tt }
defined_leaf (DefinedType.Record r) = record { plain = tt; inside = tt; alone = tt; typed = tt }
defined_leaf (DefinedType.Flags f) = record { plain = tt; inside = tt; alone = tt; typed = tt }
defined_leaf (DefinedType.Enum e) = record { plain = tt; inside = tt; alone = tt; typed = tt }
defined_leaf (DefinedType.Alias t) = record { plain = tt; inside = tt; alone = tt; typed = tt }
defined_leaf (DefinedType.Stream o) = record { plain = tt; inside = tt; alone = tt; typed = tt }
defined_leaf (DefinedType.Future o) = record { plain = tt; inside = tt; alone = tt; typed = tt }

resource_leaf : (n : Name) (o : Option ResourceAlias) → IsLeaf (resource_entry_at n o)
resource_leaf n None = record { plain = tt; inside = tt; alone = tt; typed = tt }
resource_leaf n (Some a) = record { plain = tt; inside = tt; alone = tt; typed = tt }

any_entry : Entry → Type 0
any_entry e = Unit {0}

module _ (c : Collection) where
  value_leaf : (v : ValueType) (e : Entry) → value_node c v ≡ Some e → IsLeaf e
  value_leaf (ValueType.Primitive p) e is = let same : (primitive p, []) ≡ e = cc is in subst IsLeaf same (record { plain = tt; inside = tt; alone = tt; typed = tt })
  value_leaf (ValueType.Borrow r) e is = labelled_kind borrow_of (λ e. Unit {0}) IsLeaf (λ e h. record { plain = tt; inside = tt; alone = tt; typed = tt }) _ (λ e h. tt) e is
  value_leaf (ValueType.Own r) e is = labelled_kind own_of (λ e. Unit {0}) IsLeaf (λ e h. record { plain = tt; inside = tt; alone = tt; typed = tt }) _ (λ e h. tt) e is
  value_leaf (ValueType.Defined d) e is = entry_from defined_entry IsLeaf defined_leaf c.number c.defined_types d.collection d.index e is

  abbrev Both : Entry → Type 0
  Both e = IsPlain e.0 × IsNoInterface e.0

  both : (e : Entry) → IsLeaf e → Both e
  both e h = (h.plain, h.alone)

  both_typed : (e : Entry) → IsLeaf e → Both (type_of e.0, e.1)
  both_typed e h = (h.inside, h.typed)

  other_shape : (k : ItemKind) → IsOther k → (e : Entry) → item_node c k ≡ Some e → Both e
  unfolding item_node
  other_shape (ItemKind.Value v) h e is = both e (value_leaf v e is)
  other_shape (ItemKind.Func f) h e is = entry_from func_entry Both (λ x. (tt, tt)) c.number c.func_types f.collection f.index e is
  other_shape (ItemKind.Module m) h e is = entry_from module_entry Both (λ x. (tt, tt)) c.number c.modules m.collection m.index e is
  other_shape (ItemKind.Instance i) h e is = absurd h
  other_shape (ItemKind.Component w) h e is = absurd h
  other_shape (ItemKind.Ty (TypeKind.Interface i)) h e is = absurd h
  other_shape (ItemKind.Ty (TypeKind.World w)) h e is = absurd h
  other_shape (ItemKind.Ty (TypeKind.Resource r)) h e is = entry_from resource_entry Both (λ x. both (resource_entry x) (resource_leaf x.name x.alias)) c.number c.resources r.collection r.index e is
  other_shape (ItemKind.Ty (TypeKind.Func f)) h e is = labelled_kind type_of IsLeaf Both both_typed _ (entry_from func_entry IsLeaf (λ x. record { plain = tt; inside = tt; alone = tt; typed = tt }) c.number c.func_types f.collection f.index) e is
  other_shape (ItemKind.Ty (TypeKind.Value v)) h e is = labelled_kind type_of IsLeaf Both both_typed _ (value_leaf v) e is
  other_shape (ItemKind.Ty (TypeKind.Module m)) h e is = labelled_kind type_of IsLeaf Both both_typed _ (entry_from module_entry IsLeaf (λ x. record { plain = tt; inside = tt; alone = tt; typed = tt }) c.number c.modules m.collection m.index) e is

  component_shape : (w : WorldId) (e : Entry) → item_node c (ItemKind.Component w) ≡ Some e → IsNoInterface e.0
  unfolding item_node
  component_shape w e is = entry_from world_entry (λ e. IsNoInterface e.0) (λ x. tt) c.number c.worlds w.collection w.index e is

  world_type_shape : (w : WorldId) (e : Entry) → item_node c (ItemKind.Ty (TypeKind.World w)) ≡ Some e → IsNoInterface e.0
  unfolding item_node
  world_type_shape w e is = labelled_kind type_of (λ e. IsNoInterface (type_of e.0)) (λ e. IsNoInterface e.0) (λ e h. h) _ (entry_from world_entry (λ e. IsNoInterface (type_of e.0)) (λ x. tt) c.number c.worlds w.collection w.index) e is

  module _ (a : IsAcyclic c) where
    -- it stays as it is
    pub other_formed : (make : WorldMaker) (k : ItemKind) → Stands c k → IsOther k → formed make (stated_of c k) ≡ stated_of c k
    other_formed make k s h =
        let v = value_of _ s in
        let e = stated_step c a k v.0 v.1 in
        ap (formed make) e ∙ plain_formed make v.0.0 _ (other_shape k h v.0 v.1).0 ∙ sym e

    no_dependencies : (k : ItemKind) → Stands c k → ((e : Entry) → item_node c k ≡ Some e → IsNoInterface e.0) → dependencies (stated_of c k) ≡ []
    no_dependencies k s h = let v = value_of _ s in ap dependencies (stated_step c a k v.0 v.1) ∙ nothing_depends v.0.0 _ (h v.0 v.1)

    pub other_depends : (k : ItemKind) → Stands c k → IsOther k → dependencies (stated_of c k) ≡ []
    other_depends k s h = no_dependencies k s (λ e is. (other_shape k h e is).1)

    pub component_depends : (w : WorldId) → Stands c (ItemKind.Component w) → dependencies (stated_of c (ItemKind.Component w)) ≡ []
    component_depends w s = no_dependencies (ItemKind.Component w) s (component_shape w)

    pub world_type_depends : (w : WorldId) → Stands c (ItemKind.Ty (TypeKind.World w)) → dependencies (stated_of c (ItemKind.Ty (TypeKind.World w))) ≡ []
    world_type_depends w s = no_dependencies (ItemKind.Ty (TypeKind.World w)) s (world_type_shape w)
