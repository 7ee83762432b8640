-- Ids that stand have entries, and types that share state the same.
use Rattle.std.proofs.Common.{◌≡◌, ℕ, zero, suc, ◌<◌, List, Option, None, length, slice_get, ◌==◌, if◌then◌else◌, refl, sym, ap, subst, ◌∙◌}
use Rattle.std.specs.Option.{option_map}
use Rattle.wac_types_base.specs.declared.ids.DefinedTypeId.{DefinedTypeId}
use Rattle.wac_types_base.specs.declared.ids.ResourceId.{ResourceId}
use Rattle.wac_types_base.specs.declared.ids.FuncTypeId.{FuncTypeId}
use Rattle.wac_types_base.specs.declared.ids.InterfaceId.{InterfaceId}
use Rattle.wac_types_base.specs.declared.ids.WorldId.{WorldId}
use Rattle.wac_types_base.specs.declared.ids.ModuleTypeId.{ModuleTypeId}
use Rattle.wac_types_base.specs.declared.item.ValueType.{ValueType}
use Rattle.wac_types_base.specs.declared.item.«Type».{«Type» as TypeKind}
use Rattle.wac_types_base.specs.declared.item.ItemKind.{ItemKind}
use Rattle.wac_types_base.specs.Record.{Collection}
use Rattle.wac_types_base.specs.Graph.{whole, grow}
use Rattle.wac_types_base.specs.Collection.{Entry, entry_at, labelled, type_of, borrow_of, own_of, defined_entry, resource_entry, func_entry, interface_entry, world_entry, module_entry, value_node, type_node, item_node, depth, Stands, unfolding_of}
use Rattle.wac_types_base.specs.Stated.{stated_of, stated_in}
use Rattle.wac_types_base.specs.Sharing.{Share, ShareValue, ItemsShare}
use Rattle.wac_types_base.proofs.Standing.{defined_found, resource_found, func_found, interface_found, world_found, module_found}
use Rattle.wac_types_base.proofs.Slots.{stands_borrow, stands_own, stands_typed_func, stands_typed_value, stands_typed_interface, stands_typed_world, stands_typed_module}

-- ---- the index of an id that stands, where what stands is seen of the fields

module _ {c d : Collection} (same : c ≡ d) where
  pub within_borrow : {v : ValueType} {id : ResourceId} → v ≡ ValueType.Borrow id → Stands d (ItemKind.Value v) → id.index < length c.resources
  within_borrow {v} {id} e s =
      let here = stands_borrow d id (subst (λ v. Stands d (ItemKind.Value v)) e s) in
      subst (λ c. id.index < length c.resources) (sym same) (resource_found d id here).within

  pub within_own : {v : ValueType} {id : ResourceId} → v ≡ ValueType.Own id → Stands d (ItemKind.Value v) → id.index < length c.resources
  within_own {v} {id} e s =
      let here = stands_own d id (subst (λ v. Stands d (ItemKind.Value v)) e s) in
      subst (λ c. id.index < length c.resources) (sym same) (resource_found d id here).within

  pub within_defined : {v : ValueType} {id : DefinedTypeId} → v ≡ ValueType.Defined id → Stands d (ItemKind.Value v) → id.index < length c.defined_types
  within_defined {v} {id} e s =
      let here = subst (λ v. Stands d (ItemKind.Value v)) e s in
      subst (λ c. id.index < length c.defined_types) (sym same) (defined_found d id here).within

  pub within_resource : {t : TypeKind} {id : ResourceId} → t ≡ TypeKind.Resource id → Stands d (ItemKind.Ty t) → id.index < length c.resources
  within_resource {t} {id} e s =
      let here = subst (λ t. Stands d (ItemKind.Ty t)) e s in
      subst (λ c. id.index < length c.resources) (sym same) (resource_found d id here).within

  pub within_func : {t : TypeKind} {id : FuncTypeId} → t ≡ TypeKind.Func id → Stands d (ItemKind.Ty t) → id.index < length c.func_types
  within_func {t} {id} e s =
      let here = stands_typed_func d id (subst (λ t. Stands d (ItemKind.Ty t)) e s) in
      subst (λ c. id.index < length c.func_types) (sym same) (func_found d id here).within

  pub within_interface : {t : TypeKind} {id : InterfaceId} → t ≡ TypeKind.Interface id → Stands d (ItemKind.Ty t) → id.index < length c.interfaces
  within_interface {t} {id} e s =
      let here = stands_typed_interface d id (subst (λ t. Stands d (ItemKind.Ty t)) e s) in
      subst (λ c. id.index < length c.interfaces) (sym same) (interface_found d id here).within

  pub within_world : {t : TypeKind} {id : WorldId} → t ≡ TypeKind.World id → Stands d (ItemKind.Ty t) → id.index < length c.worlds
  within_world {t} {id} e s =
      let here = stands_typed_world d id (subst (λ t. Stands d (ItemKind.Ty t)) e s) in
      subst (λ c. id.index < length c.worlds) (sym same) (world_found d id here).within

  pub within_module : {t : TypeKind} {id : ModuleTypeId} → t ≡ TypeKind.Module id → Stands d (ItemKind.Ty t) → id.index < length c.modules
  within_module {t} {id} e s =
      let here = stands_typed_module d id (subst (λ t. Stands d (ItemKind.Ty t)) e s) in
      subst (λ c. id.index < length c.modules) (sym same) (module_found d id here).within

  pub within_func_item : {k : ItemKind} {id : FuncTypeId} → k ≡ ItemKind.Func id → Stands d k → id.index < length c.func_types
  within_func_item {k} {id} e s =
      let here = subst (λ k. Stands d k) e s in
      subst (λ c. id.index < length c.func_types) (sym same) (func_found d id here).within

  pub within_instance : {k : ItemKind} {id : InterfaceId} → k ≡ ItemKind.Instance id → Stands d k → id.index < length c.interfaces
  within_instance {k} {id} e s =
      let here = subst (λ k. Stands d k) e s in
      subst (λ c. id.index < length c.interfaces) (sym same) (interface_found d id here).within

  pub within_component : {k : ItemKind} {id : WorldId} → k ≡ ItemKind.Component id → Stands d k → id.index < length c.worlds
  within_component {k} {id} e s =
      let here = subst (λ k. Stands d k) e s in
      subst (λ c. id.index < length c.worlds) (sym same) (world_found d id here).within

  pub within_module_item : {k : ItemKind} {id : ModuleTypeId} → k ≡ ItemKind.Module id → Stands d k → id.index < length c.modules
  within_module_item {k} {id} e s =
      let here = subst (λ k. Stands d k) e s in
      subst (λ c. id.index < length c.modules) (sym same) (module_found d id here).within

pub value_inside : (d : Collection) {t : TypeKind} {v : ValueType} → t ≡ TypeKind.Value v → Stands d (ItemKind.Ty t) → Stands d (ItemKind.Value v)
value_inside d {t} {v} e s = stands_typed_value d v (subst (λ t. Stands d (ItemKind.Ty t)) e s)

-- ---- what shares states the same

-- one entry at two indexes, under the collection's number, is one node
one_node : {E : Type 0} (f : E → Entry) (n : ℕ) (es : List E) (a i b j : ℕ) → a ≡ n → b ≡ n → slice_get es i ≡ slice_get es j → entry_at f n es a i ≡ entry_at f n es b j
one_node f n es a i b j p q e = ap (λ o. if a == n then option_map f o else None) e ∙ ap (λ k. if k == n then option_map f (slice_get es j) else None) (p ∙ sym q)

module _ (c : Collection) where
  resources_one : (r s : ResourceId) → Stands c (ItemKind.Ty (TypeKind.Resource r)) → Stands c (ItemKind.Ty (TypeKind.Resource s)) → slice_get c.resources r.index ≡ slice_get c.resources s.index
      → entry_at resource_entry c.number c.resources r.collection r.index ≡ entry_at resource_entry c.number c.resources s.collection s.index
  resources_one r s p q e = one_node resource_entry c.number c.resources r.collection r.index s.collection s.index (resource_found c r p).own (resource_found c s q).own e

  share_value_node : (v w : ValueType) → Stands c (ItemKind.Value v) → Stands c (ItemKind.Value w) → ShareValue c v w → value_node c v ≡ value_node c w
  share_value_node (ValueType.Primitive x) (ValueType.Primitive y) p q e = ap (λ z. value_node c (ValueType.Primitive z)) e
  share_value_node (ValueType.Borrow r) (ValueType.Borrow s) p q e = ap (labelled borrow_of) (resources_one r s (stands_borrow c r p) (stands_borrow c s q) e)
  share_value_node (ValueType.Own r) (ValueType.Own s) p q e = ap (labelled own_of) (resources_one r s (stands_own c r p) (stands_own c s q) e)
  share_value_node (ValueType.Defined x) (ValueType.Defined y) p q e = one_node defined_entry c.number c.defined_types x.collection x.index y.collection y.index (defined_found c x p).own (defined_found c y q).own e
  share_value_node v w p q e = absurd e

  share_node : (t u : TypeKind) → Stands c (ItemKind.Ty t) → Stands c (ItemKind.Ty u) → Share c t u → type_node c t ≡ type_node c u
  share_node (TypeKind.Resource r) (TypeKind.Resource s) p q e = resources_one r s p q e
  share_node (TypeKind.Func x) (TypeKind.Func y) p q e =
      ap (labelled type_of) (one_node func_entry c.number c.func_types x.collection x.index y.collection y.index (func_found c x (stands_typed_func c x p)).own (func_found c y (stands_typed_func c y q)).own e)
  share_node (TypeKind.Value v) (TypeKind.Value w) p q e = ap (labelled type_of) (share_value_node v w (stands_typed_value c v p) (stands_typed_value c w q) e)
  share_node (TypeKind.Interface x) (TypeKind.Interface y) p q e =
      ap (labelled type_of) (one_node interface_entry c.number c.interfaces x.collection x.index y.collection y.index (interface_found c x (stands_typed_interface c x p)).own (interface_found c y (stands_typed_interface c y q)).own e)
  share_node (TypeKind.World x) (TypeKind.World y) p q e =
      ap (labelled type_of) (one_node world_entry c.number c.worlds x.collection x.index y.collection y.index (world_found c x (stands_typed_world c x p)).own (world_found c y (stands_typed_world c y q)).own e)
  share_node (TypeKind.Module x) (TypeKind.Module y) p q e =
      ap (labelled type_of) (one_node module_entry c.number c.modules x.collection x.index y.collection y.index (module_found c x (stands_typed_module c x p)).own (module_found c y (stands_typed_module c y q)).own e)
  share_node t u p q e = absurd e

  item_shared : (j k : ItemKind) → Stands c j → Stands c k → ItemsShare c j k → item_node c j ≡ item_node c k
  unfolding item_node
  item_shared (ItemKind.Ty t) (ItemKind.Ty u) p q e = share_node t u p q e
  item_shared (ItemKind.Func x) (ItemKind.Func y) p q e = one_node func_entry c.number c.func_types x.collection x.index y.collection y.index (func_found c x p).own (func_found c y q).own e
  item_shared (ItemKind.Instance x) (ItemKind.Instance y) p q e = one_node interface_entry c.number c.interfaces x.collection x.index y.collection y.index (interface_found c x p).own (interface_found c y q).own e
  item_shared (ItemKind.Component x) (ItemKind.Component y) p q e = one_node world_entry c.number c.worlds x.collection x.index y.collection y.index (world_found c x p).own (world_found c y q).own e
  item_shared (ItemKind.Module x) (ItemKind.Module y) p q e = one_node module_entry c.number c.modules x.collection x.index y.collection y.index (module_found c x p).own (module_found c y q).own e
  item_shared (ItemKind.Value v) (ItemKind.Value w) p q e = share_value_node v w p q e
  item_shared j k p q e = absurd e

-- nodes that are one have one unfolding
whole_one : {R S : Type 0} (g : R → Option (S × List (Option R))) (n : ℕ) (r s : R) → g r ≡ g s → whole g n r ≡ whole g n s
unfolding whole
whole_one g zero r s e = refl
whole_one g (suc n) r s e = ap (λ o. grow o (whole g n)) e

pub items_state : (c : Collection) (j k : ItemKind) → Stands c j → Stands c k → ItemsShare c j k → stated_of c j ≡ stated_of c k
unfolding unfolding_of
items_state c j k p q e = ap stated_in (whole_one (item_node c) (depth c) j k (item_shared c j k p q e))
