-- Entries with other ids, and a collection under another number: each id that stands keeps its unfolding.
use Rattle.std.proofs.Common.{◌≡◌, ℕ, zero, suc, ◌+◌, List, [], ◌∷◌, ◌++◌, map, Option, Some, None, IsSome, refl, sym, ap, subst, ◌∙◌, slice_get, ◌==◌, nat_eq, length-append}
use Rattle.std.proofs.lemmas.List.{length-map}
use Rattle.std.proofs.Math.Path.{fun_ext}
use Rattle.std.specs.Option.{option_map}
use Rattle.std.specs.HashMap.{HashMap, get, IsEmpty}
use Rattle.std.specs.Map.{lookup}
use Rattle.wac_types_base.specs.declared.copies.Copies.{Copies}
use Rattle.wac_types_base.specs.declared.item.ItemKind.{ItemKind}
use Rattle.wac_types_base.specs.declared.item.ValueType.{ValueType}
use Rattle.wac_types_base.specs.declared.item.«Type».{«Type» as TypeKind}
use Rattle.wac_types_base.specs.declared.defined.DefinedType.{DefinedType}
use Rattle.wac_types_base.specs.declared.defined.Resource.{Resource}
use Rattle.wac_types_base.specs.declared.defined.ResourceAlias.{ResourceAlias}
use Rattle.wac_types_base.specs.declared.defined.FuncType.{FuncType}
use Rattle.wac_types_base.specs.declared.defined.UsedType.{UsedType}
use Rattle.wac_types_base.specs.declared.defined.Interface.{Interface}
use Rattle.wac_types_base.specs.declared.defined.World.{World}
use Rattle.wac_types_base.specs.declared.core_types.ModuleType.{ModuleType}
use Rattle.wac_types_base.specs.declared.ids.DefinedTypeId.{DefinedTypeId}
use Rattle.wac_types_base.specs.declared.ids.ResourceId.{ResourceId}
use Rattle.wac_types_base.specs.declared.ids.FuncTypeId.{FuncTypeId}
use Rattle.wac_types_base.specs.declared.ids.InterfaceId.{InterfaceId}
use Rattle.wac_types_base.specs.declared.ids.WorldId.{WorldId}
use Rattle.wac_types_base.specs.declared.ids.ModuleTypeId.{ModuleTypeId}
use Rattle.wac_types_base.specs.Entries.{Name, values_of, with_values}
use Rattle.wac_types_base.specs.Record.{Collection, Kept}
use Rattle.wac_types_base.specs.Kept.{keeping}
use Rattle.wac_types_base.specs.Graph.{Whole, Wholes, wholes_by, whole}
use Rattle.wac_types_base.specs.Collection.{Shape, Entry, Slot, item_node, entry_at, labelled, Stands, rows, depth, IsAcyclic, unfolding_of, defined_entry, resource_entry, func_entry, interface_entry, world_entry, module_entry, value_node, type_node, value_slot, option_slot, type_of, own_of, borrow_of, use_names, used, items}
use Rattle.wac_types_base.specs.Copying.{IsCopy}
use Rattle.wac_types_base.specs.Renaming.{Renaming, value_renamed, option_renamed, type_renamed, kind_renamed, defined_renamed, resource_renamed, func_renamed, used_renamed, interface_renamed, world_renamed, under, kind_under, renumbered}
use Rattle.wac_types_base.specs.Copies.{copy_or, copied_ids, HasNone}
use Rattle.wac_types_base.proofs.GraphLemmas.{value_of, is_there, both-some, skip-some, grow-some}
use Rattle.wac_types_base.proofs.Adding.{guarded-some, option_map-some, labelled-some}
use Rattle.wac_types_base.proofs.Standing.{defined_found, resource_found, func_found, interface_found, world_found, module_found}
use Rattle.wac_types_base.proofs.Slots.{entry_at-is, stands_borrow, stands_own, stands_typed_func, stands_typed_value, stands_typed_interface, stands_typed_world, stands_typed_module}
use Rattle.wac_types_base.proofs.Loops.{map-map, map-append, map-get, map_same, names-with_values, values-with_values}
use Rattle.wac_types_base.proofs.Replacing.{labelled_there}

pub map-ext : {X Y : Type 0} (f g : X → Y) → ((x : X) → f x ≡ g x) → (xs : List X) → map f xs ≡ map g xs
map-ext f g h [] = refl
map-ext f g h (x ∷ xs) = rw (h x, map-ext f g h xs) refl

abbrev made : Shape → List Slot → Entry
made s xs = (s, xs)

row_is : (s : Shape) (xs ys : List Slot) → xs ≡ ys → made s xs ≡ made s ys
row_is s xs ys e = ap (made s) e

module _ (m : Renaming) where
  option_slot_renamed : (o : Option ValueType) → option_slot (option_renamed m o) ≡ option_map (kind_renamed m) (option_slot o)
  option_slot_renamed None = refl
  option_slot_renamed (Some v) = refl

  -- a function of the values, before and after
  through : {N T : Type 0} (f : T → T) (s : T → Slot) (xs : List (N × T)) → ((x : T) → s (f x) ≡ option_map (kind_renamed m) (s x)) → map s (values_of (with_values f xs)) ≡ map (option_map (kind_renamed m)) (map s (values_of xs))
  through f s xs h =
      ap (map s) (values-with_values f xs) ∙ map-map s f (values_of xs) ∙ map-ext (λ x. s (f x)) (λ x. option_map (kind_renamed m) (s x)) h (values_of xs) ∙ sym (map-map (option_map (kind_renamed m)) s (values_of xs))

  use_names_renamed : (us : List (Name × UsedType)) → use_names (with_values (used_renamed m) us) ≡ use_names us
  use_names_renamed [] = refl
  use_names_renamed (u ∷ us) = ap (λ l. (u.0, u.1.name) ∷ l) (use_names_renamed us)

  used_places : (us : List (Name × UsedType)) → used (with_values (used_renamed m) us) ≡ map (option_map (kind_renamed m)) (used us)
  used_places us = through (used_renamed m) (λ u. Some (ItemKind.Instance u.interface)) us (λ u. refl)

  items_renamed : (xs : List (Name × ItemKind)) → items (with_values (kind_renamed m) xs) ≡ map (option_map (kind_renamed m)) (items xs)
  items_renamed xs = through (kind_renamed m) Some xs (λ k. refl)

  pub defined_entry_renamed : (x : DefinedType) → defined_entry (defined_renamed m x) ≡ ((defined_entry x).0, map (option_map (kind_renamed m)) (defined_entry x).1)
  defined_entry_renamed (DefinedType.Tuple ts) = row_is _ _ _ (map-map value_slot (value_renamed m) ts ∙ sym (map-map (option_map (kind_renamed m)) value_slot ts))
  defined_entry_renamed (DefinedType.List t) = refl
  defined_entry_renamed (DefinedType.FixedSizeList t n) = refl
  defined_entry_renamed (DefinedType.Option t) = refl
  defined_entry_renamed (DefinedType.Result ok err) = rw (option_slot_renamed ok, option_slot_renamed err) refl
  defined_entry_renamed (DefinedType.Variant v) = rw (names-with_values (option_renamed m) v.cases, through (option_renamed m) option_slot v.cases option_slot_renamed) refl
  defined_entry_renamed (DefinedType.Record r) = rw (names-with_values (value_renamed m) r.fields, through (value_renamed m) value_slot r.fields (λ v. refl)) refl
  defined_entry_renamed (DefinedType.Flags f) = refl
  defined_entry_renamed (DefinedType.Enum e) = refl
  defined_entry_renamed (DefinedType.Alias t) = refl
  defined_entry_renamed (DefinedType.Stream o) = rw (option_slot_renamed o) refl
  defined_entry_renamed (DefinedType.Future o) = rw (option_slot_renamed o) refl

  pub resource_entry_renamed : (x : Resource) → resource_entry (resource_renamed m x) ≡ ((resource_entry x).0, map (option_map (kind_renamed m)) (resource_entry x).1)
  resource_entry_renamed x = by_alias x.name x.alias
    where
      owned : (n : Name) (s : ResourceId) (o : Option InterfaceId) → resource_entry (resource_renamed m (record { name = n; alias = Some (record { owner = o; source = s }) })) ≡ ((resource_entry (record { name = n; alias = Some (record { owner = o; source = s }) })).0, map (option_map (kind_renamed m)) (resource_entry (record { name = n; alias = Some (record { owner = o; source = s }) })).1)
      owned n s None = refl
      owned n s (Some o) = refl

      by_alias : (n : Name) (a : Option ResourceAlias) → resource_entry (resource_renamed m (record { name = n; alias = a })) ≡ ((resource_entry (record { name = n; alias = a })).0, map (option_map (kind_renamed m)) (resource_entry (record { name = n; alias = a })).1)
      by_alias n None = refl
      by_alias n (Some a) = owned n a.source a.owner

  pub func_entry_renamed : (x : FuncType) → func_entry (func_renamed m x) ≡ ((func_entry x).0, map (option_map (kind_renamed m)) (func_entry x).1)
  func_entry_renamed x = rw (names-with_values (value_renamed m) x.params, through (value_renamed m) value_slot x.params (λ v. refl), option_slot_renamed x.result)
      (row_is _ _ _ (sym (map-append (option_map (kind_renamed m)) (map value_slot (values_of x.params)) (option_slot x.result ∷ []))))

  pub interface_entry_renamed : (x : Interface) → interface_entry (interface_renamed m x) ≡ ((interface_entry x).0, map (option_map (kind_renamed m)) (interface_entry x).1)
  interface_entry_renamed x = rw (use_names_renamed x.uses, names-with_values (kind_renamed m) x.exports, used_places x.uses, items_renamed x.exports)
      (row_is _ _ _ (sym (map-append (option_map (kind_renamed m)) (used x.uses) (items x.exports))))

  pub world_entry_renamed : (x : World) → world_entry (world_renamed m x) ≡ ((world_entry x).0, map (option_map (kind_renamed m)) (world_entry x).1)
  world_entry_renamed x = rw (use_names_renamed x.uses, names-with_values (kind_renamed m) x.imports, names-with_values (kind_renamed m) x.exports, used_places x.uses, items_renamed x.imports, items_renamed x.exports)
      (row_is _ _ _ (ap (λ l. map (option_map (kind_renamed m)) (used x.uses) ++ l) (sym (map-append (option_map (kind_renamed m)) (items x.imports) (items x.exports)))
      ∙ sym (map-append (option_map (kind_renamed m)) (used x.uses) (items x.imports ++ items x.exports))))

  pub module_entry_renamed : (x : ModuleType) → module_entry x ≡ ((module_entry x).0, map (option_map (kind_renamed m)) (module_entry x).1)
  module_entry_renamed x = refl

-- ---- a graph whose nodes have other names

module _ {R S : Type 0} where
  wholes_by-mapped : (w w' : R → Option (Whole S)) (h : R → R) → ((r : R) (t : Whole S) → w r ≡ Some t → w' (h r) ≡ Some t) → (rs : List (Option R)) (ts : Wholes S) → wholes_by w rs ≡ Some ts → wholes_by w' (map (option_map h) rs) ≡ Some ts
  wholes_by-mapped w w' h f [] ts e = e
  wholes_by-mapped w w' h f (None ∷ rs) ts e =
      let i = skip-some (wholes_by w rs) ts e in
      rw (wholes_by-mapped w w' h f rs i.0 i.1) (sym (ap Some i.2))
  wholes_by-mapped w w' h f (Some r ∷ rs) ts e =
      let i = both-some (w r) (wholes_by w rs) ts e in
      rw (f r i.0 i.2, wholes_by-mapped w w' h f rs i.1 i.3) (sym (ap Some i.4))

  -- each node under its new name, with its label and its children under theirs
  abbrev IsNamed : (R → Option (S × List (Option R))) → (R → Option (S × List (Option R))) → (R → R) → Type 0
  IsNamed g g' h = (r : R) (e : S × List (Option R)) → g r ≡ Some e → g' (h r) ≡ Some (e.0, map (option_map h) e.1)

  whole-mapped : (g g' : R → Option (S × List (Option R))) (h : R → R) → IsNamed g g' h → (n : ℕ) (r : R) (t : Whole S) → whole g n r ≡ Some t → whole g' n (h r) ≡ Some t
  unfolding whole
  whole-mapped g g' h f zero r t e = absurd (cc e)
  whole-mapped g g' h f (suc n) r t e =
      let i = grow-some (g r) (whole g n) t e in
      rw (f r _ i.3, wholes_by-mapped (whole g n) (whole g' n) h (whole-mapped g g' h f n) i.1 i.2 i.4) (sym (ap Some i.5))

-- ---- another number

abbrev entry_under : ℕ → Entry → Entry
entry_under n e = (e.0, map (option_map (kind_under n)) e.1)

-- an element of a mapped list
map-got : {X Y : Type 0} (f : X → Y) (xs : List X) (i : ℕ) (y : Y) → slice_get (map f xs) i ≡ Some y → (x : X) × (slice_get xs i ≡ Some x)
map-got f [] i y e = absurd (cc e)
map-got f (x ∷ xs) zero y e = (x, refl)
map-got f (x ∷ xs) (suc i) y e = map-got f xs i y e

module _ (n : ℕ) where
  entry_at-under : {E : Type 0} (f : E → Entry) (g : E → E) → ((x : E) → f (g x) ≡ entry_under n (f x)) → (m : ℕ) (es : List E) (col i : ℕ) (e : Entry) → entry_at f m es col i ≡ Some e → entry_at f n (map g es) n i ≡ Some (entry_under n e)
  entry_at-under f g h m es col i e is =
      let s = guarded-some (col == m) (option_map f (slice_get es i)) e is in
      let x = option_map-some f (slice_get es i) e s.1 in
      entry_at-is f n (map g es) n i (g x.0) (map-get g es i x.0 x.1) refl ∙ ap Some (h x.0 ∙ ap (entry_under n) (sym x.2))

  labelled-under : (l : Shape → Shape) (o o' : Option Entry) → ((e : Entry) → o ≡ Some e → o' ≡ Some (entry_under n e)) → (e : Entry) → labelled l o ≡ Some e → labelled l o' ≡ Some (entry_under n e)
  labelled-under l o o' h e is =
      let y = labelled-some l o e is in
      rw (h y.0 y.1) (ap (λ e. Some (entry_under n e)) (sym y.2))

module _ (n : ℕ) (c : Collection) (q : Kept) where
  defined_under : (i : DefinedTypeId) (e : Entry) → entry_at defined_entry c.number c.defined_types i.collection i.index ≡ Some e → entry_at defined_entry n (keeping q (renumbered n c)).defined_types n i.index ≡ Some (entry_under n e)
  defined_under i e = entry_at-under n defined_entry (defined_renamed (under n)) (defined_entry_renamed (under n)) c.number c.defined_types i.collection i.index e

  resource_under : (i : ResourceId) (e : Entry) → entry_at resource_entry c.number c.resources i.collection i.index ≡ Some e → entry_at resource_entry n (keeping q (renumbered n c)).resources n i.index ≡ Some (entry_under n e)
  resource_under i e = entry_at-under n resource_entry (resource_renamed (under n)) (resource_entry_renamed (under n)) c.number c.resources i.collection i.index e

  func_under : (i : FuncTypeId) (e : Entry) → entry_at func_entry c.number c.func_types i.collection i.index ≡ Some e → entry_at func_entry n (keeping q (renumbered n c)).func_types n i.index ≡ Some (entry_under n e)
  func_under i e = entry_at-under n func_entry (func_renamed (under n)) (func_entry_renamed (under n)) c.number c.func_types i.collection i.index e

  interface_under : (i : InterfaceId) (e : Entry) → entry_at interface_entry c.number c.interfaces i.collection i.index ≡ Some e → entry_at interface_entry n (keeping q (renumbered n c)).interfaces n i.index ≡ Some (entry_under n e)
  interface_under i e = entry_at-under n interface_entry (interface_renamed (under n)) (interface_entry_renamed (under n)) c.number c.interfaces i.collection i.index e

  world_under : (i : WorldId) (e : Entry) → entry_at world_entry c.number c.worlds i.collection i.index ≡ Some e → entry_at world_entry n (keeping q (renumbered n c)).worlds n i.index ≡ Some (entry_under n e)
  world_under i e = entry_at-under n world_entry (world_renamed (under n)) (world_entry_renamed (under n)) c.number c.worlds i.collection i.index e

  module_under : (i : ModuleTypeId) (e : Entry) → entry_at module_entry c.number c.modules i.collection i.index ≡ Some e → entry_at module_entry n c.modules n i.index ≡ Some (entry_under n e)
  module_under i e is = subst (λ l. entry_at module_entry n l n i.index ≡ Some (entry_under n e)) (map_same c.modules) (entry_at-under n module_entry (λ m. m) (module_entry_renamed (under n)) c.number c.modules i.collection i.index e is)

  value_under : (v : ValueType) (e : Entry) → value_node c v ≡ Some e → value_node (keeping q (renumbered n c)) (value_renamed (under n) v) ≡ Some (entry_under n e)
  value_under (ValueType.Primitive p) e is = ap (λ o. option_map (entry_under n) o) is
  value_under (ValueType.Borrow r) e is = labelled-under n borrow_of _ _ (resource_under r) e is
  value_under (ValueType.Own r) e is = labelled-under n own_of _ _ (resource_under r) e is
  value_under (ValueType.Defined d) e is = defined_under d e is

  type_under : (t : TypeKind) (e : Entry) → type_node c t ≡ Some e → type_node (keeping q (renumbered n c)) (type_renamed (under n) t) ≡ Some (entry_under n e)
  type_under (TypeKind.Resource r) e = resource_under r e
  type_under (TypeKind.Func i) e = labelled-under n type_of _ _ (func_under i) e
  type_under (TypeKind.Value v) e = labelled-under n type_of _ _ (value_under v) e
  type_under (TypeKind.Interface i) e = labelled-under n type_of _ _ (interface_under i) e
  type_under (TypeKind.World i) e = labelled-under n type_of _ _ (world_under i) e
  type_under (TypeKind.Module i) e = labelled-under n type_of _ _ (module_under i) e

  node_under : (k : ItemKind) (e : Entry) → item_node c k ≡ Some e → item_node (keeping q (renumbered n c)) (kind_under n k) ≡ Some (entry_under n e)
  unfolding item_node
  node_under (ItemKind.Ty t) e = type_under t e
  node_under (ItemKind.Func i) e = func_under i e
  node_under (ItemKind.Instance i) e = interface_under i e
  node_under (ItemKind.Component i) e = world_under i e
  node_under (ItemKind.Module i) e = module_under i e
  node_under (ItemKind.Value v) e = value_under v e

  -- ---- what stands under the number stood before it

  -- an id that stands is that of one that stood
  abbrev IsFrom : ItemKind → Type 0
  IsFrom k = Stands c (kind_under c.number k) × (kind_under n (kind_under c.number k) ≡ k)

  defined_from : (i : DefinedTypeId) → Stands (keeping q (renumbered n c)) (ItemKind.Value (ValueType.Defined i)) → IsFrom (ItemKind.Value (ValueType.Defined i))
  unfolding item_node
  defined_from i stands =
      let f = defined_found (keeping q (renumbered n c)) i stands in
      let x = map-got (defined_renamed (under n)) c.defined_types i.index f.value f.at in
      (is_there _ _ (entry_at-is defined_entry c.number c.defined_types c.number i.index x.0 x.1 refl), ap (λ a. ItemKind.Value (ValueType.Defined (record { collection = a; index = i.index }))) (sym f.own))

  resource_from : (i : ResourceId) → Stands (keeping q (renumbered n c)) (ItemKind.Ty (TypeKind.Resource i)) → IsFrom (ItemKind.Ty (TypeKind.Resource i))
  unfolding item_node
  resource_from i stands =
      let f = resource_found (keeping q (renumbered n c)) i stands in
      let x = map-got (resource_renamed (under n)) c.resources i.index f.value f.at in
      (is_there _ _ (entry_at-is resource_entry c.number c.resources c.number i.index x.0 x.1 refl), ap (λ a. ItemKind.Ty (TypeKind.Resource (record { collection = a; index = i.index }))) (sym f.own))

  func_from : (i : FuncTypeId) → Stands (keeping q (renumbered n c)) (ItemKind.Func i) → IsFrom (ItemKind.Func i)
  unfolding item_node
  func_from i stands =
      let f = func_found (keeping q (renumbered n c)) i stands in
      let x = map-got (func_renamed (under n)) c.func_types i.index f.value f.at in
      (is_there _ _ (entry_at-is func_entry c.number c.func_types c.number i.index x.0 x.1 refl), ap (λ a. ItemKind.Func (record { collection = a; index = i.index })) (sym f.own))

  interface_from : (i : InterfaceId) → Stands (keeping q (renumbered n c)) (ItemKind.Instance i) → IsFrom (ItemKind.Instance i)
  unfolding item_node
  interface_from i stands =
      let f = interface_found (keeping q (renumbered n c)) i stands in
      let x = map-got (interface_renamed (under n)) c.interfaces i.index f.value f.at in
      (is_there _ _ (entry_at-is interface_entry c.number c.interfaces c.number i.index x.0 x.1 refl), ap (λ a. ItemKind.Instance (record { collection = a; index = i.index })) (sym f.own))

  world_from : (i : WorldId) → Stands (keeping q (renumbered n c)) (ItemKind.Component i) → IsFrom (ItemKind.Component i)
  unfolding item_node
  world_from i stands =
      let f = world_found (keeping q (renumbered n c)) i stands in
      let x = map-got (world_renamed (under n)) c.worlds i.index f.value f.at in
      (is_there _ _ (entry_at-is world_entry c.number c.worlds c.number i.index x.0 x.1 refl), ap (λ a. ItemKind.Component (record { collection = a; index = i.index })) (sym f.own))

  module_from : (i : ModuleTypeId) → Stands (keeping q (renumbered n c)) (ItemKind.Module i) → IsFrom (ItemKind.Module i)
  unfolding item_node
  module_from i stands =
      let f = module_found (keeping q (renumbered n c)) i stands in
      (is_there _ _ (entry_at-is module_entry c.number c.modules c.number i.index f.value f.at refl), ap (λ a. ItemKind.Module (record { collection = a; index = i.index })) (sym f.own))

  value_from : (v : ValueType) → Stands (keeping q (renumbered n c)) (ItemKind.Value v) → IsFrom (ItemKind.Value v)
  unfolding item_node
  value_from (ValueType.Primitive p) stands = (refl, refl)
  value_from (ValueType.Borrow r) stands =
      let b = resource_from r (stands_borrow (keeping q (renumbered n c)) r stands) in
      (labelled_there borrow_of (item_node c (kind_under c.number (ItemKind.Ty (TypeKind.Resource r)))) b.0, ap handle_of b.1)
    where
      handle_of : ItemKind → ItemKind
      handle_of (ItemKind.Ty (TypeKind.Resource r)) = ItemKind.Value (ValueType.Borrow r)
      handle_of k = k
  value_from (ValueType.Own r) stands =
      let b = resource_from r (stands_own (keeping q (renumbered n c)) r stands) in
      (labelled_there own_of (item_node c (kind_under c.number (ItemKind.Ty (TypeKind.Resource r)))) b.0, ap handle_of b.1)
    where
      handle_of : ItemKind → ItemKind
      handle_of (ItemKind.Ty (TypeKind.Resource r)) = ItemKind.Value (ValueType.Own r)
      handle_of k = k
  value_from (ValueType.Defined i) stands = defined_from i stands

  -- the type of a thing, as an item
  abbrev typed : ItemKind → ItemKind
  typed (ItemKind.Func i) = ItemKind.Ty (TypeKind.Func i)
  typed (ItemKind.Instance i) = ItemKind.Ty (TypeKind.Interface i)
  typed (ItemKind.Component i) = ItemKind.Ty (TypeKind.World i)
  typed (ItemKind.Module i) = ItemKind.Ty (TypeKind.Module i)
  typed (ItemKind.Value v) = ItemKind.Ty (TypeKind.Value v)
  typed k = k

  type_from : (t : TypeKind) → Stands (keeping q (renumbered n c)) (ItemKind.Ty t) → IsFrom (ItemKind.Ty t)
  unfolding item_node
  type_from (TypeKind.Resource r) stands = resource_from r stands
  type_from (TypeKind.Func i) stands = let b = func_from i (stands_typed_func (keeping q (renumbered n c)) i stands) in (labelled_there type_of _ b.0, ap typed b.1)
  type_from (TypeKind.Value v) stands = let b = value_from v (stands_typed_value (keeping q (renumbered n c)) v stands) in (labelled_there type_of _ b.0, ap typed b.1)
  type_from (TypeKind.Interface i) stands = let b = interface_from i (stands_typed_interface (keeping q (renumbered n c)) i stands) in (labelled_there type_of _ b.0, ap typed b.1)
  type_from (TypeKind.World i) stands = let b = world_from i (stands_typed_world (keeping q (renumbered n c)) i stands) in (labelled_there type_of _ b.0, ap typed b.1)
  type_from (TypeKind.Module i) stands = let b = module_from i (stands_typed_module (keeping q (renumbered n c)) i stands) in (labelled_there type_of _ b.0, ap typed b.1)

  kind_from : (k : ItemKind) → Stands (keeping q (renumbered n c)) k → IsFrom k
  kind_from (ItemKind.Ty t) stands = type_from t stands
  kind_from (ItemKind.Func i) stands = func_from i stands
  kind_from (ItemKind.Instance i) stands = interface_from i stands
  kind_from (ItemKind.Component i) stands = world_from i stands
  kind_from (ItemKind.Module i) stands = module_from i stands
  kind_from (ItemKind.Value v) stands = value_from v stands

  -- ---- the unfoldings

  depth_under : depth (keeping q (renumbered n c)) ≡ depth c
  unfolding rows
  depth_under = ap (λ l. l + 2) (simp (length-append, length-map) refl)

  unfolding_under : (k : ItemKind) (t : Whole Shape) → whole (item_node c) (depth c) k ≡ Some t → whole (item_node (keeping q (renumbered n c))) (depth (keeping q (renumbered n c))) (kind_under n k) ≡ Some t
  unfolding_under k t e =
      subst (λ m. whole (item_node (keeping q (renumbered n c))) m (kind_under n k) ≡ Some t) (sym depth_under)
      (whole-mapped (item_node c) (item_node (keeping q (renumbered n c))) (kind_under n) node_under (depth c) k t e)

  pub IsAcyclic-renumbered : IsAcyclic c → IsAcyclic (keeping q (renumbered n c))
  unfolding IsAcyclic
  IsAcyclic-renumbered h k stands =
      let b = kind_from k stands in
      let t = value_of _ (h (kind_under c.number k) b.0) in
      subst (λ j. IsSome (whole (item_node (keeping q (renumbered n c))) (depth (keeping q (renumbered n c))) j)) b.1 (is_there _ t.0 (unfolding_under (kind_under c.number k) t.0 t.1))

  -- each id that stands is there under the number, with the same unfolding
  pub IsCopy-renumbered : IsAcyclic c → (k : ItemKind) → Stands c k → IsCopy c (keeping q (renumbered n c)) k (kind_under n k)
  unfolding IsAcyclic unfolding_of
  IsCopy-renumbered h k stands =
      let e = value_of _ stands in
      let t = value_of _ (h k stands) in
      record {
        stands = is_there _ (entry_under n e.0) (node_under k e.0 e.1);
        same = unfolding_under k t.0 t.1 ∙ sym t.1;
      }

-- ---- where nothing has a copy, each id has the number at its index

by_parts : {I : Type 0} (id : ℕ → ℕ → I) (a b : ℕ) (o : Option ℕ) (i : ℕ) → a ≡ b → o ≡ None → id a (copy_or o i) ≡ id b i
by_parts id a b o i e h = rw (e, h) refl

not_there : {S : Type 0} (t : HashMap ℕ ℕ S) → IsEmpty t → (i : ℕ) → get nat_eq t i ≡ None
not_there t e i = ap (lookup (nat_eq i)) e

pub no_copies : (m : Copies) (n : ℕ) → m.number ≡ n → HasNone m → copied_ids m ≡ under n
no_copies m n is h =
    ap (λ f. record (copied_ids m) { defined_type = f }) (fun_ext (λ i. by_parts (λ a b. record { collection = a; index = b }) m.number n (get nat_eq m.defined_types i.index) i.index is (not_there m.defined_types h.0 i.index)))
    ∙ ap (λ f. record (copied_ids m) { defined_type = (under n).defined_type; resource = f }) (fun_ext (λ i. by_parts (λ a b. record { collection = a; index = b }) m.number n (get nat_eq m.resources i.index) i.index is (not_there m.resources h.1 i.index)))
    ∙ ap (λ f. record (under n) { func_type = f; interface = (copied_ids m).interface; world = (copied_ids m).world; module_type = (copied_ids m).module_type }) (fun_ext (λ i. by_parts (λ a b. record { collection = a; index = b }) m.number n (get nat_eq m.func_types i.index) i.index is (not_there m.func_types h.2 i.index)))
    ∙ ap (λ f. record (under n) { interface = f; world = (copied_ids m).world; module_type = (copied_ids m).module_type }) (fun_ext (λ i. by_parts (λ a b. record { collection = a; index = b }) m.number n (get nat_eq m.interfaces i.index) i.index is (not_there m.interfaces h.3 i.index)))
    ∙ ap (λ f. record (under n) { world = f; module_type = (copied_ids m).module_type }) (fun_ext (λ i. by_parts (λ a b. record { collection = a; index = b }) m.number n (get nat_eq m.worlds i.index) i.index is (not_there m.worlds h.4 i.index)))
    ∙ ap (λ f. record (under n) { module_type = f }) (fun_ext (λ i. by_parts (λ a b. record { collection = a; index = b }) m.number n (get nat_eq m.modules i.index) i.index is (not_there m.modules h.5 i.index)))

-- what is written again with ids that become those under the number
pub renumbered_by : (n : ℕ) (c : Collection) (q : Kept) (m : Renaming) → m ≡ under n → (ds : List DefinedType) (rs : List Resource) (fs : List FuncType) (is : List Interface) (ws : List World) (ms : List ModuleType)
    → ds ≡ map (defined_renamed m) c.defined_types → rs ≡ map (resource_renamed m) c.resources → fs ≡ map (func_renamed m) c.func_types
    → is ≡ map (interface_renamed m) c.interfaces → ws ≡ map (world_renamed m) c.worlds → ms ≡ map (λ x. x) c.modules
    → record { number = n; defined_types = ds; resources = rs; func_types = fs; interfaces = is; worlds = ws; modules = ms; kept = q } ≡ keeping q (renumbered n c)
renumbered_by n c q m e ds rs fs is ws ms a b f g h k =
    rw (a, b, f, g, h, k, map_same c.modules) (ap (λ r. record { number = n; defined_types = map (defined_renamed r) c.defined_types; resources = map (resource_renamed r) c.resources; func_types = map (func_renamed r) c.func_types; interfaces = map (interface_renamed r) c.interfaces; worlds = map (world_renamed r) c.worlds; modules = c.modules; kept = q }) e)
