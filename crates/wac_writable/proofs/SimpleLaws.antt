-- Items that are of no interface and of no world.
use Rattle.std.proofs.Common.{◌≡◌, ◌&&◌, ◌||◌, zero, suc, Bool, true, false, true≢false, List, [], ◌∷◌, ◌++◌, map, Option, Some, None, refl, sym, ap, ◌∙◌, subst, slice_get}
use Rattle.std.specs.Prelude.{not, bytes_eq, option_map, is_some}
use Rattle.std.specs.List.{list_any}
use Rattle.wac_types_base.specs.declared.ids.ResourceId.{ResourceId}
use Rattle.wac_types_base.specs.declared.ids.FuncTypeId.{FuncTypeId}
use Rattle.wac_types_base.specs.declared.ids.ModuleTypeId.{ModuleTypeId}
use Rattle.wac_types_base.specs.declared.ids.InterfaceId.{InterfaceId}
use Rattle.wac_types_base.specs.declared.ids.WorldId.{WorldId}
use Rattle.wac_types_base.specs.declared.item.ValueType.{ValueType}
use Rattle.wac_types_base.specs.declared.item.«Type».{«Type» as TypeKind}
use Rattle.wac_types_base.specs.declared.item.ItemKind.{ItemKind}
use Rattle.wac_types_base.specs.declared.defined.FuncType.{FuncType}
use Rattle.wac_types_base.specs.declared.defined.Resource.{Resource}
use Rattle.wac_types_base.specs.declared.defined.ResourceAlias.{ResourceAlias}
use Rattle.wac_types_base.specs.Entries.{Name, has_name, values_of}
use Rattle.wac_types_base.specs.Record.{Collection}
use Rattle.wac_types_base.specs.Graph.{Wholes, node}
use Rattle.wac_types_base.specs.Collection.{Shape, Slot, Stands, IsAcyclic, item_node, labelled, slots_in, primitive, tuple, list, fixed_size_list, option, result, variant, record_of, flags, enum, alias, stream, future, resource, resource_alias, func, interface, world, module_type, type_of, borrow_of, own_of, resource_entry_at, func_entry, module_entry, value_slot, option_slot}
use Rattle.wac_types_base.specs.Stated.{row, folded_row, stated_of, stated_entry, kind_of, IsValue, shape_kind, root_name}
use Rattle.wac_types_base.proofs.Slots.{entry_at-is}
use Rattle.wac_types_base.proofs.Standing.{func_found, module_found}
use Rattle.wac_types_base.proofs.Telling.{stated_step, resource_node, typed_node, kind_stated}
use Rattle.wac_types_base.proofs.GraphLemmas.{is_there}
use Rattle.wac_composition.specs.Writable.{value_fails, stated_at, found_at, any_value, is_given, unwritable}
use Rattle.wac_composition.specs.Writable.{Holder as Held}
use Rattle.wac_composition.specs.NotWritten.{a_value, module_as_type}
use Rattle.wac_composition.proofs.NotWritten.{stated_again}
use Rattle.wac_composition.proofs.NotFound.{written_decides}
use Rattle.wac_types_parts.specs.Parts.{IsOfInterface, IsOfWorld}
use Rattle.wac_writable.specs.Values.{lacks_root, id_fails, slot_fails, places_fail}
use Rattle.wac_writable.specs.Items.{item_unwritable, IsSimple, module_unwritable, not_writable}
use Rattle.wac_writable.proofs.ValueLaws.{AllValues}

module _ (c : Collection) (a : IsAcyclic c) (o : Bool) (n : Name) (h : Held) where
  -- ---- resources

  module _ (r : ResourceId) (x : Resource) (at : slice_get c.resources r.index ≡ Some x) (own : r.collection ≡ c.number) where
    abbrev item : ItemKind
    item = ItemKind.Ty (TypeKind.Resource r)

    stated_by : (b : Option ResourceAlias) → x.alias ≡ b → stated_of c item ≡ stated_entry c (resource_entry_at x.name b)
    stated_by b is = stated_step c a item (resource_entry_at x.name b) (resource_node c r x at own ∙ ap (λ o. Some (resource_entry_at x.name o)) is)

    pub alias_unwritable : is_some x.alias ≡ true → lacks_root c r h ≡ item_unwritable c o n item h
    alias_unwritable some = by x.alias refl some
      where
        by : (b : Option ResourceAlias) → x.alias ≡ b → is_some b ≡ true → lacks_root c r h ≡ item_unwritable c o n item h
        by None is t = absurd (true≢false (sym t))
        by (Some b) is t =
            let e = stated_by (Some b) is in
            let s = resource_entry_at x.name (Some b) in
            sym (ap (λ y. unwritable y n h o) e
            ∙ ap (λ y. not (has_name h.roots (root_name y))) (stated_again found_at s.0 (row (map (option_map (stated_of c)) s.1)))
            ∙ sym (ap (λ y. not (has_name h.roots (root_name y))) e))

    pub own_unwritable : is_some x.alias ≡ false → item_unwritable c o n item h ≡ (not (bytes_eq n x.name) && not (is_given h n (stated_of c item)))
    own_unwritable none = by x.alias refl none
      where
        by : (b : Option ResourceAlias) → x.alias ≡ b → is_some b ≡ false → item_unwritable c o n item h ≡ (not (bytes_eq n x.name) && not (is_given h n (stated_of c item)))
        by (Some b) is t = absurd (true≢false t)
        by None is t =
            let e = stated_by None is in
            ap (λ y. unwritable y n h o) e ∙ sym (ap (λ y. not (bytes_eq n x.name) && not (is_given h n y)) e)

    pub named_resource : is_some x.alias ≡ false → bytes_eq n x.name ≡ true → false ≡ item_unwritable c o n item h
    named_resource none e = sym (own_unwritable none ∙ ap (λ b. not b && not (is_given h n (stated_of c item))) e)

    pub renamed_resource : (g : Bool) → is_some x.alias ≡ false → bytes_eq n x.name ≡ false → g ≡ is_given h n (stated_of c item) → not g ≡ item_unwritable c o n item h
    renamed_resource g none e is = ap not is ∙ sym (own_unwritable none ∙ ap (λ b. not b && not (is_given h n (stated_of c item))) e)

  -- ---- functions

  any_placed : (xs : List Slot) → AllValues xs → any_value h (folded_row found_at (row (map (option_map (stated_of c)) xs))) ≡ list_any (slot_fails c h) xs
  any_placed [] all = refl
  any_placed (None ∷ xs) all = any_placed xs (λ i k e. all (suc i) k e)
  any_placed (Some k ∷ xs) all =
      let v = all 0 k refl in
      ap (λ b. value_fails h (stated_of c k) || b) (any_placed xs (λ i k e. all (suc i) k e))
      ∙ ap (λ b. b || list_any (slot_fails c h) xs) (ap (λ k. value_fails h (stated_of c k)) v.1 ∙ sym (ap (λ k. slot_fails c h (Some k)) v.1))

  func_values : (vs : List ValueType) (r : Option ValueType) → AllValues (map value_slot vs ++ option_slot r ∷ [])
  func_values [] None zero k e = absurd (cc e)
  func_values [] (Some v) zero k e = (v, sym (cc e))
  func_values [] r (suc i) k e = absurd (cc e)
  func_values (v ∷ vs) r zero k e = (v, sym (cc e))
  func_values (v ∷ vs) r (suc i) k e = func_values vs r i k e

  func_node : (f : FuncTypeId) (x : FuncType) → slice_get c.func_types f.index ≡ Some x → f.collection ≡ c.number → item_node c (ItemKind.Func f) ≡ Some (func_entry x)
  unfolding item_node
  func_node f x at own = entry_at-is func_entry c.number c.func_types f.collection f.index x at own

  func_type_node : (f : FuncTypeId) (x : FuncType) → slice_get c.func_types f.index ≡ Some x → f.collection ≡ c.number → item_node c (ItemKind.Ty (TypeKind.Func f)) ≡ Some (type_of (func_entry x).0, (func_entry x).1)
  unfolding item_node
  func_type_node f x at own = ap (labelled type_of) (entry_at-is func_entry c.number c.func_types f.collection f.index x at own)

  func_type_stands : (f : FuncTypeId) → Stands c (ItemKind.Ty (TypeKind.Func f)) → Stands c (ItemKind.Func f)
  unfolding item_node
  func_type_stands f s = let t = typed_node c (ItemKind.Ty (TypeKind.Func f)) (ItemKind.Func f) refl s in is_there _ t.0 t.1

  pub func_unwritable : (f : FuncTypeId) → Stands c (ItemKind.Func f) → places_fail c (ItemKind.Func f) h ≡ item_unwritable c o n (ItemKind.Func f) h
  func_unwritable f s =
      let x = func_found c f s in
      let is = func_node f x.value x.at x.own in
      ap (λ o. list_any (slot_fails c h) (slots_in o)) is
      ∙ sym (ap (λ y. unwritable y n h o) (stated_step c a (ItemKind.Func f) (func_entry x.value) is) ∙ any_placed (func_entry x.value).1 (func_values (values_of x.value.params) x.value.result))

  pub func_type_unwritable : (f : FuncTypeId) → Stands c (ItemKind.Ty (TypeKind.Func f)) → places_fail c (ItemKind.Func f) h ≡ item_unwritable c o n (ItemKind.Ty (TypeKind.Func f)) h
  func_type_unwritable f s =
      let x = func_found c f (func_type_stands f s) in
      let is = func_node f x.value x.at x.own in
      ap (λ o. list_any (slot_fails c h) (slots_in o)) is
      ∙ sym (ap (λ y. unwritable y n h o) (stated_step c a (ItemKind.Ty (TypeKind.Func f)) (type_of (func_entry x.value).0, (func_entry x.value).1) (func_type_node f x.value x.at x.own))
      ∙ any_placed (func_entry x.value).1 (func_values (values_of x.value.params) x.value.result))

  pub func_stands : (f : FuncTypeId) → Stands c (ItemKind.Ty (TypeKind.Func f)) → Stands c (ItemKind.Func f)
  func_stands f s = func_type_stands f s

  -- ---- values

  by_value : (s : Shape) (ts : Wholes Shape) → shape_kind s ≡ IsValue → unwritable (node (type_of s) ts) n h o ≡ value_fails h (stated_at s (folded_row found_at ts))
  by_value (primitive p) ts e = refl
  by_value tuple ts e = refl
  by_value list ts e = refl
  by_value (fixed_size_list m) ts e = refl
  by_value option ts e = refl
  by_value result ts e = refl
  by_value (variant ns) ts e = refl
  by_value (record_of ns) ts e = refl
  by_value (flags ns) ts e = refl
  by_value (enum ns) ts e = refl
  by_value alias ts e = refl
  by_value stream ts e = refl
  by_value future ts e = refl
  by_value (resource m) ts e = refl
  by_value (resource_alias m) ts e = refl
  by_value (func ps b) ts e = absurd (cc e)
  by_value (interface i us es) ts e = absurd (cc e)
  by_value (world i us is es) ts e = absurd (cc e)
  by_value (module_type m) ts e = absurd (cc e)
  by_value (type_of s) ts e = refl
  by_value (borrow_of s) ts e = refl
  by_value (own_of s) ts e = refl

  pub value_type_unwritable : (v : ValueType) → Stands c (ItemKind.Ty (TypeKind.Value v)) → id_fails c v h ≡ item_unwritable c o n (ItemKind.Ty (TypeKind.Value v)) h
  unfolding item_node
  value_type_unwritable v s =
      let t = typed_node c (ItemKind.Ty (TypeKind.Value v)) (ItemKind.Value v) refl s in
      let e = stated_step c a (ItemKind.Value v) t.0 t.1 in
      let ts = row (map (option_map (stated_of c)) t.0.1) in
      let k : shape_kind t.0.0 ≡ IsValue = sym (ap kind_of e) ∙ kind_stated c a (ItemKind.Value v) (is_there _ t.0 t.1) in
      sym (ap (λ y. unwritable y n h o) (stated_step c a (ItemKind.Ty (TypeKind.Value v)) (type_of t.0.0, t.0.1) t.2) ∙ by_value t.0.0 ts k
      ∙ ap (value_fails h) (stated_again found_at t.0.0 ts ∙ sym e))

  pub value_stands : (v : ValueType) → Stands c (ItemKind.Ty (TypeKind.Value v)) → Stands c (ItemKind.Value v)
  unfolding item_node
  value_stands v s = let t = typed_node c (ItemKind.Ty (TypeKind.Value v)) (ItemKind.Value v) refl s in is_there _ t.0 t.1

  pub value_unwritable : (v : ValueType) → Stands c (ItemKind.Value v) → true ≡ item_unwritable c o n (ItemKind.Value v) h
  value_unwritable v s = sym ((written_decides o h n (stated_of c (ItemKind.Value v))).1 (a_value (kind_stated c a (ItemKind.Value v) s)))

  -- ---- modules

  pub module_type_unwritable : (m : ModuleTypeId) → Stands c (ItemKind.Ty (TypeKind.Module m)) → true ≡ item_unwritable c o n (ItemKind.Ty (TypeKind.Module m)) h
  module_type_unwritable m s = sym ((written_decides o h n (stated_of c (ItemKind.Ty (TypeKind.Module m)))).1 (module_as_type (kind_stated c a (ItemKind.Ty (TypeKind.Module m)) s)))

  pub module_item : (m : ModuleTypeId) → Stands c (ItemKind.Module m) → module_unwritable c m ≡ item_unwritable c o n (ItemKind.Module m) h
  unfolding item_node
  module_item m s =
      let x = module_found c m s in
      ap not_writable x.at
      ∙ sym (ap (λ y. unwritable y n h o) (stated_step c a (ItemKind.Module m) (module_entry x.value) (entry_at-is module_entry c.number c.modules m.collection m.index x.value x.at x.own)))

-- what is said of a kind is said of one that it equals
module _ (c : Collection) (o : Bool) (n : Name) (h : Held) where
  pub of_kind : (k j : ItemKind) (b : Bool) → k ≡ j → Stands c k → (Stands c j → b ≡ item_unwritable c o n j h) → b ≡ item_unwritable c o n k h
  of_kind k j b e s f = f (subst (λ k. Stands c k) e s) ∙ ap (λ k. item_unwritable c o n k h) (sym e)

pub no_simple_interface : (k : ItemKind) (i : InterfaceId) → IsSimple k → k ≡ ItemKind.Ty (TypeKind.Interface i) → ⊥
no_simple_interface k i s e = s.no_interface i (subst (λ k. IsOfInterface k i) (sym e) refl)

pub no_simple_instance : (k : ItemKind) (i : InterfaceId) → IsSimple k → k ≡ ItemKind.Instance i → ⊥
no_simple_instance k i s e = s.no_interface i (subst (λ k. IsOfInterface k i) (sym e) refl)

pub no_simple_world : (k : ItemKind) (w : WorldId) → IsSimple k → k ≡ ItemKind.Ty (TypeKind.World w) → ⊥
no_simple_world k w s e = s.no_world w (subst (λ k. IsOfWorld k w) (sym e) refl)

pub no_simple_component : (k : ItemKind) (w : WorldId) → IsSimple k → k ≡ ItemKind.Component w → ⊥
no_simple_component k w s e = s.no_world w (subst (λ k. IsOfWorld k w) (sym e) refl)
