-- The tree of an id, by its entry.
use Rattle.std.proofs.Common.{◌≡◌, ◌≤◌, List, [], ◌∷◌, ◌++◌, map, Some, None, slice_get, refl, sym, ap, ◌∙◌, arith}
use Rattle.std.specs.Option.{option_map}
use Rattle.wac_types_base.specs.declared.item.PrimitiveType.{PrimitiveType}
use Rattle.wac_types_base.specs.declared.item.ValueType.{ValueType}
use Rattle.wac_types_base.specs.declared.item.«Type».{«Type» as TypeKind}
use Rattle.wac_types_base.specs.declared.item.ItemKind.{ItemKind}
use Rattle.wac_types_base.specs.declared.defined.DefinedType.{DefinedType}
use Rattle.wac_types_base.specs.declared.defined.Resource.{Resource}
use Rattle.wac_types_base.specs.declared.defined.ResourceAlias.{ResourceAlias}
use Rattle.wac_types_base.specs.declared.defined.UsedType.{UsedType}
use Rattle.wac_types_base.specs.declared.defined.FuncType.{FuncType}
use Rattle.wac_types_base.specs.declared.defined.Interface.{Interface}
use Rattle.wac_types_base.specs.declared.defined.World.{World}
use Rattle.wac_types_base.specs.declared.core_types.ModuleType.{ModuleType}
use Rattle.wac_types_base.specs.declared.ids.DefinedTypeId.{DefinedTypeId}
use Rattle.wac_types_base.specs.declared.ids.ResourceId.{ResourceId}
use Rattle.wac_types_base.specs.declared.ids.FuncTypeId.{FuncTypeId}
use Rattle.wac_types_base.specs.declared.ids.InterfaceId.{InterfaceId}
use Rattle.wac_types_base.specs.declared.ids.WorldId.{WorldId}
use Rattle.wac_types_base.specs.declared.ids.ModuleTypeId.{ModuleTypeId}
use Rattle.wac_types_base.specs.Record.{Collection}
use Rattle.wac_types_base.specs.Entries.{Name, names_of}
use Rattle.wac_types_base.specs.Collection.{Shape, Entry, Slot, Stands, IsAcyclic, item_node, labelled, size_of, used, use_names, items, defined_entry, resource_entry, resource_entry_at, func_entry, interface_entry, world_entry, module_entry, primitive, resource, type_of, borrow_of, own_of}
use Rattle.wac_types_base.specs.Stated.{row, stated_of}
use Rattle.wac_types_base.specs.Tree.{Tree, Row, Fields, rigid, instance, component, core_module, handle_own, handle_borrow, type_item, end, no_fields, put, fields, past, ascending, name_cmp, pair_cmp, tree_at, tree, trees, tree_of}
use Rattle.wac_types_base.specs.Resolving.{IsNoAlias, ResolvesTo, resolved, through_alias, IsRootOf, root, through_source}
use Rattle.wac_types_base.proofs.GraphLemmas.{value_of}
use Rattle.wac_types_base.proofs.Adding.{labelled-some}
use Rattle.wac_types_base.proofs.Slots.{entry_at-is}
use Rattle.wac_types_base.proofs.Standing.{defined_found}
use Rattle.wac_types_base.proofs.Telling.{stated_step, tree_stated, entry_size, defined_node, resource_node, primitive_node, value_source}
use Rattle.wac_types_fit.specs.Trees.{tree_in}

-- the trees in these places
abbrev pub row_in : Collection → List Slot → Row
row_in c xs = trees (row (map (option_map (stated_of c)) xs))

module _ (c : Collection) where
  pub func_node : (f : FuncTypeId) (x : FuncType) → slice_get c.func_types f.index ≡ Some x → f.collection ≡ c.number → item_node c (ItemKind.Func f) ≡ Some (func_entry x)
  unfolding item_node
  func_node f x e h = entry_at-is func_entry c.number c.func_types f.collection f.index x e h

  pub interface_node : (f : InterfaceId) (x : Interface) → slice_get c.interfaces f.index ≡ Some x → f.collection ≡ c.number → item_node c (ItemKind.Instance f) ≡ Some (interface_entry x)
  unfolding item_node
  interface_node f x e h = entry_at-is interface_entry c.number c.interfaces f.collection f.index x e h

  pub world_node : (f : WorldId) (x : World) → slice_get c.worlds f.index ≡ Some x → f.collection ≡ c.number → item_node c (ItemKind.Component f) ≡ Some (world_entry x)
  unfolding item_node
  world_node f x e h = entry_at-is world_entry c.number c.worlds f.collection f.index x e h

  pub module_node : (f : ModuleTypeId) (x : ModuleType) → slice_get c.modules f.index ≡ Some x → f.collection ≡ c.number → item_node c (ItemKind.Module f) ≡ Some (module_entry x)
  unfolding item_node
  module_node f x e h = entry_at-is module_entry c.number c.modules f.collection f.index x e h

module _ (c : Collection) (acyclic : IsAcyclic c) where
  -- the tree of what stands
  pub tree_is : (k : ItemKind) → Stands c k → tree_of c k ≡ Some (tree_in c k)
  unfolding tree_in
  tree_is k stands = tree_stated c acyclic k stands

  pub tree_step : (k : ItemKind) (e : Entry) → item_node c k ≡ Some e → tree_in c k ≡ tree_at e.0 (row_in c e.1)
  unfolding tree_in
  tree_step k e is = ap tree (stated_step c acyclic k e is)

  pub same_tree : (j k : ItemKind) → Stands c j → Stands c k → tree_of c j ≡ tree_of c k → tree_in c j ≡ tree_in c k
  same_tree j k s r e = cc (tree_is j s, tree_is k r, e)

  -- what has another's entry under another label
  labelled_tree : (l : Shape → Shape) (f : Tree → Tree) → ((s : Shape) (r : Row) → tree_at (l s) r ≡ f (tree_at s r)) → (k j : ItemKind) → item_node c k ≡ labelled l (item_node c j) → Stands c k → tree_in c k ≡ f (tree_in c j)
  labelled_tree l f h k j is stands =
      let v = value_of (item_node c k) stands in
      let m = labelled-some l (item_node c j) v.0 (sym is ∙ v.1) in
      tree_step k (l m.0.0, m.0.1) (v.1 ∙ ap Some m.2) ∙ h m.0.0 (row_in c m.0.1) ∙ ap f (sym (tree_step j m.0 m.1))

  labelled_size : (l : Shape → Shape) (k j : ItemKind) → item_node c k ≡ labelled l (item_node c j) → Stands c k → size_of c k ≡ size_of c j
  labelled_size l k j is stands =
      let v = value_of (item_node c k) stands in
      let m = labelled-some l (item_node c j) v.0 (sym is ∙ v.1) in
      entry_size c acyclic k (l m.0.0, m.0.1) (v.1 ∙ ap Some m.2) ∙ sym (entry_size c acyclic j m.0 m.1)

  -- ---- types of things

  pub type_func : (f : FuncTypeId) → Stands c (ItemKind.Ty (TypeKind.Func f)) → tree_in c (ItemKind.Ty (TypeKind.Func f)) ≡ type_item (tree_in c (ItemKind.Func f))
  unfolding item_node
  type_func f s = labelled_tree type_of type_item (λ s r. refl) (ItemKind.Ty (TypeKind.Func f)) (ItemKind.Func f) refl s

  pub type_value : (v : ValueType) → Stands c (ItemKind.Ty (TypeKind.Value v)) → tree_in c (ItemKind.Ty (TypeKind.Value v)) ≡ type_item (tree_in c (ItemKind.Value v))
  unfolding item_node
  type_value v s = labelled_tree type_of type_item (λ s r. refl) (ItemKind.Ty (TypeKind.Value v)) (ItemKind.Value v) refl s

  pub type_interface : (f : InterfaceId) → Stands c (ItemKind.Ty (TypeKind.Interface f)) → tree_in c (ItemKind.Ty (TypeKind.Interface f)) ≡ type_item (tree_in c (ItemKind.Instance f))
  unfolding item_node
  type_interface f s = labelled_tree type_of type_item (λ s r. refl) (ItemKind.Ty (TypeKind.Interface f)) (ItemKind.Instance f) refl s

  pub type_world : (f : WorldId) → Stands c (ItemKind.Ty (TypeKind.World f)) → tree_in c (ItemKind.Ty (TypeKind.World f)) ≡ type_item (tree_in c (ItemKind.Component f))
  unfolding item_node
  type_world f s = labelled_tree type_of type_item (λ s r. refl) (ItemKind.Ty (TypeKind.World f)) (ItemKind.Component f) refl s

  pub type_module : (f : ModuleTypeId) → Stands c (ItemKind.Ty (TypeKind.Module f)) → tree_in c (ItemKind.Ty (TypeKind.Module f)) ≡ type_item (tree_in c (ItemKind.Module f))
  unfolding item_node
  type_module f s = labelled_tree type_of type_item (λ s r. refl) (ItemKind.Ty (TypeKind.Module f)) (ItemKind.Module f) refl s

  pub interface_size : (f : InterfaceId) → Stands c (ItemKind.Ty (TypeKind.Interface f)) → size_of c (ItemKind.Ty (TypeKind.Interface f)) ≡ size_of c (ItemKind.Instance f)
  unfolding item_node
  interface_size f s = labelled_size type_of (ItemKind.Ty (TypeKind.Interface f)) (ItemKind.Instance f) refl s

  pub world_size : (f : WorldId) → Stands c (ItemKind.Ty (TypeKind.World f)) → size_of c (ItemKind.Ty (TypeKind.World f)) ≡ size_of c (ItemKind.Component f)
  unfolding item_node
  world_size f s = labelled_size type_of (ItemKind.Ty (TypeKind.World f)) (ItemKind.Component f) refl s

  -- ---- values and resources

  pub primitive_tree : (p : PrimitiveType) → tree_in c (ItemKind.Value (ValueType.Primitive p)) ≡ rigid (primitive p) end
  primitive_tree p = tree_step (ItemKind.Value (ValueType.Primitive p)) (primitive p, []) (primitive_node c p)

  pub own_tree : (r : ResourceId) → Stands c (ItemKind.Value (ValueType.Own r)) → tree_in c (ItemKind.Value (ValueType.Own r)) ≡ handle_own (tree_in c (ItemKind.Ty (TypeKind.Resource r)))
  unfolding item_node
  own_tree r s = labelled_tree own_of handle_own (λ s r. refl) (ItemKind.Value (ValueType.Own r)) (ItemKind.Ty (TypeKind.Resource r)) refl s

  pub borrow_tree : (r : ResourceId) → Stands c (ItemKind.Value (ValueType.Borrow r)) → tree_in c (ItemKind.Value (ValueType.Borrow r)) ≡ handle_borrow (tree_in c (ItemKind.Ty (TypeKind.Resource r)))
  unfolding item_node
  borrow_tree r s = labelled_tree borrow_of handle_borrow (λ s r. refl) (ItemKind.Value (ValueType.Borrow r)) (ItemKind.Ty (TypeKind.Resource r)) refl s

  pub defined_tree : (d : DefinedTypeId) (x : DefinedType) → slice_get c.defined_types d.index ≡ Some x → d.collection ≡ c.number → tree_in c (ItemKind.Value (ValueType.Defined d)) ≡ tree_at (defined_entry x).0 (row_in c (defined_entry x).1)
  defined_tree d x at own = tree_step (ItemKind.Value (ValueType.Defined d)) (defined_entry x) (defined_node c d x at own)

  pub alias_tree : (d : DefinedTypeId) (t : ValueType) → slice_get c.defined_types d.index ≡ Some (DefinedType.Alias t) → d.collection ≡ c.number → tree_in c (ItemKind.Value (ValueType.Defined d)) ≡ tree_in c (ItemKind.Value t)
  unfolding tree_in
  alias_tree d t at own = defined_tree d (DefinedType.Alias t) at own

  pub resource_tree : (r : ResourceId) (x : Resource) → slice_get c.resources r.index ≡ Some x → r.collection ≡ c.number → tree_in c (ItemKind.Ty (TypeKind.Resource r)) ≡ tree_at (resource_entry x).0 (row_in c (resource_entry x).1)
  resource_tree r x at own = tree_step (ItemKind.Ty (TypeKind.Resource r)) (resource_entry x) (resource_node c r x at own)

  -- a resource that is no alias is its name
  pub root_tree : (r : ResourceId) (x : Resource) → slice_get c.resources r.index ≡ Some x → r.collection ≡ c.number → x.alias ≡ None → tree_in c (ItemKind.Ty (TypeKind.Resource r)) ≡ rigid (resource x.name) end
  root_tree r x at own none = tree_step (ItemKind.Ty (TypeKind.Resource r)) (resource x.name, []) (resource_node c r x at own ∙ ap (λ o. Some (resource_entry_at x.name o)) none)

  pub source_tree : (r : ResourceId) (x : Resource) (b : ResourceAlias) → slice_get c.resources r.index ≡ Some x → r.collection ≡ c.number → x.alias ≡ Some b → tree_in c (ItemKind.Ty (TypeKind.Resource r)) ≡ tree_in c (ItemKind.Ty (TypeKind.Resource b.source))
  unfolding tree_in
  source_tree r x b at own is = tree_step (ItemKind.Ty (TypeKind.Resource r)) (resource_entry_at x.name (Some b)) (resource_node c r x at own ∙ ap (λ o. Some (resource_entry_at x.name o)) is)

  -- ---- what is at the end of aliases

  pub end_no_alias : {v w : ValueType} → ResolvesTo c v w → IsNoAlias c w
  end_no_alias (resolved h) = h
  end_no_alias (through_alias at r) = end_no_alias r

  pub end_smaller : (v w : ValueType) → ResolvesTo c v w → Stands c (ItemKind.Value v) → size_of c (ItemKind.Value w) ≤ size_of c (ItemKind.Value v)
  end_smaller v w (resolved h) s = omega arith
  end_smaller v w (through_alias {d = d} {t = t} at r) s =
      let f = defined_found c d s in
      let k = value_source c acyclic (ValueType.Defined d) d (DefinedType.Alias t) t refl at f.own refl in
      let i = end_smaller t w r k.0 in
      omega (arith, k.1, i)

  pub root_no_alias : {r s : ResourceId} → IsRootOf c r s → (x : Resource) → slice_get c.resources s.index ≡ Some x → x.alias ≡ None
  root_no_alias (root {x = y} at none) x e = let same : y ≡ x = cc (at, e) in ap (λ z. z.alias) (sym same) ∙ none
  root_no_alias (through_source at is r) x e = root_no_alias r x e

  -- ---- functions

  pub func_tree : (f : FuncTypeId) (x : FuncType) → slice_get c.func_types f.index ≡ Some x → f.collection ≡ c.number → tree_in c (ItemKind.Func f) ≡ rigid (func_entry x).0 (row_in c (func_entry x).1)
  func_tree f x at own = tree_step (ItemKind.Func f) (func_entry x) (func_node c f x at own)

-- a defined type that is no alias keeps its label
pub defined_rigid : (x : DefinedType) (r : Row) → ((t : ValueType) → x ≡ DefinedType.Alias t → ⊥) → tree_at (defined_entry x).0 r ≡ rigid (defined_entry x).0 r
defined_rigid (DefinedType.Tuple ts) r h = refl
defined_rigid (DefinedType.List t) r h = refl
defined_rigid (DefinedType.FixedSizeList t n) r h = refl
defined_rigid (DefinedType.Option t) r h = refl
defined_rigid (DefinedType.Result ok err) r h = refl
defined_rigid (DefinedType.Variant v) r h = refl
defined_rigid (DefinedType.Record v) r h = refl
defined_rigid (DefinedType.Flags f) r h = refl
defined_rigid (DefinedType.Enum e) r h = refl
defined_rigid (DefinedType.Alias t) r h = absurd (h t refl)
defined_rigid (DefinedType.Stream o) r h = refl
defined_rigid (DefinedType.Future o) r h = refl

-- ---- instances, components, modules

-- the map of the trees of these items
abbrev pub fields_in : Collection → List (Name × ItemKind) → Fields
fields_in c [] = no_fields
fields_in c (e ∷ es) = put e.0 (tree_in c e.1) (fields_in c es)

fields_all : (c : Collection) (es : List (Name × ItemKind)) → fields (names_of es) (row_in c (items es)) ≡ fields_in c es
unfolding tree_in
fields_all c [] = refl
fields_all c (e ∷ es) = ap (put e.0 (tree_in c e.1)) (fields_all c es)

fields_ahead : (c : Collection) (es : List (Name × ItemKind)) (ys : List Slot) → fields (names_of es) (row_in c (items es ++ ys)) ≡ fields_in c es
unfolding tree_in
fields_ahead c [] ys = refl
fields_ahead c (e ∷ es) ys = ap (put e.0 (tree_in c e.1)) (fields_ahead c es ys)

past_used : (c : Collection) (us : List (Name × UsedType)) (ys : List Slot) → past (use_names us) (row_in c (used us ++ ys)) ≡ row_in c ys
past_used c [] ys = refl
past_used c (u ∷ us) ys = past_used c us ys

past_items : (c : Collection) (es : List (Name × ItemKind)) (ys : List Slot) → past (names_of es) (row_in c (items es ++ ys)) ≡ row_in c ys
past_items c [] ys = refl
past_items c (e ∷ es) ys = past_items c es ys

module _ (c : Collection) (acyclic : IsAcyclic c) where
  pub instance_tree : (id : InterfaceId) (x : Interface) → slice_get c.interfaces id.index ≡ Some x → id.collection ≡ c.number → tree_in c (ItemKind.Instance id) ≡ instance (fields_in c x.exports)
  instance_tree id x at own =
      tree_step c acyclic (ItemKind.Instance id) (interface_entry x) (interface_node c id x at own)
      ∙ ap (λ r. instance (fields (names_of x.exports) r)) (past_used c x.uses (items x.exports))
      ∙ ap instance (fields_all c x.exports)

  pub component_tree : (id : WorldId) (x : World) → slice_get c.worlds id.index ≡ Some x → id.collection ≡ c.number → tree_in c (ItemKind.Component id) ≡ component (fields_in c x.imports) (fields_in c x.exports)
  component_tree id x at own =
      tree_step c acyclic (ItemKind.Component id) (world_entry x) (world_node c id x at own)
      ∙ ap (λ r. component (fields (names_of x.imports) r) (fields (names_of x.exports) (past (names_of x.imports) r))) (past_used c x.uses (items x.imports ++ items x.exports))
      ∙ ap (λ r. component (fields (names_of x.imports) (row_in c (items x.imports ++ items x.exports))) (fields (names_of x.exports) r)) (past_items c x.imports (items x.exports))
      ∙ ap (λ l. component l (fields (names_of x.exports) (row_in c (items x.exports)))) (fields_ahead c x.imports (items x.exports))
      ∙ ap (component (fields_in c x.imports)) (fields_all c x.exports)

  pub module_tree : (id : ModuleTypeId) (x : ModuleType) → slice_get c.modules id.index ≡ Some x → id.collection ≡ c.number → tree_in c (ItemKind.Module id) ≡ core_module (ascending pair_cmp x.imports) (ascending name_cmp x.exports)
  module_tree id x at own = tree_step c acyclic (ItemKind.Module id) (module_entry x) (module_node c id x at own)

-- the tree of an item is that of what is stated of it
pub tree_as_stated : (c : Collection) (k : ItemKind) → tree_in c k ≡ tree (stated_of c k)
unfolding tree_in
tree_as_stated c k = refl
