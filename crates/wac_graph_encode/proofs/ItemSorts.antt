-- What fits an item is of its sort.
use Rattle.std.proofs.Common.{◌≡◌, ℕ, zero, suc, ◌<◌, slice_get, Option, Some, None, refl, sym, ap, subst, ◌∙◌, arith}
use Rattle.wac_types_base.specs.declared.item.ItemKind.{ItemKind}
use Rattle.wac_types_base.specs.declared.item.ValueType.{ValueType}
use Rattle.wac_types_base.specs.declared.item.«Type».{«Type» as TypeKind}
use Rattle.wac_types_base.specs.declared.defined.DefinedType.{DefinedType}
use Rattle.wac_types_base.specs.declared.ids.DefinedTypeId.{DefinedTypeId}
use Rattle.wac_types_base.specs.declared.ids.WorldId.{WorldId}
use Rattle.wac_types_base.specs.Entries.{Name, value_at}
use Rattle.wac_types_base.specs.Record.{Collection}
use Rattle.wac_types_base.specs.Collection.{Shape, func, resource, Stands, IsAcyclic, size_of}
use Rattle.wac_types_base.specs.Tree.{Tree, rigid, instance, component, core_module, handle_own, handle_borrow, type_item}
use Rattle.wac_types_base.specs.Fits.{Fits, rigid_fits, own_fits, borrow_fits, instance_fits, component_fits, module_fits, type_fits}
use Rattle.wac_types_base.proofs.Slots.{slots_defined}
use Rattle.wac_types_base.proofs.Walking.{child_smaller}
use Rattle.wac_types_base.proofs.Standing.{defined_found, func_found, interface_found, world_found, module_found}
use Rattle.wac_types_fit.specs.Trees.{tree_in}
use Rattle.wac_types_fit.proofs.Unfolded as unfolded
use Rattle.wac_graph_bytes.specs.declared.value.Sort.{Sort}
use Rattle.wac_graph_bytes.specs.declared.value.Sort.TheVariants as sort
use Rattle.wac_graph_core.proofs.Items.{import_stands}
use Rattle.wac_graph_scopes.specs.Items.{sort_of}
use Rattle.wac_types_parts.specs.Parts.{imports_of}
use Rattle.wac_types_parts.proofs.PartLaws.{imports_there}
use Rattle.wac_types_fit.proofs.ItemKinds.{resource_is}

abbrev shape_sort : Shape → Option Sort
shape_sort (func ns a) = Some sort.Func
shape_sort (resource n) = Some sort.Ty
shape_sort s = None

-- the sort of an item with that tree
abbrev tree_sort : Tree → Option Sort
tree_sort (rigid s r) = shape_sort s
tree_sort (instance xs) = Some sort.Instance
tree_sort (component is es) = Some sort.Component
tree_sort (core_module is es) = Some sort.Module
tree_sort (type_item t) = Some sort.Ty
tree_sort (handle_own t) = None
tree_sort (handle_borrow t) = None

same_sort : {t u : Tree} → Fits t u → tree_sort t ≡ tree_sort u
same_sort rigid_fits = refl
same_sort own_fits = refl
same_sort borrow_fits = refl
same_sort (instance_fits f) = refl
same_sort (component_fits f g) = refl
same_sort (module_fits f g) = refl
same_sort (type_fits f) = refl

module _ (c : Collection) (acyclic : IsAcyclic c) where
  -- ---- a value has none

  value_by_entry : (d : DefinedTypeId) (x : DefinedType) → slice_get c.defined_types d.index ≡ Some x → d.collection ≡ c.number → Stands c (ItemKind.Value (ValueType.Defined d))
      → ((v : ValueType) → Stands c (ItemKind.Value v) → size_of c (ItemKind.Value v) < size_of c (ItemKind.Value (ValueType.Defined d)) → tree_sort (tree_in c (ItemKind.Value v)) ≡ None)
      → tree_sort (tree_in c (ItemKind.Value (ValueType.Defined d))) ≡ None
  value_by_entry d (DefinedType.Alias t) at own s h =
      let child = child_smaller c acyclic (ItemKind.Value (ValueType.Defined d)) s 0 (ItemKind.Value t) (ap (λ l. slice_get l 0) (slots_defined c d (DefinedType.Alias t) at own)) in
      ap tree_sort (unfolded.alias_tree c acyclic d t at own) ∙ h t child.0 child.1
  value_by_entry d (DefinedType.Tuple ts) at own s h = ap tree_sort (unfolded.defined_tree c acyclic d (DefinedType.Tuple ts) at own)
  value_by_entry d (DefinedType.List t) at own s h = ap tree_sort (unfolded.defined_tree c acyclic d (DefinedType.List t) at own)
  value_by_entry d (DefinedType.FixedSizeList t m) at own s h = ap tree_sort (unfolded.defined_tree c acyclic d (DefinedType.FixedSizeList t m) at own)
  value_by_entry d (DefinedType.Option t) at own s h = ap tree_sort (unfolded.defined_tree c acyclic d (DefinedType.Option t) at own)
  value_by_entry d (DefinedType.Result ok err) at own s h = ap tree_sort (unfolded.defined_tree c acyclic d (DefinedType.Result ok err) at own)
  value_by_entry d (DefinedType.Variant v) at own s h = ap tree_sort (unfolded.defined_tree c acyclic d (DefinedType.Variant v) at own)
  value_by_entry d (DefinedType.Record v) at own s h = ap tree_sort (unfolded.defined_tree c acyclic d (DefinedType.Record v) at own)
  value_by_entry d (DefinedType.Flags v) at own s h = ap tree_sort (unfolded.defined_tree c acyclic d (DefinedType.Flags v) at own)
  value_by_entry d (DefinedType.Enum v) at own s h = ap tree_sort (unfolded.defined_tree c acyclic d (DefinedType.Enum v) at own)
  value_by_entry d (DefinedType.Stream o) at own s h = ap tree_sort (unfolded.defined_tree c acyclic d (DefinedType.Stream o) at own)
  value_by_entry d (DefinedType.Future o) at own s h = ap tree_sort (unfolded.defined_tree c acyclic d (DefinedType.Future o) at own)

  value_by_size : (n : ℕ) (v : ValueType) → size_of c (ItemKind.Value v) < n → Stands c (ItemKind.Value v) → tree_sort (tree_in c (ItemKind.Value v)) ≡ None
  value_by_size zero v lt s = absurd (omega arith)
  value_by_size (suc n) (ValueType.Primitive p) lt s = ap tree_sort (unfolded.primitive_tree c acyclic p)
  value_by_size (suc n) (ValueType.Own r) lt s = ap tree_sort (unfolded.own_tree c acyclic r s)
  value_by_size (suc n) (ValueType.Borrow r) lt s = ap tree_sort (unfolded.borrow_tree c acyclic r s)
  value_by_size (suc n) (ValueType.Defined d) lt s =
      let f = defined_found c d s in
      value_by_entry d f.value f.at f.own s (λ v p q. value_by_size n v (omega arith) p)

  -- ---- each item

  type_is_sorted : (t : TypeKind) → Stands c (ItemKind.Ty t) → tree_sort (tree_in c (ItemKind.Ty t)) ≡ Some sort.Ty
  type_is_sorted (TypeKind.Resource r) s = ap tree_sort ((resource_is c acyclic r s).1)
  type_is_sorted (TypeKind.Func i) s = ap tree_sort (unfolded.type_func c acyclic i s)
  type_is_sorted (TypeKind.Value v) s = ap tree_sort (unfolded.type_value c acyclic v s)
  type_is_sorted (TypeKind.Interface i) s = ap tree_sort (unfolded.type_interface c acyclic i s)
  type_is_sorted (TypeKind.World w) s = ap tree_sort (unfolded.type_world c acyclic w s)
  type_is_sorted (TypeKind.Module m) s = ap tree_sort (unfolded.type_module c acyclic m s)

  pub is_sorted : (k : ItemKind) → Stands c k → tree_sort (tree_in c k) ≡ sort_of k
  is_sorted (ItemKind.Ty t) s = type_is_sorted t s
  is_sorted (ItemKind.Func i) s = let x = func_found c i s in ap tree_sort (unfolded.func_tree c acyclic i x.value x.at x.own)
  is_sorted (ItemKind.Instance i) s = let x = interface_found c i s in ap tree_sort (unfolded.instance_tree c acyclic i x.value x.at x.own)
  is_sorted (ItemKind.Component w) s = let x = world_found c w s in ap tree_sort (unfolded.component_tree c acyclic w x.value x.at x.own)
  is_sorted (ItemKind.Module m) s = let x = module_found c m s in ap tree_sort (unfolded.module_tree c acyclic m x.value x.at x.own)
  is_sorted (ItemKind.Value v) s = value_by_size (suc (size_of c (ItemKind.Value v))) v (omega arith) s

-- what fits another item is of its sort
pub fits_sort : (c : Collection) → IsAcyclic c → (d : Collection) → IsAcyclic d → (k j : ItemKind) (s : Sort) → Stands c k → Stands d j → sort_of k ≡ Some s → Fits (tree_in c k) (tree_in d j) → sort_of j ≡ Some s
fits_sort c a d b k j s stands there is fits = sym (is_sorted d b j there) ∙ sym (same_sort fits) ∙ is_sorted c a k stands ∙ is

pub import_there : (c : Collection) → IsAcyclic c → (w : WorldId) → Stands c (ItemKind.Component w) → (n : Name) (k : ItemKind) → value_at (imports_of c w) n ≡ Some k → Stands c k
import_there c acyclic w stands n k at =
    let f = world_found c w stands in
    import_stands c w f.value n k acyclic stands f.at f.own (subst (λ l. value_at l n ≡ Some k) (imports_there c w f.value f.at f.own) at)
