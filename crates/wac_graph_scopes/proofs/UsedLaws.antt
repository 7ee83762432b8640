-- Type items by their indexes.
use Rattle.std.proofs.Common.{◌≡◌, ℕ, List, ◌∷◌, Bool, true, false, Some, refl, sym, ap, ◌∙◌, subst}
use Rattle.wac_types_base.specs.declared.ids.ResourceId.{ResourceId}
use Rattle.wac_types_base.specs.declared.ids.DefinedTypeId.{DefinedTypeId}
use Rattle.wac_types_base.specs.declared.ids.FuncTypeId.{FuncTypeId}
use Rattle.wac_types_base.specs.declared.item.ValueType.{ValueType}
use Rattle.wac_types_base.specs.declared.item.«Type».{«Type» as TypeKind}
use Rattle.wac_types_base.specs.declared.item.ItemKind.{ItemKind}
use Rattle.wac_types_base.specs.Record.{Collection}
use Rattle.wac_types_base.specs.Entries.{Name}
use Rattle.wac_types_base.specs.Collection.{Stands, IsAcyclic, resource}
use Rattle.wac_types_base.specs.Stated.{Kind, IsResource}
use Rattle.wac_types_base.specs.Fits.{Fits}
use Rattle.wac_types_fit.proofs.TreeLaws.{Fits-refl}
use Rattle.wac_types_base.specs.Tree.{Tree, rigid, instance, component, core_module, handle_own, handle_borrow, type_item, end}
use Rattle.wac_types_base.specs.Resolving.{IsNoAlias}
use Rattle.wac_types_base.proofs.Standing.{defined_found}
use Rattle.wac_types_base.proofs.Slots.{stands_typed_value}
use Rattle.wac_types_base.proofs.Telling.{item_kind}
use Rattle.wac_types_fit.specs.Trees.{tree_in, Fit}
use Rattle.wac_types_fit.specs.Checking.{IsFlat}
use Rattle.wac_types_fit.proofs.Unfolded.{type_value, primitive_tree, own_tree, borrow_tree}
use Rattle.wac_types_fit.proofs.ItemKinds.{resource_is, tree_kind, is_type, fits_flat, flat_is, kind_is, flat_fits}
use Rattle.wac_types_base.specs.declared.item.PrimitiveType.{PrimitiveType}
use Rattle.wac_graph_bytes.specs.declared.value.Sort.TheVariants as sort
use Rattle.wac_graph_bytes.specs.declared.value.ValueType.TheVariants.{Primitive, Index}
use Rattle.wac_graph_bytes.specs.declared.entry.DefinedType.TheVariants as code
use Rattle.wac_graph_bytes.specs.Views.{defined_view}
use Rattle.wac_graph_bytes.specs.Typing.{Worlds, Scope, Inside, defined, item_of, type_in, type_at, value_of, as_value, some_if, value_shape}
use Rattle.wac_graph_bytes.proofs.Steps.{bind_some}
use Rattle.wac_graph_bytes.proofs.Looked.{type_in_item}
use Rattle.wac_graph_scopes.specs.declared.scope.TypeScope.{TypeScope}
use Rattle.wac_types_parts.specs.Parts.{IsUsedKind, IsFresh}
use Rattle.wac_graph_scopes.specs.Scopes.{IsScope, AnswersType, AnswersValue}
use Rattle.wac_graph_scopes.proofs.ScopeLaws.{Goes-refl, Goes-trans}
use Rattle.wac_graph_scopes.specs.Items.{IsTypeItem, IsNotable, sort_of}
use Rattle.wac_graph_scopes.specs.Forms.{row_of}
use Rattle.wac_graph_scopes.proofs.FormLaws.{entry_is_value, index_reads, trees_by}
use Rattle.wac_graph_scopes.proofs.ValueLaws.{defined_tree_is, not_alias, value_remembered}
use Rattle.wac_types_base.specs.Collection.{defined_entry}

-- ---- trees of types

module _ (c : Collection) (acyclic : IsAcyclic c) where
  -- the type that a resource is, as an item
  pub resource_type : (r : ResourceId) → Stands c (ItemKind.Ty (TypeKind.Resource r)) → type_in (tree_in c (ItemKind.Ty (TypeKind.Resource r))) ≡ Some (tree_in c (ItemKind.Ty (TypeKind.Resource r)))
  resource_type r s = let n = resource_is c acyclic r s in ap type_in n.1 ∙ ap Some (sym n.1)

  -- the tree of a defined type that is no alias is one of a value
  pub defined_value : (d : DefinedTypeId) → Stands c (ItemKind.Value (ValueType.Defined d)) → IsNoAlias c (ValueType.Defined d)
      → as_value (tree_in c (ItemKind.Value (ValueType.Defined d))) ≡ Some (tree_in c (ItemKind.Value (ValueType.Defined d)))
  defined_value d s n =
      let f = defined_found c d s in
      let same = defined_tree_is c acyclic d f.value n f.at f.own in
      ap as_value same ∙ entry_is_value f.value (row_of (trees_by (tree_in c) (defined_entry f.value).1)) (not_alias c d f.value n f.at) ∙ ap Some (sym same)

  -- likewise of any value type that is no alias
  pub end_value : (v : ValueType) → Stands c (ItemKind.Value v) → IsNoAlias c v → as_value (tree_in c (ItemKind.Value v)) ≡ Some (tree_in c (ItemKind.Value v))
  end_value (ValueType.Primitive p) s n = ap as_value (primitive_tree c acyclic p) ∙ ap Some (sym (primitive_tree c acyclic p))
  end_value (ValueType.Own r) s n = ap as_value (own_tree c acyclic r s) ∙ ap Some (sym (own_tree c acyclic r s))
  end_value (ValueType.Borrow r) s n = ap as_value (borrow_tree c acyclic r s) ∙ ap Some (sym (borrow_tree c acyclic r s))
  end_value (ValueType.Defined d) s n = defined_value d s n

-- a type that is no resource, as an item
pub plain_item : (t : Tree) → (tree_kind t ≡ IsResource → ⊥) → item_of t ≡ type_item t
plain_item (rigid (resource n) r) h = absurd (h refl)
plain_item (rigid _ r) h = refl
plain_item (instance xs) h = refl
plain_item (component is es) h = refl
plain_item (core_module is es) h = refl
plain_item (handle_own t) h = refl
plain_item (handle_borrow t) h = refl
plain_item (type_item t) h = refl

module _ (c : Collection) (acyclic : IsAcyclic c) where
  pub value_item : (v : ValueType) → Stands c (ItemKind.Value v) → item_of (tree_in c (ItemKind.Value v)) ≡ type_item (tree_in c (ItemKind.Value v))
  value_item v s = plain_item (tree_in c (ItemKind.Value v)) (λ e. absurd (cc (e, kind_is c acyclic (ItemKind.Value v) s)))

  pub func_item : (f : FuncTypeId) → Stands c (ItemKind.Func f) → item_of (tree_in c (ItemKind.Func f)) ≡ type_item (tree_in c (ItemKind.Func f))
  func_item f s = plain_item (tree_in c (ItemKind.Func f)) (λ e. absurd (cc (e, kind_is c acyclic (ItemKind.Func f) s)))

  -- the type that a resource or a value type is
  pub used_type : (k : ItemKind) → Stands c k → IsUsedKind k → (x : Tree) × (type_in (tree_in c k) ≡ Some x) × (item_of x ≡ tree_in c k)
  used_type (ItemKind.Ty (TypeKind.Resource r)) s u = let n = resource_is c acyclic r s in (rigid (resource n.0) end, ap type_in n.1, sym n.1)
  used_type (ItemKind.Ty (TypeKind.Value v)) s u =
      let t = type_value c acyclic v s in
      (tree_in c (ItemKind.Value v), ap type_in t, value_item v (stands_typed_value c v s) ∙ sym t)
  used_type (ItemKind.Ty (TypeKind.Func f)) s u = absurd u
  used_type (ItemKind.Ty (TypeKind.Interface f)) s u = absurd u
  used_type (ItemKind.Ty (TypeKind.World f)) s u = absurd u
  used_type (ItemKind.Ty (TypeKind.Module f)) s u = absurd u
  used_type (ItemKind.Func f) s u = absurd u
  used_type (ItemKind.Instance f) s u = absurd u
  used_type (ItemKind.Component f) s u = absurd u
  used_type (ItemKind.Module f) s u = absurd u
  used_type (ItemKind.Value v) s u = absurd u

-- ---- of resources and value types only equal ones fit

used_flat : (k : ItemKind) → IsUsedKind k → IsFlat k
used_flat (ItemKind.Ty (TypeKind.Resource r)) u = tt
used_flat (ItemKind.Ty (TypeKind.Value v)) u = tt
used_flat (ItemKind.Ty (TypeKind.Func f)) u = absurd u
used_flat (ItemKind.Ty (TypeKind.Interface f)) u = absurd u
used_flat (ItemKind.Ty (TypeKind.World f)) u = absurd u
used_flat (ItemKind.Ty (TypeKind.Module f)) u = absurd u
used_flat (ItemKind.Func f) u = absurd u
used_flat (ItemKind.Instance f) u = absurd u
used_flat (ItemKind.Component f) u = absurd u
used_flat (ItemKind.Module f) u = absurd u
used_flat (ItemKind.Value v) u = absurd u

module _ (c : Collection) (acyclic : IsAcyclic c) (j k : ItemKind) where
  pub used_fits : IsUsedKind j → Stands c j → Fit c j c k → tree_in c j ≡ tree_in c k
  used_fits u s f = fits_flat (tree_in c j) (tree_in c k) (flat_is c acyclic j (used_flat j u) s) f

  pub fits_used : IsUsedKind k → Stands c k → Fit c j c k → tree_in c j ≡ tree_in c k
  fits_used u s f = flat_fits (tree_in c j) (tree_in c k) (flat_is c acyclic k (used_flat k u) s) f

pub same_fits : (c : Collection) (j k : ItemKind) → tree_in c j ≡ tree_in c k → Fit c j c k
same_fits c j k e = subst (λ (t : Tree). Fits (tree_in c j) t) e (Fits-refl (tree_in c j))

-- ---- the sort of a type

-- what has the tree of a type item is one
type_kind : (k : ItemKind) (s : Kind) → is_type s ≡ true → item_kind k ≡ s → sort_of k ≡ Some sort.Ty
type_kind (ItemKind.Ty t) s h e = refl
type_kind (ItemKind.Func f) s h e = absurd (cc (ap is_type e, h))
type_kind (ItemKind.Instance f) s h e = absurd (cc (ap is_type e, h))
type_kind (ItemKind.Component f) s h e = absurd (cc (ap is_type e, h))
type_kind (ItemKind.Module f) s h e = absurd (cc (ap is_type e, h))
type_kind (ItemKind.Value f) s h e = absurd (cc (ap is_type e, h))

used_is_type : (k : ItemKind) → IsUsedKind k → is_type (item_kind k) ≡ true
used_is_type (ItemKind.Ty (TypeKind.Resource r)) u = refl
used_is_type (ItemKind.Ty (TypeKind.Value v)) u = refl
used_is_type (ItemKind.Ty (TypeKind.Func f)) u = absurd u
used_is_type (ItemKind.Ty (TypeKind.Interface f)) u = absurd u
used_is_type (ItemKind.Ty (TypeKind.World f)) u = absurd u
used_is_type (ItemKind.Ty (TypeKind.Module f)) u = absurd u
used_is_type (ItemKind.Func f) u = absurd u
used_is_type (ItemKind.Instance f) u = absurd u
used_is_type (ItemKind.Component f) u = absurd u
used_is_type (ItemKind.Module f) u = absurd u
used_is_type (ItemKind.Value f) u = absurd u

module _ (c : Collection) (acyclic : IsAcyclic c) where
  -- the same as a used type
  pub sorted_used : (item kind : ItemKind) → IsUsedKind item → Stands c item → Stands c kind → tree_in c item ≡ tree_in c kind → sort_of kind ≡ Some sort.Ty
  sorted_used item kind used s r same =
      type_kind kind (item_kind item) (used_is_type item used) (sym (kind_is c acyclic kind r) ∙ ap tree_kind (sym same) ∙ kind_is c acyclic item s)

  pub sorted_fresh : (n : Name) (kind : ItemKind) → IsFresh c n kind → sort_of kind ≡ Some sort.Ty
  sorted_fresh n kind f = type_kind kind IsResource refl (sym (kind_is c acyclic kind f.0) ∙ ap tree_kind f.1)

-- ---- indexes

pub item_same : (w : Worlds) (ss : List Scope) (depth : ℕ) (t u : Tree) (k : ℕ) → t ≡ u → IsTypeItem w ss depth t k → IsTypeItem w ss depth u k
item_same w ss depth t u k e a = record { there = a.there; item = a.item ∙ e; reads = a.reads }

-- what an index stands for can be remembered
pub notable : (w : Worlds) (c : Collection) (ss : List Scope) (kind : ItemKind) (k : ℕ) → Stands c kind → IsTypeItem w ss 0 (tree_in c kind) k → IsNotable w c ss kind k
notable w c ss (ItemKind.Ty t) k s a = (s, a.reads ∙ sym (ap type_in (sym a.item) ∙ type_in_item a.there))
notable w c ss (ItemKind.Func f) k s a = tt
notable w c ss (ItemKind.Instance f) k s a = tt
notable w c ss (ItemKind.Component f) k s a = tt
notable w c ss (ItemKind.Module f) k s a = tt
notable w c ss (ItemKind.Value f) k s a = tt

some_if_is : (b : Bool) (x t : Tree) → some_if b x ≡ Some t → x ≡ t
some_if_is true x t e = cc
some_if_is false x t e = absurd (cc e)

value_is : (x t : Tree) → as_value x ≡ Some t → x ≡ t
value_is (rigid s r) t e = some_if_is (value_shape s) (rigid s r) t e
value_is (handle_own x) t e = cc
value_is (handle_borrow x) t e = cc
value_is (instance xs) t e = absurd (cc e)
value_is (component is es) t e = absurd (cc e)
value_is (core_module is es) t e = absurd (cc e)
value_is (type_item x) t e = absurd (cc e)

-- an index that is a value type is the type's
pub type_of_value : (w : Worlds) (ss : List Scope) (k : ℕ) (t : Tree) → value_of w ss (Index k) ≡ Some t → type_at w ss k ≡ Some t
type_of_value w ss k t e = let b = bind_some (type_at w ss k) as_value t e in b.1 ∙ ap Some (value_is b.0 t b.2)

-- ---- answers

module _ (w : Worlds) (c : Collection) (outer : List Scope) (i : Inside) where
  pub type_answered : (t : Tree) (s : TypeScope) (k : ℕ) → AnswersValue w c outer i t s (Index k) → AnswersType w c outer i t s k
  type_answered t s k a = record { after = a.after; goes = a.goes; index = type_of_value w (a.after.here ∷ outer) k t a.value }

  pub type_of_tree : (t u : Tree) (s : TypeScope) (k : ℕ) → t ≡ u → AnswersType w c outer i t s k → AnswersType w c outer i u s k
  type_of_tree t u s k e a = record { after = a.after; goes = a.goes; index = a.index ∙ ap Some e }

  -- a primitive type gets an entry
  pub primitive_defined : (t : Tree) (p : PrimitiveType) (s u : TypeScope) (k : ℕ) → AnswersValue w c outer i t s (Primitive p)
      → ((j : Inside) (x : Tree) → IsScope w c outer j s → defined w (j.here ∷ outer) (defined_view (code.Primitive p)) ≡ Some x → AnswersType w c outer j x u k)
      → AnswersType w c outer i t u k
  primitive_defined t p s u k a defines =
      let b = defines a.after t a.goes.stands a.value in
      record { after = b.after; goes = Goes-trans w c outer i a.after b.after s u a.goes b.goes; index = b.index }

  -- what stands already
  pub type_there : (t : Tree) (s : TypeScope) (k : ℕ) → IsScope w c outer i s → value_of w (i.here ∷ outer) (Index k) ≡ Some t → AnswersType w c outer i t s k
  type_there t s k h e = record { after = i; goes = Goes-refl w c outer i s h; index = type_of_value w (i.here ∷ outer) k t e }

  -- and it is remembered
  pub type_remembered : (t : Tree) (s u : TypeScope) (k : ℕ) → AnswersValue w c outer i t s (Index k)
      → ((j : Inside) → IsScope w c outer j s → value_of w (j.here ∷ outer) (Index k) ≡ Some t → IsScope w c outer j u)
      → AnswersType w c outer i t u k
  type_remembered t s u k a remembers = type_answered t u k (value_remembered w c outer i t s u k a remembers)

-- the index of an item whose type is at the end of these aliases, as a value type
pub item_value : (w : Worlds) (c : Collection) (acyclic : IsAcyclic c) (ss : List Scope) (last v : ValueType) (k : ℕ) → Stands c (ItemKind.Value last) → IsNoAlias c last
    → tree_in c (ItemKind.Value last) ≡ tree_in c (ItemKind.Value v) → type_at w ss k ≡ Some (tree_in c (ItemKind.Value v)) → value_of w ss (Index k) ≡ Some (tree_in c (ItemKind.Value v))
item_value w c acyclic ss last v k s n same e = index_reads w ss k (tree_in c (ItemKind.Value v)) (ap as_value (sym same) ∙ end_value c acyclic last s n ∙ ap Some same) e
