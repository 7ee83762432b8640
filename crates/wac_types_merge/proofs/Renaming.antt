-- What is no instance has no identifier that could be another.
use Rattle.std.proofs.Common.{◌≡◌, map, Option, Some, None, refl, sym, ap, subst, ◌∙◌}
use Rattle.wac_types_base.specs.declared.item.ItemKind.{ItemKind}
use Rattle.wac_types_base.specs.declared.item.ValueType.{ValueType}
use Rattle.wac_types_base.specs.declared.item.«Type».{«Type» as TypeKind}
use Rattle.wac_types_base.specs.declared.ids.InterfaceId.{InterfaceId}
use Rattle.wac_types_base.specs.declared.defined.DefinedType.{DefinedType}
use Rattle.wac_types_base.specs.declared.defined.ResourceAlias.{ResourceAlias}
use Rattle.wac_types_base.specs.Record.{Collection}
use Rattle.wac_types_base.specs.Entries.{Name}
use Rattle.wac_types_base.specs.Collection.{Shape, Entry, Stands, IsAcyclic, item_node, labelled, type_of, borrow_of, own_of, defined_entry, resource_entry, resource_entry_at, func_entry, world_entry, module_entry}
use Rattle.std.specs.Option.{option_map}
use Rattle.wac_types_base.specs.Graph.{node}
use Rattle.wac_types_base.specs.Stated.{row, stated_of}
use Rattle.wac_types_base.proofs.GraphLemmas.{value_of}
use Rattle.wac_types_base.proofs.Adding.{labelled-some}
use Rattle.wac_types_base.proofs.Slots.{entry_at-is}
use Rattle.wac_types_base.proofs.Standing.{defined_found, resource_found, func_found, world_found, module_found}
use Rattle.wac_types_base.proofs.Telling.{stated_step}
use Rattle.wac_types_merge.specs.Interfaces.{renamed_shape, renamed}
use Rattle.wac_types_merge.specs.Imports.{IsIdentified}

-- a label that is no interface's
Keeps : Name → Option Entry → Type 0
Keeps n o = (e : Entry) → o ≡ Some e → renamed_shape n e.0 ≡ e.0

keeps : (n : Name) (o : Option Entry) (e : Entry) → o ≡ Some e → renamed_shape n e.0 ≡ e.0 → Keeps n o
unfolding Keeps
keeps n o e is same f at =
    let here : e ≡ f = cc (is, at) in
    subst (λ (x : Entry). renamed_shape n x.0 ≡ x.0) here same

keeps_labelled : (n : Name) (l : Shape → Shape) (o : Option Entry) → ((s : Shape) → renamed_shape n (l s) ≡ l s) → Keeps n (labelled l o)
unfolding Keeps
keeps_labelled n l o h e at =
    let y = labelled-some l o e at in
    ap (λ (x : Entry). renamed_shape n x.0) y.2 ∙ h y.0.0 ∙ sym (ap (λ (x : Entry). x.0) y.2)

defined_keeps : (n : Name) (x : DefinedType) → renamed_shape n (defined_entry x).0 ≡ (defined_entry x).0
defined_keeps n (DefinedType.Tuple ts) = refl
defined_keeps n (DefinedType.List t) = refl
defined_keeps n (DefinedType.FixedSizeList t k) = refl
defined_keeps n (DefinedType.Option t) = refl
defined_keeps n (DefinedType.Result ok err) = refl
defined_keeps n (DefinedType.Variant v) = refl
defined_keeps n (DefinedType.Record r) = refl
defined_keeps n (DefinedType.Flags f) = refl
defined_keeps n (DefinedType.Enum e) = refl
defined_keeps n (DefinedType.Alias t) = refl
defined_keeps n (DefinedType.Stream o) = refl
defined_keeps n (DefinedType.Future o) = refl

resource_keeps : (n m : Name) (a : Option ResourceAlias) → renamed_shape n (resource_entry_at m a).0 ≡ (resource_entry_at m a).0
resource_keeps n m None = refl
resource_keeps n m (Some a) = refl

module _ (c : Collection) (n : Name) where
  value_keeps : (v : ValueType) → Stands c (ItemKind.Value v) → Keeps n (item_node c (ItemKind.Value v))
  unfolding item_node
  value_keeps (ValueType.Primitive p) stands = keeps n _ _ refl refl
  value_keeps (ValueType.Borrow r) stands = keeps_labelled n borrow_of _ (λ s. refl)
  value_keeps (ValueType.Own r) stands = keeps_labelled n own_of _ (λ s. refl)
  value_keeps (ValueType.Defined i) stands =
      let f = defined_found c i stands in
      keeps n _ (defined_entry f.value) (entry_at-is defined_entry c.number c.defined_types i.collection i.index f.value f.at f.own) (defined_keeps n f.value)

  type_keeps : (t : TypeKind) → Stands c (ItemKind.Ty t) → Keeps n (item_node c (ItemKind.Ty t))
  unfolding item_node
  type_keeps (TypeKind.Resource r) stands =
      let f = resource_found c r stands in
      keeps n _ (resource_entry f.value) (entry_at-is resource_entry c.number c.resources r.collection r.index f.value f.at f.own) (resource_keeps n f.value.name f.value.alias)
  type_keeps (TypeKind.Func i) stands = keeps_labelled n type_of _ (λ s. refl)
  type_keeps (TypeKind.Value v) stands = keeps_labelled n type_of _ (λ s. refl)
  type_keeps (TypeKind.Interface i) stands = keeps_labelled n type_of _ (λ s. refl)
  type_keeps (TypeKind.World i) stands = keeps_labelled n type_of _ (λ s. refl)
  type_keeps (TypeKind.Module i) stands = keeps_labelled n type_of _ (λ s. refl)

  kind_keeps : (k : ItemKind) → Stands c k → ((i : InterfaceId) → k ≡ ItemKind.Instance i → ⊥) → Keeps n (item_node c k)
  unfolding item_node
  kind_keeps (ItemKind.Ty t) stands other = type_keeps t stands
  kind_keeps (ItemKind.Func i) stands other =
      let f = func_found c i stands in
      keeps n _ (func_entry f.value) (entry_at-is func_entry c.number c.func_types i.collection i.index f.value f.at f.own) refl
  kind_keeps (ItemKind.Instance i) stands other = absurd (other i refl)
  kind_keeps (ItemKind.Component i) stands other =
      let f = world_found c i stands in
      keeps n _ (world_entry f.value) (entry_at-is world_entry c.number c.worlds i.collection i.index f.value f.at f.own) refl
  kind_keeps (ItemKind.Module i) stands other =
      let f = module_found c i stands in
      keeps n _ (module_entry f.value) (entry_at-is module_entry c.number c.modules i.collection i.index f.value f.at f.own) refl
  kind_keeps (ItemKind.Value v) stands other = value_keeps v stands

  -- what is no instance is the same under any identifier
  pub same_renamed : IsAcyclic c → (k : ItemKind) → Stands c k → ((i : InterfaceId) → k ≡ ItemKind.Instance i → ⊥) → stated_of c k ≡ renamed n (stated_of c k)
  unfolding Keeps
  same_renamed acyclic k stands other =
      let e = value_of _ stands in
      let is = stated_step c acyclic k e.0 e.1 in
      is ∙ ap (λ s. node s (row (map (option_map (stated_of c)) e.0.1))) (sym (kind_keeps k stands other e.0 e.1)) ∙ ap (renamed n) (sym is)

pub identified_other : (c : Collection) (k : ItemKind) (n : Name) → ((i : InterfaceId) → k ≡ ItemKind.Instance i → ⊥) → IsIdentified c k n
identified_other c (ItemKind.Ty t) n other = tt
identified_other c (ItemKind.Func i) n other = tt
identified_other c (ItemKind.Instance i) n other = absurd (other i refl)
identified_other c (ItemKind.Component i) n other = tt
identified_other c (ItemKind.Module i) n other = tt
identified_other c (ItemKind.Value v) n other = tt
