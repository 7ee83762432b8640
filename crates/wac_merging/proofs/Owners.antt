-- The owners of the resources that an item reaches are those of what it states.
use Rattle.std.proofs.Common.{◌≡◌, List, [], ◌∷◌, ◌++◌, Option, Some, None, refl, sym, ap, subst, ◌∙◌, inl, inr}
use Rattle.std.specs.Prelude.{◌⊎◌}
use Rattle.std.specs.Option.{option_map}
use Rattle.std.proofs.lemmas.Option.{none-some}
use Rattle.wac_types_base.specs.declared.item.ValueType.{ValueType}
use Rattle.wac_types_base.specs.declared.item.«Type».{«Type» as TypeKind}
use Rattle.wac_types_base.specs.declared.item.ItemKind.{ItemKind}
use Rattle.wac_types_base.specs.declared.ids.InterfaceId.{InterfaceId}
use Rattle.wac_types_base.specs.declared.ids.WorldId.{WorldId}
use Rattle.wac_types_base.specs.declared.ids.ResourceId.{ResourceId}
use Rattle.wac_types_base.specs.declared.ids.FuncTypeId.{FuncTypeId}
use Rattle.wac_types_base.specs.declared.ids.ModuleTypeId.{ModuleTypeId}
use Rattle.wac_types_base.specs.declared.defined.DefinedType.{DefinedType}
use Rattle.wac_types_base.specs.declared.defined.ResourceAlias.{ResourceAlias}
use Rattle.wac_types_base.specs.Record.{Collection}
use Rattle.wac_types_base.specs.Graph.{Among}
use Rattle.wac_types_base.specs.Entries.{Name}
use Rattle.wac_types_base.specs.Reaching.{Reaches}
use Rattle.wac_types_base.specs.Collection.{Shape, Slot, Stands, IsAcyclic, item_node, labelled, primitive, resource, resource_alias, type_of, borrow_of, own_of, defined_entry, resource_entry, resource_entry_at, func_entry, interface_entry, world_entry, module_entry}
use Rattle.wac_types_base.specs.Stated.{Stated, stated_of}
use Rattle.wac_types_base.proofs.Adding.{Among-left, Among-right}
use Rattle.wac_types_base.proofs.Slots.{entry_at-is, stands_borrow, stands_own, stands_typed_func, stands_typed_value, stands_typed_interface, stands_typed_world, stands_typed_module}
use Rattle.wac_types_base.proofs.Standing.{func_found, resource_found, defined_found, interface_found, world_found, module_found}
use Rattle.wac_types_merge.specs.Families.{owner_of, owner_in, owner}
use Rattle.wac_composition.specs.Merging.{gathered, owners_at, owners}
use Rattle.wac_composition.proofs.Clashing.{among_append}
use Rattle.wac_merging.proofs.Folding.{found_in, Says, Step, labelled_step, reaches_has, has_reaches}

module _ (c : Collection) where
  abbrev interface_stated : InterfaceId → Stated
  interface_stated i = stated_of c (ItemKind.Instance i)

  abbrev found : List Slot → List (Option (Stated × List Stated))
  found = found_in owners_at c

  -- y is what the owner o states
  abbrev pub Owns : Option InterfaceId → Stated → Type 0
  Owns w y = (o : InterfaceId) × (w ≡ Some o) × (y ≡ interface_stated o)

  -- y is what the owner of the item states
  abbrev pub OwnsItem : Stated → ItemKind → Type 0
  OwnsItem y k = Owns (owner c k) y

  abbrev Tells : Stated → Shape → List Slot → Type 0 → Type 0
  Tells y s xs P = Says owners_at Among c y s xs P

  abbrev Stepped : Stated → ItemKind → Type 0
  Stepped y k = Step owners_at Among c OwnsItem y k

  no_owner : (y : Stated) → Owns None y → ⊥
  no_owner y h = none-some _ h.1

  gathered_found : (xs : List Slot) (y : Stated) → Among y (gathered (found xs)) → (j : ItemKind) × Among (Some j) xs × Among y (owners (stated_of c j))
  gathered_found [] y m = absurd m
  gathered_found (None ∷ xs) y m = let r = gathered_found xs y m in (r.0, inr r.1, r.2)
  gathered_found (Some j ∷ xs) y m = elim (among_append (owners (stated_of c j)) (gathered (found xs)) y m) [
    | inl k ↦ (j, inl refl, k)
    | inr k ↦ let r = gathered_found xs y k in (r.0, inr r.1, r.2)
  ]

  found_gathered : (xs : List Slot) (y : Stated) (j : ItemKind) → Among (Some j) xs → Among y (owners (stated_of c j)) → Among y (gathered (found xs))
  found_gathered [] y j m k = absurd m
  found_gathered (None ∷ xs) y j (inl q) k = absurd (cc q)
  found_gathered (None ∷ xs) y j (inr m) k = found_gathered xs y j m k
  found_gathered (Some i ∷ xs) y j (inl q) k = let is : j ≡ i = cc q in Among-left y (owners (stated_of c i)) (gathered (found xs)) (subst (λ i. Among y (owners (stated_of c i))) is k)
  found_gathered (Some i ∷ xs) y j (inr m) k = Among-right y (owners (stated_of c i)) (gathered (found xs)) (found_gathered xs y j m k)

  -- of what has no owner itself
  says_gathered : (y : Stated) (s : Shape) (xs : List Slot) → owners_at s (found xs) ≡ gathered (found xs) → Tells y s xs (Owns None y)
  says_gathered y s xs is = record {
    itself = λ p. absurd (no_owner y p);
    further = λ j m k. subst (Among y) (sym is) (found_gathered xs y j m k);
    only = λ k. inr (gathered_found xs y (subst (Among y) is k));
  }

  defined_gathered : (d : DefinedType) (os : List (Option (Stated × List Stated))) → owners_at (defined_entry d).0 os ≡ gathered os
  defined_gathered (DefinedType.Tuple ts) os = refl
  defined_gathered (DefinedType.List t) os = refl
  defined_gathered (DefinedType.FixedSizeList t n) os = refl
  defined_gathered (DefinedType.Option t) os = refl
  defined_gathered (DefinedType.Result ok err) os = refl
  defined_gathered (DefinedType.Variant v) os = refl
  defined_gathered (DefinedType.Record r) os = refl
  defined_gathered (DefinedType.Flags f) os = refl
  defined_gathered (DefinedType.Enum e) os = refl
  defined_gathered (DefinedType.Alias t) os = refl
  defined_gathered (DefinedType.Stream o) os = refl
  defined_gathered (DefinedType.Future o) os = refl

  -- of an alias that an interface owns: the owner, and what its source and the owner have
  module _ (y : Stated) (n : Name) (j : ItemKind) (i : InterfaceId) where
    abbrev slots : List Slot
    slots = Some j ∷ Some (ItemKind.Instance i) ∷ []

    abbrev below_source : List Stated
    below_source = owners (stated_of c j)

    abbrev below_owner : List Stated
    below_owner = owners (interface_stated i)

    owned_further : (k : ItemKind) → Among (Some k) slots → Among y (owners (stated_of c k)) → Among y (below_source ++ interface_stated i ∷ below_owner)
    owned_further k (inl q) m = let is : k ≡ j = cc q in Among-left y below_source (interface_stated i ∷ below_owner) (subst (λ k. Among y (owners (stated_of c k))) is m)
    owned_further k (inr (inl q)) m = let is : k ≡ ItemKind.Instance i = cc q in Among-right y below_source (interface_stated i ∷ below_owner) (inr (subst (λ k. Among y (owners (stated_of c k))) is m))
    owned_further k (inr (inr q)) m = absurd q

    owned_only : Among y (below_source ++ interface_stated i ∷ below_owner) → Owns (Some i) y ⊎ ((k : ItemKind) × Among (Some k) slots × Among y (owners (stated_of c k)))
    owned_only m = elim (among_append below_source (interface_stated i ∷ below_owner) y m) [
      | inl k ↦ inr (j, inl refl, k)
      | inr (inl e) ↦ inl (i, refl, e)
      | inr (inr k) ↦ inr (ItemKind.Instance i, inr (inl refl), k)
    ]

    owned_itself : Owns (Some i) y → Among y (below_source ++ interface_stated i ∷ below_owner)
    owned_itself h = let is : i ≡ h.0 = cc h.1 in Among-right y below_source (interface_stated i ∷ below_owner) (inl (h.2 ∙ ap interface_stated (sym is)))

    says_owned : Tells y (resource_alias n) slots (Owns (Some i) y)
    says_owned = record { itself = owned_itself; further = owned_further; only = owned_only }

  says_resource : (y : Stated) (n : Name) (o : Option ResourceAlias) → Tells y (resource_entry_at n o).0 (resource_entry_at n o).1 (Owns (owner_of o) y)
  says_resource y n None = says_gathered y (resource n) [] refl
  says_resource y n (Some a) = by a.owner
    where
      by : (w : Option InterfaceId) → Tells y (resource_alias n) (Some (ItemKind.Ty (TypeKind.Resource a.source)) ∷ option_map ItemKind.Instance w ∷ []) (Owns w y)
      by None = says_gathered y (resource_alias n) (Some (ItemKind.Ty (TypeKind.Resource a.source)) ∷ None ∷ []) refl
      by (Some i) = says_owned y n (ItemKind.Ty (TypeKind.Resource a.source)) i

  module _ (y : Stated) where
    resource_step : (r : ResourceId) → Stands c (ItemKind.Ty (TypeKind.Resource r)) → Stepped y (ItemKind.Ty (TypeKind.Resource r))
    unfolding item_node
    resource_step r s =
        let f = resource_found c r s in
        record {
          entry = resource_entry f.value;
          is = entry_at-is resource_entry c.number c.resources r.collection r.index f.value f.at f.own;
          says = subst (λ o. Tells y (resource_entry f.value).0 (resource_entry f.value).1 (Owns (owner_in o) y)) (sym f.at) (says_resource y f.value.name f.value.alias);
        }

    abbrev typed : (k j : ItemKind) → item_node c k ≡ labelled type_of (item_node c j) → (OwnsItem y j → OwnsItem y k) → (OwnsItem y k → OwnsItem y j) → Stepped y j → Stepped y k
    typed k j is g h s = labelled_step owners_at Among c OwnsItem y k j type_of (λ s os. refl) is g h s

    value_step : (v : ValueType) → Stands c (ItemKind.Value v) → Stepped y (ItemKind.Value v)
    unfolding item_node
    value_step (ValueType.Primitive p) s = record { entry = (primitive p, []); is = refl; says = says_gathered y (primitive p) [] refl }
    value_step (ValueType.Borrow r) s =
        labelled_step owners_at Among c OwnsItem y (ItemKind.Value (ValueType.Borrow r)) (ItemKind.Ty (TypeKind.Resource r)) borrow_of (λ s os. refl) refl (λ p. p) (λ p. p) (resource_step r (stands_borrow c r s))
    value_step (ValueType.Own r) s =
        labelled_step owners_at Among c OwnsItem y (ItemKind.Value (ValueType.Own r)) (ItemKind.Ty (TypeKind.Resource r)) own_of (λ s os. refl) refl (λ p. p) (λ p. p) (resource_step r (stands_own c r s))
    value_step (ValueType.Defined d) s =
        let f = defined_found c d s in
        record {
          entry = defined_entry f.value;
          is = entry_at-is defined_entry c.number c.defined_types d.collection d.index f.value f.at f.own;
          says = says_gathered y (defined_entry f.value).0 (defined_entry f.value).1 (defined_gathered f.value (found (defined_entry f.value).1));
        }

    func_step : (g : FuncTypeId) → Stands c (ItemKind.Func g) → Stepped y (ItemKind.Func g)
    unfolding item_node
    func_step g s =
        let f = func_found c g s in
        record {
          entry = func_entry f.value;
          is = entry_at-is func_entry c.number c.func_types g.collection g.index f.value f.at f.own;
          says = says_gathered y (func_entry f.value).0 (func_entry f.value).1 refl;
        }

    instance_step : (i : InterfaceId) → Stands c (ItemKind.Instance i) → Stepped y (ItemKind.Instance i)
    unfolding item_node
    instance_step i s =
        let f = interface_found c i s in
        record {
          entry = interface_entry f.value;
          is = entry_at-is interface_entry c.number c.interfaces i.collection i.index f.value f.at f.own;
          says = says_gathered y (interface_entry f.value).0 (interface_entry f.value).1 refl;
        }

    component_step : (w : WorldId) → Stands c (ItemKind.Component w) → Stepped y (ItemKind.Component w)
    unfolding item_node
    component_step w s =
        let f = world_found c w s in
        record {
          entry = world_entry f.value;
          is = entry_at-is world_entry c.number c.worlds w.collection w.index f.value f.at f.own;
          says = says_gathered y (world_entry f.value).0 (world_entry f.value).1 refl;
        }

    module_step : (m : ModuleTypeId) → Stands c (ItemKind.Module m) → Stepped y (ItemKind.Module m)
    unfolding item_node
    module_step m s =
        let f = module_found c m s in
        record {
          entry = module_entry f.value;
          is = entry_at-is module_entry c.number c.modules m.collection m.index f.value f.at f.own;
          says = says_gathered y (module_entry f.value).0 (module_entry f.value).1 refl;
        }

    step : (k : ItemKind) → Stands c k → Stepped y k
    unfolding item_node
    step (ItemKind.Func g) s = func_step g s
    step (ItemKind.Instance i) s = instance_step i s
    step (ItemKind.Component w) s = component_step w s
    step (ItemKind.Module m) s = module_step m s
    step (ItemKind.Value v) s = value_step v s
    step (ItemKind.Ty (TypeKind.Resource r)) s = resource_step r s
    step (ItemKind.Ty (TypeKind.Func g)) s = typed (ItemKind.Ty (TypeKind.Func g)) (ItemKind.Func g) refl (λ p. p) (λ p. p) (func_step g (stands_typed_func c g s))
    step (ItemKind.Ty (TypeKind.Value v)) s = typed (ItemKind.Ty (TypeKind.Value v)) (ItemKind.Value v) refl (λ p. p) (λ p. p) (value_step v (stands_typed_value c v s))
    step (ItemKind.Ty (TypeKind.Interface i)) s = typed (ItemKind.Ty (TypeKind.Interface i)) (ItemKind.Instance i) refl (λ p. p) (λ p. p) (instance_step i (stands_typed_interface c i s))
    step (ItemKind.Ty (TypeKind.World w)) s = typed (ItemKind.Ty (TypeKind.World w)) (ItemKind.Component w) refl (λ p. p) (λ p. p) (component_step w (stands_typed_world c w s))
    step (ItemKind.Ty (TypeKind.Module m)) s = typed (ItemKind.Ty (TypeKind.Module m)) (ItemKind.Module m) refl (λ p. p) (λ p. p) (module_step m (stands_typed_module c m s))

    pub reached_owner : IsAcyclic c → (k : ItemKind) → Stands c k → Reaches (item_node c) (OwnsItem y) k → Among y (owners (stated_of c k))
    reached_owner a k s r = reaches_has owners_at Among c OwnsItem a y step k s r

    pub owner_reached : IsAcyclic c → (k : ItemKind) → Stands c k → Among y (owners (stated_of c k)) → Reaches (item_node c) (OwnsItem y) k
    owner_reached a k s m = has_reaches owners_at Among c OwnsItem a y step k s m
