-- An item is plain where what it states is.
use Rattle.std.proofs.Common.{◌≡◌, ◌<◌, List, [], ◌∷◌, length, Bool, true, false, true≢false, not, Option, Some, None, IsSome, refl, sym, ap, subst, ◌∙◌, inl, inr, arith}
use Rattle.std.specs.Prelude.{◌⊎◌, ◌||◌, ⊤}
use Rattle.std.specs.Option.{option_map}
use Rattle.wac_types_base.specs.declared.item.ValueType.{ValueType}
use Rattle.wac_types_base.specs.declared.item.«Type».{«Type» as TypeKind}
use Rattle.wac_types_base.specs.declared.item.ItemKind.{ItemKind}
use Rattle.wac_types_base.specs.declared.ids.InterfaceId.{InterfaceId}
use Rattle.wac_types_base.specs.declared.ids.WorldId.{WorldId}
use Rattle.wac_types_base.specs.declared.ids.ResourceId.{ResourceId}
use Rattle.wac_types_base.specs.declared.ids.FuncTypeId.{FuncTypeId}
use Rattle.wac_types_base.specs.declared.ids.ModuleTypeId.{ModuleTypeId}
use Rattle.wac_types_base.specs.declared.defined.DefinedType.{DefinedType}
use Rattle.wac_types_base.specs.declared.defined.ResourceAlias.{ResourceAlias}
use Rattle.wac_types_base.specs.declared.defined.UsedType.{UsedType}
use Rattle.wac_types_base.specs.Record.{Collection}
use Rattle.wac_types_base.specs.Graph.{Among}
use Rattle.wac_types_base.specs.Entries.{Name, names_of}
use Rattle.wac_types_base.specs.Collection.{Shape, Slot, Stands, IsAcyclic, item_node, labelled, primitive, interface, resource, resource_alias, type_of, borrow_of, own_of, use_names, defined_entry, resource_entry, resource_entry_at, func_entry, interface_entry, world_entry, module_entry}
use Rattle.wac_types_base.specs.Stated.{Stated, folded, any_place, stated_of}
use Rattle.wac_types_base.proofs.Slots.{entry_at-is, stands_borrow, stands_own, stands_typed_func, stands_typed_value, stands_typed_interface, stands_typed_world, stands_typed_module}
use Rattle.wac_types_base.proofs.Standing.{func_found, resource_found, defined_found, interface_found, world_found, module_found}
use Rattle.wac_types_merge.specs.Families.{HasMore, owner_of, owner_in, IsUnplain, IsPlainItem}
use Rattle.wac_composition.specs.Merging.{unplain_at, is_plain}
use Rattle.wac_merging.proofs.Folding.{found_in, Says, Step, labelled_step, reaches_has, has_reaches}

abbrev IsTrue_of : ⊤ → Bool → Type 0
IsTrue_of x b = b ≡ true

module _ (c : Collection) where
  abbrev any : List (Option (Stated × Bool)) → Bool
  any os = any_place (λ b. b) os

  abbrev found : List Slot → List (Option (Stated × Bool))
  found = found_in unplain_at c

  -- whether what an item states is not plain
  abbrev unplain : ItemKind → Bool
  unplain k = folded unplain_at (stated_of c k)

  abbrev Tells : Shape → List Slot → Type 0 → Type 0
  Tells s xs P = Says unplain_at IsTrue_of c tt s xs P

  abbrev Stepped : ItemKind → Type 0
  Stepped k = Step unplain_at IsTrue_of c (λ x k. IsUnplain c k) tt k

  any_found : (xs : List Slot) → any (found xs) ≡ true → (j : ItemKind) × Among (Some j) xs × (unplain j ≡ true)
  any_found [] e = absurd (true≢false (sym e))
  any_found (None ∷ xs) e = let r = any_found xs e in (r.0, inr r.1, r.2)
  any_found (Some j ∷ xs) e = go (any_found xs) (unplain j) refl e
    where
      go : (any (found xs) ≡ true → (i : ItemKind) × Among (Some i) xs × (unplain i ≡ true)) → (b : Bool) → unplain j ≡ b → (b || any (found xs)) ≡ true → (i : ItemKind) × Among (Some i) (Some j ∷ xs) × (unplain i ≡ true)
      go rest true p q = (j, inl refl, p)
      go rest false p q = let r = rest q in (r.0, inr r.1, r.2)

  found_any : (xs : List Slot) (j : ItemKind) → Among (Some j) xs → unplain j ≡ true → any (found xs) ≡ true
  found_any [] j m e = absurd m
  found_any (None ∷ xs) j (inl q) e = absurd (cc q)
  found_any (None ∷ xs) j (inr m) e = found_any xs j m e
  found_any (Some i ∷ xs) j (inl q) e = let is : j ≡ i = cc q in ap (λ b. b || any (found xs)) (ap unplain (sym is) ∙ e)
  found_any (Some i ∷ xs) j (inr m) e = go (unplain i) (found_any xs j m e)
    where
      go : (b : Bool) → any (found xs) ≡ true → (b || any (found xs)) ≡ true
      go true q = refl
      go false q = q

  -- of what is never unplain itself
  says_any : (s : Shape) (xs : List Slot) (P : Type 0) → (P → ⊥) → unplain_at s (found xs) ≡ any (found xs) → Tells s xs P
  says_any s xs P never is = record { itself = λ p. absurd (never p); further = λ j m e. is ∙ found_any xs j m e; only = λ e. inr (any_found xs (sym is ∙ e)) }

  says_all : (s : Shape) (xs : List Slot) (P : Type 0) → P → unplain_at s (found xs) ≡ true → Tells s xs P
  says_all s xs P p is = record { itself = λ q. is; further = λ j m e. is; only = λ e. inl p }

  defined_any : (d : DefinedType) (os : List (Option (Stated × Bool))) → unplain_at (defined_entry d).0 os ≡ any os
  defined_any (DefinedType.Tuple ts) os = refl
  defined_any (DefinedType.List t) os = refl
  defined_any (DefinedType.FixedSizeList t n) os = refl
  defined_any (DefinedType.Option t) os = refl
  defined_any (DefinedType.Result ok err) os = refl
  defined_any (DefinedType.Variant v) os = refl
  defined_any (DefinedType.Record r) os = refl
  defined_any (DefinedType.Flags f) os = refl
  defined_any (DefinedType.Enum e) os = refl
  defined_any (DefinedType.Alias t) os = refl
  defined_any (DefinedType.Stream o) os = refl
  defined_any (DefinedType.Future o) os = refl

  says_interface : (i : Option Name) (us : List (Name × UsedType)) (ns : List Name) (xs : List Slot) → Tells (interface i (use_names us) ns) xs (IsSome i ⊎ (0 < length us))
  says_interface None [] ns xs = says_any (interface None [] ns) xs (IsSome {T = Name} None ⊎ (0 < 0)) nothing refl
    where
      nothing : IsSome {T = Name} None ⊎ (0 < 0) → ⊥
      nothing (inl e) = cc e
      nothing (inr l) = omega (arith, l)
  says_interface None (u ∷ us) ns xs = says_all (interface None (use_names (u ∷ us)) ns) xs _ (inr (omega arith)) refl
  says_interface (Some n) us ns xs = says_all (interface (Some n) (use_names us) ns) xs _ (inl refl) refl

  says_resource : (n : Name) (o : Option ResourceAlias) → Tells (resource_entry_at n o).0 (resource_entry_at n o).1 (IsSome (owner_of o))
  says_resource n None = says_any (resource n) [] (IsSome {T = InterfaceId} None) (λ e. cc e) refl
  says_resource n (Some a) = by a.owner
    where
      by : (w : Option InterfaceId) → Tells (resource_alias n) (Some (ItemKind.Ty (TypeKind.Resource a.source)) ∷ option_map ItemKind.Instance w ∷ []) (IsSome w)
      by None = says_any (resource_alias n) (Some (ItemKind.Ty (TypeKind.Resource a.source)) ∷ None ∷ []) (IsSome {T = InterfaceId} None) (λ e. cc e) refl
      by (Some i) = says_all (resource_alias n) (Some (ItemKind.Ty (TypeKind.Resource a.source)) ∷ Some (ItemKind.Instance i) ∷ []) (IsSome (Some i)) refl refl

  resource_step : (r : ResourceId) → Stands c (ItemKind.Ty (TypeKind.Resource r)) → Stepped (ItemKind.Ty (TypeKind.Resource r))
  unfolding item_node
  resource_step r s =
      let f = resource_found c r s in
      record {
        entry = resource_entry f.value;
        is = entry_at-is resource_entry c.number c.resources r.collection r.index f.value f.at f.own;
        says = subst (λ o. Tells (resource_entry f.value).0 (resource_entry f.value).1 (IsSome (owner_in o))) (sym f.at) (says_resource f.value.name f.value.alias);
      }

  abbrev typed : (k j : ItemKind) → item_node c k ≡ labelled type_of (item_node c j) → (IsUnplain c j → IsUnplain c k) → (IsUnplain c k → IsUnplain c j) → Stepped j → Stepped k
  typed k j is g h s = labelled_step unplain_at IsTrue_of c (λ x k. IsUnplain c k) tt k j type_of (λ s os. refl) is g h s

  value_step : (v : ValueType) → Stands c (ItemKind.Value v) → Stepped (ItemKind.Value v)
  unfolding item_node
  value_step (ValueType.Primitive p) s = record { entry = (primitive p, []); is = refl; says = says_any (primitive p) [] (IsSome {T = InterfaceId} None) (λ e. cc e) refl }
  value_step (ValueType.Borrow r) s =
      labelled_step unplain_at IsTrue_of c (λ x k. IsUnplain c k) tt (ItemKind.Value (ValueType.Borrow r)) (ItemKind.Ty (TypeKind.Resource r)) borrow_of (λ s os. refl) refl (λ p. p) (λ p. p) (resource_step r (stands_borrow c r s))
  value_step (ValueType.Own r) s =
      labelled_step unplain_at IsTrue_of c (λ x k. IsUnplain c k) tt (ItemKind.Value (ValueType.Own r)) (ItemKind.Ty (TypeKind.Resource r)) own_of (λ s os. refl) refl (λ p. p) (λ p. p) (resource_step r (stands_own c r s))
  value_step (ValueType.Defined d) s =
      let f = defined_found c d s in
      record {
        entry = defined_entry f.value;
        is = entry_at-is defined_entry c.number c.defined_types d.collection d.index f.value f.at f.own;
        says = says_any (defined_entry f.value).0 (defined_entry f.value).1 (IsSome {T = InterfaceId} None) (λ e. cc e) (defined_any f.value (found (defined_entry f.value).1));
      }

  func_step : (g : FuncTypeId) → Stands c (ItemKind.Func g) → Stepped (ItemKind.Func g)
  unfolding item_node
  func_step g s =
      let f = func_found c g s in
      record {
        entry = func_entry f.value;
        is = entry_at-is func_entry c.number c.func_types g.collection g.index f.value f.at f.own;
        says = says_any (func_entry f.value).0 (func_entry f.value).1 ⊥ (λ e. e) refl;
      }

  instance_step : (i : InterfaceId) → Stands c (ItemKind.Instance i) → Stepped (ItemKind.Instance i)
  unfolding item_node
  instance_step i s =
      let f = interface_found c i s in
      record {
        entry = interface_entry f.value;
        is = entry_at-is interface_entry c.number c.interfaces i.collection i.index f.value f.at f.own;
        says = subst (λ o. Tells (interface_entry f.value).0 (interface_entry f.value).1 (HasMore o)) (sym f.at) (says_interface f.value.id f.value.uses (names_of f.value.exports) (interface_entry f.value).1);
      }

  component_step : (w : WorldId) → Stands c (ItemKind.Component w) → Stepped (ItemKind.Component w)
  unfolding item_node
  component_step w s =
      let f = world_found c w s in
      record {
        entry = world_entry f.value;
        is = entry_at-is world_entry c.number c.worlds w.collection w.index f.value f.at f.own;
        says = says_all (world_entry f.value).0 (world_entry f.value).1 (Unit {0}) tt refl;
      }

  module_step : (m : ModuleTypeId) → Stands c (ItemKind.Module m) → Stepped (ItemKind.Module m)
  unfolding item_node
  module_step m s =
      let f = module_found c m s in
      record {
        entry = module_entry f.value;
        is = entry_at-is module_entry c.number c.modules m.collection m.index f.value f.at f.own;
        says = says_all (module_entry f.value).0 (module_entry f.value).1 (Unit {0}) tt refl;
      }

  step : (k : ItemKind) → Stands c k → Stepped k
  unfolding item_node
  step (ItemKind.Func g) s = func_step g s
  step (ItemKind.Instance i) s = instance_step i s
  step (ItemKind.Component w) s = component_step w s
  step (ItemKind.Module m) s = module_step m s
  step (ItemKind.Value v) s = value_step v s
  step (ItemKind.Ty (TypeKind.Resource r)) s = resource_step r s
  step (ItemKind.Ty (TypeKind.Func g)) s = typed (ItemKind.Ty (TypeKind.Func g)) (ItemKind.Func g) refl (λ p. p) (λ p. p) (func_step g (stands_typed_func c g s))
  step (ItemKind.Ty (TypeKind.Value v)) s = typed (ItemKind.Ty (TypeKind.Value v)) (ItemKind.Value v) refl (λ p. p) (λ p. p) (value_step v (stands_typed_value c v s))
  step (ItemKind.Ty (TypeKind.Interface i)) s = typed (ItemKind.Ty (TypeKind.Interface i)) (ItemKind.Instance i) refl (λ p. p) (λ p. p) (instance_step i (stands_typed_interface c i s))
  step (ItemKind.Ty (TypeKind.World w)) s = typed (ItemKind.Ty (TypeKind.World w)) (ItemKind.Component w) refl (λ p. p) (λ p. p) (component_step w (stands_typed_world c w s))
  step (ItemKind.Ty (TypeKind.Module m)) s = typed (ItemKind.Ty (TypeKind.Module m)) (ItemKind.Module m) refl (λ p. p) (λ p. p) (module_step m (stands_typed_module c m s))

  module _ (a : IsAcyclic c) where
    pub plain_stated : (k : ItemKind) → Stands c k → IsPlainItem c k → is_plain (stated_of c k) ≡ true
    plain_stated k s p = go (unplain k) refl
      where
        go : (b : Bool) → unplain k ≡ b → not b ≡ true
        go true e = absurd (p (has_reaches unplain_at IsTrue_of c (λ x k. IsUnplain c k) a tt step k s e))
        go false e = refl

    pub stated_plain : (k : ItemKind) → Stands c k → is_plain (stated_of c k) ≡ true → IsPlainItem c k
    stated_plain k s e r = true≢false (sym e ∙ ap not (reaches_has unplain_at IsTrue_of c (λ x k. IsUnplain c k) a tt step k s r))
