-- What is refused in a scope that stocks a holder.
use Rattle.std.proofs.Common.{◌≡◌, Bool, true, false, [], ◌∷◌, map, Option, Some, None, IsSome, inl, inr, refl, sym, ap, ◌∙◌, subst, slice_get}
use Rattle.std.specs.Prelude.{◌&&◌, bytes_eq, option_map}
use Rattle.std.specs.Option.{is_some}
use Rattle.std.proofs.lemmas.Slice.Eq.{bytes_eq-Decides}
use Rattle.wac_types_base.specs.declared.ids.DefinedTypeId.{DefinedTypeId}
use Rattle.wac_types_base.specs.declared.ids.FuncTypeId.{FuncTypeId}
use Rattle.wac_types_base.specs.declared.ids.ModuleTypeId.{ModuleTypeId}
use Rattle.wac_types_base.specs.declared.core_types.ModuleType.{ModuleType}
use Rattle.wac_types_base.specs.declared.ids.ResourceId.{ResourceId}
use Rattle.wac_types_base.specs.declared.item.ValueType.{ValueType}
use Rattle.wac_types_base.specs.declared.item.«Type».{«Type» as TypeKind}
use Rattle.wac_types_base.specs.declared.item.ItemKind.{ItemKind}
use Rattle.wac_types_base.specs.declared.defined.DefinedType.{DefinedType}
use Rattle.wac_types_base.specs.declared.defined.ResourceAlias.{ResourceAlias}
use Rattle.wac_types_base.specs.Record.{Collection}
use Rattle.wac_types_base.specs.Entries.{Name, value_at}
use Rattle.wac_types_base.specs.Graph.{Among}
use Rattle.wac_types_base.specs.Collection.{Entry, Stands, IsAcyclic, item_node, slots_of, slots_in, module_type, module_entry, type_of, own_of, borrow_of, resource_entry_at, defined_entry}
use Rattle.wac_types_base.specs.Stated.{Stated, row, shape_of, places_of, untyped, stated_of, root_name}
use Rattle.wac_types_base.specs.Tree.{tree}
use Rattle.wac_types_base.proofs.Lists.{among_mapped}
use Rattle.wac_types_base.proofs.Made.{row_places}
use Rattle.wac_types_base.proofs.Standing.{resource_found, defined_found, module_found}
use Rattle.wac_types_base.proofs.Slots.{entry_at-is, slots_own, slots_borrow, slots_primitive, stands_typed_value, stands_typed_func}
use Rattle.wac_types_base.proofs.Telling.{stated_step, child_stands, own_node, borrow_node, defined_node, resource_node, typed_node, no_alias, kind_stated, untyped_stated}
use Rattle.wac_types_fit.specs.Trees.{tree_in}
use Rattle.wac_types_fit.proofs.Unfolded.{alias_tree}
use Rattle.wac_composition.specs.Writable.{Holder, is_fresh}
use Rattle.wac_composition.specs.NotWritten.{IsGiven, IsUsed, Compound, role, Dangles, handle, part, CannotBeWritten, a_value, core_items, module_as_type, renamed, an_alias, a_function, a_function_type, a_value_type}
use Rattle.wac_graph_scopes.specs.declared.error.WriteError.{WriteError}
use Rattle.wac_graph_scopes.specs.declared.scope.TypeScope.{TypeScope}
use Rattle.wac_graph_scopes.specs.declared.items.ItemScope.{ItemScope}
use Rattle.wac_graph_scopes.specs.Known.{HasTree}
use Rattle.wac_graph_scopes.specs.Scopes.{IsScopeOf}
use Rattle.wac_graph_scopes.specs.Refusals.{IsUnnamed, IsUnknown, IsLookedUp, own_dangles, borrow_dangles, part_dangles}
use Rattle.wac_graph_scopes.specs.Refusals.{Dangles as Hangs}
use Rattle.wac_graph_scopes.specs.ItemRefusals.{RefusedItem}
use Rattle.wac_graph_scopes.proofs.LackingLaws.{no_value_in}
use Rattle.wac_graph_encode.proofs.CoreRefused.{module_false}
use Rattle.wac_graph_encode.specs.Stocked.{Stocks, IsWrittenAlone, Refused_is_unwritable}
use Rattle.wac_writable.proofs.ItemLaws.{root_named, resource_kind}
use Rattle.wac_writable.proofs.ValueLaws.{own_root, borrow_root, own_resource, borrow_resource}

pub node_of : (o : Option Entry) → IsSome o → (e : Entry) × (o ≡ Some e)
node_of (Some e) s = (e, refl)
node_of None s = absurd (cc s)

pub compound : (x : DefinedType) → role (defined_entry x).0 ≡ Compound
compound (DefinedType.Tuple ts) = refl
compound (DefinedType.List t) = refl
compound (DefinedType.FixedSizeList t n) = refl
compound (DefinedType.Option t) = refl
compound (DefinedType.Result ok err) = refl
compound (DefinedType.Variant v) = refl
compound (DefinedType.Record r) = refl
compound (DefinedType.Flags f) = refl
compound (DefinedType.Enum e) = refl
compound (DefinedType.Alias t) = refl
compound (DefinedType.Stream o) = refl
compound (DefinedType.Future o) = refl

-- what dangles is not used
unused : {h : Holder} {x : Stated} → Dangles h x → IsUsed h x → ⊥
unused (handle r n f) = n
unused (part r n m d) = n

used_alike : (h : Holder) (x y : Stated) → tree x ≡ tree y → IsUsed h x → IsUsed h y
used_alike h x y e u = record { name = u.name; item = u.item; taken = u.taken; kind = u.kind; same = u.same ∙ e }

module _ (c : Collection) (a : IsAcyclic c) where
  pub tree_is : (k : ItemKind) → tree (stated_of c k) ≡ tree_in c k
  unfolding tree_in
  tree_is k = refl

  -- the stated type of what is in a place is in the place
  pub place_is : (k : ItemKind) (e : Entry) (j : ItemKind) → item_node c k ≡ Some e → Among (Some j) (slots_of c k) → Among (Some (stated_of c j)) (places_of (stated_of c k))
  place_is k e j is m =
      let there = subst (λ l. Among (Some j) l) (ap slots_in is) m in
      subst (λ l. Among (Some (stated_of c j)) l) (sym (ap places_of (stated_step c a k e is) ∙ row_places (map (option_map (stated_of c)) e.1)))
      (among_mapped (option_map (stated_of c)) e.1 (Some j) there)

  pub place_stands : (k : ItemKind) (e : Entry) (j : ItemKind) → item_node c k ≡ Some e → Among (Some j) (slots_of c k) → Stands c j
  place_stands k e j is m = child_stands c a k e is j (subst (λ l. Among (Some j) l) (ap slots_in is) m)

  -- the places of a function's type are those of the function
  pub typed_place : (f : FuncTypeId) (x : Stated) → Stands c (ItemKind.Ty (TypeKind.Func f)) → Among (Some x) (places_of (stated_of c (ItemKind.Func f))) → Among (Some x) (places_of (stated_of c (ItemKind.Ty (TypeKind.Func f))))
  unfolding item_node
  typed_place f x st m =
      let t = typed_node c (ItemKind.Ty (TypeKind.Func f)) (ItemKind.Func f) refl st in
      let ts = row (map (option_map (stated_of c)) t.0.1) in
      subst (λ y. Among (Some x) (places_of y)) (sym (stated_step c a (ItemKind.Ty (TypeKind.Func f)) (type_of t.0.0, t.0.1) t.2))
      (subst (λ y. Among (Some x) (places_of y)) (stated_step c a (ItemKind.Func f) t.0 t.1) m)

  pub value_untyped : (v : ValueType) → Stands c (ItemKind.Ty (TypeKind.Value v)) → untyped (stated_of c (ItemKind.Ty (TypeKind.Value v))) ≡ stated_of c (ItemKind.Value v)
  unfolding item_node
  value_untyped v st = untyped_stated c a (ItemKind.Ty (TypeKind.Value v)) (ItemKind.Value v) refl st

  pub module_shape : (m : ModuleTypeId) (x : ModuleType) → Stands c (ItemKind.Module m) → slice_get c.modules m.index ≡ Some x → shape_of (stated_of c (ItemKind.Module m)) ≡ module_type x
  unfolding item_node
  module_shape m x st at =
      let f = module_found c m st in
      let same : f.value ≡ x = cc (f.at, at) in
      ap shape_of (stated_step c a (ItemKind.Module m) (module_entry f.value) (entry_at-is module_entry c.number c.modules m.collection m.index f.value f.at f.own)) ∙ ap module_type same

  -- an alias, or none
  by_alias : (d : DefinedTypeId) (x : DefinedType) (P : Type 0) → x ≡ x → ((t : ValueType) → x ≡ DefinedType.Alias t → P) → (((t : ValueType) → x ≡ DefinedType.Alias t → ⊥) → P) → P
  by_alias d (DefinedType.Alias t) P e is other = is t refl
  by_alias d (DefinedType.Tuple ts) P e is other = other (λ t f. absurd (cc f))
  by_alias d (DefinedType.List t) P e is other = other (λ t f. absurd (cc f))
  by_alias d (DefinedType.FixedSizeList t n) P e is other = other (λ t f. absurd (cc f))
  by_alias d (DefinedType.Option t) P e is other = other (λ t f. absurd (cc f))
  by_alias d (DefinedType.Result ok err) P e is other = other (λ t f. absurd (cc f))
  by_alias d (DefinedType.Variant v) P e is other = other (λ t f. absurd (cc f))
  by_alias d (DefinedType.Record r) P e is other = other (λ t f. absurd (cc f))
  by_alias d (DefinedType.Flags f) P e is other = other (λ t f. absurd (cc f))
  by_alias d (DefinedType.Enum f) P e is other = other (λ t f. absurd (cc f))
  by_alias d (DefinedType.Stream o) P e is other = other (λ t f. absurd (cc f))
  by_alias d (DefinedType.Future o) P e is other = other (λ t f. absurd (cc f))

  module _ (s : TypeScope) (h : Holder) (scope : IsScopeOf c s) (stocks : Stocks c s h) where
    -- a used value type is known
    known : (x : Stated) → IsUsed h x → HasTree c s.known.all.items (tree x)
    known x u = subst (HasTree c s.known.all.items) u.same (stocks.used u.name u.item u.taken u.kind)

    not_used : (v : ValueType) → IsUnknown c s v → IsUsed h (stated_of c (ItemKind.Value v)) → ⊥
    not_used v f u = f scope (subst (HasTree c s.known.all.items) (tree_is (ItemKind.Value v)) (known (stated_of c (ItemKind.Value v)) u))

    not_rooted : (r : ResourceId) (n : Name) → Stands c (ItemKind.Ty (TypeKind.Resource r)) → IsUnnamed c s.resources r → n ≡ root_name (stated_of c (ItemKind.Ty (TypeKind.Resource r))) → Among n h.roots → ⊥
    not_rooted r n st u e m =
        let named = e ∙ root_named c a r u.name st (λ z. u.root) in
        let there : IsSome (value_at s.resources u.name) = subst (λ n. IsSome (value_at s.resources n)) named (stocks.roots n m) in
        let none = ap is_some u.lacking in
        absurd (cc (none, there))

    own_hangs : (r : ResourceId) → Stands c (ItemKind.Value (ValueType.Own r)) → IsUnnamed c s.resources r → IsUnknown c s (ValueType.Own r) → Dangles h (stated_of c (ItemKind.Value (ValueType.Own r)))
    own_hangs r st u f =
        let k = ItemKind.Value (ValueType.Own r) in
        let o = own_node c r st in
        handle (ap (λ x. role (shape_of x)) (stated_step c a k (own_of o.0, o.1) o.2)) (not_used (ValueType.Own r) f)
        (not_rooted r (root_name (stated_of c k)) (own_resource c a r st) u (own_root c a r st))

    borrow_hangs : (r : ResourceId) → Stands c (ItemKind.Value (ValueType.Borrow r)) → IsUnnamed c s.resources r → IsUnknown c s (ValueType.Borrow r) → Dangles h (stated_of c (ItemKind.Value (ValueType.Borrow r)))
    borrow_hangs r st u f =
        let k = ItemKind.Value (ValueType.Borrow r) in
        let o = borrow_node c r st in
        handle (ap (λ x. role (shape_of x)) (stated_step c a k (borrow_of o.0, o.1) o.2)) (not_used (ValueType.Borrow r) f)
        (not_rooted r (root_name (stated_of c k)) (borrow_resource c a r st) u (borrow_root c a r st))

    -- a defined type of which a part dangles, and that is not known
    defined_hangs : (d : DefinedTypeId) (v : ValueType) → Stands c (ItemKind.Value (ValueType.Defined d)) → IsLookedUp c s (ItemKind.Value (ValueType.Defined d)) → Among (Some (ItemKind.Value v)) (slots_of c (ItemKind.Value (ValueType.Defined d)))
        → Dangles h (stated_of c (ItemKind.Value v)) → Dangles h (stated_of c (ItemKind.Value (ValueType.Defined d)))
    defined_hangs d v st f m deep =
        let k = ItemKind.Value (ValueType.Defined d) in
        let x = defined_found c d st in
        let is = defined_node c d x.value x.at x.own in
        part (ap (λ y. role (shape_of y)) (stated_step c a k (defined_entry x.value) is) ∙ compound x.value) (by_alias d x.value (IsUsed h (stated_of c k) → ⊥) refl (through x.value x.at x.own is) (plain x.value x.at)) (place_is k (defined_entry x.value) (ItemKind.Value v) is m) deep
      where
        plain : (x : DefinedType) → slice_get c.defined_types d.index ≡ Some x → ((t : ValueType) → x ≡ DefinedType.Alias t → ⊥) → IsUsed h (stated_of c (ItemKind.Value (ValueType.Defined d))) → ⊥
        plain x at other u =
            let k = ItemKind.Value (ValueType.Defined d) in
            f (no_alias c d x at other) scope (inr (subst (HasTree c s.known.all.items) (tree_is k) (known (stated_of c k) u)))

        only : (t : ValueType) → Among (Some (ItemKind.Value v)) (Some (ItemKind.Value t) ∷ []) → v ≡ t
        only t (inl e) = cc e
        only t (inr e) = absurd e

        through : (x : DefinedType) → slice_get c.defined_types d.index ≡ Some x → d.collection ≡ c.number → item_node c (ItemKind.Value (ValueType.Defined d)) ≡ Some (defined_entry x) → (t : ValueType) → x ≡ DefinedType.Alias t
            → IsUsed h (stated_of c (ItemKind.Value (ValueType.Defined d))) → ⊥
        through x at own is t e u =
            let k = ItemKind.Value (ValueType.Defined d) in
            let same : v ≡ t = only t (subst (λ l. Among (Some (ItemKind.Value v)) l) (ap slots_in is ∙ ap (λ y. (defined_entry y).1) e) m) in
            let trees = tree_is k ∙ alias_tree c a d t (at ∙ ap Some e) own ∙ sym (tree_is (ItemKind.Value t)) ∙ ap (λ y. tree (stated_of c (ItemKind.Value y))) (sym same) in
            unused deep (used_alike h (stated_of c k) (stated_of c (ItemKind.Value v)) trees u)

    hangs : (k : ItemKind) → Hangs c s.resources s k → (v : ValueType) → k ≡ ItemKind.Value v → Stands c k → Dangles h (stated_of c k)
    hangs _ (own_dangles {r = r} u f) v e st = own_hangs r st u f
    hangs _ (borrow_dangles {r = r} u f) v e st = borrow_hangs r st u f
    hangs _ (part_dangles {k = k} {v = w} f m d) v e st = by (λ inside. hangs (ItemKind.Value w) d w refl inside) v e
      where
        by : (Stands c (ItemKind.Value w) → Dangles h (stated_of c (ItemKind.Value w))) → (v : ValueType) → k ≡ ItemKind.Value v → Dangles h (stated_of c k)
        by deep (ValueType.Primitive p) e = absurd (subst (λ l. Among (Some (ItemKind.Value w)) l) (ap (slots_of c) e ∙ slots_primitive c p) m)
        by deep (ValueType.Own r) e = absurd (no_value_in c r w (own_resource c a r (subst (λ j. Stands c j) e st)) (subst (λ l. Among (Some (ItemKind.Value w)) l) (ap (slots_of c) e ∙ slots_own c r) m))
        by deep (ValueType.Borrow r) e = absurd (no_value_in c r w (borrow_resource c a r (subst (λ j. Stands c j) e st)) (subst (λ l. Among (Some (ItemKind.Value w)) l) (ap (slots_of c) e ∙ slots_borrow c r) m))
        by deep (ValueType.Defined t) e =
            let there = subst (λ j. Among (Some (ItemKind.Value w)) (slots_of c j)) e m in
            let stands = subst (λ j. Stands c j) e st in
            let x = defined_found c t stands in
            let inside = place_stands (ItemKind.Value (ValueType.Defined t)) (defined_entry x.value) (ItemKind.Value w) (defined_node c t x.value x.at x.own) there in
            subst (λ j. Dangles h (stated_of c j)) (sym e) (defined_hangs t w stands (subst (IsLookedUp c s) e f) there (deep inside))

    -- of a function one of the types dangles
    func_hangs : (k : ItemKind) → Hangs c s.resources s k → (f : FuncTypeId) → k ≡ ItemKind.Func f → Stands c k → (x : Stated) × Among (Some x) (places_of (stated_of c k)) × Dangles h x
    func_hangs _ (own_dangles {r = r} u f) t e st = absurd (cc e)
    func_hangs _ (borrow_dangles {r = r} u f) t e st = absurd (cc e)
    func_hangs _ (part_dangles {k = k} {v = v} f m d) t e st =
        let x = node_of (item_node c k) st in
        (stated_of c (ItemKind.Value v), place_is k x.0 (ItemKind.Value v) x.1 m, hangs (ItemKind.Value v) d v refl (place_stands k x.0 (ItemKind.Value v) x.1 m))

    -- a resource that is no fresh one and that no use gives
    resource_refused : (outer : Bool) (n : Name) (q : ResourceId) → Stands c (ItemKind.Ty (TypeKind.Resource q)) → IsUnnamed c s.resources q → is_fresh (n, stated_of c (ItemKind.Ty (TypeKind.Resource q))) ≡ false
        → (IsGiven h n (stated_of c (ItemKind.Ty (TypeKind.Resource q))) → ⊥) → CannotBeWritten outer h n (stated_of c (ItemKind.Ty (TypeKind.Resource q)))
    resource_refused outer n q st u fresh given = let f = resource_found c q st in by f.value.name f.value.alias (resource_node c q f.value f.at f.own)
      where
        own_name : (m : Name) → item_node c (ItemKind.Ty (TypeKind.Resource q)) ≡ Some (resource_entry_at m None) → n ≡ m → ⊥
        own_name m is e =
            let x = stated_of c (ItemKind.Ty (TypeKind.Resource q)) in
            let root = ap root_name (stated_step c a (ItemKind.Ty (TypeKind.Resource q)) (resource_entry_at m None) is) in
            let equal = (bytes_eq-Decides n (root_name x)).1 (e ∙ sym root) in
            let kind = resource_kind c a (ItemKind.Ty (TypeKind.Resource q)) q refl st in
            let yes : is_fresh (n, x) ≡ true = ap (λ b. b && bytes_eq n (root_name x)) kind ∙ equal in
            absurd (cc (yes, fresh))

        by : (m : Name) (o : Option ResourceAlias) → item_node c (ItemKind.Ty (TypeKind.Resource q)) ≡ Some (resource_entry_at m o) → CannotBeWritten outer h n (stated_of c (ItemKind.Ty (TypeKind.Resource q)))
        by m None is = renamed m (ap shape_of (stated_step c a (ItemKind.Ty (TypeKind.Resource q)) (resource_entry_at m None) is)) (own_name m is) given
        by m (Some b) is = an_alias m (ap shape_of (stated_step c a (ItemKind.Ty (TypeKind.Resource q)) (resource_entry_at m (Some b)) is)) (not_rooted q (root_name (stated_of c (ItemKind.Ty (TypeKind.Resource q)))) st u refl)

    module _ (u : ItemScope) (t : ItemScope) (same_types : t.types ≡ s) (same : u.types.resources ≡ s.resources) where
      moved : (k : ItemKind) → Hangs c u.types.resources t.types k → Hangs c s.resources s k
      moved k g = subst (λ (x : TypeScope). Hangs c s.resources x k) same_types (subst (λ rs. Hangs c rs t.types k) same g)

      by_kind : (outer : Bool) (n : Name) (k : ItemKind) → Stands c k → IsWrittenAlone c h n k → RefusedItem c k t u WriteError.Unwritable → CannotBeWritten outer h n (stated_of c k)
      by_kind outer n (ItemKind.Ty (TypeKind.Resource q)) st alone r = resource_refused outer n q st (subst (λ rs. IsUnnamed c rs q) same r.1) alone.not_fresh alone.not_given
      by_kind outer n (ItemKind.Ty (TypeKind.Func f)) st alone r =
          let g = func_hangs (ItemKind.Func f) (moved (ItemKind.Func f) r) f refl (stands_typed_func c f st) in
          a_function_type (kind_stated c a (ItemKind.Ty (TypeKind.Func f)) st) (typed_place f g.0 st g.1) g.2
      by_kind outer n (ItemKind.Ty (TypeKind.Value v)) st alone r =
          a_value_type (kind_stated c a (ItemKind.Ty (TypeKind.Value v)) st)
          (subst (Dangles h) (sym (value_untyped v st)) (hangs (ItemKind.Value v) (moved (ItemKind.Value v) r) v refl (stands_typed_value c v st)))
      by_kind outer n (ItemKind.Ty (TypeKind.Interface i)) st alone r = absurd (alone.simple.no_interface i refl)
      by_kind outer n (ItemKind.Ty (TypeKind.World w)) st alone r = absurd (alone.simple.no_world w refl)
      by_kind outer n (ItemKind.Ty (TypeKind.Module m)) st alone r = module_as_type (kind_stated c a (ItemKind.Ty (TypeKind.Module m)) st)
      by_kind outer n (ItemKind.Func f) st alone r =
          let g = func_hangs (ItemKind.Func f) (moved (ItemKind.Func f) r) f refl st in
          a_function (kind_stated c a (ItemKind.Func f) st) g.1 g.2
      by_kind outer n (ItemKind.Instance i) st alone r = absurd (alone.simple.no_interface i refl)
      by_kind outer n (ItemKind.Component w) st alone r = absurd (alone.simple.no_world w refl)
      by_kind outer n (ItemKind.Module m) st alone r = core_items r.0 (module_shape m r.0 st r.1) (module_false r.0 r.2)
      by_kind outer n (ItemKind.Value v) st alone r = a_value (kind_stated c a (ItemKind.Value v) st)

pub refused_unwritable : Refused_is_unwritable
refused_unwritable c s u h a scope stocks same outer n k st alone r = by_kind c a s.types h scope stocks u s refl same outer n k st alone r
