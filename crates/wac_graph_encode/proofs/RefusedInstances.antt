-- Instance types that the writer refuses where all that they use stands around.
use Rattle.std.proofs.Common.{◌≡◌, ◌⊎◌, ◌<◌, ◌≤◌, ◌+◌, length, ◌-◌, ◌^◌, ℕ, Bool, true, false, List, [], ◌∷◌, map, Option, Some, None, inl, inr, refl, sym, ap, ◌∙◌, subst, unwrap_or, arith}
use Rattle.std.specs.Prelude.{◌&&◌, ◌||◌, bytes_eq, filter, option_map, is_none}
use Rattle.std.specs.List.{list_any}
use Rattle.std.proofs.lemmas.Slice.Eq.{bytes_eq-Decides}
use Rattle.std.proofs.lemmas.Option.{none-some, same_Some}
use Rattle.wac_types_base.specs.declared.ids.InterfaceId.{InterfaceId}
use Rattle.wac_types_base.specs.declared.ids.WorldId.{WorldId}
use Rattle.wac_types_base.specs.declared.ids.DefinedTypeId.{DefinedTypeId}
use Rattle.wac_types_base.specs.declared.ids.FuncTypeId.{FuncTypeId}
use Rattle.wac_types_base.specs.declared.ids.ResourceId.{ResourceId}
use Rattle.wac_types_base.specs.declared.item.ValueType.{ValueType}
use Rattle.wac_types_base.specs.declared.item.«Type».{«Type» as TypeKind}
use Rattle.wac_types_base.specs.declared.item.ItemKind.{ItemKind}
use Rattle.wac_types_base.specs.declared.defined.UsedType.{UsedType}
use Rattle.wac_types_base.specs.declared.defined.ResourceAlias.{ResourceAlias}
use Rattle.wac_types_base.specs.Record.{Collection}
use Rattle.wac_types_base.specs.Entries.{Name, value_at}
use Rattle.wac_types_base.specs.Graph.{Among}
use Rattle.wac_types_base.specs.Collection.{Stands, IsAcyclic, item_node, slots_of, resource, resource_entry_at, defined_entry, own_of, borrow_of}
use Rattle.wac_types_base.specs.Stated.{Stated, Used, IsResource, IsValueType, shape_of, places_of, untyped, kind_of, stated_of, stated_use, interface_of, as_type, uses_of, exports_of, identifier_of, root_name}
use Rattle.wac_types_base.specs.Tree.{tree, type_item, rigid, end}
use Rattle.wac_types_base.specs.Entries.{with_values}
use Rattle.wac_types_base.proofs.Lists.{among_mapped, among_split, among_filtered, from_filtered}
use Rattle.wac_types_base.proofs.Standing.{resource_found, defined_found, interface_found, typed_value_stands}
use Rattle.wac_types_base.proofs.Stating.{stated_uses}
use Rattle.wac_types_base.proofs.Slots.{slots_own, slots_borrow, slots_primitive, stands_typed_value, stands_typed_func, stands_typed_interface}
use Rattle.wac_types_base.proofs.Telling.{item_kind, kind_stated, stated_step, own_node, borrow_node, defined_node, resource_node}
use Rattle.wac_types_fit.specs.Trees.{tree_in}
use Rattle.wac_types_fit.proofs.Items.{value_at-among}
use Rattle.wac_types_base.proofs.Looked.{among-get}
use Rattle.wac_types_fit.proofs.ItemKinds.{kind_is, resource_is, tree_kind}
use Rattle.wac_types_fit.proofs.Unfolded.{type_value}
use Rattle.wac_types_parts.specs.Parts.{IsOfInterface, IsOfWorld, IsUsedKind, used_if, interface_in}
use Rattle.wac_types_base.specs.Parts.{identifier_in}
use Rattle.wac_types_parts.specs.Parts.{exports_of as exports_in, uses_of as uses_in}
use Rattle.wac_types_parts.proofs.PartLaws.{uses_there, exports_there}
use Rattle.wac_types_parts.proofs.PartsStated.{uses_are, exports_are, identifier_is}
use Rattle.wac_types_written.proofs.Ids.{interface_states, interface_type_states}
use Rattle.wac_types_written.proofs.Parts.{interface_uses, interface_exports}
use Rattle.wac_composition.specs.Merging.{reached}
use Rattle.wac_composition.specs.Circles.{beside, is_standing}
use Rattle.wac_composition.specs.Writable.{Holder, is_fresh, is_resource, root_of, taken, holder, some_unnamed}
use Rattle.wac_composition.specs.NotWritten.{IsGiven, IsUsed, role, Dangles, handle, part, CannotBeWritten, a_value, core_items, module_as_type, renamed, an_alias, a_function, a_function_type, a_value_type, an_instance, an_interface, ItemsFail, unnamed, an_item}
use Rattle.wac_composition.proofs.Closures.{among_filter}
use Rattle.wac_composition.proofs.Lists.{mapped_among}
use Rattle.wac_writable.proofs.ItemLaws.{root_named, other_kind}
use Rattle.wac_writable.proofs.HolderLaws.{export_item_stands, takes, used_from}
use Rattle.wac_writable.proofs.TypesLaws.{exports_stand}
use Rattle.wac_writable.proofs.InterfaceLaws.{has_parts}
use Rattle.wac_writable.proofs.ValueLaws.{own_root, borrow_root, own_resource, borrow_resource}
use Rattle.wac_graph_scopes.specs.Used as table
use Rattle.wac_graph_scopes.specs.Stock.{IsTaken, IsStocked}
use Rattle.wac_graph_scopes.specs.InstanceRefusals.{InstanceRefused, too_deep, use_refused, export_refused, inner_refused, UseRefused, IsMissing, IsMissingValue, DanglesBeside, own_beside, borrow_beside, part_beside, ExportRefused}
use Rattle.wac_graph_scopes.proofs.StockLaws.{used_if_is}
use Rattle.wac_graph_scopes.proofs.LackingLaws.{no_value_in}
use Rattle.wac_graph_encode.proofs.CoreRefused.{module_false}
use Rattle.wac_graph_encode.proofs.SmallerInterfaces.{smaller, interface_stands, fewer_inside, fewer_than_all}
use Rattle.wac_graph_encode.proofs.StockLaws.{node_of, compound, tree_is, place_is, place_stands, typed_place, value_untyped, module_shape}
use Rattle.wac_graph_scopes.specs.Prepared.{IsWithin, itself, exported}
use Rattle.wac_graph_causes.specs.Beside.{stands_named}
use Rattle.wac_graph_causes.proofs.Besides.{IsNoInstance, is_kept, interface_beside, interface_type_beside, other_beside}
use Rattle.wac_graph_encode.specs.RefusedInstances.{HasNoWorld, Refused_instance_is_unwritable, Refused_beside_is_unwritable}

-- ---- kinds

abbrev IsOfUsedKind : ItemKind → Type 0
IsOfUsedKind k = (item_kind k ≡ IsResource) ⊎ (item_kind k ≡ IsValueType)

used_kind_is : (k : ItemKind) → IsUsedKind k → IsOfUsedKind k
used_kind_is (ItemKind.Ty (TypeKind.Resource r)) h = inl refl
used_kind_is (ItemKind.Ty (TypeKind.Value r)) h = inr refl
used_kind_is (ItemKind.Ty (TypeKind.Func r)) h = absurd h
used_kind_is (ItemKind.Ty (TypeKind.Interface r)) h = absurd h
used_kind_is (ItemKind.Ty (TypeKind.World r)) h = absurd h
used_kind_is (ItemKind.Ty (TypeKind.Module r)) h = absurd h
used_kind_is (ItemKind.Func r) h = absurd h
used_kind_is (ItemKind.Instance r) h = absurd h
used_kind_is (ItemKind.Component r) h = absurd h
used_kind_is (ItemKind.Module r) h = absurd h
used_kind_is (ItemKind.Value r) h = absurd h

any_true : {X : Type 0} (p : X → Bool) (xs : List X) (x : X) → Among x xs → p x ≡ true → list_any p xs ≡ true
any_true p [] x m e = absurd m
any_true p (y ∷ ys) x (inl s) e = ap (λ b. b || list_any p ys) (ap p (sym s) ∙ e)
any_true p (y ∷ ys) x (inr m) e = ap (λ b. p y || b) (any_true p ys x m e) ∙ or_right (p y)
  where
    or_right : (b : Bool) → (b || true) ≡ true
    or_right true = refl
    or_right false = refl

abbrev item_at : Collection → Name × UsedType → Option ItemKind
item_at c u = used_if (value_at (exports_in c u.1.interface) (unwrap_or u.1.name u.0))

abbrev named_as : Name → Stated → Name × Stated
named_as n y = (n, y)

-- an item of an interface is of no type that uses give
not_used_kind : (k : ItemKind) (j : InterfaceId) → IsOfInterface k j → IsOfUsedKind k → ⊥
not_used_kind (ItemKind.Instance l) j is (inl e) = absurd (cc e)
not_used_kind (ItemKind.Instance l) j is (inr e) = absurd (cc e)
not_used_kind (ItemKind.Ty (TypeKind.Interface l)) j is (inl e) = absurd (cc e)
not_used_kind (ItemKind.Ty (TypeKind.Interface l)) j is (inr e) = absurd (cc e)
not_used_kind k j is e = is

no_resource : (k : ItemKind) (j : InterfaceId) → IsOfInterface k j → is_resource (item_kind k) ≡ true → ⊥
no_resource (ItemKind.Instance l) j is e = absurd (cc e)
no_resource (ItemKind.Ty (TypeKind.Interface l)) j is e = absurd (cc e)
no_resource k j is e = is

-- an item is of an interface, or not
of_interface : (k : ItemKind) → ((j : InterfaceId) × IsOfInterface k j) ⊎ IsNoInstance k
of_interface (ItemKind.Instance j) = inl (j, refl)
of_interface (ItemKind.Ty (TypeKind.Interface j)) = inl (j, refl)
of_interface k = inr tt

no_instance_refused : (c : Collection) (us : table.Used) (i : InterfaceId) (k : ItemKind) → ExportRefused c us i k → IsNoInstance k
no_instance_refused c us i (ItemKind.Instance j) f = absurd f
no_instance_refused c us i (ItemKind.Ty (TypeKind.Interface j)) f = absurd f
no_instance_refused c us i k f = tt

-- an item of an interface, however it is seen, whose items fail
pub cannot_be_written : (outer : Bool) (h : Holder) (n : Name) (k : ItemKind) (j : InterfaceId) → IsOfInterface k j → {y : Stated} → kind_of y ≡ item_kind k → ItemsFail outer (uses_of y) (exports_of y) → CannotBeWritten outer h n y
cannot_be_written outer h n (ItemKind.Instance l) j is kind f = an_instance kind f
cannot_be_written outer h n (ItemKind.Ty (TypeKind.Interface l)) j is kind f = an_interface kind f
cannot_be_written outer h n k j is kind f = absurd is

-- ---- how items are seen: with their uses, or with some of them

-- An interface is seen with those of its uses that are kept, and with its exports, each so seen. All else is seen as it is.
pub record IsView (c : Collection) (view : Stated → Stated) (keep : Name × UsedType → Bool) : Type 0 where
  -- of no interface
  pub other : (k : ItemKind) → Stands c k → IsNoInstance k → view (stated_of c k) ≡ stated_of c k
  -- an interface type is seen as its instance
  pub kind : (k : ItemKind) (j : InterfaceId) → IsOfInterface k j → Stands c k → kind_of (view (stated_of c k)) ≡ item_kind k
  pub tree : (k : ItemKind) (j : InterfaceId) → IsOfInterface k j → Stands c k → tree_kind (tree (view (stated_of c k))) ≡ item_kind k
  pub uses_alike : (k : ItemKind) (j : InterfaceId) → IsOfInterface k j → Stands c k → uses_of (view (stated_of c k)) ≡ uses_of (view (stated_of c (ItemKind.Instance j)))
  pub exports_alike : (k : ItemKind) (j : InterfaceId) → IsOfInterface k j → Stands c k → exports_of (view (stated_of c k)) ≡ exports_of (view (stated_of c (ItemKind.Instance j)))
  -- the uses that are kept, among them those of interfaces without identifiers
  pub used : (i : InterfaceId) → Stands c (ItemKind.Instance i) → (u : Used) → Among u (uses_of (view (stated_of c (ItemKind.Instance i))))
      → (e : Name × UsedType) × Among e (uses_in c i) × (keep e ≡ true) × (stated_use c e ≡ u)
  pub unnamed_kept : (i : InterfaceId) → Stands c (ItemKind.Instance i) → (e : Name × UsedType) → Among e (uses_in c i) → identifier_in (interface_in c e.1.interface) ≡ None
      → Among (stated_use c e) (uses_of (view (stated_of c (ItemKind.Instance i))))
  pub exports_are : (i : InterfaceId) → Stands c (ItemKind.Instance i) → exports_of (view (stated_of c (ItemKind.Instance i))) ≡ map (λ (e : Name × ItemKind). (e.0, view (stated_of c e.1))) (exports_in c i)

-- what is taken by uses that are kept stands around
abbrev KeptStand : Collection → (keep : Name × UsedType → Bool) → table.Used → InterfaceId → Type 0
KeptStand c keep us i = (u : Name × UsedType) → Among u (uses_in c i) → keep u ≡ true → (k : ItemKind) → item_at c u ≡ Some k → IsTaken c us i k

-- what is taken by those of interfaces with identifiers
abbrev NamedStand : Collection → (keep : Name × UsedType → Bool) → table.Used → InterfaceId → Type 0
NamedStand c keep us i = (u : Name × UsedType) → Among u (uses_in c i) → (n : Name) → identifier_in (interface_in c u.1.interface) ≡ Some n → keep u ≡ true → (k : ItemKind) → item_at c u ≡ Some k → IsTaken c us i k

-- some use is of an interface without identifier, or all have one
module _ (c : Collection) where
  abbrev named : Name × UsedType → Option Name
  named u = identifier_in (interface_in c u.1.interface)

  abbrev LackOrHave : List (Name × UsedType) → Type 0
  LackOrHave us = ((u : Name × UsedType) × Among u us × (named u ≡ None)) ⊎ ((u : Name × UsedType) → Among u us → (n : Name) × (named u ≡ Some n))

  lack_or_have : (us : List (Name × UsedType)) → LackOrHave us
  lack_or_have [] = inr (λ u m. absurd m)
  lack_or_have (u ∷ us) = by (named u) refl (lack_or_have us)
    where
      by : (o : Option Name) → named u ≡ o → LackOrHave us → LackOrHave (u ∷ us)
      by None e rest = inl (u, inl refl, e)
      by (Some n) e (inl h) = inl (h.0, inr h.1, h.2)
      by (Some n) e (inr h) = inr (λ v m. elim m [ inl q ↦ (n, ap named q ∙ e) | inr j ↦ h v j ])

module _ (c : Collection) (a : IsAcyclic c) (view : Stated → Stated) (keep : Name × UsedType → Bool) (seen : IsView c view keep) (us : table.Used) (i : InterfaceId) (whole : Stands c (ItemKind.Instance i)) where
  abbrev x : Stated
  x = view (stated_of c (ItemKind.Instance i))

  abbrev h : Holder
  h = holder (uses_of x) (exports_of x)

  -- ---- what stands in it

  -- an item that is used is one that is taken
  pub record TakenItem (y : Stated) : Type 0 where
    pub item : ItemKind
    pub taken : IsTaken c us i item
    pub is : y ≡ stated_of c item
    pub stands : Stands c item
    pub used : IsUsedKind item

  module _ (all : KeptStand c keep us i) where
    taken_by : (u : Name × UsedType) → Among u (uses_in c i) → keep u ≡ true → (n : Name) (y : Stated) (o : Option ItemKind) → item_at c u ≡ o → option_map (λ k. named_as u.0 (stated_of c k)) o ≡ Some (n, y) → TakenItem y
    taken_by u m t n y None e is = absurd (none-some _ is)
    taken_by u m t n y (Some k) e is = record {
      item = k;
      taken = all u m t k e;
      is = sym (ap (λ (p : Name × Stated). p.1) (same_Some _ _ is));
      stands = export_item_stands c a u.1.interface (unwrap_or u.1.name u.0) k (used_from (value_at (exports_in c u.1.interface) (unwrap_or u.1.name u.0)) k e);
      used = (used_if_is (value_at (exports_in c u.1.interface) (unwrap_or u.1.name u.0)) k e).1;
    }

    taken_item : (n : Name) (y : Stated) → Among (n, y) h.used → TakenItem y
    taken_item n y m =
        let f = from_filtered taken (uses_of x) (n, y) m in
        let u = seen.used i whole f.0 f.1 in
        taken_by u.0 u.1 u.2 n y (item_at c u.0) refl (sym (takes c a u.0) ∙ ap taken u.3 ∙ f.2)

    resource_tree : (r : ResourceId) → Stands c (ItemKind.Ty (TypeKind.Resource r)) → tree_in c (ItemKind.Ty (TypeKind.Resource r)) ≡ rigid (resource (root_name (stated_of c (ItemKind.Ty (TypeKind.Resource r))))) end
    resource_tree r st = let t = resource_is c a r st in t.1 ∙ ap (λ n. rigid (resource n) end) (sym (root_named c a r t.0 st (λ z. t.1)))

    -- a resource among them, by its kind
    by_resource : (P : ItemKind → Type 0) (k : ItemKind) → is_resource (kind_of (stated_of c k)) ≡ true → ((r : ResourceId) → P (ItemKind.Ty (TypeKind.Resource r))) → P k
    by_resource P (ItemKind.Ty (TypeKind.Resource r)) e f = f r
    by_resource P (ItemKind.Ty (TypeKind.Func g)) e f = let no = other_kind c a (ItemKind.Ty (TypeKind.Func g)) refl in absurd (cc (no, e))
    by_resource P (ItemKind.Ty (TypeKind.Value g)) e f = let no = other_kind c a (ItemKind.Ty (TypeKind.Value g)) refl in absurd (cc (no, e))
    by_resource P (ItemKind.Ty (TypeKind.Interface g)) e f = let no = other_kind c a (ItemKind.Ty (TypeKind.Interface g)) refl in absurd (cc (no, e))
    by_resource P (ItemKind.Ty (TypeKind.World g)) e f = let no = other_kind c a (ItemKind.Ty (TypeKind.World g)) refl in absurd (cc (no, e))
    by_resource P (ItemKind.Ty (TypeKind.Module g)) e f = let no = other_kind c a (ItemKind.Ty (TypeKind.Module g)) refl in absurd (cc (no, e))
    by_resource P (ItemKind.Func g) e f = let no = other_kind c a (ItemKind.Func g) refl in absurd (cc (no, e))
    by_resource P (ItemKind.Instance g) e f = let no = other_kind c a (ItemKind.Instance g) refl in absurd (cc (no, e))
    by_resource P (ItemKind.Component g) e f = let no = other_kind c a (ItemKind.Component g) refl in absurd (cc (no, e))
    by_resource P (ItemKind.Module g) e f = let no = other_kind c a (ItemKind.Module g) refl in absurd (cc (no, e))
    by_resource P (ItemKind.Value g) e f = let no = other_kind c a (ItemKind.Value g) refl in absurd (cc (no, e))

    and_both : (p q : Bool) → (p && q) ≡ true → (p ≡ true) × (q ≡ true)
    and_both true q e = (refl, e)
    and_both false q e = absurd (cc e)

    -- a resource is seen as it is
    resource_seen : (k : ItemKind) → Stands c k → is_resource (kind_of (view (stated_of c k))) ≡ true → view (stated_of c k) ≡ stated_of c k
    resource_seen k st e = elim (of_interface k) [
      | inl j ↦ let kind = seen.kind k j.0 j.1 st in absurd (no_resource k j.0 j.1 (ap is_resource (sym kind) ∙ e))
      | inr other ↦ seen.other k st other
    ]

    own_stocked : (n : Name) (k : ItemKind) → Among (n, k) (exports_in c i) → is_fresh (n, stated_of c k) ≡ true → IsStocked c us i (rigid (resource (root_name (stated_of c k))) end)
    own_stocked n k m e =
        let b = and_both (is_resource (kind_of (stated_of c k))) (bytes_eq n (root_name (stated_of c k))) e in
        by_resource (λ j. Among (n, j) (exports_in c i) → bytes_eq n (root_name (stated_of c j)) ≡ true → IsStocked c us i (rigid (resource (root_name (stated_of c j))) end)) k b.0
        (λ r there same. (
        let st = exports_stand c a i whole (n, ItemKind.Ty (TypeKind.Resource r)) there in
        let is = resource_tree r st in
        let named : n ≡ root_name (stated_of c (ItemKind.Ty (TypeKind.Resource r))) = (bytes_eq-Decides n (root_name (stated_of c (ItemKind.Ty (TypeKind.Resource r))))).0 same in
        (ItemKind.Ty (TypeKind.Resource r), inr (n, there, (st, is ∙ ap (λ m. rigid (resource m) end) (sym named))), is)
        )) m b.1

    taken_stocked : (k : ItemKind) → IsTaken c us i k → Stands c k → is_resource (kind_of (stated_of c k)) ≡ true → IsStocked c us i (rigid (resource (root_name (stated_of c k))) end)
    taken_stocked k t st e =
        by_resource (λ j. IsTaken c us i j → Stands c j → IsStocked c us i (rigid (resource (root_name (stated_of c j))) end)) k e
        (λ r t st. (ItemKind.Ty (TypeKind.Resource r), inl t, resource_tree r st)) t st

    -- the resource of a root name stands there
    root_stocked : (m : Name) → Among m h.roots → IsStocked c us i (rigid (resource m) end)
    root_stocked m there = elim (among_split m (map root_of (filter is_fresh (exports_of x))) (map root_of (filter (λ e. is_resource (kind_of e.1)) h.used)) there) [
      | inl p ↦ (
          let e = mapped_among root_of (filter is_fresh (exports_of x)) m p in
          let f = among_filtered is_fresh (exports_of x) e.0 e.1 in
          let k = mapped_among (λ (e : Name × ItemKind). (e.0, view (stated_of c e.1))) (exports_in c i) e.0 (subst (Among e.0) (seen.exports_are i whole) f.0) in
          let fresh = and_both (is_resource (kind_of (view (stated_of c k.0.1)))) (bytes_eq k.0.0 (root_name (view (stated_of c k.0.1)))) (ap is_fresh (sym k.2) ∙ f.1) in
          let same : (k.0.0, stated_of c k.0.1) ≡ e.0 = ap (λ y. named_as k.0.0 y) (sym (resource_seen k.0.1 (exports_stand c a i whole k.0 k.1) fresh.0)) ∙ sym k.2 in
          subst (λ n. IsStocked c us i (rigid (resource n) end)) (ap root_of same ∙ sym e.2) (own_stocked k.0.0 k.0.1 k.1 (ap is_fresh same ∙ f.1))
          )
      | inr p ↦ (
          let e = mapped_among root_of (filter (λ e. is_resource (kind_of e.1)) h.used) m p in
          let f = among_filtered (λ e. is_resource (kind_of e.1)) h.used e.0 e.1 in
          let t = taken_item e.0.0 e.0.1 f.0 in
          subst (λ n. IsStocked c us i (rigid (resource n) end)) (ap root_name (sym t.is) ∙ sym e.2)
          (taken_stocked t.item t.taken t.stands (ap (λ y. is_resource (kind_of y)) (sym t.is) ∙ f.1))
          )
    ]

    -- ---- what does not

    rootless : (r : ResourceId) → Stands c (ItemKind.Ty (TypeKind.Resource r)) → IsMissing c us i (ItemKind.Ty (TypeKind.Resource r)) → (n : Name) → n ≡ root_name (stated_of c (ItemKind.Ty (TypeKind.Resource r))) → Among n h.roots → ⊥
    rootless r st f n e m = f (subst (IsStocked c us i) (ap (λ z. rigid (resource z) end) e ∙ sym (resource_tree r st)) (root_stocked n m))

    -- an item that a use gives stands there
    given_stocked : (n : Name) (y : Stated) → IsGiven h n y → (j : ItemKind) × IsTaken c us i j × Stands c j × IsUsedKind j × (tree_in c j ≡ tree y)
    given_stocked n y g =
        let t = taken_item n g.item (value_at-among h.used n g.item g.taken) in
        (t.item, t.taken, t.stands, t.used, sym (tree_is c a t.item) ∙ ap tree (sym t.is) ∙ g.same)

    not_given : (n : Name) (k : ItemKind) → IsMissing c us i k → IsGiven h n (stated_of c k) → ⊥
    not_given n k f g = let s = given_stocked n (stated_of c k) g in f (s.0, inl s.1, s.4 ∙ tree_is c a k)

    unused : (v : ValueType) → Stands c (ItemKind.Ty (TypeKind.Value v)) → IsMissing c us i (ItemKind.Ty (TypeKind.Value v)) → IsUsed h (stated_of c (ItemKind.Value v)) → ⊥
    unused v st f u =
        let t = taken_item u.name u.item u.taken in
        by t.item t.taken t.stands (ap kind_of (sym t.is) ∙ u.kind) (ap (λ y. tree (untyped y)) (sym t.is) ∙ u.same)
      where
        by : (k : ItemKind) → IsTaken c us i k → Stands c k → kind_of (stated_of c k) ≡ IsValueType → tree (untyped (stated_of c k)) ≡ tree (stated_of c (ItemKind.Value v)) → ⊥
        by (ItemKind.Ty (TypeKind.Value w)) t s kind e =
            let trees : tree_in c (ItemKind.Value w) ≡ tree_in c (ItemKind.Value v) = sym (tree_is c a (ItemKind.Value w)) ∙ ap tree (sym (value_untyped c a w s)) ∙ e ∙ tree_is c a (ItemKind.Value v) in
            f (ItemKind.Ty (TypeKind.Value w), inl t, type_value c a w s ∙ ap type_item trees ∙ sym (type_value c a v st))
        by (ItemKind.Ty (TypeKind.Resource r)) t s kind e = let k = kind_stated c a (ItemKind.Ty (TypeKind.Resource r)) s in absurd (cc (k, kind))
        by (ItemKind.Ty (TypeKind.Func r)) t s kind e = let k = kind_stated c a (ItemKind.Ty (TypeKind.Func r)) s in absurd (cc (k, kind))
        by (ItemKind.Ty (TypeKind.Interface r)) t s kind e = let k = kind_stated c a (ItemKind.Ty (TypeKind.Interface r)) s in absurd (cc (k, kind))
        by (ItemKind.Ty (TypeKind.World r)) t s kind e = let k = kind_stated c a (ItemKind.Ty (TypeKind.World r)) s in absurd (cc (k, kind))
        by (ItemKind.Ty (TypeKind.Module r)) t s kind e = let k = kind_stated c a (ItemKind.Ty (TypeKind.Module r)) s in absurd (cc (k, kind))
        by (ItemKind.Func r) t s kind e = let k = kind_stated c a (ItemKind.Func r) s in absurd (cc (k, kind))
        by (ItemKind.Instance r) t s kind e = let k = kind_stated c a (ItemKind.Instance r) s in absurd (cc (k, kind))
        by (ItemKind.Component r) t s kind e = let k = kind_stated c a (ItemKind.Component r) s in absurd (cc (k, kind))
        by (ItemKind.Module r) t s kind e = let k = kind_stated c a (ItemKind.Module r) s in absurd (cc (k, kind))
        by (ItemKind.Value r) t s kind e = let k = kind_stated c a (ItemKind.Value r) s in absurd (cc (k, kind))

    -- ---- values

    own_hangs : (r : ResourceId) → Stands c (ItemKind.Value (ValueType.Own r)) → IsMissing c us i (ItemKind.Ty (TypeKind.Resource r)) → IsMissing c us i (ItemKind.Ty (TypeKind.Value (ValueType.Own r))) → Dangles h (stated_of c (ItemKind.Value (ValueType.Own r)))
    own_hangs r st f g =
        let k = ItemKind.Value (ValueType.Own r) in
        let o = own_node c r st in
        handle (ap (λ x. role (shape_of x)) (stated_step c a k (own_of o.0, o.1) o.2)) (unused (ValueType.Own r) (typed_value_stands c (ValueType.Own r) ∙ st) g)
        (rootless r (own_resource c a r st) f (root_name (stated_of c k)) (own_root c a r st))

    borrow_hangs : (r : ResourceId) → Stands c (ItemKind.Value (ValueType.Borrow r)) → IsMissing c us i (ItemKind.Ty (TypeKind.Resource r)) → IsMissing c us i (ItemKind.Ty (TypeKind.Value (ValueType.Borrow r))) → Dangles h (stated_of c (ItemKind.Value (ValueType.Borrow r)))
    borrow_hangs r st f g =
        let k = ItemKind.Value (ValueType.Borrow r) in
        let o = borrow_node c r st in
        handle (ap (λ x. role (shape_of x)) (stated_step c a k (borrow_of o.0, o.1) o.2)) (unused (ValueType.Borrow r) (typed_value_stands c (ValueType.Borrow r) ∙ st) g)
        (rootless r (borrow_resource c a r st) f (root_name (stated_of c k)) (borrow_root c a r st))

    defined_hangs : (d : DefinedTypeId) (v : ValueType) → Stands c (ItemKind.Value (ValueType.Defined d)) → IsMissing c us i (ItemKind.Ty (TypeKind.Value (ValueType.Defined d))) → Among (Some (ItemKind.Value v)) (slots_of c (ItemKind.Value (ValueType.Defined d)))
        → Dangles h (stated_of c (ItemKind.Value v)) → Dangles h (stated_of c (ItemKind.Value (ValueType.Defined d)))
    defined_hangs d v st g m deep =
        let k = ItemKind.Value (ValueType.Defined d) in
        let y = defined_found c d st in
        let is = defined_node c d y.value y.at y.own in
        part (ap (λ z. role (shape_of z)) (stated_step c a k (defined_entry y.value) is) ∙ compound y.value) (unused (ValueType.Defined d) (typed_value_stands c (ValueType.Defined d) ∙ st) g) (place_is c a k (defined_entry y.value) (ItemKind.Value v) is m) deep

    hangs : (k : ItemKind) → DanglesBeside c us i k → (v : ValueType) → k ≡ ItemKind.Value v → Stands c k → Dangles h (stated_of c k)
    hangs _ (own_beside {r = r} f g) v e st = own_hangs r st f g
    hangs _ (borrow_beside {r = r} f g) v e st = borrow_hangs r st f g
    hangs _ (part_beside {k = k} {v = w} g m d) v e st = by (λ inside. hangs (ItemKind.Value w) d w refl inside) v e
      where
        by : (Stands c (ItemKind.Value w) → Dangles h (stated_of c (ItemKind.Value w))) → (v : ValueType) → k ≡ ItemKind.Value v → Dangles h (stated_of c k)
        by deep (ValueType.Primitive p) e = absurd (subst (λ l. Among (Some (ItemKind.Value w)) l) (ap (slots_of c) e ∙ slots_primitive c p) m)
        by deep (ValueType.Own r) e = absurd (no_value_in c r w (own_resource c a r (subst (λ j. Stands c j) e st)) (subst (λ l. Among (Some (ItemKind.Value w)) l) (ap (slots_of c) e ∙ slots_own c r) m))
        by deep (ValueType.Borrow r) e = absurd (no_value_in c r w (borrow_resource c a r (subst (λ j. Stands c j) e st)) (subst (λ l. Among (Some (ItemKind.Value w)) l) (ap (slots_of c) e ∙ slots_borrow c r) m))
        by deep (ValueType.Defined t) e =
            let there = subst (λ j. Among (Some (ItemKind.Value w)) (slots_of c j)) e m in
            let st = subst (λ j. Stands c j) e st in
            let y = defined_found c t st in
            let inside = place_stands c a (ItemKind.Value (ValueType.Defined t)) (defined_entry y.value) (ItemKind.Value w) (defined_node c t y.value y.at y.own) there in
            subst (λ j. Dangles h (stated_of c j)) (sym e) (defined_hangs t w st (subst (IsMissingValue c us i) e g) there (deep inside))

    func_hangs : (k : ItemKind) → DanglesBeside c us i k → (f : FuncTypeId) → k ≡ ItemKind.Func f → Stands c k → (y : Stated) × Among (Some y) (places_of (stated_of c k)) × Dangles h y
    func_hangs _ (own_beside {r = r} f g) t e st = absurd (cc e)
    func_hangs _ (borrow_beside {r = r} f g) t e st = absurd (cc e)
    func_hangs _ (part_beside {k = k} {v = v} g m d) t e st =
        let y = node_of (item_node c k) st in
        (stated_of c (ItemKind.Value v), place_is c a k y.0 (ItemKind.Value v) y.1 m, hangs (ItemKind.Value v) d v refl (place_stands c a k y.0 (ItemKind.Value v) y.1 m))

    -- ---- exports

    -- a use gives resources and value types alone
    gives_type : (n : Name) (k : ItemKind) → Stands c k → (IsOfUsedKind k → ⊥) → IsGiven h n (stated_of c k) → ⊥
    gives_type n k st other g =
        let s = given_stocked n (stated_of c k) g in
        let same : item_kind s.0 ≡ item_kind k = sym (kind_is c a s.0 s.2) ∙ ap tree_kind (s.4 ∙ tree_is c a k) ∙ kind_is c a k st in
        other (elim (used_kind_is s.0 s.3) [ inl e ↦ inl (sym same ∙ e) | inr e ↦ inr (sym same ∙ e) ])

    missing_of : (k : ItemKind) → DanglesBeside c us i k → IsMissingValue c us i k
    missing_of _ (own_beside f g) = g
    missing_of _ (borrow_beside f g) = g
    missing_of _ (part_beside g m d) = g

    resource_fails : (outer : Bool) (n : Name) (q : ResourceId) → Among (n, ItemKind.Ty (TypeKind.Resource q)) (exports_in c i) → Stands c (ItemKind.Ty (TypeKind.Resource q)) → IsMissing c us i (ItemKind.Ty (TypeKind.Resource q))
        → CannotBeWritten outer h n (stated_of c (ItemKind.Ty (TypeKind.Resource q)))
    resource_fails outer n q m st f = let y = resource_found c q st in by y.value.name y.value.alias (resource_node c q y.value y.at y.own)
      where
        own_name : (r : Name) → item_node c (ItemKind.Ty (TypeKind.Resource q)) ≡ Some (resource_entry_at r None) → n ≡ r → ⊥
        own_name r is e =
            let root = ap root_name (stated_step c a (ItemKind.Ty (TypeKind.Resource q)) (resource_entry_at r None) is) in
            f (ItemKind.Ty (TypeKind.Resource q), inr (n, m, (st, resource_tree q st ∙ ap (λ z. rigid (resource z) end) (root ∙ sym e))), refl)

        by : (r : Name) (o : Option ResourceAlias) → item_node c (ItemKind.Ty (TypeKind.Resource q)) ≡ Some (resource_entry_at r o) → CannotBeWritten outer h n (stated_of c (ItemKind.Ty (TypeKind.Resource q)))
        by r None is = renamed r (ap shape_of (stated_step c a (ItemKind.Ty (TypeKind.Resource q)) (resource_entry_at r None) is)) (own_name r is) (not_given n (ItemKind.Ty (TypeKind.Resource q)) f)
        by r (Some b) is = an_alias r (ap shape_of (stated_step c a (ItemKind.Ty (TypeKind.Resource q)) (resource_entry_at r (Some b)) is)) (rootless q st f (root_name (stated_of c (ItemKind.Ty (TypeKind.Resource q)))) refl)

    -- nor interfaces, however they are seen
    gives_interface : (n : Name) (k : ItemKind) (j : InterfaceId) → IsOfInterface k j → Stands c k → IsGiven h n (view (stated_of c k)) → ⊥
    gives_interface n k j is st g =
        let s = given_stocked n (view (stated_of c k)) g in
        let same : item_kind s.0 ≡ item_kind k = sym (kind_is c a s.0 s.2) ∙ ap tree_kind s.4 ∙ seen.tree k j is st in
        not_used_kind k j is (elim (used_kind_is s.0 s.3) [ inl e ↦ inl (sym same ∙ e) | inr e ↦ inr (sym same ∙ e) ])

    abbrev FailsAs : Bool → Name → Stated → Type 0
    FailsAs outer n y = (IsGiven h n y → ⊥) × CannotBeWritten outer h n y

    abbrev Fails : Bool → Name → ItemKind → Type 0
    Fails outer n k = FailsAs outer n (stated_of c k)

    export_fails : (outer : Bool) (n : Name) (k : ItemKind) → Among (n, k) (exports_in c i) → ((w : WorldId) → IsOfWorld k w → ⊥) → ExportRefused c us i k → Stands c k → Fails outer n k
    export_fails outer n (ItemKind.Ty (TypeKind.Resource q)) m no_world f st = (not_given n (ItemKind.Ty (TypeKind.Resource q)) f, resource_fails outer n q m st f)
    export_fails outer n (ItemKind.Ty (TypeKind.Func g)) m no_world f st =
        let k = ItemKind.Ty (TypeKind.Func g) in
        let d = func_hangs (ItemKind.Func g) f g refl (stands_typed_func c g st) in
        (gives_type n k st (λ e. elim e [ inl p ↦ absurd (cc p) | inr p ↦ absurd (cc p) ]), a_function_type (kind_stated c a k st) (typed_place c a g d.0 st d.1) d.2)
    export_fails outer n (ItemKind.Ty (TypeKind.Value v)) m no_world f st =
        let k = ItemKind.Ty (TypeKind.Value v) in
        (not_given n k (missing_of (ItemKind.Value v) f), a_value_type (kind_stated c a k st) (subst (Dangles h) (sym (value_untyped c a v st)) (hangs (ItemKind.Value v) f v refl (stands_typed_value c v st))))
    export_fails outer n (ItemKind.Ty (TypeKind.Interface j)) m no_world f st = absurd f
    export_fails outer n (ItemKind.Ty (TypeKind.World w)) m no_world f st = absurd (no_world w refl)
    export_fails outer n (ItemKind.Ty (TypeKind.Module q)) m no_world f st =
        let k = ItemKind.Ty (TypeKind.Module q) in
        (gives_type n k st (λ e. elim e [ inl p ↦ absurd (cc p) | inr p ↦ absurd (cc p) ]), module_as_type (kind_stated c a k st))
    export_fails outer n (ItemKind.Func g) m no_world f st =
        let k = ItemKind.Func g in
        let d = func_hangs k f g refl st in
        (gives_type n k st (λ e. elim e [ inl p ↦ absurd (cc p) | inr p ↦ absurd (cc p) ]), a_function (kind_stated c a k st) d.1 d.2)
    export_fails outer n (ItemKind.Instance j) m no_world f st = absurd f
    export_fails outer n (ItemKind.Component w) m no_world f st = absurd (no_world w refl)
    export_fails outer n (ItemKind.Module q) m no_world f st =
        let k = ItemKind.Module q in
        (gives_type n k st (λ e. elim e [ inl p ↦ absurd (cc p) | inr p ↦ absurd (cc p) ]), core_items f.0 (module_shape c a q f.0 st f.1) (module_false f.0 f.2))
    export_fails outer n (ItemKind.Value v) m no_world f st =
        let k = ItemKind.Value v in
        (gives_type n k st (λ e. elim e [ inl p ↦ absurd (cc p) | inr p ↦ absurd (cc p) ]), a_value (kind_stated c a k st))

    -- an export of no interface, as it is seen
    plain_fails : (outer : Bool) (n : Name) (k : ItemKind) → IsNoInstance k → Stands c k → Fails outer n k → FailsAs outer n (view (stated_of c k))
    plain_fails outer n k other st f = subst (FailsAs outer n) (sym (seen.other k st other)) f

    -- an export of an interface that fails
    inner_fails : (outer : Bool) (n : Name) (k : ItemKind) (j : InterfaceId) → IsOfInterface k j → Stands c k
        → ItemsFail outer (uses_of (view (stated_of c (ItemKind.Instance j)))) (exports_of (view (stated_of c (ItemKind.Instance j)))) → FailsAs outer n (view (stated_of c k))
    inner_fails outer n k j is st f = (
      gives_interface n k j is st,
      cannot_be_written outer h n k j is (seen.kind k j is st)
          (subst (λ us. ItemsFail outer us (exports_of (view (stated_of c k)))) (sym (seen.uses_alike k j is st))
          (subst (ItemsFail outer (uses_of (view (stated_of c (ItemKind.Instance j))))) (sym (seen.exports_alike k j is st)) f)),
    )

    item_fails : (outer : Bool) (n : Name) (k : ItemKind) → Among (n, k) (exports_in c i) → FailsAs outer n (view (stated_of c k)) → ItemsFail outer (uses_of x) (exports_of x)
    item_fails outer n k m f =
        an_item (subst (Among (n, view (stated_of c k))) (sym (seen.exports_are i whole)) (among_mapped (λ (e : Name × ItemKind). (e.0, view (stated_of c e.1))) (exports_in c i) (n, k) m)) f.0 f.1

-- ---- interfaces

module _ (c : Collection) (a : IsAcyclic c) (us : table.Used) where
  within_more : (id : InterfaceId) (n : Name) (k : ItemKind) (j : InterfaceId) → Among (n, k) (exports_in c id) → IsOfInterface k j → (i : InterfaceId) → IsWithin c j i → IsWithin c id i
  within_more id n k j m is _ itself = exported n k itself m is
  within_more id n k j m is _ (exported {i = i} p l w q e) = exported p l (within_more id n k j m is i w) q e

  module _ (view : Stated → Stated) (keep : Name × UsedType → Bool) (seen : IsView c view keep) where
    unnamed_use : (id : InterfaceId) → Stands c (ItemKind.Instance id) → (e : Name × UsedType) → Among e (uses_in c id) → identifier_in (interface_in c e.1.interface) ≡ None
        → some_unnamed (uses_of (view (stated_of c (ItemKind.Instance id)))) ≡ true
    unnamed_use id st e m own =
        any_true (λ (u : Used). is_none (identifier_of u.interface) || list_any (λ y. is_none (identifier_of y)) (reached u.interface)) (uses_of (view (stated_of c (ItemKind.Instance id)))) (stated_use c e) (seen.unnamed_kept id st e m own)
        (ap (λ o. is_none o || list_any (λ y. is_none (identifier_of y)) (reached (stated_of c (ItemKind.Instance e.1.interface)))) (identifier_is c a e.1.interface ∙ own))

    refused_use : (id : InterfaceId) → Stands c (ItemKind.Instance id) → UseRefused c id → some_unnamed (uses_of (view (stated_of c (ItemKind.Instance id)))) ≡ true
    refused_use id st f = let e = f.2.0 in unnamed_use id st e (among-get (uses_in c id) f.0 e f.2.1) (ap (λ j. identifier_in (interface_in c j)) (sym f.2.2.interface) ∙ f.3.2)

    -- where all have identifiers, what is kept stands around
    all_kept : (id : InterfaceId) → NamedStand c keep us id → ((u : Name × UsedType) → Among u (uses_in c id) → (n : Name) × (named c u ≡ Some n)) → KeptStand c keep us id
    all_kept id all have u m t k e = let n = have u m in all u m n.0 n.1 t k e

    refused_fails : (outer : Bool) (depth : ℕ) (id : InterfaceId) → InstanceRefused c us depth id → depth + smaller c id < 2 ^ 64 - 1 → Stands c (ItemKind.Instance id) → HasNoWorld c id
        → ((i : InterfaceId) → IsWithin c id i → NamedStand c keep us i)
        → ItemsFail outer (uses_of (view (stated_of c (ItemKind.Instance id)))) (exports_of (view (stated_of c (ItemKind.Instance id))))
    refused_fails outer depth id (too_deep e) few st no_world all = absurd (too_few depth (smaller c id) (2 ^ 64 - 1) e few)
      where
        too_few : (n m top : ℕ) → n ≡ top → n + m < top → ⊥
        too_few n m top e few = omega arith
    refused_fails outer depth id (use_refused u) few st no_world all = unnamed (refused_use id st u)
    refused_fails outer depth id (export_refused n k m f) few st no_world all = elim (lack_or_have c (uses_in c id)) [
      | inl h ↦ unnamed (unnamed_use id st h.0 h.1 h.2)
      | inr have ↦
          let kept = all_kept id (all id itself) have in
          let there = exports_stand c a id st (n, k) m in
          let fails = export_fails c a view keep seen us id st kept outer n k m (no_world id itself n k m) f there in
          item_fails c a view keep seen us id st kept outer n k m (plain_fails c a view keep seen us id st kept outer n k (no_instance_refused c us id k f) there fails)
    ]
    refused_fails outer depth id (inner_refused {inner = j} n k m is r) few st no_world all =
        let there = exports_stand c a id st (n, k) m in
        let still = one_more depth (smaller c j) (smaller c id) (2 ^ 64 - 1) (fewer_inside c a id st n k m j is) few in
        let f = refused_fails outer (depth + 1) j r still (interface_stands c a k j is there).0 (λ i w. no_world i (within_more id n k j m is i w)) (λ i w. all i (within_more id n k j m is i w)) in
        elim (lack_or_have c (uses_in c id)) [
          | inl h ↦ unnamed (unnamed_use id st h.0 h.1 h.2)
          | inr have ↦
              let kept = all_kept id (all id itself) have in
              item_fails c a view keep seen us id st kept outer n k m (inner_fails c a view keep seen us id st kept outer n k j is there f)
        ]
      where
        one_more : (n i m top : ℕ) → i < m → n + m < top → (n + 1) + i < top
        one_more n i m top less few = omega arith

    refused_unwritable : (id : InterfaceId) → Stands c (ItemKind.Instance id) → HasNoWorld c id → ((i : InterfaceId) → IsWithin c id i → NamedStand c keep us i) → (outer : Bool) (depth : ℕ) → depth + length c.interfaces ≤ 2 ^ 64 - 1
        → InstanceRefused c us depth id → ItemsFail outer (uses_of (view (stated_of c (ItemKind.Instance id)))) (exports_of (view (stated_of c (ItemKind.Instance id))))
    refused_unwritable id st no_world all outer depth few r =
        refused_fails outer depth id r (less depth (smaller c id) (length c.interfaces) (2 ^ 64 - 1) (fewer_than_all c a id st) few) st no_world all
      where
        less : (n m all top : ℕ) → m < all → n + all ≤ top → n + m < top
        less n m all top below few = omega arith

-- ---- both views

module _ (c : Collection) (a : IsAcyclic c) where
  pub uses_are_mapped : (i : InterfaceId) → uses_of (stated_of c (ItemKind.Instance i)) ≡ map (stated_use c) (uses_in c i)
  uses_are_mapped i = uses_are c a i ∙ stated_are (uses_in c i)
    where
      stated_are : (us : List (Name × UsedType)) → stated_uses c us ≡ map (stated_use c) us
      stated_are [] = refl
      stated_are (u ∷ us) = ap (λ l. stated_use c u ∷ l) (stated_are us)

  -- with all uses
  whole_view : IsView c (λ x. x) (λ e. true)
  whole_view = record {
    other = λ k st h. refl;
    kind = λ k j is st. kind_stated c a k st;
    tree = λ k j is st. ap tree_kind (tree_is c a k) ∙ kind_is c a k st;
    uses_alike = λ k j is st. (has_parts c a k j is st).uses;
    exports_alike = λ k j is st. (has_parts c a k j is st).exports;
    used = λ i st u m. (let e = mapped_among (stated_use c) (uses_in c i) u (subst (Among u) (uses_are_mapped i) m) in (e.0, e.1, refl, sym e.2));
    unnamed_kept = λ i st e m none. subst (Among (stated_use c e)) (sym (uses_are_mapped i)) (among_mapped (stated_use c) (uses_in c i) e m);
    exports_are = λ i st. exports_are c a i;
  }

  -- with the uses of those interfaces that stand
  module _ (stands : Name → Bool) where
    -- an interface as it is seen
    record Seen (j : InterfaceId) : Type 0 where
      name : Option Name
      uses : List (Name × UsedType)
      exports : List (Name × ItemKind)
      is : stated_of c (ItemKind.Instance j) ≡ interface_of name (map (stated_use c) uses) (with_values (stated_of c) exports)
      uses_is : uses_in c j ≡ uses
      exports_is : exports_in c j ≡ exports

    seen_of : (j : InterfaceId) → Stands c (ItemKind.Instance j) → Seen j
    seen_of j st =
        let f = interface_found c j st in
        record {
          name = f.value.id;
          uses = f.value.uses;
          exports = f.value.exports;
          is = interface_states c a j f.value f.at f.own;
          uses_is = uses_there c j f.value f.at f.own;
          exports_is = exports_there c j f.value f.at f.own;
        }

    abbrev kept_uses : List (Name × UsedType) → List Used
    kept_uses us = filter (is_kept stands) (map (stated_use c) us)

    abbrev seen_items : List (Name × ItemKind) → List (Name × Stated)
    seen_items es = with_values (beside stands) (with_values (stated_of c) es)

    instance_seen : (j : InterfaceId) (s : Seen j) → beside stands (stated_of c (ItemKind.Instance j)) ≡ interface_of s.name (kept_uses s.uses) (seen_items s.exports)
    instance_seen j s = ap (beside stands) s.is ∙ interface_beside stands s.name (map (stated_use c) s.uses) (with_values (stated_of c) s.exports)

    type_seen : (j : InterfaceId) (s : Seen j) → Stands c (ItemKind.Instance j) → beside stands (stated_of c (ItemKind.Ty (TypeKind.Interface j))) ≡ as_type (interface_of s.name (kept_uses s.uses) (seen_items s.exports))
    type_seen j s st =
        ap (beside stands) (interface_type_states c a j st ∙ ap as_type s.is) ∙ interface_type_beside stands s.name (map (stated_use c) s.uses) (with_values (stated_of c) s.exports)
        ∙ ap as_type (interface_beside stands s.name (map (stated_use c) s.uses) (with_values (stated_of c) s.exports))

    -- what holds of the interface, and of its type, holds of each as it is seen
    by_interface : (P : ItemKind → Stated → Type 0) → ((j : InterfaceId) (i : Option Name) (us : List Used) (es : List (Name × Stated)) → P (ItemKind.Instance j) (interface_of i us es))
        → ((j : InterfaceId) (i : Option Name) (us : List Used) (es : List (Name × Stated)) → P (ItemKind.Ty (TypeKind.Interface j)) (as_type (interface_of i us es)))
        → (k : ItemKind) (j : InterfaceId) → IsOfInterface k j → Stands c k → P k (beside stands (stated_of c k))
    by_interface P f g (ItemKind.Instance l) j is st = let s = seen_of l st in subst (P (ItemKind.Instance l)) (sym (instance_seen l s)) (f l s.name (kept_uses s.uses) (seen_items s.exports))
    by_interface P f g (ItemKind.Ty (TypeKind.Interface l)) j is st =
        let inside = stands_typed_interface c l st in
        let s = seen_of l inside in
        subst (P (ItemKind.Ty (TypeKind.Interface l))) (sym (type_seen l s inside)) (g l s.name (kept_uses s.uses) (seen_items s.exports))
    by_interface P f g (ItemKind.Ty (TypeKind.Resource r)) j is st = absurd is
    by_interface P f g (ItemKind.Ty (TypeKind.Func r)) j is st = absurd is
    by_interface P f g (ItemKind.Ty (TypeKind.Value r)) j is st = absurd is
    by_interface P f g (ItemKind.Ty (TypeKind.World r)) j is st = absurd is
    by_interface P f g (ItemKind.Ty (TypeKind.Module r)) j is st = absurd is
    by_interface P f g (ItemKind.Func r) j is st = absurd is
    by_interface P f g (ItemKind.Component r) j is st = absurd is
    by_interface P f g (ItemKind.Module r) j is st = absurd is
    by_interface P f g (ItemKind.Value r) j is st = absurd is

    -- the type of an interface has the parts of its instance
    alike : {A : Type 0} (read : Stated → A) → ((i : Option Name) (us : List Used) (es : List (Name × Stated)) → read (as_type (interface_of i us es)) ≡ read (interface_of i us es))
        → (k : ItemKind) (j : InterfaceId) → IsOfInterface k j → Stands c k → read (beside stands (stated_of c k)) ≡ read (beside stands (stated_of c (ItemKind.Instance j)))
    alike read f (ItemKind.Instance l) j is st = ap (λ m. read (beside stands (stated_of c (ItemKind.Instance m)))) is
    alike read f (ItemKind.Ty (TypeKind.Interface l)) j is st =
        let inside = stands_typed_interface c l st in
        let s = seen_of l inside in
        ap read (type_seen l s inside) ∙ f s.name (kept_uses s.uses) (seen_items s.exports) ∙ ap read (sym (instance_seen l s)) ∙ ap (λ m. read (beside stands (stated_of c (ItemKind.Instance m)))) is
    alike read f (ItemKind.Ty (TypeKind.Resource r)) j is st = absurd is
    alike read f (ItemKind.Ty (TypeKind.Func r)) j is st = absurd is
    alike read f (ItemKind.Ty (TypeKind.Value r)) j is st = absurd is
    alike read f (ItemKind.Ty (TypeKind.World r)) j is st = absurd is
    alike read f (ItemKind.Ty (TypeKind.Module r)) j is st = absurd is
    alike read f (ItemKind.Func r) j is st = absurd is
    alike read f (ItemKind.Component r) j is st = absurd is
    alike read f (ItemKind.Module r) j is st = absurd is
    alike read f (ItemKind.Value r) j is st = absurd is

    abbrev keeps : Name × UsedType → Bool
    keeps e = stands_named stands c e.1.interface

    kept_is : (e : Name × UsedType) → is_kept stands (stated_use c e) ≡ keeps e
    kept_is e = ap (is_standing stands) (identifier_is c a e.1.interface)

    beside_uses : (i : InterfaceId) (st : Stands c (ItemKind.Instance i)) → uses_of (beside stands (stated_of c (ItemKind.Instance i))) ≡ kept_uses (uses_in c i)
    beside_uses i st = let s = seen_of i st in ap uses_of (instance_seen i s) ∙ interface_uses s.name (kept_uses s.uses) (seen_items s.exports) ∙ ap kept_uses (sym s.uses_is)

    beside_exports : (i : InterfaceId) (st : Stands c (ItemKind.Instance i)) → exports_of (beside stands (stated_of c (ItemKind.Instance i))) ≡ map (λ (e : Name × ItemKind). (e.0, beside stands (stated_of c e.1))) (exports_in c i)
    beside_exports i st =
        let s = seen_of i st in
        ap exports_of (instance_seen i s) ∙ interface_exports s.name (kept_uses s.uses) (seen_items s.exports) ∙ ap seen_items (sym s.exports_is) ∙ twice (exports_in c i)
      where
        twice : (es : List (Name × ItemKind)) → seen_items es ≡ map (λ (e : Name × ItemKind). (e.0, beside stands (stated_of c e.1))) es
        twice [] = refl
        twice (e ∷ es) = ap (λ l. (e.0, beside stands (stated_of c e.1)) ∷ l) (twice es)

    pub beside_view : IsView c (beside stands) keeps
    beside_view = record {
      other = λ k st h. sym (other_beside stands c a k st h).states;
      kind = by_interface (λ k y. kind_of y ≡ item_kind k) (λ j i us es. refl) (λ j i us es. refl);
      tree = by_interface (λ k y. tree_kind (tree y) ≡ item_kind k) (λ j i us es. refl) (λ j i us es. refl);
      uses_alike = alike uses_of (λ i us es. refl);
      exports_alike = alike exports_of (λ i us es. refl);
      used = λ i st u m. (
          let f = among_filtered (is_kept stands) (map (stated_use c) (uses_in c i)) u (subst (Among u) (beside_uses i st) m) in
          let e = mapped_among (stated_use c) (uses_in c i) u f.0 in
          (e.0, e.1, sym (kept_is e.0) ∙ ap (is_kept stands) (sym e.2) ∙ f.1, sym e.2)
          );
      unnamed_kept = λ i st e m none. subst (Among (stated_use c e)) (sym (beside_uses i st))
          (among_filter (is_kept stands) (map (stated_use c) (uses_in c i)) (stated_use c e) (among_mapped (stated_use c) (uses_in c i) e m) (ap (is_standing stands) (identifier_is c a e.1.interface ∙ none)));
      exports_are = beside_exports;
    }

-- ---- the laws

pub instance_unwritable : Refused_instance_is_unwritable
instance_unwritable c a us id st no_world all outer depth few r =
    refused_unwritable c a us (λ x. x) (λ e. true) (whole_view c a) id st no_world (λ i w u m n name t k e. all i w u m n name k e) outer depth few r

pub beside_unwritable : Refused_beside_is_unwritable
beside_unwritable c a us id st no_world stands all outer depth few r =
    refused_unwritable c a us (beside stands) (keeps c a stands) (beside_view c a stands) id st no_world (λ i w u m n name t k e. all i w u m n name (sym (ap (is_standing stands) name) ∙ t) k e) outer depth few r
