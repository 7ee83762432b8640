-- The stated types of each collection are proper.
use Rattle.std.specs.Prelude.{◌==◌, option_map, slice_get, if◌then◌else◌}
use Rattle.std.proofs.lemmas.Option.{none-some, same_Some}
use Rattle.std.proofs.Common.{◌≡◌, ℕ, zero, suc, List, [], ◌∷◌, Bool, true, false, Option, Some, None, inl, inr, refl, sym, ap, subst, ◌∙◌}
use Rattle.wac_types_base.specs.declared.item.ValueType.{ValueType}
use Rattle.wac_types_base.specs.declared.item.«Type».{«Type» as TypeKind}
use Rattle.wac_types_base.specs.declared.item.ItemKind.{ItemKind}
use Rattle.wac_types_base.specs.declared.defined.DefinedType.{DefinedType}
use Rattle.wac_types_base.specs.declared.defined.ResourceAlias.{ResourceAlias}
use Rattle.wac_types_base.specs.Record.{Collection}
use Rattle.wac_types_base.specs.Entries.{Name}
use Rattle.wac_types_base.specs.Graph.{Wholes, node, more, hole, Among, both, skip, close, wholes_by, grow, whole}
use Rattle.wac_types_base.specs.Collection as s
use Rattle.wac_types_base.specs.Collection.{Shape, Entry, Slot, defined_entry, resource_entry, resource_entry_at, func_entry, interface_entry, world_entry, module_entry, entry_at, labelled, value_node, type_node, item_node, depth, unfolding_of}
use Rattle.wac_types_base.specs.Stated.{Stated, IsInstance, shape_kind, kind_of, places_in, stated_in, stated_of}
use Rattle.wac_parser_resolve.specs.Proper.{NoInstance, NamesNoInstance, Proper, proper}

-- an entry of a collection
at_entry : {E : Type 0} (P : Entry → Type 0) (f : E → Entry) → ((x : E) → P (f x)) → (number : ℕ) (es : List E) (collection index : ℕ) (e : Entry) → entry_at f number es collection index ≡ Some e → P e
at_entry {E = E} P f h number es collection index e q = go (collection == number) q
  where
    found : (o : Option E) → option_map f o ≡ Some e → P e
    found None r = absurd (none-some _ r)
    found (Some x) r = subst P (same_Some _ _ r) (h x)

    go : (b : Bool) → (if b then option_map f (slice_get es index) else None) ≡ Some e → P e
    go true r = found (slice_get es index) r
    go false r = absurd (none-some _ r)

at_label : (P : Entry → Type 0) (l : Shape → Shape) (o : Option Entry) → ((d : Entry) → o ≡ Some d → P (l d.0, d.1)) → (e : Entry) → labelled l o ≡ Some e → P e
at_label P l None h e q = absurd (none-some _ q)
at_label P l (Some d) h e q = subst P (same_Some _ _ q) (h d refl)

-- ---- values and resources are no instances

abbrev OfNoInstance : Entry → Type 0
OfNoInstance e = shape_kind e.0 ≡ IsInstance → ⊥

defined_kind : (d : DefinedType) → OfNoInstance (defined_entry d)
defined_kind (DefinedType.Tuple ts) q = cc
defined_kind (DefinedType.List x) q = cc
defined_kind (DefinedType.FixedSizeList x n) q = cc
defined_kind (DefinedType.Option x) q = cc
defined_kind (DefinedType.Result ok err) q = cc
defined_kind (DefinedType.Variant v) q = cc
defined_kind (DefinedType.Record r) q = cc
defined_kind (DefinedType.Flags f) q = cc
defined_kind (DefinedType.Enum n) q = cc
defined_kind (DefinedType.Alias x) q = cc
defined_kind (DefinedType.Stream o) q = cc
defined_kind (DefinedType.Future o) q = cc

resource_at_kind : (n : Name) (o : Option ResourceAlias) → OfNoInstance (resource_entry_at n o)
resource_at_kind n None q = cc
resource_at_kind n (Some a) q = cc

module _ (c : Collection) where
  value_entry : (v : ValueType) (e : Entry) → value_node c v ≡ Some e → OfNoInstance e
  value_entry (ValueType.Primitive p) e q = subst OfNoInstance (same_Some _ _ q) (λ r. cc)
  value_entry (ValueType.Borrow r) e q = at_label OfNoInstance s.borrow_of (entry_at resource_entry c.number c.resources r.collection r.index) (λ d h k. cc) e q
  value_entry (ValueType.Own r) e q = at_label OfNoInstance s.own_of (entry_at resource_entry c.number c.resources r.collection r.index) (λ d h k. cc) e q
  value_entry (ValueType.Defined d) e q = at_entry OfNoInstance defined_entry defined_kind c.number c.defined_types d.collection d.index e q

  -- what a kind unfolds to has the label of its entry
  abbrev NeverInstance : ItemKind → Type 0
  NeverInstance k = (e : Entry) → item_node c k ≡ Some e → OfNoInstance e

  value_never : (v : ValueType) → NeverInstance (ItemKind.Value v)
  unfolding item_node
  value_never v e q = value_entry v e q

  resource_never : (r : _) → NeverInstance (ItemKind.Ty (TypeKind.Resource r))
  unfolding item_node
  resource_never r e q = at_entry OfNoInstance resource_entry (λ x. resource_at_kind x.name x.alias) c.number c.resources r.collection r.index e q

  -- ---- what an entry names in its first place

  abbrev NamesNever : Shape → List Slot → Type 0
  NamesNever s.alias (Some k ∷ ks) = NeverInstance k
  NamesNever (s.resource_alias n) (Some k ∷ ks) = NeverInstance k
  NamesNever (s.type_of l) ks = NamesNever l ks
  NamesNever (s.borrow_of l) ks = NamesNever l ks
  NamesNever (s.own_of l) ks = NamesNever l ks
  NamesNever l ks = Unit {0}

  abbrev IsWell : Entry → Type 0
  IsWell e = NamesNever e.0 e.1

  defined_well : (d : DefinedType) → IsWell (defined_entry d)
  defined_well (DefinedType.Tuple ts) = tt
  defined_well (DefinedType.List x) = tt
  defined_well (DefinedType.FixedSizeList x n) = tt
  defined_well (DefinedType.Option x) = tt
  defined_well (DefinedType.Result ok err) = tt
  defined_well (DefinedType.Variant v) = tt
  defined_well (DefinedType.Record r) = tt
  defined_well (DefinedType.Flags f) = tt
  defined_well (DefinedType.Enum n) = tt
  defined_well (DefinedType.Alias x) = value_never x
  defined_well (DefinedType.Stream o) = tt
  defined_well (DefinedType.Future o) = tt

  resource_well : (n : Name) (o : Option ResourceAlias) → IsWell (resource_entry_at n o)
  resource_well n None = tt
  resource_well n (Some a) = resource_never a.source

  resources_well : (collection index : ℕ) (e : Entry) → entry_at resource_entry c.number c.resources collection index ≡ Some e → IsWell e
  resources_well collection index e q = at_entry IsWell resource_entry (λ x. resource_well x.name x.alias) c.number c.resources collection index e q

  value_well : (v : ValueType) (e : Entry) → value_node c v ≡ Some e → IsWell e
  value_well (ValueType.Primitive p) e q = subst IsWell (same_Some _ _ q) tt
  value_well (ValueType.Borrow r) e q = at_label IsWell s.borrow_of (entry_at resource_entry c.number c.resources r.collection r.index) (resources_well r.collection r.index) e q
  value_well (ValueType.Own r) e q = at_label IsWell s.own_of (entry_at resource_entry c.number c.resources r.collection r.index) (resources_well r.collection r.index) e q
  value_well (ValueType.Defined d) e q = at_entry IsWell defined_entry defined_well c.number c.defined_types d.collection d.index e q

  type_well : (k : TypeKind) (e : Entry) → type_node c k ≡ Some e → IsWell e
  type_well (TypeKind.Resource r) e q = resources_well r.collection r.index e q
  type_well (TypeKind.Func f) e q = at_label IsWell s.type_of (entry_at func_entry c.number c.func_types f.collection f.index) (λ d h. at_entry IsWell func_entry (λ x. tt) c.number c.func_types f.collection f.index d h) e q
  type_well (TypeKind.Value v) e q = at_label IsWell s.type_of (value_node c v) (λ d h. value_well v d h) e q
  type_well (TypeKind.Interface i) e q = at_label IsWell s.type_of (entry_at interface_entry c.number c.interfaces i.collection i.index) (λ d h. at_entry IsWell interface_entry (λ x. tt) c.number c.interfaces i.collection i.index d h) e q
  type_well (TypeKind.World w) e q = at_label IsWell s.type_of (entry_at world_entry c.number c.worlds w.collection w.index) (λ d h. at_entry IsWell world_entry (λ x. tt) c.number c.worlds w.collection w.index d h) e q
  type_well (TypeKind.Module m) e q = at_label IsWell s.type_of (entry_at module_entry c.number c.modules m.collection m.index) (λ d h. at_entry IsWell module_entry (λ x. tt) c.number c.modules m.collection m.index d h) e q

  entries_well : (k : ItemKind) (e : Entry) → item_node c k ≡ Some e → IsWell e
  unfolding item_node
  entries_well (ItemKind.Ty k) e q = type_well k e q
  entries_well (ItemKind.Func f) e q = at_entry IsWell func_entry (λ x. tt) c.number c.func_types f.collection f.index e q
  entries_well (ItemKind.Instance i) e q = at_entry IsWell interface_entry (λ x. tt) c.number c.interfaces i.collection i.index e q
  entries_well (ItemKind.Component w) e q = at_entry IsWell world_entry (λ x. tt) c.number c.worlds w.collection w.index e q
  entries_well (ItemKind.Module m) e q = at_entry IsWell module_entry (λ x. tt) c.number c.modules m.collection m.index e q
  entries_well (ItemKind.Value v) e q = value_well v e q

  -- ---- unfoldings

  abbrev Unfolds : ℕ → ItemKind → Stated → Type 0
  Unfolds n k x = whole (item_node c) n k ≡ Some x

  -- the label and the places of an unfolding
  record IsNode (n : ℕ) (k : ItemKind) (x : Stated) : Type 0 where
    entry : Entry
    there : item_node c k ≡ Some entry
    places : Wholes Shape
    rows : wholes_by (whole (item_node c) n) entry.1 ≡ Some places
    is : x ≡ node entry.0 places

  no_depth : (k : ItemKind) (x : Stated) → Unfolds zero k x → ⊥
  unfolding whole
  no_depth k x e = none-some _ e

  node_is : (n : ℕ) (k : ItemKind) (x : Stated) → Unfolds (suc n) k x → IsNode n k x
  unfolding whole
  node_is n k x q = grown (item_node c k) refl q
    where
      closed : (e : Entry) → item_node c k ≡ Some e → (o : Option (Wholes Shape)) → wholes_by (whole (item_node c) n) e.1 ≡ o → close e.0 o ≡ Some x → IsNode n k x
      closed e h None r f = absurd (none-some _ f)
      closed e h (Some ts) r f = record { entry = e; there = h; places = ts; rows = r; is = sym (same_Some _ _ f) }

      grown : (o : Option Entry) → item_node c k ≡ o → grow o (whole (item_node c) n) ≡ Some x → IsNode n k x
      grown None h r = absurd (none-some _ r)
      grown (Some e) h r = closed e h (wholes_by (whole (item_node c) n) e.1) refl r

  kind_never : (n : ℕ) (k : ItemKind) (x : Stated) → NeverInstance k → Unfolds n k x → NoInstance x
  kind_never zero k x h e q = no_depth k x e
  kind_never (suc n) k x h e q = let r = node_is n k x e in h r.entry r.there (ap kind_of (sym r.is) ∙ q)

  module _ (n : ℕ) where
    abbrev w : ItemKind → Option Stated
    w = whole (item_node c) n

    -- a first place that is filled
    first_slot : (k : ItemKind) (ks : List Slot) (ts : Wholes Shape) → wholes_by w (Some k ∷ ks) ≡ Some ts → (x : Stated) × (us : Wholes Shape) × (ts ≡ more x us) × (w k ≡ Some x) × (wholes_by w ks ≡ Some us)
    first_slot k ks ts e = go (w k) refl (wholes_by w ks) refl e
      where
        go : (o : Option Stated) → w k ≡ o → (p : Option (Wholes Shape)) → wholes_by w ks ≡ p → both o p ≡ Some ts → (x : Stated) × (us : Wholes Shape) × (ts ≡ more x us) × (w k ≡ Some x) × (wholes_by w ks ≡ Some us)
        go None a p b r = absurd (none-some _ r)
        go (Some x) a None b r = absurd (none-some _ r)
        go (Some x) a (Some us) b r = (x, us, sym (same_Some _ _ r), a, b)

    first_gap : (ks : List Slot) (ts : Wholes Shape) → wholes_by w (None ∷ ks) ≡ Some ts → (us : Wholes Shape) × (ts ≡ hole us) × (wholes_by w ks ≡ Some us)
    first_gap ks ts e = go (wholes_by w ks) refl e
      where
        go : (p : Option (Wholes Shape)) → wholes_by w ks ≡ p → skip p ≡ Some ts → (us : Wholes Shape) × (ts ≡ hole us) × (wholes_by w ks ≡ Some us)
        go None b r = absurd (none-some _ r)
        go (Some us) b r = (us, sym (same_Some _ _ r), b)

    -- each filled place is an unfolding
    place_of : (ks : List Slot) (ts : Wholes Shape) (y : Stated) → wholes_by w ks ≡ Some ts → Among (Some y) (places_in ts) → (k : ItemKind) × (w k ≡ Some y)
    place_of [] ts y e m = absurd (subst (λ us. Among (Some y) (places_in us)) (sym (same_Some _ _ e)) m)
    place_of (None ∷ ks) ts y e m = let r = first_gap ks ts e in gap (places_in r.0) (place_of ks r.0 y r.2) (subst (λ us. Among (Some y) (places_in us)) r.1 m)
      where
        gap : (us : List (Option Stated)) → (Among (Some y) us → (k : ItemKind) × (w k ≡ Some y)) → Among (Some y) (None ∷ us) → (k : ItemKind) × (w k ≡ Some y)
        gap us rest (inl q) = absurd (none-some _ (sym q))
        gap us rest (inr l) = rest l
    place_of (Some k ∷ ks) ts y e m = let r = first_slot k ks ts e in filled r.0 (places_in r.1) r.3 (place_of ks r.1 y r.4) (subst (λ us. Among (Some y) (places_in us)) r.2 m)
      where
        filled : (x : Stated) (us : List (Option Stated)) → w k ≡ Some x → (Among (Some y) us → (j : ItemKind) × (w j ≡ Some y)) → Among (Some y) (Some x ∷ us) → (j : ItemKind) × (w j ≡ Some y)
        filled x us h rest (inl q) = (k, h ∙ sym q)
        filled x us h rest (inr l) = rest l

    alias_names : (ks : List Slot) (ts : Wholes Shape) → wholes_by w ks ≡ Some ts → NamesNever s.alias ks → NamesNoInstance s.alias (places_in ts)
    alias_names [] ts e h = subst (λ us. NamesNoInstance s.alias (places_in us)) (same_Some _ _ e) tt
    alias_names (None ∷ ks) ts e h = let r = first_gap ks ts e in subst (λ us. NamesNoInstance s.alias (places_in us)) (sym r.1) tt
    alias_names (Some k ∷ ks) ts e h = let r = first_slot k ks ts e in subst (λ us. NamesNoInstance s.alias (places_in us)) (sym r.2) (kind_never n k r.0 h r.3)

    resource_names : (m : Name) (ks : List Slot) (ts : Wholes Shape) → wholes_by w ks ≡ Some ts → NamesNever (s.resource_alias m) ks → NamesNoInstance (s.resource_alias m) (places_in ts)
    resource_names m [] ts e h = subst (λ us. NamesNoInstance (s.resource_alias m) (places_in us)) (same_Some _ _ e) tt
    resource_names m (None ∷ ks) ts e h = let r = first_gap ks ts e in subst (λ us. NamesNoInstance (s.resource_alias m) (places_in us)) (sym r.1) tt
    resource_names m (Some k ∷ ks) ts e h = let r = first_slot k ks ts e in subst (λ us. NamesNoInstance (s.resource_alias m) (places_in us)) (sym r.2) (kind_never n k r.0 h r.3)

    label_names : (l : Shape) (ks : List Slot) (ts : Wholes Shape) → wholes_by w ks ≡ Some ts → NamesNever l ks → NamesNoInstance l (places_in ts)
    label_names s.alias ks ts e h = alias_names ks ts e h
    label_names (s.resource_alias m) ks ts e h = resource_names m ks ts e h
    label_names (s.type_of l) ks ts e h = label_names l ks ts e h
    label_names (s.borrow_of l) ks ts e h = label_names l ks ts e h
    label_names (s.own_of l) ks ts e h = label_names l ks ts e h
    label_names (s.primitive p) ks ts e h = tt
    label_names s.tuple ks ts e h = tt
    label_names s.list ks ts e h = tt
    label_names (s.fixed_size_list n) ks ts e h = tt
    label_names s.option ks ts e h = tt
    label_names s.result ks ts e h = tt
    label_names (s.variant ns) ks ts e h = tt
    label_names (s.record_of ns) ks ts e h = tt
    label_names (s.flags ns) ks ts e h = tt
    label_names (s.enum ns) ks ts e h = tt
    label_names s.stream ks ts e h = tt
    label_names s.future ks ts e h = tt
    label_names (s.resource n) ks ts e h = tt
    label_names (s.func ps a) ks ts e h = tt
    label_names (s.interface i us es) ks ts e h = tt
    label_names (s.world i us is es) ks ts e h = tt
    label_names (s.module_type m) ks ts e h = tt

  unfolding_proper : (n : ℕ) (k : ItemKind) (x : Stated) → Unfolds n k x → Proper x
  unfolding_proper zero k x e = absurd (no_depth k x e)
  unfolding_proper (suc n) k x e =
      let r = node_is n k x e in
      subst Proper (sym r.is) (proper (label_names n r.entry.0 r.entry.1 r.places r.rows (entries_well k r.entry r.there))
      (λ y m. let p = place_of n r.entry.1 r.places y r.rows m in unfolding_proper n p.0 y p.1))

  stated_proper : (k : ItemKind) (o : Option Stated) → unfolding_of c k ≡ o → Proper (stated_in o)
  unfolding unfolding_of
  stated_proper k None e = proper tt (λ y m. absurd m)
  stated_proper k (Some x) e = unfolding_proper (depth c) k x e

pub collections_are_proper : (c : Collection) (k : ItemKind) → Proper (stated_of c k)
collections_are_proper c k = stated_proper c k (unfolding_of c k) refl
