-- Value types that fail, by their entries.
use Rattle.std.proofs.Common.{◌≡◌, ◌⊎◌, ◌&&◌, ◌||◌, ℕ, zero, suc, ◌+◌, Bool, true, false, List, [], ◌∷◌, map, drop, Option, Some, None, inl, inr, refl, sym, ap, ◌∙◌, subst, slice_get}
use Rattle.std.specs.Prelude.{not, option_map}
use Rattle.std.specs.List.{list_any}
use Rattle.wac_types_base.specs.declared.ids.DefinedTypeId.{DefinedTypeId}
use Rattle.wac_types_base.specs.declared.ids.ResourceId.{ResourceId}
use Rattle.wac_types_base.specs.declared.item.PrimitiveType.{PrimitiveType}
use Rattle.wac_types_base.specs.declared.item.ValueType.{ValueType}
use Rattle.wac_types_base.specs.declared.item.«Type».{«Type» as TypeKind}
use Rattle.wac_types_base.specs.declared.item.ItemKind.{ItemKind}
use Rattle.wac_types_base.specs.declared.defined.DefinedType.{DefinedType}
use Rattle.wac_types_base.specs.declared.defined.ResourceAlias.{ResourceAlias}
use Rattle.wac_types_base.specs.contracts.ids.DefinedTypeIdPartialEq.TheImpl.{eq-value}
use Rattle.wac_types_base.specs.Entries.{Name, has_name, with_values}
use Rattle.wac_types_base.specs.Record.{Collection}
use Rattle.wac_types_base.specs.Graph.{Wholes, node, no_more, Among}
use Rattle.wac_types_base.specs.Collection.{Shape, Slot, Entry, Stands, IsAcyclic, item_node, labelled, slots_in, primitive, own_of, borrow_of, resource_entry, resource_entry_at, defined_entry}
use Rattle.wac_types_base.specs.Stated.{Stated, row, folded_row, stated_of, stated_entry, root_name}
use Rattle.wac_types_base.proofs.Standing.{resource_found, defined_found, own_stands, borrow_stands, resource_stands}
use Rattle.wac_types_base.proofs.Telling.{stated_step, resource_node, defined_node, primitive_node, value_places}
use Rattle.wac_types_fit.specs.Trees.{OneOrApart}
use Rattle.wac_composition.specs.Writable.{value_fails, value_at_label, place_fails, is_used_value}
use Rattle.wac_composition.specs.Writable.{Holder as Held}
use Rattle.wac_composition.proofs.NotWritten.{stated_again}
use Rattle.wac_types_parts.specs.Parts.{IsRootName}
use Rattle.wac_writable.specs.declared.holder.Holder.{Holder}
use Rattle.wac_types_parts.proofs.Ids.{same_type as same_id}
use Rattle.wac_writable.specs.Holders.{Holds, Keeps, Remembers, tested_of}
use Rattle.wac_writable.specs.Values.{IsHandleOf, lacks_root, fails_unused, value_in_slot, id_fails, slot_fails, places_fail}
use Rattle.wac_writable.proofs.UnnamedLaws.{any_at}
use Rattle.wac_writable.proofs.ItemLaws.{root_named}

-- ---- places

pub value_slot_is : (o : Slot) (v : ValueType) → value_in_slot o ≡ Some v → o ≡ Some (ItemKind.Value v)
value_slot_is None v e = absurd (cc e)
value_slot_is (Some (ItemKind.Ty t)) v e = absurd (cc e)
value_slot_is (Some (ItemKind.Func f)) v e = absurd (cc e)
value_slot_is (Some (ItemKind.Instance i)) v e = absurd (cc e)
value_slot_is (Some (ItemKind.Component w)) v e = absurd (cc e)
value_slot_is (Some (ItemKind.Module m)) v e = absurd (cc e)
value_slot_is (Some (ItemKind.Value w)) v e = let s : w ≡ v = cc e in ap (λ v. Some (ItemKind.Value v)) s

abbrev pub AllValues : List Slot → Type 0
AllValues xs = (i : ℕ) (k : ItemKind) → slice_get xs i ≡ Some (Some k) → (v : ValueType) × (k ≡ ItemKind.Value v)

pub and_false : (b : Bool) → (b && false) ≡ false
and_false true = refl
and_false false = refl

module _ (c : Collection) (h : Held) where
  pub placed : (xs : List Slot) → AllValues xs → place_fails h (folded_row (value_at_label h) (row (map (option_map (stated_of c)) xs))) ≡ list_any (slot_fails c h) xs
  placed [] all = refl
  placed (None ∷ xs) all = placed xs (λ i k e. all (suc i) k e)
  placed (Some k ∷ xs) all =
      let v = all 0 k refl in
      ap (λ b. value_fails h (stated_of c k) || b) (placed xs (λ i k e. all (suc i) k e))
      ∙ ap (λ b. b || list_any (slot_fails c h) xs) (ap (λ k. value_fails h (stated_of c k)) v.1 ∙ sym (ap (λ k. slot_fails c h (Some k)) v.1))

  -- ---- values

  own_at : (x : Stated) (s : Shape) (ts : Wholes Shape) → x ≡ node (own_of s) ts → value_fails h x ≡ (not (is_used_value h x) && not (has_name h.roots (root_name x)))
  own_at x s ts e =
      ap (value_fails h) e ∙ ap (λ y. not (is_used_value h (node (own_of s) ts)) && not (has_name h.roots (root_name y))) (stated_again (value_at_label h) (own_of s) ts)
      ∙ sym (ap (λ x. not (is_used_value h x) && not (has_name h.roots (root_name x))) e)

  borrow_at : (x : Stated) (s : Shape) (ts : Wholes Shape) → x ≡ node (borrow_of s) ts → value_fails h x ≡ (not (is_used_value h x) && not (has_name h.roots (root_name x)))
  borrow_at x s ts e =
      ap (value_fails h) e ∙ ap (λ y. not (is_used_value h (node (borrow_of s) ts)) && not (has_name h.roots (root_name y))) (stated_again (value_at_label h) (borrow_of s) ts)
      ∙ sym (ap (λ x. not (is_used_value h x) && not (has_name h.roots (root_name x))) e)

  compound_at : (x : DefinedType) (ts : Wholes Shape) → value_fails h (node (defined_entry x).0 ts) ≡ (not (is_used_value h (node (defined_entry x).0 ts)) && place_fails h (folded_row (value_at_label h) ts))
  compound_at (DefinedType.Tuple ts) os = refl
  compound_at (DefinedType.List t) os = refl
  compound_at (DefinedType.FixedSizeList t n) os = refl
  compound_at (DefinedType.Option t) os = refl
  compound_at (DefinedType.Result ok err) os = refl
  compound_at (DefinedType.Variant v) os = refl
  compound_at (DefinedType.Record r) os = refl
  compound_at (DefinedType.Flags f) os = refl
  compound_at (DefinedType.Enum e) os = refl
  compound_at (DefinedType.Alias t) os = refl
  compound_at (DefinedType.Stream o) os = refl
  compound_at (DefinedType.Future o) os = refl

  module _ (a : IsAcyclic c) where
    pub primitive_fails : (p : PrimitiveType) → false ≡ id_fails c (ValueType.Primitive p) h
    primitive_fails p = sym (ap (value_fails h) (stated_step c a (ItemKind.Value (ValueType.Primitive p)) (primitive p, []) (primitive_node c p)) ∙ and_false (not (is_used_value h (node (primitive p) no_more))))

    pub defined_by_places : (d : DefinedTypeId) → Stands c (ItemKind.Value (ValueType.Defined d)) → id_fails c (ValueType.Defined d) h ≡ fails_unused c (ValueType.Defined d) (places_fail c (ItemKind.Value (ValueType.Defined d)) h) h
    defined_by_places d s =
        let f = defined_found c d s in
        let x = f.value in
        let k = ItemKind.Value (ValueType.Defined d) in
        let is = defined_node c d x f.at f.own in
        let e = stated_step c a k (defined_entry x) is in
        let ts = row (map (option_map (stated_of c)) (defined_entry x).1) in
        ap (value_fails h) e ∙ compound_at x ts ∙ ap (λ b. not (is_used_value h (node (defined_entry x).0 ts)) && b) (placed (defined_entry x).1 (value_places x) ∙ sym (ap (λ o. list_any (slot_fails c h) (slots_in o)) is))
        ∙ ap (λ y. not (is_used_value h y) && places_fail c k h) (sym e)

-- ---- handles

module _ (c : Collection) (a : IsAcyclic c) where
  own_named : (n : Name) (o : Option ResourceAlias) → root_name (stated_entry c (own_of (resource_entry_at n o).0, (resource_entry_at n o).1)) ≡ root_name (stated_entry c (resource_entry_at n o))
  own_named n None = refl
  own_named n (Some b) = refl

  borrow_named : (n : Name) (o : Option ResourceAlias) → root_name (stated_entry c (borrow_of (resource_entry_at n o).0, (resource_entry_at n o).1)) ≡ root_name (stated_entry c (resource_entry_at n o))
  borrow_named n None = refl
  borrow_named n (Some b) = refl

  own_node_is : (r : ResourceId) (e : Entry) → item_node c (ItemKind.Ty (TypeKind.Resource r)) ≡ Some e → item_node c (ItemKind.Value (ValueType.Own r)) ≡ Some (own_of e.0, e.1)
  unfolding item_node
  own_node_is r e is = ap (labelled own_of) is

  borrow_node_is : (r : ResourceId) (e : Entry) → item_node c (ItemKind.Ty (TypeKind.Resource r)) ≡ Some e → item_node c (ItemKind.Value (ValueType.Borrow r)) ≡ Some (borrow_of e.0, e.1)
  unfolding item_node
  borrow_node_is r e is = ap (labelled borrow_of) is

  pub own_resource : (r : ResourceId) → Stands c (ItemKind.Value (ValueType.Own r)) → Stands c (ItemKind.Ty (TypeKind.Resource r))
  own_resource r s = resource_stands c r ∙ sym (own_stands c r) ∙ s

  pub borrow_resource : (r : ResourceId) → Stands c (ItemKind.Value (ValueType.Borrow r)) → Stands c (ItemKind.Ty (TypeKind.Resource r))
  borrow_resource r s = resource_stands c r ∙ sym (borrow_stands c r) ∙ s

  -- the root name of a handle is that of its resource
  pub own_root : (r : ResourceId) → Stands c (ItemKind.Value (ValueType.Own r)) → root_name (stated_of c (ItemKind.Value (ValueType.Own r))) ≡ root_name (stated_of c (ItemKind.Ty (TypeKind.Resource r)))
  own_root r s =
      let f = resource_found c r (own_resource r s) in
      let e = resource_entry f.value in
      let is = resource_node c r f.value f.at f.own in
      ap root_name (stated_step c a (ItemKind.Value (ValueType.Own r)) (own_of e.0, e.1) (own_node_is r e is)) ∙ own_named f.value.name f.value.alias ∙ sym (ap root_name (stated_step c a (ItemKind.Ty (TypeKind.Resource r)) e is))

  pub borrow_root : (r : ResourceId) → Stands c (ItemKind.Value (ValueType.Borrow r)) → root_name (stated_of c (ItemKind.Value (ValueType.Borrow r))) ≡ root_name (stated_of c (ItemKind.Ty (TypeKind.Resource r)))
  borrow_root r s =
      let f = resource_found c r (borrow_resource r s) in
      let e = resource_entry f.value in
      let is = resource_node c r f.value f.at f.own in
      ap root_name (stated_step c a (ItemKind.Value (ValueType.Borrow r)) (borrow_of e.0, e.1) (borrow_node_is r e is)) ∙ borrow_named f.value.name f.value.alias ∙ sym (ap root_name (stated_step c a (ItemKind.Ty (TypeKind.Resource r)) e is))

  own_fails : (r : ResourceId) (h : Held) → Stands c (ItemKind.Value (ValueType.Own r)) → id_fails c (ValueType.Own r) h ≡ fails_unused c (ValueType.Own r) (lacks_root c r h) h
  own_fails r h s =
      let f = resource_found c r (own_resource r s) in
      let e = resource_entry f.value in
      let is = resource_node c r f.value f.at f.own in
      let x = stated_step c a (ItemKind.Value (ValueType.Own r)) (own_of e.0, e.1) (own_node_is r e is) in
      own_at c h (stated_of c (ItemKind.Value (ValueType.Own r))) e.0 (row (map (option_map (stated_of c)) e.1)) x
      ∙ ap (λ n. not (is_used_value h (stated_of c (ItemKind.Value (ValueType.Own r)))) && not (has_name h.roots n))
      (own_root r s)

  borrow_fails : (r : ResourceId) (h : Held) → Stands c (ItemKind.Value (ValueType.Borrow r)) → id_fails c (ValueType.Borrow r) h ≡ fails_unused c (ValueType.Borrow r) (lacks_root c r h) h
  borrow_fails r h s =
      let f = resource_found c r (borrow_resource r s) in
      let e = resource_entry f.value in
      let is = resource_node c r f.value f.at f.own in
      let x = stated_step c a (ItemKind.Value (ValueType.Borrow r)) (borrow_of e.0, e.1) (borrow_node_is r e is) in
      borrow_at c h (stated_of c (ItemKind.Value (ValueType.Borrow r))) e.0 (row (map (option_map (stated_of c)) e.1)) x
      ∙ ap (λ n. not (is_used_value h (stated_of c (ItemKind.Value (ValueType.Borrow r)))) && not (has_name h.roots n))
      (borrow_root r s)

  pub handle_is : (v : ValueType) (r : ResourceId) (h : Held) → IsHandleOf v r → Stands c (ItemKind.Value v) → id_fails c v h ≡ fails_unused c v (lacks_root c r h) h
  handle_is v r h (inl e) s = subst (λ v. id_fails c v h ≡ fails_unused c v (lacks_root c r h) h) (sym e) (own_fails r h (subst (λ v. Stands c (ItemKind.Value v)) e s))
  handle_is v r h (inr e) s = subst (λ v. id_fails c v h ≡ fails_unused c v (lacks_root c r h) h) (sym e) (borrow_fails r h (subst (λ v. Stands c (ItemKind.Value v)) e s))

  pub handle_resource : (v : ValueType) (r : ResourceId) → IsHandleOf v r → Stands c (ItemKind.Value v) → Stands c (ItemKind.Ty (TypeKind.Resource r))
  handle_resource v r (inl e) s = own_resource r (subst (λ v. Stands c (ItemKind.Value v)) e s)
  handle_resource v r (inr e) s = borrow_resource r (subst (λ v. Stands c (ItemKind.Value v)) e s)

  pub root_lacking : (r : ResourceId) (n : Name) (h : Held) (b : Bool) → Stands c (ItemKind.Ty (TypeKind.Resource r)) → IsRootName c r n → b ≡ has_name h.roots n → not b ≡ lacks_root c r h
  root_lacking r n h b s is e = ap not (e ∙ ap (has_name h.roots) (sym (root_named c a r n s is)))

-- ---- what is remembered

id_cases : (a b : DefinedTypeId) → (eq-value.it a b ≡ false) ⊎ (a ≡ b)
id_cases a b = by (eq-value.it a b) refl
  where
    by : (r : Bool) → eq-value.it a b ≡ r → (eq-value.it a b ≡ false) ⊎ (a ≡ b)
    by true e = inr ((same_id a b).0 e)
    by false e = inl e

pub keeps_on : (c : Collection) (s t u : Holder) → Keeps c s t → Keeps c t u → Keeps c s u
keeps_on c s t u f g d o h w = g d o h (f d o h w)

pub keeps_same : (c : Collection) (s : Holder) → Keeps c s s
keeps_same c s d o h w = w

pub remembered : (c : Collection) (s t u : Holder) (d : DefinedTypeId) (b : Bool) → Keeps c s t → Remembers t d b u → Stands c (ItemKind.Value (ValueType.Defined d))
    → ((h : Held) → Holds c s h → b ≡ id_fails c (ValueType.Defined d) h) → Keeps c s u
remembered c s t u d b k m stands is D o h w =
    let v = k D o h w in
    record {
      shows = record {
        used = ap (with_values (stated_of D)) m.used ∙ v.shows.used;
        stand = λ n j x. v.shows.stand n j (subst (λ l. Among (n, j) l) m.used x);
        roots = λ n. ap (λ l. has_name l n) m.roots ∙ v.shows.roots n;
      };
      knows = λ e x st q. known v e x st q (id_cases d e);
    }
  where
    apart : (e : DefinedTypeId) → d ≡ e → Stands D (ItemKind.Value (ValueType.Defined e)) → c.number ≡ D.number
    apart e z st = sym (defined_found c d stands).own ∙ ap (λ d. d.collection) z ∙ (defined_found D e st).own

    own : (o : OneOrApart c D) (e : DefinedTypeId) → d ≡ e → Stands D (ItemKind.Value (ValueType.Defined e)) → b ≡ value_fails h (stated_of D (ItemKind.Value (ValueType.Defined e)))
    own (inl q) e z st = is h (subst (λ c. Holds c s h) (sym q) w) ∙ ap (λ d. id_fails c (ValueType.Defined d) h) z ∙ ap (λ c. id_fails c (ValueType.Defined e) h) q
    own (inr n) e z st = absurd (n (apart e z st))

    known : Holds D t h → (e : DefinedTypeId) (x : Bool) → Stands D (ItemKind.Value (ValueType.Defined e)) → tested_of u.tested.entries e ≡ Some x → (eq-value.it d e ≡ false) ⊎ (d ≡ e) → x ≡ value_fails h (stated_of D (ItemKind.Value (ValueType.Defined e)))
    known v e x st q (inl n) = v.knows e x st (sym (m.others e n) ∙ q)
    known v e x st q (inr z) = let same : b ≡ x = cc (m.own, z, q) in sym same ∙ own o e z st

-- ---- loops over places

module _ (c : Collection) (h : Held) (xs : List Slot) (i : ℕ) (o : Slot) (b : Bool) (at : slice_get xs i ≡ Some o) (is : b ≡ list_any (slot_fails c h) (drop i xs)) where
  pub place_settles : slot_fails c h o ≡ true → true ≡ b
  place_settles t = sym (is ∙ any_at (slot_fails c h) xs i o at ∙ ap (λ y. y || list_any (slot_fails c h) (drop (i + 1) xs)) t)

  pub place_leaves : slot_fails c h o ≡ false → b ≡ list_any (slot_fails c h) (drop (i + 1) xs)
  place_leaves f = is ∙ any_at (slot_fails c h) xs i o at ∙ ap (λ y. y || list_any (slot_fails c h) (drop (i + 1) xs)) f

pub none_left : (c : Collection) (h : Held) (xs : List Slot) (i : ℕ) → slice_get xs i ≡ None → list_any (slot_fails c h) (drop i xs) ≡ false
none_left c h [] zero e = refl
none_left c h [] (suc i) e = refl
none_left c h (x ∷ xs) zero e = absurd (cc e)
none_left c h (x ∷ xs) (suc i) e = none_left c h xs i e
