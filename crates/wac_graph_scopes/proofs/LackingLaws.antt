-- Whether handles dangle in types, place by place, and what is kept of them.
use Rattle.std.proofs.Common.{◌≡◌, ℕ, ◌+◌, ◌<◌, Bool, true, false, cond, List, [], Option, Some, None, inl, inr, refl, sym, ap, ◌∙◌, subst, arith}
use Rattle.std.specs.Prelude.{slice_get}
use Rattle.std.proofs.lemmas.Bool.{cases_eq}
use Rattle.std.specs.Map.{lookup}
use Rattle.std.specs.Option.{option_map}
use Rattle.wac_types_base.specs.contracts.ids.DefinedTypeIdPartialEq.TheImpl.{eq-value}
use Rattle.wac_types_base.specs.declared.ids.DefinedTypeId.{DefinedTypeId}
use Rattle.wac_types_base.specs.declared.ids.ResourceId.{ResourceId}
use Rattle.wac_types_base.specs.declared.ids.InterfaceId.{InterfaceId}
use Rattle.wac_types_base.specs.declared.item.PrimitiveType.{PrimitiveType}
use Rattle.wac_types_base.specs.declared.item.ValueType.{ValueType}
use Rattle.wac_types_base.specs.declared.item.«Type».{«Type» as TypeKind}
use Rattle.wac_types_base.specs.declared.item.ItemKind.{ItemKind}
use Rattle.wac_types_base.specs.declared.defined.ResourceAlias.{ResourceAlias}
use Rattle.wac_types_base.specs.Record.{Collection}
use Rattle.wac_types_base.specs.Graph.{Among}
use Rattle.wac_types_base.specs.Entries.{Name}
use Rattle.wac_types_base.specs.Collection.{Slot, Stands, slots_of, resource_entry_at}
use Rattle.wac_types_base.proofs.Slots.{slots_resource, slots_own, slots_borrow, slots_primitive}
use Rattle.wac_types_base.proofs.Standing.{resource_found}
use Rattle.wac_types_base.proofs.Walking.{slice_get-Among, no_place}
use Rattle.wac_types_fit.specs.Checking.{value_in}
use Rattle.wac_graph_scopes.specs.declared.scope.TypeScope.{TypeScope}
use Rattle.wac_graph_scopes.specs.declared.lacking.Lacking.{Lacking}
use Rattle.wac_graph_scopes.specs.Refusals.{IsUnnamed, Dangles, own_dangles, borrow_dangles, part_dangles, PartDangles, IsWhole, AreLacking, NoneDangles}
use Rattle.wac_types_parts.proofs.Ids.{same_type as same_id}

-- ---- what is made of nothing but a resource has no value types in its places

no_interface : (o : Option InterfaceId) (v : ValueType) → Some (ItemKind.Value v) ≡ option_map ItemKind.Instance o → ⊥
no_interface None v e = absurd (cc e)
no_interface (Some i) v e = absurd (cc e)

no_value : (n : Name) (o : Option ResourceAlias) (v : ValueType) → Among (Some (ItemKind.Value v)) (resource_entry_at n o).1 → ⊥
no_value n None v m = m
no_value n (Some a) v (inl e) = absurd (cc e)
no_value n (Some a) v (inr (inl e)) = no_interface a.owner v e
no_value n (Some a) v (inr (inr m)) = m

pub no_value_in : (c : Collection) (r : ResourceId) (v : ValueType) → Stands c (ItemKind.Ty (TypeKind.Resource r)) → Among (Some (ItemKind.Value v)) (slots_of c (ItemKind.Ty (TypeKind.Resource r))) → ⊥
no_value_in c r v s m =
    let f = resource_found c r s in
    no_value f.value.name f.value.alias v (subst (λ (l : List Slot). Among (Some (ItemKind.Value v)) l) (slots_resource c r f.value f.at f.own) m)

-- ---- what dangles, by its kind

module _ (c : Collection) (s : TypeScope) where
  -- what dangles is such a handle, or one of its parts dangles
  by_kind : (k : ItemKind) (P : Type 0) → ((r : ResourceId) → k ≡ ItemKind.Value (ValueType.Own r) → IsUnnamed c s.resources r → P) → ((r : ResourceId) → k ≡ ItemKind.Value (ValueType.Borrow r) → IsUnnamed c s.resources r → P) → (PartDangles c s.resources s k → P)
      → Dangles c s.resources s k → P
  by_kind _ P own borrow part (own_dangles {r = r} u f) = own r refl u
  by_kind _ P own borrow part (borrow_dangles {r = r} u f) = borrow r refl u
  by_kind _ P own borrow part (part_dangles {v = v} f m h) = part (v, m, h)

  pub primitive_whole : (p : PrimitiveType) → NoneDangles c s (Some (ValueType.Primitive p))
  primitive_whole p v e =
      let same : ValueType.Primitive p ≡ v = cc e in
      by_kind (ItemKind.Value v) ⊥ (λ r f u. absurd (cc (same, f))) (λ r f u. absurd (cc (same, f)))
      (λ h. subst (λ (l : List Slot). Among (Some (ItemKind.Value h.0)) l) (ap (λ x. slots_of c (ItemKind.Value x)) (sym same) ∙ slots_primitive c p) h.1)

  pub own_whole : (r : ResourceId) → Stands c (ItemKind.Ty (TypeKind.Resource r)) → (IsUnnamed c s.resources r → ⊥) → NoneDangles c s (Some (ValueType.Own r))
  own_whole r stands named v e =
      let same : ValueType.Own r ≡ v = cc e in
      by_kind (ItemKind.Value v) ⊥ (λ q f u. let is : q ≡ r = cc (same, f) in named (subst (IsUnnamed c s.resources) is u)) (λ q f u. absurd (cc (same, f)))
      (λ h. no_value_in c r h.0 stands (subst (λ (l : List Slot). Among (Some (ItemKind.Value h.0)) l) (ap (λ x. slots_of c (ItemKind.Value x)) (sym same) ∙ slots_own c r) h.1))

  pub borrow_whole : (r : ResourceId) → Stands c (ItemKind.Ty (TypeKind.Resource r)) → (IsUnnamed c s.resources r → ⊥) → NoneDangles c s (Some (ValueType.Borrow r))
  borrow_whole r stands named v e =
      let same : ValueType.Borrow r ≡ v = cc e in
      by_kind (ItemKind.Value v) ⊥ (λ q f u. absurd (cc (same, f))) (λ q f u. let is : q ≡ r = cc (same, f) in named (subst (IsUnnamed c s.resources) is u))
      (λ h. no_value_in c r h.0 stands (subst (λ (l : List Slot). Among (Some (ItemKind.Value h.0)) l) (ap (λ x. slots_of c (ItemKind.Value x)) (sym same) ∙ slots_borrow c r) h.1))

  pub defined_whole : (d : DefinedTypeId) → IsWhole c s (ItemKind.Value (ValueType.Defined d)) → NoneDangles c s (Some (ValueType.Defined d))
  defined_whole d whole v e =
      let same : ValueType.Defined d ≡ v = cc e in
      by_kind (ItemKind.Value v) ⊥ (λ q f u. absurd (cc (same, f))) (λ q f u. absurd (cc (same, f))) (λ h. whole (subst (λ (x : ValueType). PartDangles c s.resources s (ItemKind.Value x)) (sym same) h))

  -- ---- place by place

  pub whole_next : (k : ItemKind) (at : ℕ) (slot : Slot) (o : Option ValueType) → slice_get (slots_of c k) at ≡ Some slot → o ≡ value_in slot → NoneDangles c s o
      → ((n : ℕ) (x : Slot) → n < at → slice_get (slots_of c k) n ≡ Some x → NoneDangles c s (value_in x)) → (n : ℕ) (x : Slot) → n < at + 1 → slice_get (slots_of c k) n ≡ Some x → NoneDangles c s (value_in x)
  whole_next k at slot o is value now before n x lt e = elim (cases_eq n at) [
    | inl same ↦
        let there : slot ≡ x = cc (is, ap (slice_get (slots_of c k)) (sym same) ∙ e) in
        subst (NoneDangles c s) (value ∙ ap value_in there) now
    | inr other ↦ before n x (omega (arith, lt, other)) e
  ]

  pub whole_all : (k : ItemKind) (at : ℕ) → slice_get (slots_of c k) at ≡ None → ((n : ℕ) (x : Slot) → n < at → slice_get (slots_of c k) n ≡ Some x → NoneDangles c s (value_in x)) → IsWhole c s k
  whole_all k at end before h =
      let p = slice_get-Among (slots_of c k) (Some (ItemKind.Value h.0)) h.1 in
      before p.0 (Some (ItemKind.Value h.0)) (no_place (slots_of c k) at p.0 end p.1) p.2 h.0 refl h.2

  -- ---- what is kept

  pub lacking_none : (l : Lacking) → l.found.entries ≡ [] → AreLacking c s l
  lacking_none l e = record { whole = λ d at. none d (subst (λ (es : List (DefinedTypeId × Bool)). lookup (eq-value.it d) es ≡ Some false) e at) }
    where
      none : (d : DefinedTypeId) → lookup (eq-value.it d) [] ≡ Some false → IsWhole c s (ItemKind.Value (ValueType.Defined d))
      none d f = absurd (cc f)

  pub lacking_same : (l m : Lacking) → m.found.entries ≡ l.found.entries → AreLacking c s l → AreLacking c s m
  lacking_same l m e a = record { whole = λ d at. a.whole d (subst (λ (es : List (DefinedTypeId × Bool)). lookup (eq-value.it d) es ≡ Some false) e at) }

  pub lacking_more : (l m : Lacking) (id : DefinedTypeId) (b : Bool) → (b ≡ false → IsWhole c s (ItemKind.Value (ValueType.Defined id))) → ((x : DefinedTypeId) → lookup (eq-value.it x) m.found.entries ≡ cond (eq-value.it id x) (Some b) (lookup (eq-value.it x) l.found.entries)) → AreLacking c s l → AreLacking c s m
  lacking_more l m id b is updates a = record { whole = λ x at. by x (eq-value.it id x) refl (sym (updates x) ∙ at) }
    where
      by : (x : DefinedTypeId) (t : Bool) → eq-value.it id x ≡ t → cond t (Some b) (lookup (eq-value.it x) l.found.entries) ≡ Some false → IsWhole c s (ItemKind.Value (ValueType.Defined x))
      by x true q e =
          let same : id ≡ x = (same_id id x).0 q in
          let no : b ≡ false = cc e in
          subst (λ (y : DefinedTypeId). IsWhole c s (ItemKind.Value (ValueType.Defined y))) same (is no)
      by x false q e = a.whole x e
