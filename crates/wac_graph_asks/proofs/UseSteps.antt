-- Single steps of listing the interfaces that are used.
use Rattle.std.specs.List.{list_any, flat_map}
use Rattle.std.proofs.Common.{◌≡◌, ◌⊎◌, ℕ, Bool, true, false, true≢false, not, List, [], ◌∷◌, ◌++◌, Option, Some, None, is_some, option_map, slice_get, refl, sym, ap, subst, ◌∙◌, inl, inr, if◌then◌else◌}
use Rattle.std.specs.Prelude.{option_to_list}
use Rattle.indexmap.specs.IndexSet.{insert_key}
use Rattle.wac_types_base.specs.declared.ids.InterfaceId.{InterfaceId}
use Rattle.wac_types_base.specs.declared.ids.WorldId.{WorldId}
use Rattle.wac_types_base.specs.declared.item.ItemKind.{ItemKind}
use Rattle.wac_types_base.specs.declared.item.«Type».{«Type» as TypeKind}
use Rattle.wac_types_base.specs.declared.defined.Interface.{Interface}
use Rattle.wac_types_base.specs.declared.defined.World.{World}
use Rattle.wac_types_base.specs.contracts.ids.InterfaceIdPartialEq.TheImpl.{eq-value}
use Rattle.wac_types_base.specs.Record.{Collection}
use Rattle.wac_types_base.specs.Collection.{IsAcyclic, Stands, item_node, interface_entry, world_entry, entry_at, type_of}
use Rattle.wac_types_base.specs.Entries.{Name, values_of}
use Rattle.wac_types_base.specs.Graph.{Among}
use Rattle.wac_types_base.specs.Stated.{Stated, Kind, IsInterface, IsWorld, stated_of, uses_of}
use Rattle.wac_types_base.proofs.Telling.{item_kind}
use Rattle.wac_types_base.proofs.Standing.{interface_found, is_some-labelled}
use Rattle.wac_types_fit.specs.Trees.{IsInside}
use Rattle.wac_types_fit.proofs.Items.{exports_inside}
use Rattle.wac_types_parts.specs.Parts.{exports_of, IsOfInterface}
use Rattle.wac_types_parts.proofs.PartLaws.{uses_there, exports_there}
use Rattle.wac_composition.specs.Asks.{used_by, used_by_kind, used_by_definition}
use Rattle.wac_graph_asks.specs.declared.asks.Asking.{Asking as HeldAsking}
use Rattle.wac_graph_asks.specs.declared.asks.Ask.{Ask as HeldAsk}
use Rattle.wac_graph_asks.specs.AskedUses.{all_with_used, used_directly, used_by_world, used_by_items, use_asks}
use Rattle.wac_graph_asks.proofs.Using.{instance_uses, interface_uses, identified, interface_definition_uses, world_definition_uses, world_uses_again, other_definition_uses}
use Rattle.wac_types_parts.proofs.Ids.{any_interface}

-- ---- what was seen

module _ (id : InterfaceId) (old new : List InterfaceId) (is_new : Bool) (added : is_new ≡ not (list_any (eq-value.it id) old)) (keys : new ≡ insert_key eq-value.it old id) where
  pub was_seen : is_new ≡ false → (new ≡ old) × Among id old
  was_seen h = go (list_any (eq-value.it id) old) refl (sym added ∙ h)
    where
      go : (b : Bool) → list_any (eq-value.it id) old ≡ b → not (list_any (eq-value.it id) old) ≡ false → (new ≡ old) × Among id old
      go true e h = (keys ∙ ap (λ b. if b then old else old ++ id ∷ []) e, any_interface id old e)
      go false e h = absurd (true≢false (sym (ap not e) ∙ h))

  pub is_seen : is_new ≡ true → new ≡ old ++ id ∷ []
  is_seen h = go (list_any (eq-value.it id) old) refl (sym added ∙ h)
    where
      go : (b : Bool) → list_any (eq-value.it id) old ≡ b → not (list_any (eq-value.it id) old) ≡ true → new ≡ old ++ id ∷ []
      go false e h = keys ∙ ap (λ b. if b then old else old ++ id ∷ []) e
      go true e h = absurd (true≢false (sym h ∙ ap not e))

-- ---- its ask

module _ (c : Collection) (acyclic : IsAcyclic c) (by : ℕ) (id : InterfaceId) (x : Interface) (at : slice_get c.interfaces id.index ≡ Some x) (own : id.collection ≡ c.number) where
  abbrev asks_by : Option Name → List HeldAsk
  asks_by o = option_to_list (option_map (λ n. record { asking = HeldAsking.ToUse; by = by; name = n; item = ItemKind.Instance id }) o)

  pub use_named : (m n : Name) → m ≡ n → x.id ≡ Some n → record { asking = HeldAsking.ToUse; by = by; name = m; item = ItemKind.Instance id } ∷ [] ≡ use_asks c by id
  use_named m n same is = ap (λ k. asks_by (Some k)) same ∙ ap asks_by (sym is ∙ sym (identified c acyclic id x at own))

  pub use_unnamed : x.id ≡ None → [] ≡ use_asks c by id
  use_unnamed is = ap asks_by (sym is ∙ sym (identified c acyclic id x at own))

-- ---- what is inside

value_of_entry : {T : Type 0} (es : List (Name × T)) (k : T) → Among k (values_of es) → (n : Name) × Among (n, k) es
value_of_entry [] k m = absurd m
value_of_entry (e ∷ es) k (inl s) = (e.0, inl (λ i. (e.0, s i)))
value_of_entry (e ∷ es) k (inr m) = let h = value_of_entry es k m in (h.0, inr h.1)

pub item_inside : (c : Collection) → IsAcyclic c → (id : InterfaceId) (x : Interface) → Stands c (ItemKind.Instance id) → slice_get c.interfaces id.index ≡ Some x → id.collection ≡ c.number → (k : ItemKind) → Among k (values_of x.exports) → IsInside c k (ItemKind.Instance id)
item_inside c acyclic id x stands at own k m = let h = value_of_entry x.exports k m in exports_inside c acyclic id x stands at own h.0 k h.1

-- ---- an item of an interface

module _ (c : Collection) where
  pub instance_stands : (k : ItemKind) (id : InterfaceId) → IsOfInterface k id → Stands c k → Stands c (ItemKind.Instance id)
  unfolding item_node
  instance_stands (ItemKind.Instance j) id h s = subst (λ i. Stands c (ItemKind.Instance i)) h s
  instance_stands (ItemKind.Ty (TypeKind.Interface j)) id h s = subst (λ i. Stands c (ItemKind.Instance i)) h (sym (is_some-labelled type_of (entry_at interface_entry c.number c.interfaces j.collection j.index)) ∙ s)
  instance_stands k id h s = absurd h

  abbrev uses_inside : InterfaceId → List Stated
  uses_inside id = used_directly c id ++ used_by_items c (values_of (exports_of c id))

  module _ (acyclic : IsAcyclic c) where
    found_inside : (id : InterfaceId) (x : Interface) → slice_get c.interfaces id.index ≡ Some x → id.collection ≡ c.number → all_with_used c (values_of x.uses) ++ used_by_items c (values_of x.exports) ≡ uses_inside id
    found_inside id x at own =
        ap (λ us. all_with_used c (values_of us) ++ used_by_items c (values_of x.exports)) (sym (uses_there c id x at own))
        ∙ ap (λ es. used_directly c id ++ used_by_items c (values_of es)) (sym (exports_there c id x at own))

    pub item_uses : (k : ItemKind) (id : InterfaceId) → IsOfInterface k id → Stands c (ItemKind.Instance id) → used_by (stated_of c k) ≡ uses_inside id
    item_uses (ItemKind.Instance j) id h s =
        let v = interface_found c id s in
        ap (λ i. used_by (stated_of c (ItemKind.Instance i))) h ∙ instance_uses c acyclic id v.value v.at v.own ∙ found_inside id v.value v.at v.own
    item_uses (ItemKind.Ty (TypeKind.Interface j)) id h s =
        let v = interface_found c id s in
        ap (λ i. used_by (stated_of c (ItemKind.Ty (TypeKind.Interface i)))) h ∙ interface_uses c acyclic id v.value v.at v.own ∙ found_inside id v.value v.at v.own
    item_uses k id h s = absurd h

  -- ---- a definition

  pub typed_stands : (k : ItemKind) (t : TypeKind) (id : InterfaceId) → k ≡ ItemKind.Ty t → t ≡ TypeKind.Interface id → Stands c k → Stands c (ItemKind.Instance id)
  typed_stands k t id is is_interface s = instance_stands (ItemKind.Ty (TypeKind.Interface id)) id refl (subst (λ t. Stands c (ItemKind.Ty t)) is_interface (subst (Stands c) is s))

  pub world_type_stands : (k : ItemKind) (t : TypeKind) (id : WorldId) → k ≡ ItemKind.Ty t → t ≡ TypeKind.World id → Stands c k → Stands c (ItemKind.Component id)
  unfolding item_node
  world_type_stands k t id is is_world s =
      sym (is_some-labelled type_of (entry_at world_entry c.number c.worlds id.collection id.index)) ∙ subst (λ t. Stands c (ItemKind.Ty t)) is_world (subst (Stands c) is s)

  named_uses : (o : Option Name) (x : Stated) → is_some o ≡ true → used_by_kind IsInterface o x ≡ []
  named_uses None x e = absurd (true≢false (sym e))
  named_uses (Some n) x e = refl

  unnamed_uses : (o : Option Name) (x : Stated) → is_some o ≡ false → used_by_kind IsInterface o x ≡ used_by x
  unnamed_uses None x e = refl
  unnamed_uses (Some n) x e = absurd (true≢false e)

  named_world : (o : Option Name) (x : Stated) → is_some o ≡ true → used_by_kind IsWorld o x ≡ []
  named_world None x e = absurd (true≢false (sym e))
  named_world (Some n) x e = refl

  unnamed_world : (o : Option Name) (x : Stated) → is_some o ≡ false → used_by_kind IsWorld o x ≡ flat_map (λ u. u.interface ∷ used_by u.interface) (uses_of x)
  unnamed_world None x e = refl
  unnamed_world (Some n) x e = absurd (true≢false e)

  module _ (acyclic : IsAcyclic c) (k : ItemKind) (t : TypeKind) (is : k ≡ ItemKind.Ty t) where
    module _ (id : InterfaceId) (x : Interface) (is_interface : t ≡ TypeKind.Interface id) (at : slice_get c.interfaces id.index ≡ Some x) (own : id.collection ≡ c.number) where
      interface_is : used_by_definition (stated_of c k) ≡ used_by_kind IsInterface x.id (stated_of c k)
      interface_is =
          let same : k ≡ ItemKind.Ty (TypeKind.Interface id) = is ∙ ap ItemKind.Ty is_interface in
          ap (λ j. used_by_definition (stated_of c j)) same ∙ interface_definition_uses c acyclic id x at own ∙ ap (λ j. used_by_kind IsInterface x.id (stated_of c j)) (sym same)

      pub named_definition : is_some x.id ≡ true → used_by_definition (stated_of c k) ≡ []
      named_definition e = interface_is ∙ named_uses x.id (stated_of c k) e

      pub unnamed_definition : is_some x.id ≡ false → used_by_definition (stated_of c k) ≡ used_by (stated_of c k)
      unnamed_definition e = interface_is ∙ unnamed_uses x.id (stated_of c k) e

    module _ (id : WorldId) (x : World) (is_world : t ≡ TypeKind.World id) (at : slice_get c.worlds id.index ≡ Some x) (own : id.collection ≡ c.number) where
      same_world : k ≡ ItemKind.Ty (TypeKind.World id)
      same_world = is ∙ ap ItemKind.Ty is_world

      world_is : used_by_definition (stated_of c k) ≡ used_by_kind IsWorld x.id (stated_of c k)
      world_is = ap (λ j. used_by_definition (stated_of c j)) same_world ∙ world_definition_uses c acyclic id x at own ∙ ap (λ j. used_by_kind IsWorld x.id (stated_of c j)) (sym same_world)

      pub named_world_definition : is_some x.id ≡ true → used_by_definition (stated_of c k) ≡ []
      named_world_definition e = world_is ∙ named_world x.id (stated_of c k) e

      pub unnamed_world_definition : is_some x.id ≡ false → used_by_definition (stated_of c k) ≡ used_by_world c id
      unnamed_world_definition e =
          world_is ∙ unnamed_world x.id (stated_of c k) e
          ∙ ap (λ j. flat_map (λ u. u.interface ∷ used_by u.interface) (uses_of (stated_of c j))) same_world ∙ world_uses_again c acyclic id x at own

  -- what is no type, or another type
  not_type : (k : ItemKind) (j : Kind) → ((t : TypeKind) → k ≡ ItemKind.Ty t → ⊥) → (j ≡ IsInterface) ⊎ (j ≡ IsWorld) → item_kind k ≡ j → ⊥
  not_type (ItemKind.Ty t) j h e s = h t refl
  not_type (ItemKind.Func f) j h (inl e) s = absurd (cc (e, s))
  not_type (ItemKind.Func f) j h (inr e) s = absurd (cc (e, s))
  not_type (ItemKind.Instance f) j h (inl e) s = absurd (cc (e, s))
  not_type (ItemKind.Instance f) j h (inr e) s = absurd (cc (e, s))
  not_type (ItemKind.Component f) j h (inl e) s = absurd (cc (e, s))
  not_type (ItemKind.Component f) j h (inr e) s = absurd (cc (e, s))
  not_type (ItemKind.Module f) j h (inl e) s = absurd (cc (e, s))
  not_type (ItemKind.Module f) j h (inr e) s = absurd (cc (e, s))
  not_type (ItemKind.Value f) j h (inl e) s = absurd (cc (e, s))
  not_type (ItemKind.Value f) j h (inr e) s = absurd (cc (e, s))

  pub no_type_uses : IsAcyclic c → (k : ItemKind) → Stands c k → ((t : TypeKind) → k ≡ ItemKind.Ty t → ⊥) → used_by_definition (stated_of c k) ≡ []
  no_type_uses acyclic k s h = other_definition_uses c acyclic k s (not_type k IsInterface h (inl refl)) (not_type k IsWorld h (inr refl))

  pub other_type_uses : IsAcyclic c → (k : ItemKind) (t : TypeKind) → k ≡ ItemKind.Ty t → Stands c k → ((i : InterfaceId) → t ≡ TypeKind.Interface i → ⊥) → ((w : WorldId) → t ≡ TypeKind.World w → ⊥) → used_by_definition (stated_of c k) ≡ []
  other_type_uses acyclic k t is s a b = other_definition_uses c acyclic k s (λ e. no_interface t a (ap item_kind (sym is) ∙ e)) (λ e. no_world t b (ap item_kind (sym is) ∙ e))
    where
      no_interface : (t : TypeKind) → ((i : InterfaceId) → t ≡ TypeKind.Interface i → ⊥) → item_kind (ItemKind.Ty t) ≡ IsInterface → ⊥
      no_interface (TypeKind.Interface i) h e = h i refl
      no_interface (TypeKind.Resource i) h e = absurd (cc e)
      no_interface (TypeKind.Func i) h e = absurd (cc e)
      no_interface (TypeKind.Value i) h e = absurd (cc e)
      no_interface (TypeKind.World i) h e = absurd (cc e)
      no_interface (TypeKind.Module i) h e = absurd (cc e)

      no_world : (t : TypeKind) → ((w : WorldId) → t ≡ TypeKind.World w → ⊥) → item_kind (ItemKind.Ty t) ≡ IsWorld → ⊥
      no_world (TypeKind.World i) h e = h i refl
      no_world (TypeKind.Resource i) h e = absurd (cc e)
      no_world (TypeKind.Func i) h e = absurd (cc e)
      no_world (TypeKind.Value i) h e = absurd (cc e)
      no_world (TypeKind.Interface i) h e = absurd (cc e)
      no_world (TypeKind.Module i) h e = absurd (cc e)
