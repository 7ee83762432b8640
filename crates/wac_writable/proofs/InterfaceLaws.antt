-- Interfaces that cannot be written, by their items.
use Rattle.std.proofs.Common.{◌≡◌, ◌||◌, ◌⊎◌, ◌+◌, ℕ, Bool, true, false, List, drop, Some, inl, inr, refl, sym, ap, ◌∙◌, subst, slice_get}
use Rattle.std.specs.Prelude.{not}
use Rattle.std.specs.Bool.{Decides}
use Rattle.std.specs.List.{list_any}
use Rattle.std.proofs.lemmas.Bool.Decides.{Decides-and, Decides-or, Decides-not, Decides-like}
use Rattle.wac_types_base.specs.declared.ids.InterfaceId.{InterfaceId}
use Rattle.wac_types_base.specs.declared.item.ItemKind.{ItemKind}
use Rattle.wac_types_base.specs.declared.item.«Type».{«Type» as TypeKind}
use Rattle.wac_types_base.specs.declared.defined.Interface.{Interface}
use Rattle.wac_types_base.specs.Entries.{Name, with_values}
use Rattle.wac_types_base.specs.Record.{Collection}
use Rattle.wac_types_base.specs.Graph.{Among}
use Rattle.wac_types_base.specs.Collection.{Stands, IsAcyclic, item_node, labelled, interface_entry, type_of}
use Rattle.wac_types_base.specs.Stated.{Stated, stated_of, kind_of, IsInstance, IsInterface, untyped, uses_of, exports_of, identifier_of}
use Rattle.wac_types_base.proofs.Slots.{entry_at-is}
use Rattle.wac_types_base.proofs.Standing.{interface_found}
use Rattle.wac_types_base.proofs.Telling.{item_kind, stated_step, typed_node, kind_stated, untyped_stated}
use Rattle.wac_types_base.proofs.GraphLemmas.{is_there}
use Rattle.wac_types_base.proofs.Lists.{among_mapped}
use Rattle.wac_composition.specs.Writable.{has_items, is_given, some_unnamed}
use Rattle.wac_composition.specs.Writable.{Holder as Held}
use Rattle.wac_composition.specs.NotWritten.{IsGiven, CannotBeWritten, an_instance, an_interface, ItemsFail, unnamed, an_item}
use Rattle.wac_composition.proofs.NotWritten.{any_decides, given_decides}
use Rattle.wac_composition.proofs.NotFound.{written_decides}
use Rattle.wac_composition.proofs.Lists.{mapped_among}
use Rattle.wac_types_parts.specs.Parts.{exports_of as exports_in, IsOfInterface}
use Rattle.wac_writable.specs.declared.writable.Which.{Which}
use Rattle.wac_writable.specs.Holders.{interface_holder}
use Rattle.wac_writable.specs.Items.{item_unwritable}
use Rattle.wac_writable.specs.Tests.{tested_unwritable, exports_unwritable, interface_unwritable}
use Rattle.wac_writable.proofs.UnnamedLaws.{any_at}
use Rattle.wac_writable.proofs.ItemLaws.{both_decide}
use Rattle.wac_writable.proofs.ReasonLaws.{reason_of}
use Rattle.wac_types_parts.proofs.PartsStated.{stated_nothing, stands_or_not, exports_are}

-- ---- loops over items

-- one of a list is looked at: it settles the answer, or those that are left do
module _ {X : Type 0} (p : X → Bool) (xs : List X) (i : ℕ) (x : X) (b : Bool) (at : slice_get xs i ≡ Some x) (is : b ≡ list_any p (drop i xs)) where
  pub item_settles : p x ≡ true → true ≡ b
  item_settles t = sym (is ∙ any_at p xs i x at ∙ ap (λ y. y || list_any p (drop (i + 1) xs)) t)

  pub item_leaves : p x ≡ false → b ≡ list_any p (drop (i + 1) xs)
  item_leaves f = is ∙ any_at p xs i x at ∙ ap (λ y. y || list_any p (drop (i + 1) xs)) f

-- ---- interfaces

interface_node : (c : Collection) (id : InterfaceId) (i : Interface) → slice_get c.interfaces id.index ≡ Some i → id.collection ≡ c.number → item_node c (ItemKind.Instance id) ≡ Some (interface_entry i)
unfolding item_node
interface_node c id i at own = entry_at-is interface_entry c.number c.interfaces id.collection id.index i at own

module _ (c : Collection) (a : IsAcyclic c) (o : Bool) where
  abbrev pub SomeItem : Held → List (Name × Stated) → Type 0
  SomeItem h es = (n : Name) × (x : Stated) × Among (n, x) es × (IsGiven h n x → ⊥) × CannotBeWritten o h n x

  pub items_decide : (h : Held) (es : List (Name × ItemKind)) → Decides (list_any (tested_unwritable c o Which.All h) es) (SomeItem h (with_values (stated_of c) es))
  items_decide h es =
      Decides-like (list_any (tested_unwritable c o Which.All h) es)
      (λ p. (p.0.0, stated_of c p.0.1, among_mapped (λ (e : Name × ItemKind). (e.0, stated_of c e.1)) es p.0 p.1, p.2.0, p.2.1))
      back
      (any_decides (tested_unwritable c o Which.All h) (λ e. (IsGiven h e.0 (stated_of c e.1) → ⊥) × CannotBeWritten o h e.0 (stated_of c e.1)) es
      (λ e m. Decides-and (not (is_given h e.0 (stated_of c e.1))) (item_unwritable c o e.0 e.1 h) (Decides-not (is_given h e.0 (stated_of c e.1)) (given_decides h e.0 (stated_of c e.1))) (written_decides o h e.0 (stated_of c e.1))))
    where
      back : SomeItem h (with_values (stated_of c) es) → (e : Name × ItemKind) × Among e es × ((IsGiven h e.0 (stated_of c e.1) → ⊥) × CannotBeWritten o h e.0 (stated_of c e.1))
      back (n, x, m, g, f) =
          let p = mapped_among (λ (e : Name × ItemKind). (e.0, stated_of c e.1)) es (n, x) m in
          (p.0, p.1, subst (λ (y : Name × Stated). (IsGiven h y.0 y.1 → ⊥) × CannotBeWritten o h y.0 y.1) p.2 (g, f))

  module _ (id : InterfaceId) where
    abbrev x : Stated
    x = stated_of c (ItemKind.Instance id)

    fails_decide : Decides (interface_unwritable c o Which.All id) (ItemsFail o (uses_of x) (exports_of x))
    fails_decide =
        Decides-like (interface_unwritable c o Which.All id) to from
        (Decides-or (some_unnamed (uses_of x)) (exports_unwritable c o Which.All id (interface_holder x)) (λ e. e, λ e. e)
        (subst (λ l. Decides (exports_unwritable c o Which.All id (interface_holder x)) (SomeItem (interface_holder x) l)) (sym (exports_are c a id)) (items_decide (interface_holder x) (exports_in c id))))
      where
        to : (some_unnamed (uses_of x) ≡ true) ⊎ SomeItem (interface_holder x) (exports_of x) → ItemsFail o (uses_of x) (exports_of x)
        to (inl e) = unnamed e
        to (inr (n, y, m, g, f)) = an_item m g f

        from : ItemsFail o (uses_of x) (exports_of x) → (some_unnamed (uses_of x) ≡ true) ⊎ SomeItem (interface_holder x) (exports_of x)
        from (unnamed e) = inl e
        from (an_item {n = n} {x = y} m g f) = inr (n, y, m, g, f)

    instance_unwritable : (n : Name) (h : Held) → Stands c (ItemKind.Instance id) → interface_unwritable c o Which.All id ≡ item_unwritable c o n (ItemKind.Instance id) h
    instance_unwritable n h s =
        let k = kind_stated c a (ItemKind.Instance id) s in
        both_decide (interface_unwritable c o Which.All id) (item_unwritable c o n (ItemKind.Instance id) h)
        (Decides-like (interface_unwritable c o Which.All id) (λ f. an_instance k f) (reason_of o h n x IsInstance k) fails_decide) (written_decides o h n x)

    pub type_stands : Stands c (ItemKind.Ty (TypeKind.Interface id)) → Stands c (ItemKind.Instance id)
    unfolding item_node
    type_stands s = let t = typed_node c (ItemKind.Ty (TypeKind.Interface id)) (ItemKind.Instance id) refl s in is_there _ t.0 t.1

    abbrev y : Stated
    y = stated_of c (ItemKind.Ty (TypeKind.Interface id))

    type_node_is : (i : Interface) → item_node c (ItemKind.Instance id) ≡ Some (interface_entry i) → item_node c (ItemKind.Ty (TypeKind.Interface id)) ≡ Some (type_of (interface_entry i).0, (interface_entry i).1)
    unfolding item_node
    type_node_is i e = ap (labelled type_of) e

    pub same_uses : Stands c (ItemKind.Ty (TypeKind.Interface id)) → uses_of x ≡ uses_of y
    same_uses s =
        let f = interface_found c id (type_stands s) in
        let e = interface_node c id f.value f.at f.own in
        ap uses_of (stated_step c a (ItemKind.Instance id) (interface_entry f.value) e) ∙ sym (ap uses_of (stated_step c a (ItemKind.Ty (TypeKind.Interface id)) (type_of (interface_entry f.value).0, (interface_entry f.value).1) (type_node_is f.value e)))

    pub same_exports : Stands c (ItemKind.Ty (TypeKind.Interface id)) → exports_of x ≡ exports_of y
    same_exports s =
        let f = interface_found c id (type_stands s) in
        let e = interface_node c id f.value f.at f.own in
        ap exports_of (stated_step c a (ItemKind.Instance id) (interface_entry f.value) e) ∙ sym (ap exports_of (stated_step c a (ItemKind.Ty (TypeKind.Interface id)) (type_of (interface_entry f.value).0, (interface_entry f.value).1) (type_node_is f.value e)))

    pub same_identifier : Stands c (ItemKind.Ty (TypeKind.Interface id)) → identifier_of x ≡ identifier_of y
    same_identifier s =
        let f = interface_found c id (type_stands s) in
        let e = interface_node c id f.value f.at f.own in
        ap identifier_of (stated_step c a (ItemKind.Instance id) (interface_entry f.value) e) ∙ sym (ap identifier_of (stated_step c a (ItemKind.Ty (TypeKind.Interface id)) (type_of (interface_entry f.value).0, (interface_entry f.value).1) (type_node_is f.value e)))

    interface_type_unwritable : (n : Name) (h : Held) → Stands c (ItemKind.Ty (TypeKind.Interface id)) → interface_unwritable c o Which.All id ≡ item_unwritable c o n (ItemKind.Ty (TypeKind.Interface id)) h
    interface_type_unwritable n h s =
        let k = kind_stated c a (ItemKind.Ty (TypeKind.Interface id)) s in
        let d = subst (λ us. Decides (interface_unwritable c o Which.All id) (ItemsFail o us (exports_of y))) (same_uses s) (subst (λ es. Decides (interface_unwritable c o Which.All id) (ItemsFail o (uses_of x) es)) (same_exports s) fails_decide) in
        both_decide (interface_unwritable c o Which.All id) (item_unwritable c o n (ItemKind.Ty (TypeKind.Interface id)) h)
        (Decides-like (interface_unwritable c o Which.All id) (λ f. an_interface k f) (reason_of o h n y IsInterface k) d) (written_decides o h n y)

  pub interface_item : (k : ItemKind) (id : InterfaceId) (n : Name) (h : Held) → IsOfInterface k id → Stands c k → interface_unwritable c o Which.All id ≡ item_unwritable c o n k h
  interface_item (ItemKind.Instance i) id n h e s = ap (λ i. interface_unwritable c o Which.All i) (sym e) ∙ instance_unwritable i n h s
  interface_item (ItemKind.Ty (TypeKind.Interface i)) id n h e s = ap (λ i. interface_unwritable c o Which.All i) (sym e) ∙ interface_type_unwritable i n h s
  interface_item (ItemKind.Ty (TypeKind.Resource r)) id n h e s = absurd e
  interface_item (ItemKind.Ty (TypeKind.Func f)) id n h e s = absurd e
  interface_item (ItemKind.Ty (TypeKind.Value v)) id n h e s = absurd e
  interface_item (ItemKind.Ty (TypeKind.World w)) id n h e s = absurd e
  interface_item (ItemKind.Ty (TypeKind.Module m)) id n h e s = absurd e
  interface_item (ItemKind.Func f) id n h e s = absurd e
  interface_item (ItemKind.Component w) id n h e s = absurd e
  interface_item (ItemKind.Module m) id n h e s = absurd e
  interface_item (ItemKind.Value v) id n h e s = absurd e

-- what is of an interface has its uses and its exports
pub record HasParts (c : Collection) (k : ItemKind) (id : InterfaceId) : Type 0 where
  pub kind : has_items (kind_of (stated_of c k)) ≡ true
  pub uses : uses_of (stated_of c k) ≡ uses_of (stated_of c (ItemKind.Instance id))
  pub exports : exports_of (stated_of c k) ≡ exports_of (stated_of c (ItemKind.Instance id))

module _ (c : Collection) (a : IsAcyclic c) where
  pub untyped_interface : (id : InterfaceId) → Stands c (ItemKind.Ty (TypeKind.Interface id)) → untyped (stated_of c (ItemKind.Ty (TypeKind.Interface id))) ≡ stated_of c (ItemKind.Instance id)
  unfolding item_node
  untyped_interface id s = untyped_stated c a (ItemKind.Ty (TypeKind.Interface id)) (ItemKind.Instance id) refl s

  pub has_parts : (k : ItemKind) (id : InterfaceId) → IsOfInterface k id → Stands c k → HasParts c k id
  has_parts (ItemKind.Instance i) id e s =
      subst (HasParts c (ItemKind.Instance i)) e (record { kind = ap has_items (kind_stated c a (ItemKind.Instance i) s); uses = refl; exports = refl })
  has_parts (ItemKind.Ty (TypeKind.Interface i)) id e s =
      subst (HasParts c (ItemKind.Ty (TypeKind.Interface i))) e
      (record { kind = ap has_items (kind_stated c a (ItemKind.Ty (TypeKind.Interface i)) s); uses = sym (same_uses c a true i s); exports = sym (same_exports c a true i s) })
  has_parts (ItemKind.Ty (TypeKind.Resource r)) id e s = absurd e
  has_parts (ItemKind.Ty (TypeKind.Func f)) id e s = absurd e
  has_parts (ItemKind.Ty (TypeKind.Value v)) id e s = absurd e
  has_parts (ItemKind.Ty (TypeKind.World w)) id e s = absurd e
  has_parts (ItemKind.Ty (TypeKind.Module m)) id e s = absurd e
  has_parts (ItemKind.Func f) id e s = absurd e
  has_parts (ItemKind.Component w) id e s = absurd e
  has_parts (ItemKind.Module m) id e s = absurd e
  has_parts (ItemKind.Value v) id e s = absurd e

  no_items : (k : ItemKind) → ((i : InterfaceId) → IsOfInterface k i → ⊥) → has_items (item_kind k) ≡ false
  no_items (ItemKind.Ty (TypeKind.Resource r)) n = refl
  no_items (ItemKind.Ty (TypeKind.Func f)) n = refl
  no_items (ItemKind.Ty (TypeKind.Value v)) n = refl
  no_items (ItemKind.Ty (TypeKind.Interface i)) n = absurd (n i refl)
  no_items (ItemKind.Ty (TypeKind.World w)) n = refl
  no_items (ItemKind.Ty (TypeKind.Module m)) n = refl
  no_items (ItemKind.Func f) n = refl
  no_items (ItemKind.Instance i) n = absurd (n i refl)
  no_items (ItemKind.Component w) n = refl
  no_items (ItemKind.Module m) n = refl
  no_items (ItemKind.Value v) n = refl

  -- what is of no interface has no items
  pub has_none : (k : ItemKind) → (Stands c k → (i : InterfaceId) → IsOfInterface k i → ⊥) → has_items (kind_of (stated_of c k)) ≡ false
  has_none k n = elim (stands_or_not c k) [
    | inl s ↦ ap has_items (kind_stated c a k s) ∙ no_items k (n s)
    | inr m ↦ ap (λ x. has_items (kind_of x)) (stated_nothing c k m)
  ]
