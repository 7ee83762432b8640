-- What the items of a collection state is well.
use Rattle.std.specs.Prelude.{slice_get}
use Rattle.std.proofs.Common.{◌≡◌, ℕ, zero, suc, ◌<◌, List, [], ◌∷◌, false, Option, Some, refl, sym, ap, subst, ◌∙◌, inl, inr, arith}
use Rattle.wac_types_base.specs.declared.item.«Type».{«Type» as TypeKind}
use Rattle.wac_types_base.specs.declared.item.ItemKind.{ItemKind}
use Rattle.wac_types_base.specs.declared.ids.InterfaceId.{InterfaceId}
use Rattle.wac_types_base.specs.declared.defined.Interface.{Interface}
use Rattle.wac_types_base.specs.Record.{Collection}
use Rattle.wac_types_base.specs.Graph.{Among}
use Rattle.wac_types_base.specs.Entries.{Name, AreDistinct, names_of, with_values}
use Rattle.wac_types_base.specs.Collection.{Stands, IsAcyclic, size_of, item_node, labelled, type_of, interface_entry}
use Rattle.wac_types_base.specs.Stated.{Stated, Used, kind_of, stated_of, interface_of, as_type, uses_of, exports_of, identifier_of, is_interface}
use Rattle.wac_types_base.proofs.Looked.{among-get}
use Rattle.wac_types_base.proofs.Slots.{entry_at-is, stands_typed_interface}
use Rattle.wac_types_base.proofs.Standing.{interface_found}
use Rattle.wac_types_base.proofs.Stating.{stated_uses, item_names, interface_made, interface_stated}
use Rattle.wac_types_base.proofs.Telling.{item_kind, kind_stated, stated_step}
use Rattle.wac_types_base.proofs.Made.{made_exports}
use Rattle.wac_types_fit.proofs.Items.{exports_inside}
use Rattle.wac_types_fit.proofs.Unfolded.{interface_size}
use Rattle.wac_composition.specs.Classes.{is_instance_kind}
use Rattle.wac_composition.specs.Again.{IsWell, well_instance, well_interface, no_interface}
use Rattle.wac_composition.proofs.Again.{made_uses}
use Rattle.wac_merging.specs.Named.{Stated_are_well}

-- ---- what is made of its parts

-- Each interface in it is of its identifier, uses and exports alone, and its exports have such names.
pub data MadeWith (D : List Name → Type 0) : Stated → Type 0 where
  made_instance : {x : Stated} → x ≡ interface_of (identifier_of x) (uses_of x) (exports_of x) → D (names_of (exports_of x)) → ((n : Name) (y : Stated) → Among (n, y) (exports_of x) → MadeWith D y) → MadeWith D x
  made_interface : {x : Stated} → x ≡ as_type (interface_of (identifier_of x) (uses_of x) (exports_of x)) → D (names_of (exports_of x)) → ((n : Name) (y : Stated) → Among (n, y) (exports_of x) → MadeWith D y) → MadeWith D x
  made_other : {x : Stated} → is_instance_kind (kind_of x) ≡ false → is_interface (kind_of x) ≡ false → MadeWith D x

abbrev pub AnyNames : List Name → Type 0
AnyNames ns = Unit {0}

abbrev pub IsMade : Stated → Type 0
IsMade = MadeWith AnyNames

made_well : {x : Stated} → MadeWith AreDistinct x → IsWell x
made_well (made_instance e d h) = well_instance e d (λ n y m. made_well (h n y m))
made_well (made_interface e d h) = well_interface e d (λ n y m. made_well (h n y m))
made_well (made_other a b) = no_interface a b

pub well_made : {x : Stated} → IsWell x → IsMade x
well_made (well_instance e d h) = made_instance e tt (λ n y m. well_made (h n y m))
well_made (well_interface e d h) = made_interface e tt (λ n y m. well_made (h n y m))
well_made (no_interface a b) = made_other a b

module _ (D : List Name → Type 0) (id : Option Name) (us : List Used) (es : List (Name × Stated)) where
  abbrev made : Stated
  made = interface_of id us es

  made_again : made ≡ interface_of id (uses_of made) (exports_of made)
  made_again = λ j. interface_of id (sym (made_uses id us es) j) (sym (made_exports id us es) j)

  module _ (d : D (names_of es)) (each : (n : Name) (y : Stated) → Among (n, y) es → MadeWith D y) where
    names_made : D (names_of (exports_of made))
    names_made = subst (λ l. D (names_of l)) (sym (made_exports id us es)) d

    each_made : (n : Name) (y : Stated) → Among (n, y) (exports_of made) → MadeWith D y
    each_made n y m = each n y (subst (Among (n, y)) (made_exports id us es) m)

    of_parts : MadeWith D made
    of_parts = made_instance made_again names_made each_made

    type_of_parts : MadeWith D (as_type made)
    type_of_parts = made_interface (ap as_type made_again) names_made each_made

-- ---- interfaces of a collection

module _ (c : Collection) (acyclic : IsAcyclic c) where
  -- what an interface states
  pub made_stated : (i : InterfaceId) (x : Interface) → slice_get c.interfaces i.index ≡ Some x → i.collection ≡ c.number
      → stated_of c (ItemKind.Instance i) ≡ interface_of x.id (stated_uses c x.uses) (with_values (stated_of c) x.exports)
  made_stated i x at own = interface_stated c acyclic i x at own ∙ sym (interface_made c x)

  pub typed_stated : (i : InterfaceId) (x : Interface) → slice_get c.interfaces i.index ≡ Some x → i.collection ≡ c.number
      → stated_of c (ItemKind.Ty (TypeKind.Interface i)) ≡ as_type (stated_of c (ItemKind.Instance i))
  unfolding item_node
  typed_stated i x at own =
      stated_step c acyclic (ItemKind.Ty (TypeKind.Interface i)) (type_of (interface_entry x).0, (interface_entry x).1)
      (ap (labelled type_of) (entry_at-is interface_entry c.number c.interfaces i.collection i.index x at own)) ∙ ap as_type (sym (interface_stated c acyclic i x at own))

  -- an export of what an interface states is what an export of it states
  among_stated : (es : List (Name × ItemKind)) (n : Name) (y : Stated) → Among (n, y) (with_values (stated_of c) es) → (j : ItemKind) × Among (n, j) es × (y ≡ stated_of c j)
  among_stated [] n y m = absurd m
  among_stated (e ∷ es) n y (inl q) = (e.1, inl (λ i. (ap (λ (x : Name × Stated). x.0) q i, e.1)), ap (λ (x : Name × Stated). x.1) q)
  among_stated (e ∷ es) n y (inr m) = let r = among_stated es n y m in (r.0, inr r.1, r.2)

  module _ (D : List Name → Type 0) (named : (x : Interface) → Among x c.interfaces → D (names_of x.exports)) where
    stated_named : (i : InterfaceId) (x : Interface) → slice_get c.interfaces i.index ≡ Some x → D (names_of (with_values (stated_of c) x.exports))
    stated_named i x at = subst D (sym (item_names c x.exports)) (named x (among-get c.interfaces i.index x at))

    abbrev MadeBelow : ℕ → Type 0
    MadeBelow n = (j : ItemKind) → size_of c j < n → Stands c j → MadeWith D (stated_of c j)

    exports_made : (n : ℕ) (i : InterfaceId) (x : Interface) → slice_get c.interfaces i.index ≡ Some x → i.collection ≡ c.number → Stands c (ItemKind.Instance i) → size_of c (ItemKind.Instance i) < suc n → MadeBelow n
        → (m : Name) (y : Stated) → Among (m, y) (with_values (stated_of c) x.exports) → MadeWith D y
    exports_made n i x at own s lt below m y k =
        let r = among_stated x.exports m y k in
        let inside = exports_inside c acyclic i x s at own m r.0 r.1 in
        let less = inside.1 in
        subst (MadeWith D) (sym r.2) (below r.0 (omega (arith, lt, less)) inside.0)

    by_kind : (k : ItemKind) → Stands c k → is_instance_kind (item_kind k) ≡ false → is_interface (item_kind k) ≡ false → MadeWith D (stated_of c k)
    by_kind k s a b =
        let e = kind_stated c acyclic k s in
        made_other (ap (λ i. is_instance_kind i) e ∙ a) (ap (λ i. is_interface i) e ∙ b)

    made_below : (n : ℕ) → MadeBelow n
    made_below zero k lt s = absurd (omega arith)
    made_below (suc n) (ItemKind.Instance i) lt s =
        let f = interface_found c i s in
        subst (MadeWith D) (sym (made_stated i f.value f.at f.own))
        (of_parts D f.value.id (stated_uses c f.value.uses) (with_values (stated_of c) f.value.exports) (stated_named i f.value f.at) (exports_made n i f.value f.at f.own s lt (made_below n)))
    made_below (suc n) (ItemKind.Ty (TypeKind.Interface i)) lt s =
        let r = stands_typed_interface c i s in
        let f = interface_found c i r in
        let same = interface_size c acyclic i s in
        subst (MadeWith D) (sym (typed_stated i f.value f.at f.own ∙ ap as_type (made_stated i f.value f.at f.own)))
        (type_of_parts D f.value.id (stated_uses c f.value.uses) (with_values (stated_of c) f.value.exports) (stated_named i f.value f.at) (exports_made n i f.value f.at f.own r (omega (arith, lt, same)) (made_below n)))
    made_below (suc n) (ItemKind.Func f) lt s = by_kind (ItemKind.Func f) s refl refl
    made_below (suc n) (ItemKind.Component f) lt s = by_kind (ItemKind.Component f) s refl refl
    made_below (suc n) (ItemKind.Module f) lt s = by_kind (ItemKind.Module f) s refl refl
    made_below (suc n) (ItemKind.Value f) lt s = by_kind (ItemKind.Value f) s refl refl
    made_below (suc n) (ItemKind.Ty (TypeKind.Resource f)) lt s = by_kind (ItemKind.Ty (TypeKind.Resource f)) s refl refl
    made_below (suc n) (ItemKind.Ty (TypeKind.Func f)) lt s = by_kind (ItemKind.Ty (TypeKind.Func f)) s refl refl
    made_below (suc n) (ItemKind.Ty (TypeKind.Value f)) lt s = by_kind (ItemKind.Ty (TypeKind.Value f)) s refl refl
    made_below (suc n) (ItemKind.Ty (TypeKind.World f)) lt s = by_kind (ItemKind.Ty (TypeKind.World f)) s refl refl
    made_below (suc n) (ItemKind.Ty (TypeKind.Module f)) lt s = by_kind (ItemKind.Ty (TypeKind.Module f)) s refl refl

  pub stated_made : (k : ItemKind) → Stands c k → IsMade (stated_of c k)
  stated_made k s = made_below AnyNames (λ x m. tt) (suc (size_of c k)) k (omega arith) s

pub stated_are_well : Stated_are_well
stated_are_well c k acyclic named s = made_well (made_below c acyclic AreDistinct named (suc (size_of c k)) k (omega arith) s)
