-- The families of asks on ids are those of stated types.
use Rattle.std.proofs.Common.{◌≡◌, ◌<◌, List, [], ◌∷◌, length, Bool, true, false, true≢false, Some, refl, sym, ap, subst, ◌∙◌, inl, inr, arith}
use Rattle.std.specs.Prelude.{◌&&◌, is_some, slice_get}
use Rattle.std.proofs.lemmas.Bool.{and_parts, false_from_ne_true}
use Rattle.wac_types_base.specs.declared.item.«Type».{«Type» as TypeKind}
use Rattle.wac_types_base.specs.declared.item.ItemKind.{ItemKind}
use Rattle.wac_types_base.specs.declared.ids.InterfaceId.{InterfaceId}
use Rattle.wac_types_base.specs.declared.defined.UsedType.{UsedType}
use Rattle.wac_types_base.specs.declared.defined.Interface.{Interface}
use Rattle.wac_types_base.specs.Record.{Collection}
use Rattle.wac_types_base.specs.Entries.{Name, values_of}
use Rattle.wac_types_base.specs.Collection.{Stands, IsAcyclic}
use Rattle.wac_types_base.specs.Stated.{Stated, kind_of, identifier_of, stated_of}
use Rattle.wac_types_base.specs.Reaching.{here}
use Rattle.wac_types_base.proofs.Slots.{stands_typed_interface}
use Rattle.wac_types_base.proofs.Standing.{interface_found}
use Rattle.wac_types_base.proofs.Telling.{item_kind, kind_stated}
use Rattle.wac_types_merge.specs.declared.family.Family.{Family}
use Rattle.wac_types_merge.specs.Families.{IsUnnamedIn, uses_of as uses_held, UsesUnnamed, HasMore, IsPlainItem, IsWitInterface, IsWitItem}
use Rattle.wac_composition.specs.Classes.{is_instance_kind}
use Rattle.wac_composition.specs.Merging.{is_plain, is_called, is_wit}
use Rattle.wac_merging.specs.Families.{family_by, family_stated, NamesUses, Family_is_stated, Unnamed_is_of_none}
use Rattle.wac_merging.proofs.Plainness.{plain_stated, stated_plain}
use Rattle.wac_merging.proofs.Wit.{instance_wit, wit_instance, wit_named}

first_of : (a b c d e : Bool) → (a && b && c && d && e) ≡ true → a ≡ true
first_of a b c d e h = (and_parts a b (and_parts (a && b) c (and_parts (a && b && c) d (and_parts (a && b && c && d) e h).0).0).0).0

pub wit_kind : (n : Name) (x : Stated) → is_wit n x ≡ true → is_instance_kind (kind_of x) ≡ true
wit_kind n x e = first_of (is_instance_kind (kind_of x)) _ _ _ _ e

second_of : (a b c d e : Bool) → (a && b && c && d && e) ≡ true → b ≡ true
second_of a b c d e h = (and_parts a b (and_parts (a && b) c (and_parts (a && b && c) d (and_parts (a && b && c && d) e h).0).0).0).1

pub wit_called : (n : Name) (x : Stated) → is_wit n x ≡ true → is_called (identifier_of x) n ≡ true
wit_called n x e = second_of _ (is_called (identifier_of x) n) _ _ _ e

module _ (c : Collection) (a : IsAcyclic c) (n : Name) where
  -- what is no instance is not identified by the name asked
  not_wit : (k : ItemKind) → Stands c k → is_instance_kind (item_kind k) ≡ false → is_wit n (stated_of c k) ≡ false
  not_wit k s e = false_from_ne_true (is_wit n (stated_of c k)) (λ w. true≢false (sym (wit_kind n (stated_of c k) w) ∙ ap (λ i. is_instance_kind i) (kind_stated c a k s) ∙ e))

  not_plain : (k : ItemKind) → Stands c k → (IsPlainItem c k → ⊥) → is_plain (stated_of c k) ≡ false
  not_plain k s h = false_from_ne_true (is_plain (stated_of c k)) (λ e. h (stated_plain c a k s e))

  -- an interface with uses is not plain
  has_uses : (i : InterfaceId) (x : Interface) → slice_get c.interfaces i.index ≡ Some x → IsUnnamedIn c (values_of x.uses) → HasMore (slice_get c.interfaces i.index)
  has_uses i x at u = subst HasMore (sym at) (inr (by x.uses u))
    where
      by : (us : List (Name × UsedType)) → IsUnnamedIn c (values_of us) → 0 < length us
      by [] u = absurd u.1
      by (v ∷ us) u = omega arith

  -- an instance
  module _ (i : InterfaceId) (s : Stands c (ItemKind.Instance i)) where
    instance_stated : (UsesUnnamed c (ItemKind.Instance i) → ⊥) → IsWitItem c n (ItemKind.Instance i) → is_wit n (stated_of c (ItemKind.Instance i)) ≡ true
    instance_stated named w =
        let f = interface_found c i s in
        instance_wit c a i s f.value f.at f.own n (λ u. named (subst (λ o. IsUnnamedIn c (uses_held o)) (sym f.at) u)) (subst (IsWitInterface c n i) f.at w)

    stated_instance : is_wit n (stated_of c (ItemKind.Instance i)) ≡ true → IsWitItem c n (ItemKind.Instance i)
    stated_instance e =
        let f = interface_found c i s in
        subst (IsWitInterface c n i) (sym f.at) (wit_instance c a i s f.value f.at f.own n e)

    instance_named : is_wit n (stated_of c (ItemKind.Instance i)) ≡ true → UsesUnnamed c (ItemKind.Instance i) → ⊥
    instance_named e u =
        let f = interface_found c i s in
        wit_named c a i s f.value f.at f.own n e (subst (λ o. IsUnnamedIn c (uses_held o)) f.at u)

    -- what is identified is not plain
    identified_unplain : IsWitItem c n (ItemKind.Instance i) → IsPlainItem c (ItemKind.Instance i) → ⊥
    identified_unplain w p =
        let f = interface_found c i s in
        let v : IsWitInterface c n i (Some f.value) = subst (IsWitInterface c n i) f.at w in
        p (here (subst HasMore (sym f.at) (inl (ap (λ o. is_some o) v.0))))

    uses_unplain : UsesUnnamed c (ItemKind.Instance i) → IsPlainItem c (ItemKind.Instance i) → ⊥
    uses_unplain u p =
        let f = interface_found c i s in
        p (here (has_uses i f.value f.at (subst (λ o. IsUnnamedIn c (uses_held o)) f.at u)))

  abbrev Same : Family → ItemKind → Type 0
  Same f k = f ≡ family_stated n (stated_of c k)

  same_plain : (k : ItemKind) → Stands c k → IsPlainItem c k → Same Family.Plain k
  same_plain k s p = ap (λ b. family_by b (is_wit n (stated_of c k))) (sym (plain_stated c a k s p))

  same_by : (k : ItemKind) (b : Bool) → is_plain (stated_of c k) ≡ false → is_wit n (stated_of c k) ≡ b → Same (family_by false b) k
  same_by k b p w = λ j. family_by (sym p j) (sym w j)

  same_wit : (k : ItemKind) → Stands c k → NamesUses c k → IsWitItem c n k → Same Family.Wit k
  same_wit (ItemKind.Instance i) s named w = same_by (ItemKind.Instance i) true (not_plain (ItemKind.Instance i) s (identified_unplain i s w)) (instance_stated i s named w)
  same_wit (ItemKind.Ty t) s named w = absurd w
  same_wit (ItemKind.Func t) s named w = absurd w
  same_wit (ItemKind.Component t) s named w = absurd w
  same_wit (ItemKind.Module t) s named w = absurd w
  same_wit (ItemKind.Value t) s named w = absurd w

  no_type : (t : TypeKind) → is_instance_kind (item_kind (ItemKind.Ty t)) ≡ false
  no_type (TypeKind.Resource r) = refl
  no_type (TypeKind.Func r) = refl
  no_type (TypeKind.Value r) = refl
  no_type (TypeKind.Interface r) = refl
  no_type (TypeKind.World r) = refl
  no_type (TypeKind.Module r) = refl

  none_wit : (k : ItemKind) → Stands c k → (IsWitItem c n k → ⊥) → is_wit n (stated_of c k) ≡ false
  none_wit (ItemKind.Instance i) s h = false_from_ne_true (is_wit n (stated_of c (ItemKind.Instance i))) (λ e. h (stated_instance i s e))
  none_wit (ItemKind.Ty t) s h = not_wit (ItemKind.Ty t) s (no_type t)
  none_wit (ItemKind.Func t) s h = not_wit (ItemKind.Func t) s refl
  none_wit (ItemKind.Component t) s h = not_wit (ItemKind.Component t) s refl
  none_wit (ItemKind.Module t) s h = not_wit (ItemKind.Module t) s refl
  none_wit (ItemKind.Value t) s h = not_wit (ItemKind.Value t) s refl

  typed_unplain : (t : TypeKind) → Stands c (ItemKind.Ty t) → UsesUnnamed c (ItemKind.Ty t) → IsPlainItem c (ItemKind.Ty t) → ⊥
  typed_unplain (TypeKind.Interface i) s u p =
      let f = interface_found c i (stands_typed_interface c i s) in
      p (here (has_uses i f.value f.at (subst (λ o. IsUnnamedIn c (uses_held o)) f.at u)))
  typed_unplain (TypeKind.World w) s u p = p (here tt)
  typed_unplain (TypeKind.Resource r) s u p = u.1
  typed_unplain (TypeKind.Func r) s u p = u.1
  typed_unplain (TypeKind.Value r) s u p = u.1
  typed_unplain (TypeKind.Module r) s u p = u.1

  unnamed_none : (k : ItemKind) → Stands c k → UsesUnnamed c k → Same Family.Neither k
  unnamed_none (ItemKind.Instance i) s u =
      same_by (ItemKind.Instance i) false (not_plain (ItemKind.Instance i) s (uses_unplain i s u)) (false_from_ne_true (is_wit n (stated_of c (ItemKind.Instance i))) (λ e. instance_named i s e u))
  unnamed_none (ItemKind.Component w) s u = same_by (ItemKind.Component w) false (not_plain (ItemKind.Component w) s (λ p. p (here tt))) (not_wit (ItemKind.Component w) s refl)
  unnamed_none (ItemKind.Ty t) s u = same_by (ItemKind.Ty t) false (not_plain (ItemKind.Ty t) s (typed_unplain t s u)) (not_wit (ItemKind.Ty t) s (no_type t))
  unnamed_none (ItemKind.Func f) s u = absurd u.1
  unnamed_none (ItemKind.Module f) s u = absurd u.1
  unnamed_none (ItemKind.Value f) s u = absurd u.1

pub family_is_stated : Family_is_stated
family_is_stated c n k Family.Plain a s named h = same_plain c a n k s h
family_is_stated c n k Family.Wit a s named h = same_wit c a n k s named h
family_is_stated c n k Family.Neither a s named h = same_by c a n k false (not_plain c a n k s h.0) (none_wit c a n k s h.1)

pub unnamed_is_of_none : Unnamed_is_of_none
unnamed_is_of_none c n k a s u = sym (unnamed_none c a n k s u)
