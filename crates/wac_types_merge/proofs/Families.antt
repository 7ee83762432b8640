-- What the tests of the families rest on.
use Rattle.std.specs.Prelude.{slice_get, is_some}
use Rattle.std.proofs.Common.{◌≡◌, ℕ, ◌+◌, ◌<◌, ◌≤◌, List, [], ◌∷◌, ◌++◌, length, Option, Some, None, IsSome, Bool, IsTrue, ◌↔◌, refl, sym, ap, subst, ◌∙◌, ◌⊎◌, inl, inr, arith, below_more}
use Rattle.std.specs.Option.{option_map}
use Rattle.wac_types_base.specs.declared.item.ItemKind.{ItemKind}
use Rattle.wac_types_base.specs.declared.item.ValueType.{ValueType}
use Rattle.wac_types_base.specs.declared.item.«Type».{«Type» as TypeKind}
use Rattle.wac_types_base.specs.declared.ids.ResourceId.{ResourceId}
use Rattle.wac_types_base.specs.declared.ids.InterfaceId.{InterfaceId}
use Rattle.wac_types_base.specs.declared.defined.UsedType.{UsedType}
use Rattle.wac_types_base.specs.declared.defined.Resource.{Resource}
use Rattle.wac_types_base.specs.declared.defined.ResourceAlias.{ResourceAlias}
use Rattle.wac_types_base.specs.declared.defined.Interface.{Interface}
use Rattle.wac_types_base.specs.declared.ids.WorldId.{WorldId}
use Rattle.wac_types_base.specs.declared.defined.World.{World}
use Rattle.wac_types_base.specs.Record.{Collection}
use Rattle.wac_types_base.specs.Graph.{Among}
use Rattle.wac_types_base.specs.Entries.{values_of}
use Rattle.wac_types_base.specs.Collection.{Stands, IsAcyclic, used, items, interface_entry, world_entry, resource_entry_at}
use Rattle.wac_types_base.specs.Stated.{stated_of}
use Rattle.wac_types_base.specs.Parts.{identifier_in}
use Rattle.wac_types_base.specs.Implicit.{used_interfaces, uses_in}
use Rattle.wac_types_base.proofs.Adding.{Among-left}
use Rattle.wac_types_base.proofs.Slots.{slots_interface, slots_world, slots_resource, stands_borrow, stands_own, stands_typed_value}
use Rattle.wac_types_base.proofs.Standing.{resource_found}
use Rattle.wac_types_base.proofs.Walking.{slice_get-Among, child_smaller}
use Rattle.wac_types_base.proofs.Lists.{among_mapped}
use Rattle.wac_types_fit.specs.Trees.{IsInside}
use Rattle.wac_types_merge.specs.Families.{IsUnnamedIn, IsUsedBy, used_directly, used_further, UsesSuch, owner, owner_in, owner_of, value_owner}

pub some_test : {T : Type 0} (o p : Option T) (t : Bool) → t ≡ is_some o → o ≡ p → IsTrue t ↔ IsSome p
some_test None p t e f = (λ h. absurd (cc (e, h)), λ h. absurd (cc (f, h)))
some_test (Some x) p t e f = (λ h. subst IsSome f refl, λ h. e)

-- ---- loops over a list

-- each of the first n is so
abbrev pub AllBefore : {X : Type 0} → List X → (X → Type 0) → ℕ → Type 0
AllBefore {X} xs Q n = (i : ℕ) (x : X) → i < n → slice_get xs i ≡ Some x → Q x

module _ {X : Type 0} (xs : List X) (Q : X → Type 0) where
  pub none_before : AllBefore xs Q 0
  none_before i x lt at = absurd (omega arith)

  pub one_before : (n : ℕ) (x : X) → slice_get xs n ≡ Some x → AllBefore xs Q n → Q x → AllBefore xs Q (n + 1)
  one_before n x at before this i y lt e =
      below_more (λ i. (y : X) → slice_get xs i ≡ Some y → Q y) n (λ i lt y. before i y lt) (λ y e. let same : x ≡ y = cc (at, e) in subst Q same this) i lt y e

  pub all_before : (n : ℕ) → length xs ≤ n → AllBefore xs Q n → (x : X) → Among x xs → Q x
  all_before n le h x m = let p = slice_get-Among xs x m in h p.0 x (omega (arith, le, p.1)) p.2

-- ---- uses

use_of : (us : List UsedType) (j : InterfaceId) → Among j (used_interfaces us) → (u : UsedType) × Among u us × (u.interface ≡ j)
use_of [] j m = absurd m
use_of (x ∷ us) j (inl e) = (x, inl refl, sym e)
use_of (x ∷ us) j (inr m) = let r = use_of us j m in (r.0, inr r.1, r.2)

-- a used interface stands, and is smaller
pub use_inside : (c : Collection) → IsAcyclic c → (i : InterfaceId) (x : Interface) → Stands c (ItemKind.Instance i) → slice_get c.interfaces i.index ≡ Some x → i.collection ≡ c.number → (u : UsedType) → Among u (values_of x.uses) → IsInside c (ItemKind.Instance u.interface) (ItemKind.Instance i)
use_inside c a i x s at own u m =
    let slot = Some (ItemKind.Instance u.interface) in
    let here = Among-left slot (used x.uses) (items x.exports) (among_mapped (λ (v : UsedType). Some (ItemKind.Instance v.interface)) (values_of x.uses) u m) in
    let p = slice_get-Among (interface_entry x).1 slot here in
    child_smaller c a (ItemKind.Instance i) s p.0 (ItemKind.Instance u.interface) (subst (λ l. slice_get l p.0 ≡ Some slot) (sym (slots_interface c i x at own)) p.2)

pub world_use_inside : (c : Collection) → IsAcyclic c → (i : WorldId) (x : World) → Stands c (ItemKind.Component i) → slice_get c.worlds i.index ≡ Some x → i.collection ≡ c.number → (u : UsedType) → Among u (values_of x.uses) → IsInside c (ItemKind.Instance u.interface) (ItemKind.Component i)
world_use_inside c a i x s at own u m =
    let slot = Some (ItemKind.Instance u.interface) in
    let here = Among-left slot (used x.uses) (items x.imports ++ items x.exports) (among_mapped (λ (v : UsedType). Some (ItemKind.Instance v.interface)) (values_of x.uses) u m) in
    let p = slice_get-Among (world_entry x).1 slot here in
    child_smaller c a (ItemKind.Component i) s p.0 (ItemKind.Instance u.interface) (subst (λ l. slice_get l p.0 ≡ Some slot) (sym (slots_world c i x at own)) p.2)

-- the interface of a use has no identifier
abbrev pub IsUnnamed : Collection → UsedType → Type 0
IsUnnamed c u = identifier_in (slice_get c.interfaces u.interface.index) ≡ None

pub unnamed_there : (c : Collection) (us : List UsedType) (u : UsedType) → Among u us → IsUnnamed c u → IsUnnamedIn c us
unnamed_there c us u m e = (u.interface, among_mapped (λ (v : UsedType). v.interface) us u m, e)

pub all_named : (c : Collection) (us : List UsedType) → ((u : UsedType) → Among u us → IsUnnamed c u → ⊥) → IsUnnamedIn c us → ⊥
all_named c us h n =
    let u = use_of us n.0 n.1 in
    h u.0 u.1 (subst (λ (j : InterfaceId). identifier_in (slice_get c.interfaces j.index) ≡ None) (sym u.2) n.2)

abbrev StateSame : Collection → InterfaceId → InterfaceId → Type 0
StateSame c i j = stated_of c (ItemKind.Instance i) ≡ stated_of c (ItemKind.Instance j)

-- the interface of a use states what the target does, or uses one that does
abbrev pub Leads : Collection → InterfaceId → UsedType → Type 0
Leads c target u = StateSame c u.interface target ⊎ UsesSuch c u.interface target

module _ (c : Collection) (target i : InterfaceId) (x : Interface) (at : slice_get c.interfaces i.index ≡ Some x) where
  pub use_in : (u : UsedType) → Among u (values_of x.uses) → Among u.interface (uses_in (slice_get c.interfaces i.index))
  use_in u m = subst (λ o. Among u.interface (uses_in o)) (sym at) (among_mapped (λ (v : UsedType). v.interface) (values_of x.uses) u m)

  pub leads_there : (u : UsedType) → Among u (values_of x.uses) → Leads c target u → UsesSuch c i target
  leads_there u m (inl e) = (u.interface, used_directly (use_in u m), e)
  leads_there u m (inr r) = (r.0, used_further (use_in u m) r.1, r.2)

none_leads : (c : Collection) (target i : InterfaceId) (x : Interface) → slice_get c.interfaces i.index ≡ Some x → ((u : UsedType) → Among u (values_of x.uses) → Leads c target u → ⊥) → (j : InterfaceId) → Among j (uses_in (slice_get c.interfaces i.index)) → StateSame c j target ⊎ UsesSuch c j target → ⊥
none_leads c target i x at h j m r =
    let u = use_of (values_of x.uses) j (subst (λ o. Among j (uses_in o)) at m) in
    h u.0 u.1 (subst (λ k. StateSame c k target ⊎ UsesSuch c k target) (sym u.2) r)

pub not_used : (c : Collection) (target i : InterfaceId) (x : Interface) → slice_get c.interfaces i.index ≡ Some x → ((u : UsedType) → Among u (values_of x.uses) → Leads c target u → ⊥) → UsesSuch c i target → ⊥
not_used c target i x at h such = by such.1 refl
  where
    by : {l : InterfaceId} → IsUsedBy c l such.0 → l ≡ i → ⊥
    by (used_directly m) e = none_leads c target i x at h such.0 (subst (λ l. Among such.0 (uses_in (slice_get c.interfaces l.index))) e m) (inl such.2)
    by (used_further {k = k} m r) e = none_leads c target i x at h k (subst (λ l. Among k (uses_in (slice_get c.interfaces l.index))) e m) (inr (such.0, r, such.2))

-- ---- owners

module _ (c : Collection) (a : IsAcyclic c) (o : InterfaceId) where
  alias_owner : (r : ResourceId) (x : Resource) → Stands c (ItemKind.Ty (TypeKind.Resource r)) → slice_get c.resources r.index ≡ Some x → r.collection ≡ c.number → (l : Option ResourceAlias) → x.alias ≡ l → owner_of l ≡ Some o → Stands c (ItemKind.Instance o)
  alias_owner r x s at own None is e = absurd (cc e)
  alias_owner r x s at own (Some l) is e =
      let places = slots_resource c r x at own ∙ ap (λ l. (resource_entry_at x.name l).1) is in
      (child_smaller c a (ItemKind.Ty (TypeKind.Resource r)) s 1 (ItemKind.Instance o) (ap (λ l. slice_get l 1) places ∙ ap (λ q. Some (option_map ItemKind.Instance q)) e)).0

  resource_owner : (r : ResourceId) → Stands c (ItemKind.Ty (TypeKind.Resource r)) → owner_in (slice_get c.resources r.index) ≡ Some o → Stands c (ItemKind.Instance o)
  resource_owner r s e =
      let f = resource_found c r s in
      alias_owner r f.value s f.at f.own f.value.alias refl (ap owner_in (sym f.at) ∙ e)

  value_owner_stands : (v : ValueType) → Stands c (ItemKind.Value v) → value_owner c v ≡ Some o → Stands c (ItemKind.Instance o)
  value_owner_stands (ValueType.Primitive p) s e = absurd (cc e)
  value_owner_stands (ValueType.Borrow r) s e = resource_owner r (stands_borrow c r s) e
  value_owner_stands (ValueType.Own r) s e = resource_owner r (stands_own c r s) e
  value_owner_stands (ValueType.Defined d) s e = absurd (cc e)

  -- an owner stands
  pub owner_stands : (k : ItemKind) → Stands c k → owner c k ≡ Some o → Stands c (ItemKind.Instance o)
  owner_stands (ItemKind.Ty (TypeKind.Resource r)) s e = resource_owner r s e
  owner_stands (ItemKind.Ty (TypeKind.Func f)) s e = absurd (cc e)
  owner_stands (ItemKind.Ty (TypeKind.Value v)) s e = value_owner_stands v (stands_typed_value c v s) e
  owner_stands (ItemKind.Ty (TypeKind.Interface i)) s e = absurd (cc e)
  owner_stands (ItemKind.Ty (TypeKind.World w)) s e = absurd (cc e)
  owner_stands (ItemKind.Ty (TypeKind.Module m)) s e = absurd (cc e)
  owner_stands (ItemKind.Func f) s e = absurd (cc e)
  owner_stands (ItemKind.Instance i) s e = absurd (cc e)
  owner_stands (ItemKind.Component w) s e = absurd (cc e)
  owner_stands (ItemKind.Module m) s e = absurd (cc e)
  owner_stands (ItemKind.Value v) s e = value_owner_stands v s e

-- ---- tests

-- the resource of a handle stands
pub borrowed_stands : (c : Collection) (v : ValueType) (r : ResourceId) → v ≡ ValueType.Borrow r → Stands c (ItemKind.Value v) → Stands c (ItemKind.Ty (TypeKind.Resource r))
borrowed_stands c v r is s = stands_borrow c r (subst (λ x. Stands c (ItemKind.Value x)) is s)

pub owned_stands : (c : Collection) (v : ValueType) (r : ResourceId) → v ≡ ValueType.Own r → Stands c (ItemKind.Value v) → Stands c (ItemKind.Ty (TypeKind.Resource r))
owned_stands c v r is s = stands_own c r (subst (λ x. Stands c (ItemKind.Value x)) is s)

pub entry_of : {K V : Type 0} (es : List (K × V)) (v : V) → Among v (values_of es) → (n : K) × Among (n, v) es
entry_of [] v m = absurd m
entry_of (x ∷ es) v (inl e) = (x.0, inl (λ i. (x.0, e i)))
entry_of (x ∷ es) v (inr m) = let r = entry_of es v m in (r.0, inr r.1)
