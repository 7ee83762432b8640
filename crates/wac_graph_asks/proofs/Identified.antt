-- Names of interfaces, and the identifier of an instance that is asked under one.
use Rattle.std.proofs.Common.{◌≡◌, Bool, true, false, Option, Some, None, refl, sym, ap, ◌∙◌, inl, inr, slice_get}
use Rattle.std.specs.Prelude.{◌&&◌, if◌then◌else◌}
use Rattle.wac_types_base.specs.declared.item.ItemKind.{ItemKind}
use Rattle.wac_types_base.specs.declared.item.«Type».{«Type» as TypeKind}
use Rattle.wac_types_base.specs.declared.ids.InterfaceId.{InterfaceId}
use Rattle.wac_types_base.specs.declared.defined.Interface.{Interface}
use Rattle.wac_types_base.specs.Entries.{Name}
use Rattle.wac_types_base.specs.Record.{Collection}
use Rattle.wac_types_base.specs.Collection.{Stands, IsAcyclic, item_node, interface_entry}
use Rattle.wac_types_base.specs.Stated.{kind_of, stated_of, identifier_of}
use Rattle.wac_types_base.proofs.Slots.{entry_at-is}
use Rattle.wac_types_base.proofs.Telling.{item_kind, kind_stated, stated_step}
use Rattle.wac_composition.specs.Classes.{is_instance_kind}
use Rattle.wac_types_parts.proofs.PartsStated.{stands_or_not, stated_nothing}

-- ---- identifiers

pub no_identifier : (c : Collection) (k : ItemKind) → (Stands c k → ⊥) → identifier_of (stated_of c k) ≡ None
no_identifier c k h = ap identifier_of (stated_nothing c k h)

pub identifier_is : (c : Collection) → IsAcyclic c → (id : InterfaceId) (i : Interface) → slice_get c.interfaces id.index ≡ Some i → id.collection ≡ c.number → identifier_of (stated_of c (ItemKind.Instance id)) ≡ i.id
unfolding item_node
identifier_is c a id i at own = ap identifier_of (stated_step c a (ItemKind.Instance id) (interface_entry i) (entry_at-is interface_entry c.number c.interfaces id.collection id.index i at own))

-- the identifier of an instance is asked under the name of an interface
pub asked_instance : (c : Collection) → IsAcyclic c → (id : InterfaceId) (b : Bool) → (if is_instance_kind (kind_of (stated_of c (ItemKind.Instance id))) && b then identifier_of (stated_of c (ItemKind.Instance id)) else None) ≡ (if b then identifier_of (stated_of c (ItemKind.Instance id)) else None)
asked_instance c a id b = elim (stands_or_not c (ItemKind.Instance id)) [
  | inl s ↦ ap (λ k. if is_instance_kind k && b then identifier_of (stated_of c (ItemKind.Instance id)) else None) (kind_stated c a (ItemKind.Instance id) s)
  | inr n ↦ ap (λ t. if is_instance_kind (kind_of t) && b then identifier_of t else None) (stated_nothing c (ItemKind.Instance id) n) ∙ go b (identifier_of (stated_of c (ItemKind.Instance id))) (no_identifier c (ItemKind.Instance id) n)
]
  where
    go : (b : Bool) (o : Option Name) → o ≡ None → None ≡ (if b then o else None)
    go true o e = sym e
    go false o e = refl

-- of not_some else one is asked
abbrev pub IsNoInstance : ItemKind → Type 0
IsNoInstance (ItemKind.Instance id) = ⊥
IsNoInstance k = Unit {0}

pub asked_other : (c : Collection) → IsAcyclic c → (k : ItemKind) (b : Bool) → IsNoInstance k → (if is_instance_kind (kind_of (stated_of c k)) && b then identifier_of (stated_of c k) else None) ≡ None
asked_other c a k b other_kind = elim (stands_or_not c k) [
  | inl s ↦ ap (λ j. if is_instance_kind j && b then identifier_of (stated_of c k) else None) (kind_stated c a k s) ∙ ap (λ j. if j && b then identifier_of (stated_of c k) else None) (other k other_kind)
  | inr n ↦ ap (λ t. if is_instance_kind (kind_of t) && b then identifier_of t else None) (stated_nothing c k n)
]
  where
    other : (k : ItemKind) → IsNoInstance k → is_instance_kind (item_kind k) ≡ false
    other (ItemKind.Ty (TypeKind.Resource r)) h = refl
    other (ItemKind.Ty (TypeKind.Func f)) h = refl
    other (ItemKind.Ty (TypeKind.Value v)) h = refl
    other (ItemKind.Ty (TypeKind.Interface i)) h = refl
    other (ItemKind.Ty (TypeKind.World w)) h = refl
    other (ItemKind.Ty (TypeKind.Module m)) h = refl
    other (ItemKind.Func f) h = refl
    other (ItemKind.Instance i) h = absurd h
    other (ItemKind.Component w) h = refl
    other (ItemKind.Module m) h = refl
    other (ItemKind.Value v) h = refl

pub no_instance : (k : ItemKind) → ((id : InterfaceId) → k ≡ ItemKind.Instance id → ⊥) → IsNoInstance k
no_instance (ItemKind.Ty t) h = tt
no_instance (ItemKind.Func f) h = tt
no_instance (ItemKind.Instance i) h = h i refl
no_instance (ItemKind.Component w) h = tt
no_instance (ItemKind.Module m) h = tt
no_instance (ItemKind.Value v) h = tt
