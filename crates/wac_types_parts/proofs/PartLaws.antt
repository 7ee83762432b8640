-- Interfaces and worlds that stand, and those that do not.
use Rattle.std.proofs.Common.{◌≡◌, ℕ, zero, suc, List, [], ◌∷◌, Option, Some, None, IsSome, Bool, true, false, ◌==◌, slice_get, refl, ap, if◌then◌else◌}
use Rattle.std.specs.Option.{option_map}
use Rattle.wac_types_base.specs.declared.ids.InterfaceId.{InterfaceId}
use Rattle.wac_types_base.specs.declared.ids.WorldId.{WorldId}
use Rattle.wac_types_base.specs.declared.item.ItemKind.{ItemKind}
use Rattle.wac_types_base.specs.declared.item.«Type».{«Type» as TypeKind}
use Rattle.wac_types_base.specs.declared.defined.Interface.{Interface}
use Rattle.wac_types_base.specs.declared.defined.World.{World}
use Rattle.wac_types_base.specs.Record.{Collection}
use Rattle.wac_types_base.specs.Entries.{Name, value_at, names_of}
use Rattle.wac_types_base.specs.Collection.{Entry, Stands, IsAcyclic, item_node, interface_entry, world_entry}
use Rattle.wac_types_base.proofs.Replacing.{number_same}
use Rattle.wac_types_fit.proofs.Items.{value_at-among, exports_inside, world_imports_inside, world_exports_inside}
use Rattle.wac_types_base.specs.Parts.{identifier_in, uses_in, exports_in, uses_in_world, imports_in_world, exports_in_world}
use Rattle.wac_types_parts.specs.Parts.{at_own, interface_in, world_in, exports_of, uses_of, world_uses_of, imports_of, world_exports_of, IsUsedKind, used_kind}

at_own-is : {E : Type 0} (c : Collection) (es : List E) (n i : ℕ) (x : E) → slice_get es i ≡ Some x → n ≡ c.number → at_own c es n i ≡ Some x
at_own-is c es n i x e h = rw (number_same n c.number h, e) refl

none_by : {E : Type 0} (f : E → Entry) (t : Bool) (o : Option E) → (IsSome (if t then option_map f o else None) → ⊥) → (if t then o else None) ≡ None
none_by f true (Some x) h = absurd (h refl)
none_by f true None h = refl
none_by f false o h = refl

module _ (c : Collection) (id : InterfaceId) where
  pub interface_there : (x : Interface) → slice_get c.interfaces id.index ≡ Some x → id.collection ≡ c.number → interface_in c id ≡ Some x
  interface_there x e own = at_own-is c c.interfaces id.collection id.index x e own

  interface_missing : (Stands c (ItemKind.Instance id) → ⊥) → interface_in c id ≡ None
  unfolding item_node
  interface_missing h = none_by interface_entry (id.collection == c.number) (slice_get c.interfaces id.index) h

  pub exports_there : (x : Interface) → slice_get c.interfaces id.index ≡ Some x → id.collection ≡ c.number → exports_of c id ≡ x.exports
  exports_there x e own = ap exports_in (interface_there x e own)

  pub exports_missing : (Stands c (ItemKind.Instance id) → ⊥) → exports_of c id ≡ []
  exports_missing h = ap exports_in (interface_missing h)

  pub uses_there : (x : Interface) → slice_get c.interfaces id.index ≡ Some x → id.collection ≡ c.number → uses_of c id ≡ x.uses
  uses_there x e own = ap uses_in (interface_there x e own)

  pub uses_missing : (Stands c (ItemKind.Instance id) → ⊥) → uses_of c id ≡ []
  uses_missing h = ap uses_in (interface_missing h)

  pub identifier_there : (x : Interface) → slice_get c.interfaces id.index ≡ Some x → id.collection ≡ c.number → identifier_in (interface_in c id) ≡ x.id
  identifier_there x e own = ap identifier_in (interface_there x e own)

  pub identifier_missing : (Stands c (ItemKind.Instance id) → ⊥) → identifier_in (interface_in c id) ≡ None
  identifier_missing h = ap identifier_in (interface_missing h)

  pub export_stands : IsAcyclic c → (x : Interface) → Stands c (ItemKind.Instance id) → slice_get c.interfaces id.index ≡ Some x → id.collection ≡ c.number → (n : Name) (k : ItemKind) → value_at x.exports n ≡ Some k → Stands c k
  export_stands a x s e own n k at = (exports_inside c a id x s e own n k (value_at-among x.exports n k at)).0

module _ (c : Collection) (id : WorldId) where
  world_there : (x : World) → slice_get c.worlds id.index ≡ Some x → id.collection ≡ c.number → world_in c id ≡ Some x
  world_there x e own = at_own-is c c.worlds id.collection id.index x e own

  world_missing : (Stands c (ItemKind.Component id) → ⊥) → world_in c id ≡ None
  unfolding item_node
  world_missing h = none_by world_entry (id.collection == c.number) (slice_get c.worlds id.index) h

  pub world_uses_there : (x : World) → slice_get c.worlds id.index ≡ Some x → id.collection ≡ c.number → world_uses_of c id ≡ x.uses
  world_uses_there x e own = ap uses_in_world (world_there x e own)

  pub world_uses_missing : (Stands c (ItemKind.Component id) → ⊥) → world_uses_of c id ≡ []
  world_uses_missing h = ap uses_in_world (world_missing h)

  pub imports_there : (x : World) → slice_get c.worlds id.index ≡ Some x → id.collection ≡ c.number → imports_of c id ≡ x.imports
  imports_there x e own = ap imports_in_world (world_there x e own)

  pub imports_missing : (Stands c (ItemKind.Component id) → ⊥) → imports_of c id ≡ []
  imports_missing h = ap imports_in_world (world_missing h)

  pub import_stands : IsAcyclic c → (x : World) → Stands c (ItemKind.Component id) → slice_get c.worlds id.index ≡ Some x → id.collection ≡ c.number → (n : Name) (k : ItemKind) → value_at x.imports n ≡ Some k → Stands c k
  import_stands a x s e own n k at = (world_imports_inside c a id x s e own n k (value_at-among x.imports n k at)).0

  pub world_exports_there : (x : World) → slice_get c.worlds id.index ≡ Some x → id.collection ≡ c.number → world_exports_of c id ≡ x.exports
  world_exports_there x e own = ap exports_in_world (world_there x e own)

  pub world_exports_missing : (Stands c (ItemKind.Component id) → ⊥) → world_exports_of c id ≡ []
  world_exports_missing h = ap exports_in_world (world_missing h)

  pub world_export_stands : IsAcyclic c → (x : World) → Stands c (ItemKind.Component id) → slice_get c.worlds id.index ≡ Some x → id.collection ≡ c.number → (n : Name) (k : ItemKind) → value_at x.exports n ≡ Some k → Stands c k
  world_export_stands a x s e own n k at = (world_exports_inside c a id x s e own n k (value_at-among x.exports n k at)).0

pub name_at : {T : Type 0} (es : List (Name × T)) (i : ℕ) (n : Name) (v : T) → slice_get es i ≡ Some (n, v) → slice_get (names_of es) i ≡ Some n
name_at [] i n v e = absurd (cc e)
name_at (x ∷ es) zero n v e = let same : x ≡ (n, v) = cc e in ap (λ p. Some p.0) same
name_at (x ∷ es) (suc i) n v e = name_at es i n v e

-- ---- what is used

pub used_itself : (k : ItemKind) → IsUsedKind k → used_kind k ≡ Some k
used_itself (ItemKind.Ty (TypeKind.Resource r)) u = refl
used_itself (ItemKind.Ty (TypeKind.Value v)) u = refl
used_itself (ItemKind.Ty (TypeKind.Func f)) u = absurd u
used_itself (ItemKind.Ty (TypeKind.Interface f)) u = absurd u
used_itself (ItemKind.Ty (TypeKind.World f)) u = absurd u
used_itself (ItemKind.Ty (TypeKind.Module f)) u = absurd u
used_itself (ItemKind.Func f) u = absurd u
used_itself (ItemKind.Instance f) u = absurd u
used_itself (ItemKind.Component f) u = absurd u
used_itself (ItemKind.Module f) u = absurd u
used_itself (ItemKind.Value v) u = absurd u

pub used_nothing : (k : ItemKind) → (IsUsedKind k → ⊥) → used_kind k ≡ None
used_nothing (ItemKind.Ty (TypeKind.Resource r)) n = absurd (n tt)
used_nothing (ItemKind.Ty (TypeKind.Value v)) n = absurd (n tt)
used_nothing (ItemKind.Ty (TypeKind.Func f)) n = refl
used_nothing (ItemKind.Ty (TypeKind.Interface f)) n = refl
used_nothing (ItemKind.Ty (TypeKind.World f)) n = refl
used_nothing (ItemKind.Ty (TypeKind.Module f)) n = refl
used_nothing (ItemKind.Func f) n = refl
used_nothing (ItemKind.Instance f) n = refl
used_nothing (ItemKind.Component f) n = refl
used_nothing (ItemKind.Module f) n = refl
used_nothing (ItemKind.Value v) n = refl
