-- The parts of interfaces and worlds. What does not stand has none.
use Rattle.std.specs.Prelude.{◌≡◌, ℕ, List, Option, Some, None, slice_get, unwrap_or, if◌then◌else◌, ◌==◌}
use Rattle.wac_types_base.specs.Parts.{uses_in, exports_in, uses_in_world, imports_in_world, exports_in_world}
use Rattle.wac_types_base.specs.declared.ids.InterfaceId.{InterfaceId}
use Rattle.wac_types_base.specs.declared.ids.WorldId.{WorldId}
use Rattle.wac_types_base.specs.declared.ids.ResourceId.{ResourceId}
use Rattle.wac_types_base.specs.declared.item.ItemKind.{ItemKind}
use Rattle.wac_types_base.specs.declared.item.«Type».{«Type» as TypeKind}
use Rattle.wac_types_base.specs.declared.defined.Interface.{Interface}
use Rattle.wac_types_base.specs.declared.defined.World.{World}
use Rattle.wac_types_base.specs.declared.defined.UsedType.{UsedType}
use Rattle.wac_types_base.specs.Record.{Collection}
use Rattle.wac_types_base.specs.Entries.{Name, value_at}
use Rattle.wac_types_base.specs.Collection.{Stands, resource}
use Rattle.wac_types_base.specs.Tree.{rigid, end}
use Rattle.wac_types_fit.specs.Trees.{tree_in}
use Rattle.wac_types_parts.specs.declared.parts.Use.{Use}

-- what is at an index, under the collection's own number
abbrev pub at_own : {E : Type 0} → Collection → List E → ℕ → ℕ → Option E
at_own c es number index = if number == c.number then slice_get es index else None

abbrev pub interface_in : Collection → InterfaceId → Option Interface
interface_in c id = at_own c c.interfaces id.collection id.index

abbrev pub world_in : Collection → WorldId → Option World
world_in c id = at_own c c.worlds id.collection id.index

module _ (c : Collection) where
  abbrev pub exports_of : InterfaceId → List (Name × ItemKind)
  exports_of id = exports_in (interface_in c id)

  abbrev pub uses_of : InterfaceId → List (Name × UsedType)
  uses_of id = uses_in (interface_in c id)

  abbrev pub world_uses_of : WorldId → List (Name × UsedType)
  world_uses_of id = uses_in_world (world_in c id)

  abbrev pub imports_of : WorldId → List (Name × ItemKind)
  imports_of id = imports_in_world (world_in c id)

  abbrev pub world_exports_of : WorldId → List (Name × ItemKind)
  world_exports_of id = exports_in_world (world_in c id)

-- a use, by its name, its name in the interface, and that
pub record IsUse (e : Name × UsedType) (u : Use) : Type 0 where
  pub name : u.name.now ≡ e.0
  pub there : u.there.now ≡ unwrap_or e.1.name e.0
  pub interface : u.interface ≡ e.1.interface

-- the use at the place
abbrev pub IsUseAt : List (Name × UsedType) → ℕ → Use → Type 0
IsUseAt us at u = (e : Name × UsedType) × (slice_get us at ≡ Some e) × IsUse e u

-- a resource or a value type
abbrev pub IsUsedKind : ItemKind → Type 0
IsUsedKind (ItemKind.Ty (TypeKind.Resource r)) = Unit {0}
IsUsedKind (ItemKind.Ty (TypeKind.Value v)) = Unit {0}
IsUsedKind k = ⊥

abbrev pub used_kind : ItemKind → Option ItemKind
used_kind (ItemKind.Ty (TypeKind.Resource r)) = Some (ItemKind.Ty (TypeKind.Resource r))
used_kind (ItemKind.Ty (TypeKind.Value v)) = Some (ItemKind.Ty (TypeKind.Value v))
used_kind k = None

abbrev pub used_if : Option ItemKind → Option ItemKind
used_if None = None
used_if (Some k) = used_kind k

-- the resource or the value type that a use takes
abbrev pub taken_in : Collection → Use → Option ItemKind
taken_in c u = used_if (value_at (exports_of c u.interface) u.there.now)

-- the use among these that gives a name
abbrev pub IsUseNamed : List (Name × UsedType) → Name → Use → Type 0
IsUseNamed us n u = (x : UsedType) × (value_at us n ≡ Some x) × IsUse (n, x) u

-- the instance or the interface type of that interface
abbrev pub IsOfInterface : ItemKind → InterfaceId → Type 0
IsOfInterface (ItemKind.Instance j) i = j ≡ i
IsOfInterface (ItemKind.Ty (TypeKind.Interface j)) i = j ≡ i
IsOfInterface k i = ⊥

abbrev pub IsOfWorld : ItemKind → WorldId → Type 0
IsOfWorld (ItemKind.Component v) w = v ≡ w
IsOfWorld (ItemKind.Ty (TypeKind.World v)) w = v ≡ w
IsOfWorld k w = ⊥

-- a resource under its own name
abbrev pub IsFresh : Collection → Name → ItemKind → Type 0
IsFresh c n k = Stands c k × (tree_in c k ≡ rigid (resource n) end)

-- the name of the resource at the end of the aliases
abbrev pub IsRootName : Collection → ResourceId → Name → Type 0
IsRootName c r n =
    Stands c (ItemKind.Ty (TypeKind.Resource r)) → tree_in c (ItemKind.Ty (TypeKind.Resource r)) ≡ rigid (resource n) end
