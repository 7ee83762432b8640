-- Why the type of an instance could not be written, by what stands around it and by the interface alone.
use Rattle.std.specs.Prelude.{◌≡◌, ℕ, ◌+◌, ◌-◌, ◌^◌, List, [], ◌∷◌, Result, Some, None, IfErr, ◌⊎◌}
use Rattle.wac_types_base.specs.declared.ids.InterfaceId.{InterfaceId}
use Rattle.wac_types_base.specs.declared.ids.ResourceId.{ResourceId}
use Rattle.wac_types_base.specs.declared.item.ValueType.{ValueType}
use Rattle.wac_types_base.specs.declared.item.ItemKind.{ItemKind}
use Rattle.wac_types_base.specs.declared.item.«Type».{«Type» as TypeKind}
use Rattle.wac_types_base.specs.Record.{Collection}
use Rattle.wac_types_base.specs.Graph.{Among}
use Rattle.wac_types_base.specs.Entries.{Name}
use Rattle.wac_types_base.specs.Parts.{identifier_in}
use Rattle.wac_types_base.specs.Collection.{Stands, slots_of}
use Rattle.wac_types_fit.specs.Trees.{tree_in}
use Rattle.wac_types_parts.specs.declared.parts.Use.{Use}
use Rattle.wac_types_parts.specs.Parts.{interface_in, exports_of, uses_of, IsUseAt, taken_in, IsOfInterface}
use Rattle.wac_graph_bytes.specs.Typing.{Worlds, Scope, Inside}
use Rattle.wac_graph_scopes.specs.declared.error.WriteError.{WriteError}
use Rattle.wac_graph_scopes.specs.declared.scope.KnownTypes.{KnownTypes}
use Rattle.wac_graph_scopes.specs.declared.items.ItemScope.{ItemScope}
use Rattle.wac_graph_scopes.specs.declared.items.PlacedInterface.{PlacedInterface}
use Rattle.wac_graph_scopes.specs.Scopes.{AreKnown}
use Rattle.wac_graph_scopes.specs.Used.{Used}
use Rattle.wac_graph_scopes.specs.Items.{IsItemScope, AreUsed, StandsAround, WritesSome}
use Rattle.wac_graph_scopes.specs.ItemRefusals.{RefusedModule}
use Rattle.wac_graph_scopes.specs.Stock.{IsStocked, HoldsStock}

-- the use takes an item, and its interface has no identifier
abbrev pub LacksIdentifier : Collection → Use → Type 0
LacksIdentifier c u = (item : ItemKind) × (taken_in c u ≡ Some item) × (identifier_in (interface_in c u.interface) ≡ None)

-- so it is with a use of the interface
abbrev pub UseRefused : Collection → InterfaceId → Type 0
UseRefused c id = (at : ℕ) × (u : Use) × IsUseAt (uses_of c id) at u × LacksIdentifier c u

-- The kind is of an interface with such a use, or with an export of which that is so.
pub data LacksIdentifiers (c : Collection) : ItemKind → Type 0 where
  use_lacks : {k : ItemKind} (id : InterfaceId) → IsOfInterface k id → UseRefused c id → LacksIdentifiers c k
  export_lacks : {k j : ItemKind} (id : InterfaceId) (n : Name) → IsOfInterface k id → Among (n, j) (exports_of c id)
      → LacksIdentifiers c j → LacksIdentifiers c k

-- no type item with the item's tree stands there before the other exports
abbrev pub IsMissing : Collection → Used → InterfaceId → ItemKind → Type 0
IsMissing c us id k = IsStocked c us id (tree_in c k) → ⊥

-- of a value type: it is missing; of a function nothing is asked
abbrev pub IsMissingValue : Collection → Used → InterfaceId → ItemKind → Type 0
IsMissingValue c us id (ItemKind.Value v) = IsMissing c us id (ItemKind.Ty (TypeKind.Value v))
IsMissingValue c us id k = Unit {0}

-- In what a kind names stands a handle of a resource that is missing, and so are the handle and all types around it.
pub data DanglesBeside (c : Collection) (us : Used) (id : InterfaceId) : ItemKind → Type 0 where
  own_beside : {r : ResourceId} → IsMissing c us id (ItemKind.Ty (TypeKind.Resource r))
      → IsMissingValue c us id (ItemKind.Value (ValueType.Own r)) → DanglesBeside c us id (ItemKind.Value (ValueType.Own r))
  borrow_beside : {r : ResourceId} → IsMissing c us id (ItemKind.Ty (TypeKind.Resource r))
      → IsMissingValue c us id (ItemKind.Value (ValueType.Borrow r)) → DanglesBeside c us id (ItemKind.Value (ValueType.Borrow r))
  part_beside : {k : ItemKind} {v : ValueType} → IsMissingValue c us id k → Among (Some (ItemKind.Value v)) (slots_of c k)
      → DanglesBeside c us id (ItemKind.Value v) → DanglesBeside c us id k

-- why an export that is no instance could not be written there; of components, worlds, and what has no description nothing is
-- said
abbrev pub ExportRefused : Collection → Used → InterfaceId → ItemKind → Type 0
ExportRefused c us id (ItemKind.Ty (TypeKind.Resource r)) = IsMissing c us id (ItemKind.Ty (TypeKind.Resource r))
ExportRefused c us id (ItemKind.Ty (TypeKind.Func f)) = DanglesBeside c us id (ItemKind.Func f)
ExportRefused c us id (ItemKind.Ty (TypeKind.Value v)) = DanglesBeside c us id (ItemKind.Value v)
ExportRefused c us id (ItemKind.Ty (TypeKind.Interface i)) = ⊥
ExportRefused c us id (ItemKind.Func f) = DanglesBeside c us id (ItemKind.Func f)
ExportRefused c us id (ItemKind.Instance i) = ⊥
ExportRefused c us id (ItemKind.Module m) = RefusedModule c m WriteError.Unwritable
ExportRefused c us id k = Unit {0}

-- Why the type of an instance could not be written, where these types stand so many scopes further out: they stand too far out,
-- the interface of a type that is used has no identifier, or an export is refused.
pub data InstanceRefused (c : Collection) (us : Used) : ℕ → InterfaceId → Type 0 where
  too_deep : {depth : ℕ} {id : InterfaceId} → depth ≡ 2 ^ 64 - 1 → InstanceRefused c us depth id
  use_refused : {depth : ℕ} {id : InterfaceId} → UseRefused c id → InstanceRefused c us depth id
  export_refused : {depth : ℕ} {id : InterfaceId} (n : Name) (k : ItemKind) → Among (n, k) (exports_of c id)
      → ExportRefused c us id k → InstanceRefused c us depth id
  inner_refused : {depth : ℕ} {id inner : InterfaceId} (n : Name) (k : ItemKind) → Among (n, k) (exports_of c id)
      → IsOfInterface k inner → InstanceRefused c us (depth + 1) inner → InstanceRefused c us depth id

-- where an interface, or an instance of one, is refused in a true scope, beside true types, its type could not be written
abbrev pub RefusesInstance : {T : Type 0} → Collection → Used → ℕ → ItemKind → ItemScope → Result T WriteError → Type 0
RefusesInstance c us depth k old r = Stands c k → (id : InterfaceId) → IsOfInterface k id
    → (w : Worlds) (outer : List Scope) (i : Inside) → IsItemScope w c outer i old → AreUsed w c (i.here ∷ outer) depth us
    → IfErr r (λ e. e ≡ WriteError.Unwritable → InstanceRefused c us depth id)

-- likewise in a scope of another collection, where these of its types are known and none stand around
abbrev pub RefusesOther : {T : Type 0} → Collection → ItemKind → ItemScope → KnownTypes → Result T WriteError → Type 0
RefusesOther other k old known r = Stands other k → (id : InterfaceId) → IsOfInterface k id
    → (w : Worlds) (c : Collection) (outer : List Scope) (i : Inside) → IsItemScope w c outer i old
    → AreKnown w (i.here ∷ outer) other known
    → IfErr r (λ e. e ≡ WriteError.Unwritable → InstanceRefused other [] 0 id)

-- ---- while it is written

-- why an export could not be written, where what stands around does so many scopes further out
abbrev pub IsExportRefused : Collection → Used → ℕ → InterfaceId → ItemKind → Type 0
IsExportRefused c us depth id k =
    ExportRefused c us id k ⊎ ((inner : InterfaceId) × IsOfInterface k inner × InstanceRefused c us depth inner)

-- in a true scope that holds what stands before the other exports of an interface
abbrev pub RefusesExport : {T : Type 0} → Collection → Used → ℕ → ItemKind → ItemScope → Result T WriteError → Type 0
RefusesExport c us depth k old r = Stands c k
    → (w : Worlds) (outer : List Scope) (i : Inside) → IsItemScope w c outer i old → AreUsed w c (i.here ∷ outer) depth us
    → (id : InterfaceId) → HoldsStock c us id old.types
    → IfErr r (λ e. e ≡ WriteError.Unwritable → IsExportRefused c us depth id k)

-- seen from one scope further out, the type of the interface could not be written
abbrev pub IsRefusedInside : PlacedInterface → WriteError → Type 0
IsRefusedInside p e = e ≡ WriteError.Unwritable → (depth : ℕ) → p.around.depth ≡ depth + 1
    → InstanceRefused p.types.now p.around.used.now depth p.id

abbrev pub RefusesExports : {T : Type 0} → PlacedInterface → ItemScope → List Name → Result T WriteError → Type 0
RefusesExports p old given r = Stands p.types.now (ItemKind.Instance p.id)
    → HoldsStock p.types.now p.around.used.now p.id old.types
    → (w : Worlds) (outer : List Scope) → StandsAround w outer p → WritesSome w p.types.now outer p.id old given
    → IfErr r (IsRefusedInside p)

abbrev pub RefusesWriting : {T : Type 0} → PlacedInterface → ItemScope → Result T WriteError → Type 0
RefusesWriting p old r = Stands p.types.now (ItemKind.Instance p.id) → (w : Worlds) (outer : List Scope)
    → StandsAround w outer p → WritesSome w p.types.now outer p.id old [] → IfErr r (IsRefusedInside p)

abbrev pub RefusesMaking : {T : Type 0} → PlacedInterface → Result T WriteError → Type 0
RefusesMaking p r = Stands p.types.now (ItemKind.Instance p.id) → (w : Worlds) (outer : List Scope) → StandsAround w outer p
    → IfErr r (IsRefusedInside p)
