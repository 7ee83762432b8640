-- Types that uses take: once an item is prepared, those stand around that written imports give.
use Rattle.std.specs.Prelude.{◌≡◌, ℕ, Result, Option, Some, slice_get, unwrap_or, OnOk, IfOk, IfSome}
use Rattle.wac_types_base.specs.declared.ids.InterfaceId.{InterfaceId}
use Rattle.wac_types_base.specs.declared.item.ItemKind.{ItemKind}
use Rattle.wac_types_base.specs.declared.defined.UsedType.{UsedType}
use Rattle.wac_types_base.specs.Record.{Collection}
use Rattle.wac_types_base.specs.Entries.{Name, value_at}
use Rattle.wac_types_base.specs.Graph.{Among}
use Rattle.wac_types_base.specs.Parts.{identifier_in}
use Rattle.wac_types_base.specs.Collection.{Stands}
use Rattle.wac_types_parts.specs.declared.parts.Use.{Use}
use Rattle.wac_types_parts.specs.Parts.{interface_in, exports_of, uses_of, IsUseAt, IsUsedKind, used_if, taken_in, IsOfInterface}
use Rattle.wac_graph_scopes.specs.declared.imports.Importing.{Importing}
use Rattle.wac_graph_scopes.specs.declared.imports.ImportScope.{ImportScope}
use Rattle.wac_graph_scopes.specs.Used.{Used, IsUsedAs}
use Rattle.wac_graph_scopes.specs.Items.{IsUsedBy}
use Rattle.wac_graph_scopes.specs.Imports.{IsImportedAs}

-- An interface is this one, or of an export of one that is.
pub data IsWithin (c : Collection) (id : InterfaceId) : InterfaceId → Type 0 where
  itself : IsWithin c id id
  exported : {i j : InterfaceId} (n : Name) (k : ItemKind) → IsWithin c id i → Among (n, k) (exports_of c i) → IsOfInterface k j
      → IsWithin c id j

-- the use at the place takes the item, which stands around
abbrev pub IsTakenAt : Collection → Used → InterfaceId → ℕ → ItemKind → Type 0
IsTakenAt c us id at item = (u : Use) × (k : ℕ) × IsUseAt (uses_of c id) at u × (taken_in c u ≡ Some item) × IsUsedBy c us u item k

-- what a use takes, by its entry
abbrev pub taken_by : Collection → Name × UsedType → Option ItemKind
taken_by c e = used_if (value_at (exports_of c e.1.interface) (unwrap_or e.1.name e.0))

module _ (a : Importing) where
  -- an import of the interface is written, and gives the item under the name
  abbrev pub IsImported : ImportScope → InterfaceId → Name → ItemKind → Type 0
  IsImported s id there item = (n : Name) × (k : ℕ) × (identifier_in (interface_in a.types.now id) ≡ Some n) × IsImportedAs a s n there item k

  -- what the use at the place takes stands around, if an import gives it
  abbrev pub StandsUsedAt : ImportScope → InterfaceId → ℕ → Type 0
  StandsUsedAt s id at = (e : Name × UsedType) → slice_get (uses_of a.types.now id) at ≡ Some e → (item : ItemKind)
      → taken_by a.types.now e ≡ Some item → IsImported s e.1.interface (unwrap_or e.1.name e.0) item
      → IsTakenAt a.types.now s.used id at item

  -- what the interface uses, and what those within it use
  abbrev pub AllUsedStand : ImportScope → InterfaceId → Type 0
  AllUsedStand s id = (i : InterfaceId) → IsWithin a.types.now id i → (at : ℕ) → StandsUsedAt s i at

  -- what an item uses that stands
  abbrev pub IsPrepared : ImportScope → ItemKind → Type 0
  IsPrepared s k = Stands a.types.now k → (id : InterfaceId) → IsOfInterface k id → AllUsedStand s id

  -- what the export at the place uses
  abbrev pub IsPreparedAt : ImportScope → InterfaceId → ℕ → Type 0
  IsPreparedAt s id at = (n : Name) (k : ItemKind) → slice_get (exports_of a.types.now id) at ≡ Some (n, k)
      → (i : InterfaceId) → IsOfInterface k i → AllUsedStand s i

  -- The imports stand where they stood, and what stood around that an import gives stands around.
  pub record KeepsUsed (old new : ImportScope) : Type 0 where
    pub found : new.found ≡ old.found
    pub places : new.places ≡ old.places
    pub kept : (i n : Name) (item : ItemKind) (j k : ℕ) → IsImportedAs a old i n item j → IsUsedAs a.types.now old.used i n item k
        → (l : ℕ) × IsUsedAs a.types.now new.used i n item l

  -- likewise, where the item is one that a use takes
  abbrev pub KeepsTaken : {U E : Type 0} → ItemKind → ImportScope → ImportScope → Result U E → Type 0
  KeepsTaken item old new r = Stands a.types.now item → IsUsedKind item → OnOk r (KeepsUsed old new)

  -- then it stands around under its name, if it has an index
  abbrev pub StandsNamed : {E : Type 0} → (i n : Name) → ItemKind → ImportScope → Result (Option ℕ) E → Type 0
  StandsNamed i n item new r =
      Stands a.types.now item → IsUsedKind item → IfOk r (λ o. IfSome o (IsUsedAs a.types.now new.used i n item))

  -- and if the import gives it
  abbrev pub StandsTaken : {U E : Type 0} → Use → ItemKind → ImportScope → ImportScope → Result U E → Type 0
  StandsTaken u item old new r =
      Stands a.types.now item → IsUsedKind item → OnOk r (IsImported old u.interface u.there.now item → (k : ℕ) × IsUsedBy a.types.now new.used u item k)
