-- Why imports of a world, and exports of a component type, could not be written.
use Rattle.std.specs.Prelude.{◌≡◌, ◌⊎◌, ℕ, List, Result, Some, None, slice_get, IfErr}
use Rattle.wac_types_base.specs.declared.ids.InterfaceId.{InterfaceId}
use Rattle.wac_types_base.specs.declared.ids.WorldId.{WorldId}
use Rattle.wac_types_base.specs.declared.item.ItemKind.{ItemKind}
use Rattle.wac_types_base.specs.Record.{Collection}
use Rattle.wac_types_base.specs.Entries.{Name}
use Rattle.wac_types_base.specs.Parts.{identifier_in}
use Rattle.wac_types_base.specs.Collection.{Stands}
use Rattle.wac_types_parts.specs.declared.parts.Item.{Item}
use Rattle.wac_types_parts.specs.Parts.{interface_in, IsOfInterface}
use Rattle.wac_graph_bytes.specs.Typing.{Worlds, Scope}
use Rattle.wac_graph_scopes.specs.declared.error.WriteError.{WriteError}
use Rattle.wac_graph_scopes.specs.declared.imports.Importing.{Importing}
use Rattle.wac_graph_scopes.specs.declared.imports.ImportScope.{ImportScope}
use Rattle.wac_graph_scopes.specs.declared.imports.TakenUse.{TakenUse}
use Rattle.wac_graph_scopes.specs.ItemRefusals.{RefusedItem}
use Rattle.wac_graph_scopes.specs.InstanceRefusals.{LacksIdentifiers, InstanceRefused}
use Rattle.wac_graph_scopes.specs.Prepared.{KeepsUsed, IsPrepared}
use Rattle.wac_graph_scopes.specs.Imports.{all_imports, IsGivenBy, WritesWorld}

-- a use gives the import, and its interface has no identifier
abbrev pub IsGivenUnnamed : Importing → Item → Type 0
IsGivenUnnamed a x = (t : TakenUse) × IsGivenBy a x t × (identifier_in (interface_in a.types.now t.used.interface) ≡ None)

-- so it is, or an interface that the import uses has none
abbrev pub UsesUnnamed : Importing → Item → Type 0
UsesUnnamed a x = IsGivenUnnamed a x ⊎ LacksIdentifiers a.types.now x.kind

-- A world is being written in a true scope, in which the item could not be: by the scope, or as an instance by what stands around.
pub record IsItemRefused (w : Worlds) (c : Collection) (outer : List Scope) (world : WorldId) (imported exported : List Name)
    (k : ItemKind) (old new : ImportScope) : Type 0 where
  pub goes : WritesWorld w c outer world old imported exported
  pub item : RefusedItem c k old.scope new.scope WriteError.Unwritable
  pub instance : (id : InterfaceId) → IsOfInterface k id → InstanceRefused c old.used 0 id

-- once all stands around that it uses, where an import gives that which is written
abbrev pub IsRefusedThen : Worlds → Importing → List Scope → (imported exported : List Name) → ItemKind → (old new : ImportScope)
    → Type 0
IsRefusedThen w a outer imported exported k old new =
    (between : ImportScope) × IsItemRefused w a.types.now outer a.world imported exported k between new
    × KeepsUsed a old between × IsPrepared a between k

-- an import is `Unwritable` only for what it uses, or where it is refused then
abbrev pub RefusesImport : {T : Type 0} → Importing → Item → ImportScope → ImportScope → Result T WriteError → Type 0
RefusesImport a x old new r = Stands a.types.now x.kind → (w : Worlds) (outer : List Scope) (imported exported : List Name)
    → WritesWorld w a.types.now outer a.world old imported exported
    → IfErr r (λ e. e ≡ WriteError.Unwritable
    → UsesUnnamed a x ⊎ IsRefusedThen w a outer imported exported x.kind old new)

-- so it is of one of the name and the item at that place
abbrev pub RefusesImportAt : {T : Type 0} → Importing → (at : Name × ItemKind → Type 0) → ImportScope → ImportScope
    → Result T WriteError → Type 0
RefusesImportAt a at old new r = (w : Worlds) (outer : List Scope) (imported exported : List Name)
    → WritesWorld w a.types.now outer a.world old imported exported
    → IfErr r (λ e. e ≡ WriteError.Unwritable → (x : Item) × at (x.name.now, x.kind)
    × (UsesUnnamed a x ⊎ IsRefusedThen w a outer imported exported x.kind old new))

-- of the import at a place
abbrev pub RefusesImportPlaced : {T : Type 0} → Importing → ℕ → ImportScope → ImportScope → Result T WriteError → Type 0
RefusesImportPlaced a at old new r = RefusesImportAt a (λ x. slice_get (all_imports a) at ≡ Some x) old new r

-- an export is so only where an interface that it uses has no identifier, or where it is refused then
abbrev pub RefusesExporting : {T : Type 0} → Importing → Item → ImportScope → ImportScope → Result T WriteError → Type 0
RefusesExporting a x old new r = Stands a.types.now x.kind → (w : Worlds) (outer : List Scope) (imported exported : List Name)
    → WritesWorld w a.types.now outer a.world old imported exported
    → IfErr r (λ e. e ≡ WriteError.Unwritable
    → LacksIdentifiers a.types.now x.kind ⊎ IsRefusedThen w a outer imported exported x.kind old new)
