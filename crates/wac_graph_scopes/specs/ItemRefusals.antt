-- Why items that are no instances and no components could not be written in a scope.
use Rattle.std.specs.Prelude.{◌≡◌, Some, None, slice_get}
use Rattle.wac_types_base.specs.declared.ids.ModuleTypeId.{ModuleTypeId}
use Rattle.wac_types_base.specs.declared.core_types.ModuleType.{ModuleType}
use Rattle.wac_types_base.specs.declared.item.ItemKind.{ItemKind}
use Rattle.wac_types_base.specs.declared.item.«Type».{«Type» as TypeKind}
use Rattle.wac_types_base.specs.Record.{Collection}
use Rattle.wac_types_base.specs.Parts.{identifier_in}
use Rattle.wac_graph_scopes.specs.declared.error.WriteError.{WriteError}
use Rattle.wac_graph_scopes.specs.declared.items.ItemScope.{ItemScope}
use Rattle.wac_types_parts.specs.declared.parts.Use.{Use}
use Rattle.wac_types_parts.specs.Parts.{interface_in}
use Rattle.wac_graph_scopes.specs.CoreItems.{ModuleRefused}
use Rattle.wac_graph_scopes.specs.Refusals.{IsUnnamed, Refused, RefusedApart}

-- why a core module's type could not be written
abbrev pub RefusedModule : Collection → ModuleTypeId → WriteError → Type 0
RefusedModule c id e = (m : ModuleType) × (slice_get c.modules id.index ≡ Some m) × ModuleRefused m e

-- why the type that a use takes could not be looked for: its interface has no identifier
abbrev pub RefusedUse : Collection → Use → WriteError → Type 0
RefusedUse c u WriteError.Unwritable = identifier_in (interface_in c u.interface) ≡ None
RefusedUse c u WriteError.Memory = Unit {0}

-- why a type item could not be written in the scope, which became another one; of interfaces and worlds nothing is said
abbrev pub RefusedType : Collection → TypeKind → ItemScope → ItemScope → WriteError → Type 0
RefusedType c (TypeKind.Resource r) s u e = (e ≡ WriteError.Unwritable) × IsUnnamed c u.types.resources r
RefusedType c (TypeKind.Func f) s u e = Refused c (ItemKind.Func f) s.types u.types e
RefusedType c (TypeKind.Value v) s u e = Refused c (ItemKind.Value v) s.types u.types e
RefusedType c t s u e = Unit {0}

-- likewise where a value type is written, be it known or not
abbrev pub RefusedTypeApart : Collection → TypeKind → ItemScope → ItemScope → WriteError → Type 0
RefusedTypeApart c (TypeKind.Value v) s u e = RefusedApart c (ItemKind.Value v) s.types u.types e
RefusedTypeApart c t s u e = RefusedType c t s u e

-- why an item could not be written there; of instances and components nothing is said
abbrev pub RefusedItem : Collection → ItemKind → ItemScope → ItemScope → WriteError → Type 0
RefusedItem c (ItemKind.Ty t) s u e = RefusedType c t s u e
RefusedItem c (ItemKind.Func f) s u e = Refused c (ItemKind.Func f) s.types u.types e
RefusedItem c (ItemKind.Module m) s u e = RefusedModule c m e
RefusedItem c k s u e = Unit {0}
