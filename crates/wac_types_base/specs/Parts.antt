-- The parts of an interface and of a world; of none there are none.
use Rattle.std.specs.Prelude.{List, [], Option, Some, None}
use Rattle.wac_types_base.specs.declared.item.ItemKind.{ItemKind}
use Rattle.wac_types_base.specs.declared.defined.Interface.{Interface}
use Rattle.wac_types_base.specs.declared.defined.UsedType.{UsedType}
use Rattle.wac_types_base.specs.declared.defined.World.{World}
use Rattle.wac_types_base.specs.Entries.{Name}

abbrev pub identifier_in : Option Interface → Option Name
identifier_in None = None
identifier_in (Some i) = i.id

abbrev pub uses_in : Option Interface → List (Name × UsedType)
uses_in None = []
uses_in (Some i) = i.uses

abbrev pub exports_in : Option Interface → List (Name × ItemKind)
exports_in None = []
exports_in (Some i) = i.exports

abbrev pub uses_in_world : Option World → List (Name × UsedType)
uses_in_world None = []
uses_in_world (Some w) = w.uses

abbrev pub imports_in_world : Option World → List (Name × ItemKind)
imports_in_world None = []
imports_in_world (Some w) = w.imports

abbrev pub exports_in_world : Option World → List (Name × ItemKind)
exports_in_world None = []
exports_in_world (Some w) = w.exports
