-- What contracts see of a package.
use Rattle.std.specs.Prelude.{ℕ, List, Option}
use Rattle.semver.specs.Parse.{Parts}
use Rattle.wac_types_base.specs.declared.ids.WorldId.{WorldId}
use Rattle.wac_types_base.specs.declared.ids.InterfaceId.{InterfaceId}
use Rattle.wac_types_base.specs.declared.item.ItemKind.{ItemKind}
use Rattle.wac_types_base.specs.Entries.{Name, with_values}
use Rattle.wac_types_base.specs.Renaming.{under, kind_under}

-- a name, a version, bytes, the world, its interface, and what names of definitions mean
pub record Packaged : Type 0 where
  pub name : Name
  pub version : Option Parts
  pub bytes : List ℕ
  pub ty : WorldId
  pub instance_type : InterfaceId
  pub definitions : List (Name × ItemKind)

-- the same package of a collection with this number: each id has it
abbrev pub packaged_under : ℕ → Packaged → Packaged
packaged_under n p = record p {
  ty = (under n).world p.ty;
  instance_type = (under n).interface p.instance_type;
  definitions = with_values (kind_under n) p.definitions;
}
