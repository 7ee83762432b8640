-- What contracts see of `Package`.
use Rattle.std.specs.Prelude.{string_bytes}
use Rattle.std.specs.Option.{option_map}
use Rattle.semver.specs.Identifiers.{parts_of}
use Rattle.wac_types_names.specs.declared.package.Package.TheInside.{Inside}
use Rattle.wac_types_names.specs.Packaged.{Packaged}

abbrev pub packaged : Inside → Packaged
packaged p = record {
  name = string_bytes p.name;
  version = option_map parts_of p.version;
  bytes = p.bytes.items;
  ty = p.ty;
  instance_type = p.instance_type;
  definitions = p.definitions;
}
