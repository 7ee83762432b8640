-- Whether a name is one of an interface, of an export, of an import.
use Rattle.std.specs.Prelude.{Bool, ◌||◌, is_some}
use Rattle.wac_types_base.specs.Entries.{Name}
use Rattle.wac_names.specs.NameTests.{bracketed_test, path_test, pair_test, plain_test}
use Rattle.wac_types_names.specs.Tracks.{read_version}

abbrev pub version_test : Name → Bool
version_test text = is_some (read_version text)

-- a path, with a version behind an `@` or without
abbrev pub is_interface_name : Name → Bool
is_interface_name n = path_test n || pair_test 64 path_test version_test n

abbrev pub is_exportable : Name → Bool
is_exportable n = plain_test n || is_interface_name n

abbrev pub is_extern_name : Name → Bool
is_extern_name n = is_exportable n || bracketed_test n
