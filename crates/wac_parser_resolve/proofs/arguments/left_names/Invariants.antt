use Rattle.std.proofs.Common.{◌≡◌, ◌++◌, drop, filter}
use Rattle.wac_types_base.specs.Entries.{texts_of}
use Rattle.wac_parser_resolve.specs.InArguments.{is_left_by}
use Rattle.wac_parser_resolve.proofs.arguments.left_names.Given as goal

abbrev pub invariant-loop-name : goal.invariant-loop-name
invariant-loop-name l =
    texts_of l.names.items ++ filter (is_left_by l.given.items l.exports) (texts_of (drop l.name-index l.imports))
    ≡ filter (is_left_by l.given.items l.exports) (texts_of l.imports)
