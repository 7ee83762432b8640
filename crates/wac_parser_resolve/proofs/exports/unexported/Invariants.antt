use Rattle.std.proofs.Common.{◌≡◌, ◌++◌, drop}
use Rattle.wac_types_base.specs.Entries.{texts_of}
use Rattle.wac_parser_resolve.specs.InExports.{left_to_export}
use Rattle.wac_parser_resolve.proofs.exports.unexported.Given as goal

abbrev pub invariant-loop-name : goal.invariant-loop-name
invariant-loop-name l =
    texts_of l.names.items ++ left_to_export l.graph.exports (texts_of (drop l.name-index l.name-items)) ≡ left_to_export l.graph.exports (texts_of l.name-items)
