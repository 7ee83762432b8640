use Rattle.std.proofs.Common.{◌≡◌, drop}
use Rattle.wac_types_base.specs.Entries.{has_name}
use Rattle.wac_parser_resolve.specs.Holding.{names_given}
use Rattle.wac_parser_resolve.proofs.arguments.is_given.Given as goal

abbrev pub invariant-loop-one : goal.invariant-loop-one
invariant-loop-one l = has_name (names_given (drop l.one-index l.one-items)) l.name ≡ has_name (names_given l.given.items) l.name
