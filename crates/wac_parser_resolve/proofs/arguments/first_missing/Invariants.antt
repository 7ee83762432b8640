use Rattle.std.proofs.Common.{◌≡◌, drop, find, not}
use Rattle.wac_types_base.specs.Entries.{has_name, texts_of}
use Rattle.wac_parser_resolve.specs.Holding.{names_given}
use Rattle.wac_parser_resolve.proofs.arguments.first_missing.Given as goal

abbrev pub invariant-loop-name : goal.invariant-loop-name
invariant-loop-name l = find (λ n. not (has_name (names_given l.given.items) n)) (texts_of (drop l.name-index l.imports)) ≡ find (λ n. not (has_name (names_given l.given.items) n)) (texts_of l.imports)
