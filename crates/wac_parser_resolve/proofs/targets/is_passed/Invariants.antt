use Rattle.std.proofs.Common.{◌≡◌}
use Rattle.wac_types_base.specs.Entries.{has_name, names_of}
use Rattle.wac_graph_core.specs.Listing.{passed_to}
use Rattle.wac_parser_resolve.proofs.targets.is_passed.Given as goal

abbrev pub invariant-loop-own : goal.invariant-loop-own
invariant-loop-own l = has_name (names_of l.own-iterator) l.name ≡ has_name (names_of (passed_to l.graph l.fn.instance)) l.name
