use Rattle.std.proofs.Common.{◌≡◌, map, drop}
use Rattle.wac_parser_tree.specs.Trees as t
use Rattle.wac_parser_tree.specs.Views.{view_instantiation_argument}
use Rattle.wac_parser_resolve.specs.Denoting as stated
use Rattle.wac_parser_resolve.proofs.arguments.is_filled.Given as goal

abbrev pub invariant-loop-argument : goal.invariant-loop-argument
invariant-loop-argument l =
    stated.is_filled (t.arguments (map view_instantiation_argument (drop l.argument-index l.argument-items)))
    ≡ stated.is_filled (t.arguments (map view_instantiation_argument l.arguments.items))
