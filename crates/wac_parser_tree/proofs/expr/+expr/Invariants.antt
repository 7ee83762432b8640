use Rattle.std.proofs.Common.{◌≡◌, map, take}
use Rattle.wac_parser_tree.specs.Views.{view_instantiation_argument}
use Rattle.wac_parser_tree.proofs.expr.+expr.Given as goal

abbrev pub invariant-clone_arguments-loop-argument : goal.invariant-clone_arguments-loop-argument
invariant-clone_arguments-loop-argument l = map view_instantiation_argument l.copies.items ≡ map view_instantiation_argument (take l.argument-index l.argument-items)
