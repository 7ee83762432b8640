use Rattle.std.proofs.Common.{◌≡◌, map, take}
use Rattle.serde_json.specs.View.{view}
use Rattle.wac_parser_tree.specs.Views.{view_instantiation_argument}
use Rattle.wac_parser_print.specs.Values as values
use Rattle.wac_parser_print.proofs.values.exprs.+expr.Given as goal

abbrev pub invariant-arguments-loop-item : goal.invariant-arguments-loop-item
invariant-arguments-loop-item l = map view l.values.items ≡ map values.argument (map view_instantiation_argument (take l.item-index l.item-items))
