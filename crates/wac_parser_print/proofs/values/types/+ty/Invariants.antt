use Rattle.std.proofs.Common.{◌≡◌, map, take}
use Rattle.serde_json.specs.View.{view}
use Rattle.wac_parser_tree.specs.Views.{view_ty}
use Rattle.wac_parser_print.specs.Values as values
use Rattle.wac_parser_print.proofs.values.types.+ty.Given as goal

abbrev pub invariant-tuple-loop-one : goal.invariant-tuple-loop-one
invariant-tuple-loop-one l = map view l.values.items ≡ map values.ty (map view_ty (take l.one-index l.one-items))
