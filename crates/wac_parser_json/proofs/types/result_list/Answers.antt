use Rattle.std.proofs.Common.{ap}
use Rattle.json.specs.Print.{escape_byte}
use Rattle.wac_parser_tree.specs.Views.{view_result_list}
use Rattle.wac_parser_print.specs.Values.{result_list}
use Rattle.wac_parser_json.proofs.Writing.{then, of_tree}
use Rattle.wac_parser_json.proofs.types.result_list.Goals as goal

pub returns-in-Empty : goal.returns-in-Empty
unfolding result_list escape_byte
returns-in-Empty g c = of_tree result_list (ap view_result_list c.in-Empty.is) c.word.ensures

pub returns-in-Scalar : goal.returns-in-Scalar
unfolding result_list escape_byte
returns-in-Scalar g c = of_tree result_list (ap view_result_list c.in-Scalar.is) (then c.word-in-Scalar.ensures (then c.ty.ensures c.word-in-Scalar-2.ensures))
