use Rattle.std.proofs.Common.{ap}
use Rattle.json.specs.Print.{escape_byte}
use Rattle.wac_parser_tree.specs.Views.{view_type_alias_kind}
use Rattle.wac_parser_print.specs.Values.{type_alias_kind}
use Rattle.wac_parser_json.proofs.Writing.{then, of_tree}
use Rattle.wac_parser_json.proofs.declarations.type_alias_kind.Goals as goal

pub returns-in-Func : goal.returns-in-Func
unfolding type_alias_kind escape_byte
returns-in-Func g c = of_tree type_alias_kind (ap view_type_alias_kind c.in-Func.is) (then c.word.ensures (then c.func_type.ensures c.word-in-Func.ensures))

pub returns-in-Ty : goal.returns-in-Ty
unfolding type_alias_kind escape_byte
returns-in-Ty g c = of_tree type_alias_kind (ap view_type_alias_kind c.in-Ty.is) (then c.word-in-Ty.ensures (then c.ty.ensures c.word-in-Ty-2.ensures))
