use Rattle.std.proofs.Common.{ap}
use Rattle.json.specs.Print.{escape_byte}
use Rattle.wac_parser_tree.specs.Views.{view_func_type_ref}
use Rattle.wac_parser_print.specs.Values.{func_type_ref}
use Rattle.wac_parser_json.proofs.Writing.{then, of_tree}
use Rattle.wac_parser_json.proofs.types.func_type_ref.Goals as goal

pub returns-in-Func : goal.returns-in-Func
unfolding func_type_ref escape_byte
returns-in-Func g c = of_tree func_type_ref (ap view_func_type_ref c.in-Func.is) (then c.word.ensures (then c.func_type.ensures c.word-in-Func.ensures))

pub returns-in-Ident : goal.returns-in-Ident
unfolding func_type_ref escape_byte
returns-in-Ident g c = of_tree func_type_ref (ap view_func_type_ref c.in-Ident.is) (then c.word-in-Ident.ensures (then c.ident.ensures c.word-in-Ident-2.ensures))
