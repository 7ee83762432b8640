use Rattle.std.proofs.Common.{ap}
use Rattle.json.specs.Print.{escape_byte}
use Rattle.wac_parser_tree.specs.Views.{view_extern_name}
use Rattle.wac_parser_print.specs.Values.{extern_name}
use Rattle.wac_parser_json.proofs.Writing.{then, of_tree}
use Rattle.wac_parser_json.proofs.names.extern_name.Goals as goal

pub returns-in-Ident : goal.returns-in-Ident
unfolding extern_name escape_byte
returns-in-Ident g c = of_tree extern_name (ap view_extern_name c.in-Ident.is) (then c.word.ensures (then c.ident.ensures c.word-in-Ident.ensures))

pub returns-in-String : goal.returns-in-String
unfolding extern_name escape_byte
returns-in-String g c = of_tree extern_name (ap view_extern_name c.in-String.is) (then c.word-in-String.ensures (then c.string_literal.ensures c.word-in-String-2.ensures))
