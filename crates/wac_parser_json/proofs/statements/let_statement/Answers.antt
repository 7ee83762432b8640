use Rattle.json.specs.Print.{escape_byte}
use Rattle.wac_parser_print.specs.Values.{let_statement}
use Rattle.wac_parser_json.proofs.Writing.{then}
use Rattle.wac_parser_json.proofs.statements.let_statement.Goals as goal

pub returns : goal.returns
unfolding let_statement escape_byte
returns g c = then c.word.ensures (then c.array.ensures (then c.word-2.ensures (then c.expr.ensures (then c.word-3.ensures (then c.ident.ensures c.word-4.ensures)))))
