use Rattle.json.specs.Print.{escape_byte}
use Rattle.wac_parser_print.specs.Values.{import_statement}
use Rattle.wac_parser_json.proofs.Writing.{then}
use Rattle.wac_parser_json.proofs.statements.import_statement.Goals as goal

pub returns : goal.returns
unfolding import_statement escape_byte
returns g c = then c.word.ensures (then c.array.ensures (then c.word-2.ensures (then c.ident.ensures (then c.word-3.ensures (then c.optional.ensures (then c.word-4.ensures (then c.import_type.ensures c.word-5.ensures)))))))
