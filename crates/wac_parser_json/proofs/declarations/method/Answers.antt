use Rattle.json.specs.Print.{escape_byte}
use Rattle.wac_parser_print.specs.Values.{method}
use Rattle.wac_parser_json.proofs.Writing.{then}
use Rattle.wac_parser_json.proofs.declarations.method.Goals as goal

pub returns : goal.returns
unfolding method escape_byte
returns g c = then c.word.ensures (then c.array.ensures (then c.word-2.ensures (then c.ident.ensures (then c.word-3.ensures (then c.boolean.ensures (then c.word-4.ensures (then c.func_type.ensures c.word-5.ensures)))))))
