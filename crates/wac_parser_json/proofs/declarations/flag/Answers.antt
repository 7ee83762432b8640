use Rattle.json.specs.Print.{escape_byte}
use Rattle.wac_parser_print.specs.Values.{flag}
use Rattle.wac_parser_json.proofs.Writing.{then}
use Rattle.wac_parser_json.proofs.declarations.flag.Goals as goal

pub returns : goal.returns
unfolding flag escape_byte
returns g c = then c.word.ensures (then c.array.ensures (then c.word-2.ensures (then c.ident.ensures c.word-3.ensures)))
