use Rattle.json.specs.Print.{escape_byte}
use Rattle.wac_parser_print.specs.Values.{use_item}
use Rattle.wac_parser_json.proofs.Writing.{then}
use Rattle.wac_parser_json.proofs.interfaces.use_item.Goals as goal

pub returns : goal.returns
unfolding use_item escape_byte
returns g c = then c.word.ensures (then c.optional.ensures (then c.word-2.ensures (then c.ident.ensures c.word-3.ensures)))
