use Rattle.json.specs.Print.{escape_byte}
use Rattle.wac_parser_print.specs.Objects.{span}
use Rattle.wac_parser_json.proofs.Writing.{then}
use Rattle.wac_parser_json.proofs.names.span.Goals as goal

pub returns : goal.returns
unfolding span escape_byte
returns g c = then c.word.ensures (then c.number.ensures (then c.word-2.ensures (then c.number-2.ensures c.word-3.ensures)))
