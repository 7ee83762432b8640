use Rattle.json.specs.Print.{escape_byte}
use Rattle.wac_parser_print.specs.Values.{string_literal}
use Rattle.wac_parser_json.proofs.Writing.{then}
use Rattle.wac_parser_json.proofs.names.string_literal.Goals as goal

pub returns : goal.returns
unfolding string_literal escape_byte
returns g c = then c.word.ensures (then c.span.ensures (then c.word-2.ensures (then c.string.ensures c.word-3.ensures)))
