use Rattle.json.specs.Print.{escape_byte}
use Rattle.wac_parser_print.specs.Values.{ty}
use Rattle.wac_parser_json.proofs.Writing.{then}
use Rattle.wac_parser_json.proofs.types.borrow.Goals as goal

pub returns : goal.returns
unfolding ty escape_byte
returns g c = then c.word.ensures (then (then c.ident.ensures (then c.word-2.ensures (then c.span.ensures c.word-3.ensures))) c.word-4.ensures)
