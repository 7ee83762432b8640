use Rattle.wac_parser_json.proofs.Writing.{then}
use Rattle.wac_parser_json.proofs.types.spanned.Goals as goal

pub returns : goal.returns
returns g c = then c.word.ensures (then c.span.ensures c.word-2.ensures)
