use Rattle.json.specs.Print.{escape_byte}
use Rattle.wac_parser_print.specs.Values.{access_expr}
use Rattle.wac_parser_json.proofs.Writing.{then}
use Rattle.wac_parser_json.proofs.exprs.access_expr.Goals as goal

pub returns : goal.returns
unfolding access_expr escape_byte
returns g c = then c.word.ensures (then c.ident.ensures (then c.word-2.ensures (then c.span.ensures c.word-3.ensures)))
