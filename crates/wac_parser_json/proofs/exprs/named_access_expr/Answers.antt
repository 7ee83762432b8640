use Rattle.json.specs.Print.{escape_byte}
use Rattle.wac_parser_print.specs.Values.{named_access_expr}
use Rattle.wac_parser_json.proofs.Writing.{then}
use Rattle.wac_parser_json.proofs.exprs.named_access_expr.Goals as goal

pub returns : goal.returns
unfolding named_access_expr escape_byte
returns g c = then c.word.ensures (then c.span.ensures (then c.word-2.ensures (then c.string_literal.ensures c.word-3.ensures)))
