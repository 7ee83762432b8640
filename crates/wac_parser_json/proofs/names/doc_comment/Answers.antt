use Rattle.json.specs.Print.{escape_byte}
use Rattle.wac_parser_print.specs.Values.{doc_comment}
use Rattle.wac_parser_json.proofs.Writing.{then}
use Rattle.wac_parser_json.proofs.names.doc_comment.Goals as goal

pub returns : goal.returns
unfolding doc_comment escape_byte
returns g c = then c.word.ensures (then c.string.ensures (then c.word-2.ensures (then c.span.ensures c.word-3.ensures)))
