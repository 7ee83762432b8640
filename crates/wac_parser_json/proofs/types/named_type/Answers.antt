use Rattle.json.specs.Print.{escape_byte}
use Rattle.wac_parser_print.specs.Values.{named_type}
use Rattle.wac_parser_json.proofs.Writing.{then}
use Rattle.wac_parser_json.proofs.types.named_type.Goals as goal

pub returns : goal.returns
unfolding named_type escape_byte
returns g c = then c.word.ensures (then c.ident.ensures (then c.word-2.ensures (then c.ty.ensures c.word-3.ensures)))
