use Rattle.json.specs.Print.{escape_byte}
use Rattle.wac_parser_print.specs.Values.{variant_case}
use Rattle.wac_parser_json.proofs.Writing.{then}
use Rattle.wac_parser_json.proofs.declarations.variant_case.Goals as goal

pub returns : goal.returns
unfolding variant_case escape_byte
returns g c = then c.word.ensures (then c.array.ensures (then c.word-2.ensures (then c.ident.ensures (then c.word-3.ensures (then c.optional.ensures c.word-4.ensures)))))
