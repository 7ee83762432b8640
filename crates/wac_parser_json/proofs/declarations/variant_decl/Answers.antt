use Rattle.json.specs.Print.{escape_byte}
use Rattle.wac_parser_print.specs.Values.{variant_decl}
use Rattle.wac_parser_json.proofs.Writing.{then}
use Rattle.wac_parser_json.proofs.declarations.variant_decl.Goals as goal

pub returns : goal.returns
unfolding variant_decl escape_byte
returns g c = then c.word.ensures (then c.array.ensures (then c.word-2.ensures (then c.array-2.ensures (then c.word-3.ensures (then c.ident.ensures c.word-4.ensures)))))
