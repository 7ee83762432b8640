use Rattle.json.specs.Print.{escape_byte}
use Rattle.wac_parser_print.specs.Values.{resource_decl}
use Rattle.wac_parser_json.proofs.Writing.{then}
use Rattle.wac_parser_json.proofs.declarations.resource_decl.Goals as goal

pub returns : goal.returns
unfolding resource_decl escape_byte
returns g c = then c.word.ensures (then c.array.ensures (then c.word-2.ensures (then c.ident.ensures (then c.word-3.ensures (then c.resource_methods.ensures c.word-4.ensures)))))
