use Rattle.json.specs.Print.{escape_byte}
use Rattle.wac_parser_print.specs.Values.{interface_export}
use Rattle.wac_parser_json.proofs.Writing.{then}
use Rattle.wac_parser_json.proofs.interfaces.interface_export.Goals as goal

pub returns : goal.returns
unfolding interface_export escape_byte
returns g c = then c.word.ensures (then c.array.ensures (then c.word-2.ensures (then c.ident.ensures (then c.word-3.ensures (then c.func_type_ref.ensures c.word-4.ensures)))))
