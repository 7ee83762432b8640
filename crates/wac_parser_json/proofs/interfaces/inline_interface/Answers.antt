use Rattle.json.specs.Print.{escape_byte}
use Rattle.wac_parser_print.specs.Values.{inline_interface}
use Rattle.wac_parser_json.proofs.Writing.{then}
use Rattle.wac_parser_json.proofs.interfaces.inline_interface.Goals as goal

pub returns : goal.returns
unfolding inline_interface escape_byte
returns g c = then c.word.ensures (then c.interface_items.ensures c.word-2.ensures)
