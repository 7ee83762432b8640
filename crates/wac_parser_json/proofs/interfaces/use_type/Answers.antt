use Rattle.json.specs.Print.{escape_byte}
use Rattle.wac_parser_print.specs.Values.{use_type}
use Rattle.wac_parser_json.proofs.Writing.{then}
use Rattle.wac_parser_json.proofs.interfaces.use_type.Goals as goal

pub returns : goal.returns
unfolding use_type escape_byte
returns g c = then c.word.ensures (then c.array.ensures (then c.word-2.ensures (then c.array-2.ensures (then c.word-3.ensures (then c.use_path.ensures c.word-4.ensures)))))
