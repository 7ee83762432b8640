use Rattle.json.specs.Print.{escape_byte}
use Rattle.wac_parser_print.specs.Values.{world_decl}
use Rattle.wac_parser_json.proofs.Writing.{then}
use Rattle.wac_parser_json.proofs.worlds.world_decl.Goals as goal

pub returns : goal.returns
unfolding world_decl escape_byte
returns g c = then c.word.ensures (then c.array.ensures (then c.word-2.ensures (then c.ident.ensures (then c.word-3.ensures (then c.world_items.ensures c.word-4.ensures)))))
