use Rattle.json.specs.Print.{escape_byte}
use Rattle.wac_parser_print.specs.Values.{named_world_item}
use Rattle.wac_parser_json.proofs.Writing.{then}
use Rattle.wac_parser_json.proofs.worlds.named_world_item.Goals as goal

pub returns : goal.returns
unfolding named_world_item escape_byte
returns g c = then c.word.ensures (then c.ident.ensures (then c.word-2.ensures (then c.extern_type.ensures c.word-3.ensures)))
