use Rattle.json.specs.Print.{escape_byte}
use Rattle.wac_parser_print.specs.Values.{type_alias}
use Rattle.wac_parser_json.proofs.Writing.{then}
use Rattle.wac_parser_json.proofs.declarations.type_alias.Goals as goal

pub returns : goal.returns
unfolding type_alias escape_byte
returns g c = then c.word.ensures (then c.array.ensures (then c.word-2.ensures (then c.ident.ensures (then c.word-3.ensures (then c.type_alias_kind.ensures c.word-4.ensures)))))
