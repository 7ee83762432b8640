use Rattle.json.specs.Print.{escape_byte}
use Rattle.wac_parser_print.specs.Values.{document}
use Rattle.wac_parser_json.proofs.Writing.{then}
use Rattle.wac_parser_json.proofs.document.document.Goals as goal

pub returns : goal.returns
unfolding document escape_byte
returns g c = then c.word.ensures (then c.package_directive.ensures (then c.word-2.ensures (then c.array.ensures (then c.word-3.ensures (then c.statements.ensures c.word-4.ensures)))))
