use Rattle.json.specs.Print.{escape_byte}
use Rattle.wac_parser_print.specs.Values.{package_path}
use Rattle.wac_parser_json.proofs.Writing.{then}
use Rattle.wac_parser_json.proofs.names.package_path.Goals as goal

pub returns : goal.returns
unfolding package_path escape_byte
returns g c = then c.word.ensures (then c.string.ensures (then c.word-2.ensures (then c.string-2.ensures (then c.word-3.ensures (then c.span.ensures (then c.word-4.ensures (then c.string-3.ensures (then c.word-5.ensures (then c.version.ensures c.word-6.ensures)))))))))
