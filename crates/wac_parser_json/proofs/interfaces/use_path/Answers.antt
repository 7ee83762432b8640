use Rattle.std.proofs.Common.{ap}
use Rattle.json.specs.Print.{escape_byte}
use Rattle.wac_parser_tree.specs.Views.{view_use_path}
use Rattle.wac_parser_print.specs.Values.{use_path}
use Rattle.wac_parser_json.proofs.Writing.{then, of_tree}
use Rattle.wac_parser_json.proofs.interfaces.use_path.Goals as goal

pub returns-in-Package : goal.returns-in-Package
unfolding use_path escape_byte
returns-in-Package g c = of_tree use_path (ap view_use_path c.in-Package.is) (then c.word.ensures (then c.package_path.ensures c.word-in-Package.ensures))

pub returns-in-Ident : goal.returns-in-Ident
unfolding use_path escape_byte
returns-in-Ident g c = of_tree use_path (ap view_use_path c.in-Ident.is) (then c.word-in-Ident.ensures (then c.ident.ensures c.word-in-Ident-2.ensures))
