use Rattle.std.proofs.Common.{ap}
use Rattle.json.specs.Print.{escape_byte}
use Rattle.wac_parser_tree.specs.Views.{view_world_ref}
use Rattle.wac_parser_print.specs.Values.{world_ref}
use Rattle.wac_parser_json.proofs.Writing.{then, of_tree}
use Rattle.wac_parser_json.proofs.worlds.world_ref.Goals as goal

pub returns-in-Ident : goal.returns-in-Ident
unfolding world_ref escape_byte
returns-in-Ident g c = of_tree world_ref (ap view_world_ref c.in-Ident.is) (then c.word.ensures (then c.ident.ensures c.word-in-Ident.ensures))

pub returns-in-Package : goal.returns-in-Package
unfolding world_ref escape_byte
returns-in-Package g c = of_tree world_ref (ap view_world_ref c.in-Package.is) (then c.word-in-Package.ensures (then c.package_path.ensures c.word-in-Package-2.ensures))
