use Rattle.std.proofs.Common.{ap}
use Rattle.json.specs.Print.{escape_byte}
use Rattle.wac_parser_tree.specs.Views.{view_world_item_path}
use Rattle.wac_parser_print.specs.Values.{world_item_path}
use Rattle.wac_parser_json.proofs.Writing.{then, of_tree}
use Rattle.wac_parser_json.proofs.worlds.world_item_path.Goals as goal

pub returns-in-Named : goal.returns-in-Named
unfolding world_item_path escape_byte
returns-in-Named g c = of_tree world_item_path (ap view_world_item_path c.in-Named.is) (then c.word.ensures (then c.named_world_item.ensures c.word-in-Named.ensures))

pub returns-in-Package : goal.returns-in-Package
unfolding world_item_path escape_byte
returns-in-Package g c = of_tree world_item_path (ap view_world_item_path c.in-Package.is) (then c.word-in-Package.ensures (then c.package_path.ensures c.word-in-Package-2.ensures))

pub returns-in-Ident : goal.returns-in-Ident
unfolding world_item_path escape_byte
returns-in-Ident g c = of_tree world_item_path (ap view_world_item_path c.in-Ident.is) (then c.word-in-Ident.ensures (then c.ident.ensures c.word-in-Ident-2.ensures))
