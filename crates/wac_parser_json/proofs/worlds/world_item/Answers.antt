use Rattle.std.proofs.Common.{ap}
use Rattle.json.specs.Print.{escape_byte}
use Rattle.wac_parser_tree.specs.Views.{view_world_item}
use Rattle.wac_parser_print.specs.Values.{world_item}
use Rattle.wac_parser_json.proofs.Writing.{then, of_tree}
use Rattle.wac_parser_json.proofs.worlds.world_item.Goals as goal

pub returns-in-Use : goal.returns-in-Use
unfolding world_item escape_byte
returns-in-Use g c = of_tree world_item (ap view_world_item c.in-Use.is) (then c.word.ensures (then c.use_type.ensures c.word-in-Use.ensures))

pub returns-in-Ty : goal.returns-in-Ty
unfolding world_item escape_byte
returns-in-Ty g c = of_tree world_item (ap view_world_item c.in-Ty.is) (then c.word-in-Ty.ensures (then c.item_type_decl.ensures c.word-in-Ty-2.ensures))

pub returns-in-Import : goal.returns-in-Import
unfolding world_item escape_byte
returns-in-Import g c = of_tree world_item (ap view_world_item c.in-Import.is) (then c.word-in-Import.ensures (then c.world_import.ensures c.word-in-Import-2.ensures))

pub returns-in-Export : goal.returns-in-Export
unfolding world_item escape_byte
returns-in-Export g c = of_tree world_item (ap view_world_item c.in-Export.is) (then c.word-in-Export.ensures (then c.world_export.ensures c.word-in-Export-2.ensures))

pub returns-in-Include : goal.returns-in-Include
unfolding world_item escape_byte
returns-in-Include g c = of_tree world_item (ap view_world_item c.in-Include.is) (then c.word-in-Include.ensures (then c.world_include.ensures c.word-in-Include-2.ensures))
