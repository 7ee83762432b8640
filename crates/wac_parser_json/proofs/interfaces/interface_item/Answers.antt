use Rattle.std.proofs.Common.{ap}
use Rattle.json.specs.Print.{escape_byte}
use Rattle.wac_parser_tree.specs.Views.{view_interface_item}
use Rattle.wac_parser_print.specs.Values.{interface_item}
use Rattle.wac_parser_json.proofs.Writing.{then, of_tree}
use Rattle.wac_parser_json.proofs.interfaces.interface_item.Goals as goal

pub returns-in-Use : goal.returns-in-Use
unfolding interface_item escape_byte
returns-in-Use g c = of_tree interface_item (ap view_interface_item c.in-Use.is) (then c.word.ensures (then (rw c.deref.ensures at c.use_type.ensures) c.word-in-Use.ensures))

pub returns-in-Ty : goal.returns-in-Ty
unfolding interface_item escape_byte
returns-in-Ty g c = of_tree interface_item (ap view_interface_item c.in-Ty.is) (then c.word-in-Ty.ensures (then c.item_type_decl.ensures c.word-in-Ty-2.ensures))

pub returns-in-Export : goal.returns-in-Export
unfolding interface_item escape_byte
returns-in-Export g c = of_tree interface_item (ap view_interface_item c.in-Export.is) (then c.word-in-Export.ensures (then c.interface_export.ensures c.word-in-Export-2.ensures))
