use Rattle.std.proofs.Common.{ap}
use Rattle.json.specs.Print.{escape_byte}
use Rattle.wac_parser_tree.specs.Views.{view_export_options}
use Rattle.wac_parser_print.specs.Values.{export_options}
use Rattle.wac_parser_json.proofs.Writing.{then, of_tree}
use Rattle.wac_parser_json.proofs.statements.export_options.Goals as goal

pub returns-in-None : goal.returns-in-None
unfolding export_options escape_byte
returns-in-None g c = of_tree export_options (ap view_export_options c.in-None.is) c.word.ensures

pub returns-in-Spread : goal.returns-in-Spread
unfolding export_options escape_byte
returns-in-Spread g c = of_tree export_options (ap view_export_options c.in-Spread.is) (then c.word-in-Spread.ensures (then c.span.ensures c.word-in-Spread-2.ensures))

pub returns-in-Rename : goal.returns-in-Rename
unfolding export_options escape_byte
returns-in-Rename g c = of_tree export_options (ap view_export_options c.in-Rename.is) (then c.word-in-Rename.ensures (then c.extern_name.ensures c.word-in-Rename-2.ensures))
