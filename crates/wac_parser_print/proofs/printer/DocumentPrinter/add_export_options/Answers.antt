use Rattle.std.proofs.Common.{ap}
use Rattle.wac_parser_tree.specs.Views.{view_export_options}
use Rattle.wac_parser_print.specs.Printing.{export_options}
use Rattle.wac_parser_print.proofs.Adding.{and_then, of_view, adds_nothing}
use Rattle.wac_parser_print.proofs.printer.DocumentPrinter.add_export_options.Goals as goal

pub returns-in-None : goal.returns-in-None
unfolding export_options
returns-in-None g c = of_view export_options (ap view_export_options c.in-None.is) (adds_nothing _)

pub returns-in-Spread : goal.returns-in-Spread
unfolding export_options
returns-in-Spread g c = of_view export_options (ap view_export_options c.in-Spread.is) (c.word.ensures)

pub returns-in-Rename : goal.returns-in-Rename
unfolding export_options
returns-in-Rename g c = of_view export_options (ap view_export_options c.in-Rename.is) (and_then c.word-in-Rename.ensures c.add_extern_name.ensures)
