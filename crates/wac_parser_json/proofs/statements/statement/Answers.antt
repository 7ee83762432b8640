use Rattle.std.proofs.Common.{ap}
use Rattle.json.specs.Print.{escape_byte}
use Rattle.wac_parser_tree.specs.Views.{view_statement}
use Rattle.wac_parser_print.specs.Values.{statement}
use Rattle.wac_parser_json.proofs.Writing.{then, of_tree}
use Rattle.wac_parser_json.proofs.statements.statement.Goals as goal

pub returns-in-Import : goal.returns-in-Import
unfolding statement escape_byte
returns-in-Import g c = of_tree statement (ap view_statement c.in-Import.is) (then c.word.ensures (then c.import_statement.ensures c.word-in-Import.ensures))

pub returns-in-Ty : goal.returns-in-Ty
unfolding statement escape_byte
returns-in-Ty g c = of_tree statement (ap view_statement c.in-Ty.is) (then c.word-in-Ty.ensures (then c.type_statement.ensures c.word-in-Ty-2.ensures))

pub returns-in-Let : goal.returns-in-Let
unfolding statement escape_byte
returns-in-Let g c = of_tree statement (ap view_statement c.in-Let.is) (then c.word-in-Let.ensures (then c.let_statement.ensures c.word-in-Let-2.ensures))

pub returns-in-Export : goal.returns-in-Export
unfolding statement escape_byte
returns-in-Export g c = of_tree statement (ap view_statement c.in-Export.is) (then c.word-in-Export.ensures (then c.export_statement.ensures c.word-in-Export-2.ensures))
