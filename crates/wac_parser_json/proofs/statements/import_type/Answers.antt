use Rattle.std.proofs.Common.{ap}
use Rattle.json.specs.Print.{escape_byte}
use Rattle.wac_parser_tree.specs.Views.{view_import_type}
use Rattle.wac_parser_print.specs.Values.{import_type}
use Rattle.wac_parser_json.proofs.Writing.{then, of_tree}
use Rattle.wac_parser_json.proofs.statements.import_type.Goals as goal

pub returns-in-Package : goal.returns-in-Package
unfolding import_type escape_byte
returns-in-Package g c = of_tree import_type (ap view_import_type c.in-Package.is) (then c.word.ensures (then c.package_path.ensures c.word-in-Package.ensures))

pub returns-in-Func : goal.returns-in-Func
unfolding import_type escape_byte
returns-in-Func g c = of_tree import_type (ap view_import_type c.in-Func.is) (then c.word-in-Func.ensures (then c.func_type.ensures c.word-in-Func-2.ensures))

pub returns-in-Interface : goal.returns-in-Interface
unfolding import_type escape_byte
returns-in-Interface g c = of_tree import_type (ap view_import_type c.in-Interface.is) (then c.word-in-Interface.ensures (then c.inline_interface.ensures c.word-in-Interface-2.ensures))

pub returns-in-Ident : goal.returns-in-Ident
unfolding import_type escape_byte
returns-in-Ident g c = of_tree import_type (ap view_import_type c.in-Ident.is) (then c.word-in-Ident.ensures (then c.ident.ensures c.word-in-Ident-2.ensures))
