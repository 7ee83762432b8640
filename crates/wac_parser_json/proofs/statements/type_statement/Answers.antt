use Rattle.std.proofs.Common.{ap}
use Rattle.json.specs.Print.{escape_byte}
use Rattle.wac_parser_tree.specs.Views.{view_type_statement}
use Rattle.wac_parser_print.specs.Values.{type_statement}
use Rattle.wac_parser_json.proofs.Writing.{then, of_tree}
use Rattle.wac_parser_json.proofs.statements.type_statement.Goals as goal

pub returns-in-Interface : goal.returns-in-Interface
unfolding type_statement escape_byte
returns-in-Interface g c = of_tree type_statement (ap view_type_statement c.in-Interface.is) (then c.word.ensures (then c.interface_decl.ensures c.word-in-Interface.ensures))

pub returns-in-World : goal.returns-in-World
unfolding type_statement escape_byte
returns-in-World g c = of_tree type_statement (ap view_type_statement c.in-World.is) (then c.word-in-World.ensures (then c.world_decl.ensures c.word-in-World-2.ensures))

pub returns-in-Ty : goal.returns-in-Ty
unfolding type_statement escape_byte
returns-in-Ty g c = of_tree type_statement (ap view_type_statement c.in-Ty.is) (then c.word-in-Ty.ensures (then c.type_decl.ensures c.word-in-Ty-2.ensures))
