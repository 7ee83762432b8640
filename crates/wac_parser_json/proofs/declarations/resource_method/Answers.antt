use Rattle.std.proofs.Common.{ap}
use Rattle.json.specs.Print.{escape_byte}
use Rattle.wac_parser_tree.specs.Views.{view_resource_method}
use Rattle.wac_parser_print.specs.Values.{resource_method}
use Rattle.wac_parser_json.proofs.Writing.{then, of_tree}
use Rattle.wac_parser_json.proofs.declarations.resource_method.Goals as goal

pub returns-in-Constructor : goal.returns-in-Constructor
unfolding resource_method escape_byte
returns-in-Constructor g c = of_tree resource_method (ap view_resource_method c.in-Constructor.is) (then c.word.ensures (then c.constructor.ensures c.word-in-Constructor.ensures))

pub returns-in-Method : goal.returns-in-Method
unfolding resource_method escape_byte
returns-in-Method g c = of_tree resource_method (ap view_resource_method c.in-Method.is) (then c.word-in-Method.ensures (then c.method.ensures c.word-in-Method-2.ensures))
