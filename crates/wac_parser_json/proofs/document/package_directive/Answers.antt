use Rattle.std.proofs.Common.{ap}
use Rattle.std.specs.Option.{option_map}
use Rattle.json.specs.Print.{escape_byte}
use Rattle.wac_parser_tree.specs.Views.{view_package_name, view_package_path}
use Rattle.wac_parser_print.specs.Values.{package_directive, directive_of}
use Rattle.wac_parser_json.proofs.Writing.{then, of_tree}
use Rattle.wac_parser_json.proofs.document.package_directive.Goals as goal

pub returns-in-Some : goal.returns-in-Some
unfolding package_directive escape_byte
returns-in-Some g c = of_tree (directive_of (view_package_name c.args.directive.now.«package»)) (ap (option_map view_package_path) c.in-Some.is) (then c.word.ensures (then c.package_name.ensures (then c.word-in-Some.ensures (then c.package_path.ensures c.word-in-Some-2.ensures))))

pub returns-in-None : goal.returns-in-None
unfolding package_directive escape_byte
returns-in-None g c = of_tree (directive_of (view_package_name c.args.directive.now.«package»)) (ap (option_map view_package_path) c.in-None.is) (then c.word-in-None.ensures (then c.package_name-in-None.ensures c.word-in-None-2.ensures))
