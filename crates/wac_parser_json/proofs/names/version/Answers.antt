use Rattle.std.proofs.Common.{ap}
use Rattle.std.specs.Option.{option_map}
use Rattle.semver.specs.Identifiers.{parts_of}
use Rattle.wac_parser_print.specs.Objects.{version}
use Rattle.wac_parser_json.proofs.Writing.{of_tree}
use Rattle.wac_parser_json.proofs.names.version.Goals as goal

pub returns-in-Some : goal.returns-in-Some
unfolding version
returns-in-Some g c = of_tree version (ap (option_map parts_of) c.in-Some.is) c.version_text.ensures

pub returns-in-None : goal.returns-in-None
unfolding version
returns-in-None g c = of_tree version (ap (option_map parts_of) c.in-None.is) c.word.ensures
