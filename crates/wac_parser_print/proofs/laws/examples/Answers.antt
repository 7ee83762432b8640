use Rattle.wac_parser_print.proofs.Exemplified.{target_text, function_text, result_text, value_of_package}
use Rattle.wac_parser_print.proofs.laws.examples.Goals as goal

pub returns : goal.returns
returns c = record { target = target_text; no_arrow = function_text; result_alone = result_text; value = value_of_package }
