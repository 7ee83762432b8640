use Rattle.wac_parser_resolve.proofs.Choosing.{choices_are_greatest}
use Rattle.wac_parser_resolve.proofs.choices_are_greatest.Goals as goal

pub returns : goal.returns
returns c = choices_are_greatest
