use Rattle.std.proofs.Common.{rules}
use Rattle.wac_graph_scopes.specs.Prints.{text_print}
use Rattle.wac_graph_scopes.proofs.prints.text_print.Goals as goal

pub returns : goal.returns
unfolding text_print
returns c = search rules
