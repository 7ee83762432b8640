use Rattle.std.proofs.Common.{rules}
use Rattle.wac_graph_scopes.specs.Prints.{joined}
use Rattle.wac_graph_scopes.proofs.prints.joined.Goals as goal

pub returns : goal.returns
unfolding joined
returns c = search rules
