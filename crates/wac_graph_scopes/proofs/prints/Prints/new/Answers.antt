use Rattle.wac_graph_scopes.proofs.PrintLaws.{prints_none}
use Rattle.wac_graph_scopes.proofs.prints.Prints.new.Goals as goal

pub returns : goal.returns
returns c cc = prints_none cc _ c.new.ensures.empty
