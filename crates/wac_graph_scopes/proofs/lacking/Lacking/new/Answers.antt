use Rattle.wac_graph_scopes.proofs.LackingLaws.{lacking_none}
use Rattle.wac_graph_scopes.proofs.lacking.Lacking.new.Goals as goal

pub returns : goal.returns
returns c cc s = lacking_none cc s _ c.new.ensures.empty
