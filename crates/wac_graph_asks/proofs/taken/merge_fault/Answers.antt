use Rattle.std.proofs.Common.{refl, ◌∙◌}
use Rattle.wac_graph_asks.proofs.TakingMore.{by_name, by_other}
use Rattle.wac_graph_asks.proofs.taken.merge_fault.Goals as goal

pub returns-in-ByName : goal.returns-in-ByName
returns-in-ByName c = (c.args.source, (by_name c.args.ask.now c.args.first c.in-ByName.is _ (c.in_ok-name.ensures.ok ∙ c.as_str.ensures), refl, c.requires))

pub returns-in_default : goal.returns-in_default
returns-in_default c = (by_other c.args.ask.now c.args.first c.in_default.not-ByName _ (c.in_ok-name.ensures.ok ∙ c.as_str.ensures), refl, c.requires)
