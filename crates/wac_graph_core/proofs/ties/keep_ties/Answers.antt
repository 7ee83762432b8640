use Rattle.std.proofs.Common.{rules}
use Rattle.std.proofs.lemmas.Fn.{filter_same}
use Rattle.wac_graph_core.proofs.TieKeys.{tie_kept}
use Rattle.wac_graph_core.proofs.ties.keep_ties.Goals as goal

pub returns : goal.returns
returns c = tie_kept c.args.list.now.items c.retain.new.self.items c.args.gone.now (filter_same _ _ _ (λ x b f' k. search rules) _ _ c.retain.ensures)
