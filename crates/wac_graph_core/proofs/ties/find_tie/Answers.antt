use Rattle.wac_graph_core.proofs.TieKeys.{tie_at, no_tie}
use Rattle.wac_graph_core.proofs.ties.find_tie.Goals as goal

pub returns-in-Ok-clause-found : goal.returns-in-Ok-clause-found
returns-in-Ok-clause-found c = tie_at c.args.list.now.items c.args.tie.now c.in-Ok.place c.in-Ok.ensures.found c.as_slice.result.now c.as_slice.ensures.value _

pub returns-in-Err-clause-none : goal.returns-in-Err-clause-none
returns-in-Err-clause-none c = no_tie c.args.list.now.items c.args.tie.now _ c.in-Err.ensures.absent
