use Rattle.wac_graph_core.proofs.TieKeys.{passed_at, passed_one, passed_none}
use Rattle.wac_graph_core.proofs.ties.find_passed.Goals as goal

pub returns-in-Ok-clause-found : goal.returns-in-Ok-clause-found
returns-in-Ok-clause-found c = passed_at c.args.list.now.items c.args.name.now c.in-Ok.place c.in-Ok.ensures.found c.as_slice.result.now c.as_slice.ensures.value _

pub returns-in-Ok-clause-one : goal.returns-in-Ok-clause-one
returns-in-Ok-clause-one c = passed_one c.args.list.now.items c.args.name.now c.in-Ok.place c.see_sorted.ensures c.in-Ok.ensures.found c.as_slice.result.now c.as_slice.ensures.value _

pub returns-in-Err-clause-none : goal.returns-in-Err-clause-none
returns-in-Err-clause-none c = passed_none c.args.list.now.items c.args.name.now _ c.in-Err.ensures.absent
