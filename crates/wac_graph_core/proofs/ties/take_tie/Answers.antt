use Rattle.std.proofs.Common.{sym, subst}
use Rattle.wac_graph_core.specs.TieSteps.{TakesTie}
use Rattle.wac_graph_core.proofs.TieKeys.{tie_out, tie_absent}
use Rattle.wac_graph_core.proofs.ties.take_tie.Goals as goal

pub returns-in-Ok : goal.returns-in-Ok
returns-in-Ok c = subst (λ l. TakesTie c.args.list.now.items l c.args.tie.now) (sym c.remove_at.ensures) (tie_out c.args.list.now.items c.args.tie.now c.in-Ok.place c.see_sorted.ensures c.in-Ok.ensures.found)

pub returns-in-Err : goal.returns-in-Err
returns-in-Err c = tie_absent c.args.list.now.items c.args.tie.now _ c.in-Err.ensures.absent
