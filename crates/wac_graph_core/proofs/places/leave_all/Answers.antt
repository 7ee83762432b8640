use Rattle.std.proofs.Common.{arith, subst}
use Rattle.wac_graph_core.specs.TieSteps.{LeavesTies}
use Rattle.wac_graph_core.proofs.Placing.{left_begin, left_next, left_end}
use Rattle.wac_graph_core.proofs.places.leave_all.Goals as goal

pub loop-at-init : goal.loop-at-init
loop-at-init c = left_begin c.args.gone.now c.args.ties.now.items

pub loop-at-preserved : goal.loop-at-preserved
loop-at-preserved c = left_next c.args.gone.now c.args.ties.now.items c.loop-at.ties.items c.loop-at.at c.index_mut.result.now c.leave.new.ties (omega (arith, c.loop-at-test.true, c.len-at-end.ensures, c.args.ties.now.ok.0, c.loop-at.invariant.longer)) c.index_mut.ensures.value (subst (λ k. LeavesTies c.args.gone.now k c.index_mut.result.now c.leave.new.ties) c.new.ensures c.leave.ensures) c.loop-at.invariant

pub returns : goal.returns
returns c = left_end c.args.gone.now c.args.ties.now.items c.loop-at.ties.items c.loop-at.at (omega (arith, c.loop-at-test.false, c.len-at-end.ensures, c.args.ties.now.ok.0)) c.loop-at.invariant
