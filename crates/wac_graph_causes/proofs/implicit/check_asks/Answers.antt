use Rattle.std.proofs.Common.{sym, subst}
use Rattle.std.proofs.lemmas.Result.{err_from_is_err_and}
use Rattle.wac_types_base.proofs.Loops.{get-place}
use Rattle.wac_types_base.proofs.Used.{among_at}
use Rattle.wac_graph_causes.specs.Implicit.{clash, TellsClash}
use Rattle.wac_graph_causes.proofs.Clashes.{clash_next, clash_there, clash_nowhere}
use Rattle.wac_graph_causes.proofs.implicit.check_asks.Goals as goal

pub loop-ask-preserved : goal.loop-ask-preserved
loop-ask-preserved c = λ made.
    let asks = c.args.asks.now in
    let i = c.loop-ask.ask-index in
    let a = c.ask-item.result in
    clash_next c.args.imports.now asks i a (get-place asks i a c.loop-ask-test.true c.ask-item.is) (c.in_ok-check_ask.ensures.none (made a (among_at asks i a c.loop-ask-test.true c.ask-item.is))) (c.loop-ask.invariant made)

pub returns-in_err-check_ask-clause-cause : goal.returns-in_err-check_ask-clause-cause
returns-in_err-check_ask-clause-cause c =
    let p = err_from_is_err_and c.from_residual.result c.from_residual.ensures.1 in
    let asks = c.args.asks.now in
    let i = c.loop-ask.ask-index in
    let a = c.ask-item.result in
    rw p.1
    (λ made. clash_there c.args.imports.now asks i c.args.graph.now a p.0 (get-place asks i a c.loop-ask-test.true c.ask-item.is) (c.loop-ask.invariant made) (subst (TellsClash c.args.graph.now (clash c.args.imports.now a)) (sym p.2) c.in_err-check_ask.ensures.cause))

pub returns : goal.returns
returns c = record { none = λ made. clash_nowhere c.args.imports.now c.args.asks.now c.loop-ask.ask-index c.loop-ask-test.false (c.loop-ask.invariant made); cause = tt }
