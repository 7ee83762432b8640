use Rattle.std.proofs.Common.{subst}
use Rattle.std.proofs.lemmas.List.{take_all}
use Rattle.std.proofs.lemmas.Result.{err_from_is_err_and}
use Rattle.wac_types_base.proofs.Loops.{get-place}
use Rattle.wac_graph_plug.specs.Plans.{GivesAll}
use Rattle.wac_graph_plug.proofs.Planning.{gives_none, gives_next, twice_given}
use Rattle.wac_graph_plug.proofs.plan.Plan.give_all.Goals as goal

pub loop-given-init : goal.loop-given-init
loop-given-init c = gives_none c.args.plug c.args.self.now

pub loop-given-preserved : goal.loop-given-preserved
loop-given-preserved c =
    let at = get-place c.args.found.now c.loop-given.given-index c.given-item.result c.loop-given-test.true c.given-item.is in
    gives_next c.args.plug c.args.found.now c.loop-given.given-index c.given-item.result c.args.self.now c.loop-given.self c.give.new.self at c.loop-given.invariant c.in_ok-give.ensures.given

pub returns-in_err-give-clause-refused : goal.returns-in_err-give-clause-refused
returns-in_err-give-clause-refused c =
    let at = get-place c.args.found.now c.loop-given.given-index c.given-item.result c.loop-given-test.true c.given-item.is in
    let p = err_from_is_err_and c.from_residual.result c.from_residual.ensures.1 in
    rw (p.1, p.2) (twice_given c.args.plug c.args.found.now c.loop-given.given-index c.given-item.result c.args.self.now c.loop-given.self c.in_err-give.field-0.0 at c.loop-given.invariant c.in_err-give.ensures.refused)

pub returns-clause-given : goal.returns-clause-given
returns-clause-given c =
    subst (λ l. GivesAll c.args.plug l c.args.self.now c.loop-given.self) (take_all c.loop-given.given-index c.args.found.now c.loop-given-test.false) c.loop-given.invariant
