use Rattle.std.proofs.Common.{◌++◌, ◌∷◌, [], ◌≤◌, length, subst, arith}
use Rattle.std.proofs.lemmas.Result.{err_from_is_err_and}
use Rattle.wac_types_base.proofs.Loops.{get-place}
use Rattle.wac_graph_plug.specs.Plugging.{no_plugs}
use Rattle.wac_graph_plug.specs.Plans.{world_in, PlansOne, IsGivenTwice}
use Rattle.wac_graph_plug.proofs.Planning.{no_plugs_planned, plan_next, counted_to, are_next, add_refused}
use Rattle.wac_graph_plug.proofs.plan.plan_of.Goals as goal

pub loop-at-init : goal.loop-at-init
loop-at-init c = ([], no_plugs, no_plugs_planned c.new-plan.result c.new-plan.ensures.plugs c.new-plan.ensures.arguments)

pub loop-at-preserved : goal.loop-at-preserved
loop-at-preserved c =
    let ps = c.args.plugs.now in
    let s = world_in c.args.socket in
    let at = c.loop-at.at in
    let p = c.index-plugs-at.result in
    let mss = c.loop-at.invariant.0 in
    let ms = c.in_ok-found.found.items in
    let within : at ≤ length ps = omega (arith, c.loop-at-test.true) in
    let place = get-place ps at p c.loop-at-test.true c.index-plugs-at.is in
    let are = c.loop-at.invariant.1 in
    let found = c.in_ok-found.ensures in (
      mss ++ ms ∷ [],
      are_next ps s at p place within mss ms are found,
      plan_next mss ms at c.loop-at.plan c.add.new.self (counted_to ps s at p place within mss ms are found) c.loop-at.invariant.2 (subst (λ l. PlansOne at l c.loop-at.plan c.add.new.self) c.deref.ensures.value c.in_ok-add.ensures.planned),
    )

pub returns-in_err-add-clause-refused : goal.returns-in_err-add-clause-refused
returns-in_err-add-clause-refused c =
    let ps = c.args.plugs.now in
    let s = world_in c.args.socket in
    let at = c.loop-at.at in
    let p = c.index-plugs-at.result in
    let mss = c.loop-at.invariant.0 in
    let ms = c.in_ok-found.found.items in
    let within : at ≤ length ps = omega (arith, c.loop-at-test.true) in
    let place = get-place ps at p c.loop-at-test.true c.index-plugs-at.is in
    let from = err_from_is_err_and c.from_residual-in_err-add.result c.from_residual-in_err-add.ensures.1 in
    rw (from.1, from.2) (add_refused ps s at p place within mss ms c.loop-at.invariant.1 c.in_ok-found.ensures c.loop-at.plan c.in_err-add.field-0.0 c.loop-at.invariant.2 (subst (λ l. IsGivenTwice l c.loop-at.plan c.in_err-add.field-0.0) c.deref.ensures.value c.in_err-add.ensures.refused))
