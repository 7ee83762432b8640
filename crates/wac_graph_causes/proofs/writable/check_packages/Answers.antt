use Rattle.std.proofs.Common.{sym, subst, ◌∙◌}
use Rattle.std.proofs.lemmas.Result.{err_from_is_err_and}
use Rattle.wac_graph_causes.specs.Unwritable.{TellsPackageAt}
use Rattle.wac_graph_causes.proofs.PackageCauses.{packages_begin, package_among, packages_next, package_told, packages_pass}
use Rattle.wac_graph_causes.proofs.writable.check_packages.Goals as goal

pub loop-id-init : goal.loop-id-init
loop-id-init c = λ knows held. packages_begin c.args.graph.now c.args.asked.now c.into_iter-id-iterator.result (c.into_iter-id-iterator.ensures.into_iter_gives ∙ c.iter-id-items.ensures.rest)

pub loop-id-preserved : goal.loop-id-preserved
loop-id-preserved c = λ knows held.
    let g = c.args.graph.now in
    let a = c.args.asked.now in
    let turn = c.loop-id.id-iterator in
    let rest = c.next.new.self in
    let left = c.loop-id.invariant knows held in
    let there = package_among g a turn rest c.in-Some.id.now c.in-Some.world.now c.in-Some.ensures.steps left in
    packages_next g a turn rest c.in-Some.id.now c.in-Some.world.now c.in-Some.ensures.steps left (c.in_ok-check_package.ensures.none knows (held.worlds c.in-Some.id.now c.in-Some.world.now there))

pub returns-in_err-check_package-clause-cause : goal.returns-in_err-check_package-clause-cause
returns-in_err-check_package-clause-cause c =
    let p = err_from_is_err_and c.from_residual.result c.from_residual.ensures.1 in
    let g = c.args.graph.now in
    let a = c.args.asked.now in
    let turn = c.loop-id.id-iterator in
    let rest = c.next.new.self in
    rw p.1
    (λ knows held.
    let left = c.loop-id.invariant knows held in
    let there = package_among g a turn rest c.in-Some.id.now c.in-Some.world.now c.in-Some.ensures.steps left in
    package_told g a turn rest c.in-Some.id.now c.in-Some.world.now c.in-Some.ensures.steps left p.0
    (subst (TellsPackageAt g a c.args.unnamed.now c.in-Some.id.now c.in-Some.world.now) (sym p.2) c.in_err-check_package.ensures.cause knows (held.worlds c.in-Some.id.now c.in-Some.world.now there)))

pub returns-clause-none : goal.returns-clause-none
returns-clause-none c = λ knows held. packages_pass c.args.graph.now c.args.asked.now c.loop-id.id-iterator c.in-None.ensures.steps.0 (c.loop-id.invariant knows held)
