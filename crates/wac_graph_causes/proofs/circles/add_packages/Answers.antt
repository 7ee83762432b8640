use Rattle.std.proofs.Common.{◌∙◌}
use Rattle.wac_graph_causes.proofs.CircleLaws.{package_stands, packages_all, packages_begin, packages_next}
use Rattle.wac_graph_causes.proofs.circles.add_packages.Goals as goal

pub loop-id-init : goal.loop-id-init
loop-id-init c =
    packages_begin c.args.graph.now c.args.types.now c.args.packages.now.entries c.args.all.now.items c.see_acyclic.ensures c.into_iter-id-iterator.result (c.into_iter-id-iterator.ensures.into_iter_gives ∙ c.iter-id-items.ensures.rest)

pub add_package-requires : goal.add_package-requires
add_package-requires c =
    package_stands c.args.graph.now c.args.types.now c.args.packages.now.entries c.args.all.now.items c.loop-id.types c.loop-id.id-iterator c.next.new.self c.in-Some.id.now c.in-Some.world.now c.loop-id.all.items c.requires c.in-Some.ensures.steps c.loop-id.invariant

pub loop-id-preserved : goal.loop-id-preserved
loop-id-preserved c =
    packages_next c.args.graph.now c.args.types.now c.args.packages.now.entries c.args.all.now.items c.loop-id.types c.add_package.new.types c.loop-id.id-iterator c.next.new.self c.in-Some.id.now c.in-Some.world.now c.loop-id.all.items c.add_package.new.all.items c.requires c.in-Some.ensures.steps c.loop-id.invariant c.in_ok-add_package.ensures.grows c.in_ok-add_package.ensures.adds

pub returns-clause-adds : goal.returns-clause-adds
returns-clause-adds c = packages_all c.args.graph.now c.args.types.now c.args.packages.now.entries c.args.all.now.items c.loop-id.types c.loop-id.id-iterator c.loop-id.all.items c.in-None.ensures.steps.0 c.loop-id.invariant

pub returns-clause-grows : goal.returns-clause-grows
returns-clause-grows c = c.loop-id.invariant.grows
