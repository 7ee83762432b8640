use Rattle.std.proofs.Common.{◌∙◌}
use Rattle.wac_types_base.specs.Entries.{names_of}
use Rattle.wac_graph_encode.proofs.Nesting.{nesting_first, nesting_more, nesting_all}
use Rattle.wac_graph_encode.proofs.root.nest_packages.Goals as goal

pub loop-id-init : goal.loop-id-init
loop-id-init c = nesting_first c.args.graph.now (names_of c.args.worlds.now.entries) c.into_iter-id-iterator.result c.args.root.now (c.into_iter-id-iterator.ensures.into_iter_gives ∙ c.keys-id-items.ensures.rest)

pub loop-id-preserved : goal.loop-id-preserved
loop-id-preserved c =
    nesting_more c.args.graph.now (names_of c.args.worlds.now.entries) c.loop-id.id-iterator c.next.new.self c.in-Some.id.now c.bytes_at.result.now c.args.root.now c.loop-id.root c.nest_package.new.root
    c.in-Some.ensures.steps c.bytes_at.ensures c.loop-id.invariant c.in_ok-nest_package.ensures

pub returns : goal.returns
returns c = nesting_all c.args.graph.now (names_of c.args.worlds.now.entries) c.loop-id.id-iterator c.args.root.now c.loop-id.root c.in-None.ensures.steps.0 c.loop-id.invariant
