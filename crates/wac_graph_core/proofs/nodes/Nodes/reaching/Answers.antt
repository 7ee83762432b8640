use Rattle.std.proofs.Common.{◌∙◌}
use Rattle.wac_graph_core.specs.Defining.{DefinesReaching}
use Rattle.wac_graph_core.proofs.Reached.{unmarked_without}
use Rattle.wac_graph_core.proofs.Gathering.{gathering_first, gathering_next, gathering_at, gathering_done}
use Rattle.wac_graph_core.proofs.nodes.Nodes.reaching.Goals as goal

pub loop-id-init : goal.loop-id-init
loop-id-init c = (
  tt,
  tt,
  gathering_first c.args.self.now _ c.new-found.result.items _ c.new-found.ensures.items (c.into_iter-id-iterator.ensures.into_iter_gives ∙ c.entries-id-items.ensures),
  unmarked_without _ _ _ c.new-without.ensures,
)

pub gather_reaching-requires-clause-stands : goal.gather_reaching-requires-clause-stands
gather_reaching-requires-clause-stands c =
    c.requires c.in-Some.id c.in-Some.node.now (gathering_at c.args.self.now (DefinesReaching c.args.types.now c.args.wanted) c.loop-id.found.items c.in-Some.id c.in-Some.node.now _ _ c.in-Some.ensures.steps c.loop-id.invariant.2)

pub loop-id-preserved : goal.loop-id-preserved
loop-id-preserved c = (
  tt,
  tt,
  gathering_next c.args.self.now (DefinesReaching c.args.types.now c.args.wanted) c.loop-id.found.items c.gather_reaching.new.found.items c.in-Some.id c.in-Some.node.now _ _ c.in-Some.ensures.steps c.in_ok-gather_reaching.ensures.adds c.loop-id.invariant.2,
  c.in_ok-gather_reaching.ensures.without,
)

pub returns : goal.returns
returns c = gathering_done c.args.self.now (DefinesReaching c.args.types.now c.args.wanted) c.loop-id.found.items c.loop-id.id-iterator c.in-None.ensures.steps.0 c.loop-id.invariant.2
