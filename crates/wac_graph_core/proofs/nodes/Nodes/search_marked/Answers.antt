use Rattle.std.proofs.Common.{◌∙◌}
use Rattle.wac_graph_core.specs.Defining.{DefinesMarked}
use Rattle.wac_graph_core.proofs.Gathering.{gathering_first, gathering_next, gathering_done}
use Rattle.wac_graph_core.proofs.nodes.Nodes.search_marked.Goals as goal

pub loop-id-init : goal.loop-id-init
loop-id-init c = (tt, tt, gathering_first c.args.self.now _ c.new-found.result.items _ c.new-found.ensures.items (c.into_iter-id-iterator.ensures.into_iter_gives ∙ c.entries-id-items.ensures))

pub loop-id-preserved : goal.loop-id-preserved
loop-id-preserved c = (tt, tt, gathering_next c.args.self.now (DefinesMarked c.args.marks.now) c.loop-id.found.items c.gather_marked.new.found.items c.in-Some.id c.in-Some.node.now _ _ c.in-Some.ensures.steps c.in_ok-gather_marked.ensures c.loop-id.invariant.2)

pub returns : goal.returns
returns c = gathering_done c.args.self.now (DefinesMarked c.args.marks.now) c.loop-id.found.items c.loop-id.id-iterator c.in-None.ensures.steps.0 c.loop-id.invariant.2
