use Rattle.std.specs.FinMap as finite
use Rattle.std.proofs.Common.{inl, refl, sym, subst, ◌∙◌}
use Rattle.wac_types_base.specs.Graph.{Among}
use Rattle.wac_graph_encode.proofs.Readying.{key_there, ready_kept, there_kept}
use Rattle.wac_graph_encode.proofs.WritingLaws.{wrote_all, wrote_more, wrote_none}
use Rattle.wac_graph_encode.proofs.instances.Wired.write_nodes.Goals as goal

pub write_node-requires-clause-ready : goal.write_node-requires-clause-ready
write_node-requires-clause-ready c = ready_kept c.args.self.now c.loop-node.self c.loop-node.invariant.2.keeps c.requires

pub write_node-requires-clause-there : goal.write_node-requires-clause-there
write_node-requires-clause-there c =
    let before = c.loop-node.invariant.2 in
    let k = c.in-Some.node in
    there_kept c.args.self.now c.loop-node.self before.keeps k (key_there c.args.self.now.graph.now k (before.within k (subst (Among k) (sym c.in-Some.ensures.steps) (inl refl))))

pub loop-node-init : goal.loop-node-init
loop-node-init c = (tt, tt, wrote_none (finite.keys c.args.self.now.graph.now.nodes) c.into_iter-node-iterator.result c.args.self.now (c.into_iter-node-iterator.ensures.into_iter_gives ∙ c.node_ids-node-items.ensures))

pub loop-node-preserved : goal.loop-node-preserved
loop-node-preserved c = (
  tt,
  tt,
  wrote_more (finite.keys c.args.self.now.graph.now.nodes) c.loop-node.node-iterator c.next.new.self c.in-Some.node c.args.self.now c.loop-node.self c.write_node.new.self c.loop-node.invariant.2 c.in-Some.ensures.steps c.in_ok-write_node.ensures.writes
      c.in_ok-write_node.ensures.keeps c.in_ok-write_node.ensures.stands,
)

pub returns-clause-writes : goal.returns-clause-writes
returns-clause-writes c = c.loop-node.invariant.2.writes

pub returns-clause-keeps : goal.returns-clause-keeps
returns-clause-keeps c = c.loop-node.invariant.2.keeps

pub returns-clause-all : goal.returns-clause-all
returns-clause-all c = wrote_all c.loop-node.node-iterator c.args.self.now c.loop-node.self c.loop-node.invariant.2 c.in-None.ensures.steps.0
