use Rattle.std.proofs.Common.{[], refl, sym, subst, ◌∙◌}
use Rattle.std.specs.FinMap as finite
use Rattle.wac_graph_asks.specs.AskedNodes.{definitions_at}
use Rattle.wac_graph_asks.proofs.Asking.{AddsUpTo, adds_as, adds_first, adds_more, adds_all}
use Rattle.wac_graph_asks.proofs.ByNode.{definitions_are, flat_nothing}
use Rattle.wac_graph_asks.proofs.asks.define_all.Goals as goal

pub loop-node-init : goal.loop-node-init
loop-node-init c =
    let g = c.args.graph.now in (
      tt,
      tt,
      subst (λ l. AddsUpTo g (λ k. []) (λ k. []) (definitions_at g) (finite.keys g.nodes) c.args.asked.now l c.args.asked.now) (sym (c.into_iter-node-iterator.ensures.into_iter_gives ∙ c.node_ids-node-items.ensures))
          (adds_first g (λ k. []) (λ k. []) (definitions_at g) (finite.keys g.nodes) c.args.asked.now c.requires.held),
    )

pub define_node-requires-clause-held : goal.define_node-requires-clause-held
define_node-requires-clause-held c = c.loop-node.invariant.2.adds.held

pub loop-node-preserved : goal.loop-node-preserved
loop-node-preserved c =
    let g = c.args.graph.now in (
      tt,
      tt,
      adds_more g (λ k. []) (λ k. []) (definitions_at g) (finite.keys g.nodes) c.args.asked.now c.loop-node.node-iterator c.next.new.self c.in-Some.node c.loop-node.asked c.define_node.new.asked c.loop-node.invariant.2 c.in-Some.ensures.steps c.in_ok-define_node.ensures,
    )

pub returns : goal.returns
returns c =
    let g = c.args.graph.now in
    adds_as g c.args.asked.now c.loop-node.asked
    (adds_all g (λ k. []) (λ k. []) (definitions_at g) (finite.keys g.nodes) c.args.asked.now c.loop-node.node-iterator c.loop-node.asked c.loop-node.invariant.2 c.in-None.ensures.steps.0)
    (flat_nothing (λ k. []) (λ k. refl) (finite.keys g.nodes)) (flat_nothing (λ k. []) (λ k. refl) (finite.keys g.nodes)) (definitions_are g)
