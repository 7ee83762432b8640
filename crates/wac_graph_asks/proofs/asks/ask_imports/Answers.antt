use Rattle.std.proofs.Common.{[], refl, sym, subst, ◌∙◌}
use Rattle.std.specs.FinMap as finite
use Rattle.wac_graph_asks.specs.AskedNodes.{import_asks}
use Rattle.wac_graph_asks.proofs.Asking.{AddsUpTo, adds_as, adds_first, adds_more, adds_all}
use Rattle.wac_graph_asks.proofs.ByNode.{imports_are, flat_nothing}
use Rattle.wac_graph_asks.proofs.asks.ask_imports.Goals as goal

pub loop-node-init : goal.loop-node-init
loop-node-init c =
    let g = c.args.graph.now in (
      tt,
      tt,
      subst (λ l. AddsUpTo g (import_asks g) (λ k. []) (λ k. []) (finite.keys g.nodes) c.args.asked.now l c.args.asked.now) (sym (c.into_iter-node-iterator.ensures.into_iter_gives ∙ c.node_ids-node-items.ensures))
          (adds_first g (import_asks g) (λ k. []) (λ k. []) (finite.keys g.nodes) c.args.asked.now c.requires),
    )

pub ask_import-requires : goal.ask_import-requires
ask_import-requires c = c.loop-node.invariant.2.adds.held

pub loop-node-preserved : goal.loop-node-preserved
loop-node-preserved c =
    let g = c.args.graph.now in (
      tt,
      tt,
      adds_more g (import_asks g) (λ k. []) (λ k. []) (finite.keys g.nodes) c.args.asked.now c.loop-node.node-iterator c.next.new.self c.in-Some.node c.loop-node.asked c.ask_import.new.self c.loop-node.invariant.2 c.in-Some.ensures.steps c.in_ok-ask_import.ensures,
    )

pub returns : goal.returns
returns c =
    let g = c.args.graph.now in
    adds_as g c.args.asked.now c.loop-node.asked
    (adds_all g (import_asks g) (λ k. []) (λ k. []) (finite.keys g.nodes) c.args.asked.now c.loop-node.node-iterator c.loop-node.asked c.loop-node.invariant.2 c.in-None.ensures.steps.0) (imports_are g)
    (flat_nothing (λ k. []) (λ k. refl) (finite.keys g.nodes)) (flat_nothing (λ k. []) (λ k. refl) (finite.keys g.nodes))
