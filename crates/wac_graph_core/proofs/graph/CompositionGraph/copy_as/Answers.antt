use Rattle.std.proofs.Common.{length, map, ap, sym, subst, ◌∙◌}
use Rattle.wac_graph_core.specs.Graph.{Graph}
use Rattle.wac_graph_core.specs.Defining.{ReachBelow}
use Rattle.wac_graph_core.specs.View.{graph}
use Rattle.wac_graph_core.specs.Copying.{place_under, IsGraphUnder, AreCopied}
use Rattle.wac_graph_core.proofs.Below.{ReachBelow-all}
use Rattle.wac_graph_core.proofs.Copied.{IsGraph-under}
use Rattle.wac_graph_core.proofs.DefineSteps.{items_stand}
use Rattle.wac_graph_core.proofs.graph.CompositionGraph.copy_as.Goals as goal

copied : goal.After-result-1 → Graph
copied c = record {
  types = c.in_ok-types.types;
  nodes = c.in_ok-nodes.nodes;
  edges = c.in_ok-edges.edges;
  exports = c.in_ok-exports.exports.items;
  places = c.in_ok-places.places.items;
}

is_under : (c : goal.After-result-1) → IsGraphUnder c.args.number (graph c.self.inside) (copied c)
unfolding copied
is_under c = record {
  types = c.in_ok-types.ensures.renumbered;
  nodes = c.in_ok-nodes.ensures;
  edges = c.in_ok-edges.ensures;
  exports = c.in_ok-exports.ensures;
  places = c.in_ok-places.ensures ∙ ap (map (place_under c.args.number)) c.as_slice.ensures.value;
}

pub invariant_of-result : goal.invariant_of-result
unfolding copied
invariant_of-result c =
    let made = IsGraph-under c.args.number (graph c.self.inside) (copied c) (is_under c) c.in_ok-types.ensures.copied c.self.invariant.0 in (
      made,
      subst (ReachBelow c.in_ok-types.types c.in_ok-nodes.nodes) (sym (c.len-defined_below.ensures ∙ ap length c.defined_types.ensures))
          (ReachBelow-all c.in_ok-types.types c.see_acyclic-2.ensures c.in_ok-nodes.nodes (items_stand (copied c) made)),
    )

pub returns-clause-copied : goal.returns-clause-copied
returns-clause-copied c = subst (λ (g : Graph). AreCopied c.args.number g.types c.in_ok-types.types) c.self.view_is c.in_ok-types.ensures.copied

pub returns-clause-under : goal.returns-clause-under
unfolding copied
returns-clause-under c = subst (λ g. IsGraphUnder c.args.number g (copied c)) c.self.view_is (is_under c)
