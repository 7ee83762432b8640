use Rattle.std.proofs.Common.{MatchOption, ap, subst, ◌∙◌}
use Rattle.wac_types_base.specs.Stated.{stated_of}
use Rattle.wac_types_fit.specs.Trees.{Fit}
use Rattle.wac_types_written.specs.Written.{written_definition}
use Rattle.wac_graph_core.specs.Graph.{Graph, node_at}
use Rattle.wac_graph_core.specs.Steps.{NodeFits}
use Rattle.wac_graph_core.specs.Refusals.{Mismatches, NodeMismatches}
use Rattle.wac_graph_core.specs.View.{graph}
use Rattle.wac_graph_core.proofs.Passed.{Told, definition_told, other_told}
use Rattle.wac_graph_core.proofs.graph.CompositionGraph.node_mismatch.Goals as goal

pub returns-then-is_definition : goal.returns-then-is_definition
returns-then-is_definition c =
    let g = graph c.self.inside in
    subst (λ (h : Graph). MatchOption c.in_ok-fault.fault (NodeFits h c.args.node c.args.asked) (NodeMismatches h c.args.node c.args.asked)) c.self.view_is
    (definition_told g c.args.node c.args.asked c.node-given.result.now (ap (λ (h : Graph). node_at h c.args.node) c.self.view_is ∙ c.node-given.ensures)
    (c.is_definition.ensures.0 c.if-is_definition.true) c.in_ok-fault.fault
    (subst (λ k. Told (written_definition (stated_of g.types k)) g.types c.args.asked c.in_ok-fault.fault) c.item_kind-item.ensures c.in_ok-fault.ensures))

pub returns : goal.returns
returns c =
    let g = graph c.self.inside in
    subst (λ (h : Graph). MatchOption c.in_ok-fault-2.fault (NodeFits h c.args.node c.args.asked) (NodeMismatches h c.args.node c.args.asked)) c.self.view_is
    (other_told g c.args.node c.args.asked c.node-given.result.now (ap (λ (h : Graph). node_at h c.args.node) c.self.view_is ∙ c.node-given.ensures)
    (λ r. absurd (cc (c.if-is_definition.false, c.is_definition.ensures.1 r))) c.in_ok-fault-2.fault
    (subst (λ k. MatchOption c.in_ok-fault-2.fault (Fit g.types k g.types c.args.asked) (Mismatches g.types k g.types c.args.asked)) c.item_kind-item.ensures c.in_ok-fault-2.ensures))
