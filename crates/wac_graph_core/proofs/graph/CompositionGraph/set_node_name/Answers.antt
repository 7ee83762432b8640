use Rattle.std.proofs.Common.{Some, ap, sym, ◌∙◌, refl, subst}
use Rattle.std.specs.FinMap as map
use Rattle.wac_graph_core.specs.Graph.{ContainsNode}
use Rattle.wac_graph_core.specs.Exporting.{Names}
use Rattle.wac_graph_core.specs.View.{graph}
use Rattle.wac_graph_core.proofs.Calls.{node_of, name_step, named_by}
use Rattle.wac_graph_core.proofs.Below.{ReachBelow-same}
use Rattle.wac_graph_core.proofs.graph.CompositionGraph.set_node_name.Goals as goal

pub set_name-requires : goal.set_name-requires
set_name-requires c = subst (λ g. ContainsNode g c.args.node) (sym c.self.view_is) c.requires

pub invariant_of-self : goal.invariant_of-self
invariant_of-self c =
    let n = node_of (graph c.self.inside) c.args.node (subst (λ g. ContainsNode g c.args.node) (sym c.self.view_is) c.requires) in (
      named_by (graph c.self.inside) c.set_name.new.self c.args.node n.0 c.args.name.now n.1
          (c.set_name.ensures n.0 n.1 ∙ ap (λ m. map.insert c.self.inside.nodes c.args.node (record n.0 { name = Some m })) (c.new-own.ensures ∙ c.in_ok-from_str.ensures.ok)) c.self.invariant.0,
      ReachBelow-same c.self.inside.types c.self.inside.nodes c.set_name.new.self c.self.inside.defined_below c.args.node n.0 (record n.0 { name = Some c.args.name.now }) n.1 refl refl
          (c.set_name.ensures n.0 n.1 ∙ ap (λ m. map.insert c.self.inside.nodes c.args.node (record n.0 { name = Some m })) (c.new-own.ensures ∙ c.in_ok-from_str.ensures.ok))
          c.self.invariant.1,
    )

pub returns-clause-named : goal.returns-clause-named
returns-clause-named c =
    let n = node_of (graph c.self.inside) c.args.node (subst (λ g. ContainsNode g c.args.node) (sym c.self.view_is) c.requires) in
    subst (λ g. Names g (record (graph c.self.inside) { nodes = c.set_name.new.self }) c.args.node c.args.name.now) c.self.view_is
    (name_step (graph c.self.inside) c.set_name.new.self c.args.node n.0 c.args.name.now n.1
    (c.set_name.ensures n.0 n.1 ∙ ap (λ m. map.insert c.self.inside.nodes c.args.node (record n.0 { name = Some m })) (c.new-own.ensures ∙ c.in_ok-from_str.ensures.ok)))
