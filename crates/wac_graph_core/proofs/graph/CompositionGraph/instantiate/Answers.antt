use Rattle.std.proofs.Common.{Some, ap, ◌∙◌, subst}
use Rattle.wac_types_base.specs.declared.item.ItemKind.{ItemKind}
use Rattle.wac_graph_core.specs.Nodes.{NodeData, Role, plain_node}
use Rattle.wac_graph_core.specs.Graph.{package_of}
use Rattle.wac_graph_core.specs.Steps.{Instantiates}
use Rattle.wac_graph_core.specs.View.{graph}
use Rattle.wac_graph_core.proofs.GraphSteps.{instance_by}
use Rattle.wac_graph_core.proofs.Calls.{instance_step}
use Rattle.wac_graph_core.proofs.Below.{ReachBelow-other}
use Rattle.wac_graph_core.proofs.graph.CompositionGraph.instantiate.Goals as goal

pub invariant_of-self-2 : goal.invariant_of-self-2
invariant_of-self-2 c = (
  instance_by (graph c.self.inside) c.insert.new.self c.in_ok-id.id c.args.«package» c.«package».result.now c.new-node.result c.in_ok-id.ensures.added
      (c.new-node.ensures ∙ ap (λ i. plain_node Role.Instance (Some c.args.«package») (ItemKind.Instance i)) c.instance_type-instance.ensures)
      c.in_ok-id.ensures.free (ap (λ g. package_of g c.args.«package») c.self.view_is ∙ c.«package».ensures) c.self.invariant.0,
  ReachBelow-other c.self.inside.types c.self.inside.nodes c.insert.new.self c.self.inside.defined_below c.in_ok-id.id c.new-node.result c.in_ok-id.ensures.added (λ role. absurd (cc (ap (λ (x : NodeData). x.role) c.new-node.ensures, role))) c.self.invariant.1,
)

pub returns-clause-instantiated : goal.returns-clause-instantiated
returns-clause-instantiated c =
    subst (λ g. Instantiates g (record (graph c.self.inside) { nodes = c.insert.new.self }) c.args.«package» c.in_ok-id.id) c.self.view_is
    (instance_step (graph c.self.inside) c.insert.new.self c.in_ok-id.id c.args.«package» c.«package».result.now c.new-node.result c.in_ok-id.ensures.added
    (c.new-node.ensures ∙ ap (λ i. plain_node Role.Instance (Some c.args.«package») (ItemKind.Instance i)) c.instance_type-instance.ensures)
    (ap (λ g. package_of g c.args.«package») c.self.view_is ∙ c.«package».ensures) c.in_ok-id.ensures.above)
