use Rattle.std.proofs.Common.{None, ap, sym, ◌∙◌, subst}
use Rattle.wac_types_base.specs.Collection.{Stands}
use Rattle.wac_graph_core.specs.Nodes.{NodeData, Role, plain_node}
use Rattle.wac_graph_core.specs.Graph.{Graph}
use Rattle.wac_graph_core.specs.Steps.{Imports, IsExternName}
use Rattle.wac_graph_core.specs.NodeMaps.{NoImport}
use Rattle.wac_graph_core.specs.View.{graph}
use Rattle.wac_graph_core.proofs.GraphSteps.{import_by}
use Rattle.wac_graph_core.proofs.Calls.{import_step, refuted}
use Rattle.wac_graph_core.proofs.Below.{ReachBelow-other}
use Rattle.wac_graph_core.proofs.graph.CompositionGraph.import.Goals as goal

pub invariant_of-self-2 : goal.invariant_of-self-2
invariant_of-self-2 c = (
  import_by (graph c.self.inside) c.insert.new.self c.in_ok-id.id c.args.name.now c.args.kind c.new-node.result c.in_ok-id.ensures.added
      (c.new-node.ensures ∙ ap (λ n. plain_node (Role.Imported n) None c.args.kind) c.in_ok-own.ensures.ok)
      c.in_ok-id.ensures.free (subst (λ (g : Graph). Stands g.types c.args.kind) (sym c.self.view_is) c.requires) c.in_default.ensures.none c.self.invariant.0,
  ReachBelow-other c.self.inside.types c.self.inside.nodes c.insert.new.self c.self.inside.defined_below c.in_ok-id.id c.new-node.result c.in_ok-id.ensures.added (λ role. absurd (cc (ap (λ (x : NodeData). x.role) c.new-node.ensures, role))) c.self.invariant.1,
)

pub returns-clause-imported : goal.returns-clause-imported
returns-clause-imported c =
    subst (λ g. Imports g (record (graph c.self.inside) { nodes = c.insert.new.self }) c.args.name.now c.args.kind c.in_ok-id.id) c.self.view_is
    (import_step (graph c.self.inside) c.insert.new.self c.in_ok-id.id c.args.name.now c.args.kind c.new-node.result c.in_ok-id.ensures.added
    (c.new-node.ensures ∙ ap (λ n. plain_node (Role.Imported n) None c.args.kind) c.in_ok-own.ensures.ok)
    c.in_default.ensures.none (c.in_ok-valid.ensures.0 c.if-not-valid.false) c.in_ok-id.ensures.above)

pub returns-then-not-valid-clause-refused : goal.returns-then-not-valid-clause-refused
returns-then-not-valid-clause-refused c =
    (c.in_ok-own.ensures.ok, subst (λ (g : Graph). NoImport g.nodes c.args.name.now) c.self.view_is c.in_default.ensures.none, refuted c.in_ok-valid.valid (IsExternName c.args.name.now) c.in_ok-valid.ensures c.if-not-valid.true)
