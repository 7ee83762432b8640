use Rattle.std.proofs.Common.{ℕ, inl, refl, ap, sym, ◌∙◌, subst}
use Rattle.wac_types_base.specs.Collection.{Stands}
use Rattle.wac_graph_core.specs.declared.tie.Tie.{Tie}
use Rattle.wac_graph_core.specs.Edges.{alias_edge, HasAlias}
use Rattle.wac_graph_core.specs.Graph.{Graph, IsExport, IsStatedExport}
use Rattle.wac_graph_core.specs.Steps.{Aliases}
use Rattle.wac_graph_core.specs.View.{graph}
use Rattle.wac_graph_core.proofs.GraphSteps.{alias_by}
use Rattle.wac_graph_core.proofs.Calls.{alias_step}
use Rattle.wac_graph_core.specs.Nodes.{NodeData}
use Rattle.wac_graph_core.proofs.Below.{ReachBelow-other}
use Rattle.wac_graph_core.proofs.graph.CompositionGraph.alias_instance_export.Goals as goal

pub insert_alias-requires-clause-tie : goal.insert_alias-requires-clause-tie
insert_alias-requires-clause-tie c = ap Tie.Alias (c.in_ok-from_str.ensures ∙ sym c.in_ok-name.ensures)

pub insert_alias-requires-clause-stand : goal.insert_alias-requires-clause-stand
insert_alias-requires-clause-stand c = λ i k n m. (c.self.invariant.0.wired.edges (alias_edge i k n) m).to

pub insert_alias-requires-clause-none : goal.insert_alias-requires-clause-none
insert_alias-requires-clause-none c = subst (λ n. (k : ℕ) → HasAlias c.self.inside.edges c.args.instance n k → ⊥) (sym c.in_ok-name.ensures) (c.in_default.ensures.none c.args.export.now (ap Tie.Alias c.in_ok-from_str.ensures))

pub returns-in-Some-clause-aliased : goal.returns-in-Some-clause-aliased
returns-in-Some-clause-aliased c =
    let there = c.in-Some.ensures.found c.args.export.now (ap Tie.Alias c.in_ok-from_str.ensures) in
    inl (record { there = subst (λ (g : Graph). HasAlias g.edges c.args.instance c.args.export.now c.in-Some.alias) c.self.view_is there; same = refl })

pub invariant_of-self-2 : goal.invariant_of-self-2
invariant_of-self-2 c = (
  alias_by (graph c.self.inside) c.insert_alias.new.nodes c.insert_alias.new.edges c.args.instance c.in_ok-id.id c.args.export.now c.in_ok-item.item c.new-node.result (alias_edge c.args.instance c.in_ok-id.id c.in_ok-name.name)
      c.in_ok-id.ensures.nodes c.new-node.ensures
      c.in_ok-id.ensures.edges
      (ap (alias_edge c.args.instance c.in_ok-id.id) c.in_ok-name.ensures)
      c.in_ok-id.ensures.free
      (subst (λ g. IsStatedExport g c.args.instance c.args.export.now c.in_ok-item.item) (sym c.self.view_is) c.in_ok-item.ensures.stated)
      (subst (λ (g : Graph). Stands g.types c.in_ok-item.item) (sym c.self.view_is) c.in_ok-item.ensures.stands)
      (c.in_default.ensures.none c.args.export.now (ap Tie.Alias c.in_ok-from_str.ensures))
      c.self.invariant.0,
  ReachBelow-other c.self.inside.types c.self.inside.nodes c.insert_alias.new.nodes c.self.inside.defined_below c.in_ok-id.id c.new-node.result c.in_ok-id.ensures.nodes (λ role. absurd (cc (ap (λ (x : NodeData). x.role) c.new-node.ensures, role))) c.self.invariant.1,
)

pub returns-clause-aliased : goal.returns-clause-aliased
returns-clause-aliased c =
    subst (λ g. Aliases g (record (graph c.self.inside) { nodes = c.insert_alias.new.nodes; edges = c.insert_alias.new.edges }) c.args.instance c.args.export.now c.in_ok-id.id) c.self.view_is
    (alias_step (graph c.self.inside) c.insert_alias.new.nodes c.insert_alias.new.edges c.args.instance c.in_ok-id.id c.args.export.now c.in_ok-item.item c.new-node.result (alias_edge c.args.instance c.in_ok-id.id c.in_ok-name.name)
    c.in_ok-id.ensures.nodes c.new-node.ensures
    c.in_ok-id.ensures.edges
    (ap (alias_edge c.args.instance c.in_ok-id.id) c.in_ok-name.ensures)
    (c.in_default.ensures.none c.args.export.now (ap Tie.Alias c.in_ok-from_str.ensures))
    (subst (λ g. IsExport g c.args.instance c.args.export.now c.in_ok-item.item) (sym c.self.view_is) c.in_ok-item.ensures.found)
    c.in_ok-id.ensures.above)
