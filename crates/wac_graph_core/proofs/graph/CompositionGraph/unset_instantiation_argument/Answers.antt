use Rattle.std.proofs.Common.{◌≢◌, sym, subst}
use Rattle.wac_types_base.specs.Graph.{Among}
use Rattle.wac_graph_core.specs.Edges.{AreEdges, argument_edge}
use Rattle.std.proofs.lemmas.Result.{err_from_is_err_and}
use Rattle.wac_graph_core.specs.Graph.{IsArgument}
use Rattle.wac_graph_core.specs.Steps.{UnsetsArgument}
use Rattle.wac_graph_core.specs.View.{graph}
use Rattle.wac_graph_core.proofs.GraphSteps.{IsGraph-unset}
use Rattle.wac_graph_core.proofs.Calls.{unset_step}
use Rattle.wac_graph_core.proofs.graph.CompositionGraph.unset_instantiation_argument.Goals as goal

pub invariant_of-self : goal.invariant_of-self
invariant_of-self c = (
  IsGraph-unset (graph c.self.inside) c.remove_argument.new.self c.args.argument c.args.instantiation c.args.name.now (subst (λ n. AreEdges c.remove_argument.new.self (λ d. Among d c.self.inside.edges × (d ≢ argument_edge c.args.argument c.args.instantiation n))) c.in_ok-own.ensures.ok c.remove_argument.ensures) c.self.invariant.0,
  c.self.invariant.1,
)

pub returns-in_err-argument_item-clause-refused : goal.returns-in_err-argument_item-clause-refused
returns-in_err-argument_item-clause-refused c =
    let p = err_from_is_err_and c.from_residual.result c.from_residual.ensures.1 in
    rw (p.1, p.2) c.in_err-argument_item.ensures.lacks

pub returns-clause-unset : goal.returns-clause-unset
returns-clause-unset c =
    subst (λ g. UnsetsArgument g (record (graph c.self.inside) { edges = c.remove_argument.new.self }) c.args.instantiation c.args.name.now c.args.argument) c.self.view_is
    (unset_step (graph c.self.inside) c.remove_argument.new.self c.args.argument c.args.instantiation c.args.name.now c.in_ok-argument_item.field-0 (subst (λ n. AreEdges c.remove_argument.new.self (λ d. Among d c.self.inside.edges × (d ≢ argument_edge c.args.argument c.args.instantiation n))) c.in_ok-own.ensures.ok c.remove_argument.ensures)
    (subst (λ g. IsArgument g c.args.instantiation c.args.name.now c.in_ok-argument_item.field-0) (sym c.self.view_is) c.in_ok-argument_item.ensures.found))
