use Rattle.std.proofs.Common.{◌≢◌, refl, subst}
use Rattle.std.specs.Prelude.{string_bytes}
use Rattle.wac_types_base.specs.Graph.{Among}
use Rattle.wac_graph_core.specs.declared.tie.Tie.{Tie}
use Rattle.wac_graph_core.specs.Edges.{AreEdges, argument_edge}
use Rattle.wac_graph_core.specs.Ties.{edges_in}
use Rattle.wac_graph_core.specs.TieSteps.{TakesArgument}
use Rattle.wac_graph_core.proofs.EdgeOps.{unset_edges, unset_tied, kept_edges, kept_tied}
use Rattle.wac_graph_core.proofs.edges.Edges.remove_argument.Goals as goal

pub invariant_of-self : goal.invariant_of-self
invariant_of-self c =
    let ts = c.self.inside.ties.items in
    let t2 = c.take_argument.new.ties.items in
    let n = string_bytes c.args.name in
    let took = subst (TakesArgument ts t2 c.args.instantiation n c.args.argument) c.if-take_argument.true c.take_argument.ensures in
    unset_tied ts t2 c.drop_argument.new.ties.items c.args.argument c.args.instantiation n (Tie.Argument c.args.instantiation n) refl took c.drop_argument.ensures c.self.invariant

pub invariant_of-self-else-take_argument : goal.invariant_of-self-else-take_argument
invariant_of-self-else-take_argument c =
    let ts = c.self.inside.ties.items in
    let t2 = c.take_argument.new.ties.items in
    let n = string_bytes c.args.name in
    let kept = subst (TakesArgument ts t2 c.args.instantiation n c.args.argument) c.if-take_argument.false c.take_argument.ensures in
    kept_tied ts t2 c.args.argument c.args.instantiation n kept c.self.invariant

pub returns-then-take_argument : goal.returns-then-take_argument
returns-then-take_argument c =
    let ts = c.self.inside.ties.items in
    let t2 = c.take_argument.new.ties.items in
    let n = string_bytes c.args.name in
    let took = subst (TakesArgument ts t2 c.args.instantiation n c.args.argument) c.if-take_argument.true c.take_argument.ensures in
    subst (λ es. AreEdges (edges_in c.drop_argument.new.ties.items) (λ d. Among d es × (d ≢ argument_edge c.args.argument c.args.instantiation n))) c.self.view_is
    (unset_edges ts t2 c.drop_argument.new.ties.items c.args.argument c.args.instantiation n (Tie.Argument c.args.instantiation n) refl took c.drop_argument.ensures)

pub returns-else-take_argument : goal.returns-else-take_argument
returns-else-take_argument c =
    let ts = c.self.inside.ties.items in
    let t2 = c.take_argument.new.ties.items in
    let n = string_bytes c.args.name in
    let kept = subst (TakesArgument ts t2 c.args.instantiation n c.args.argument) c.if-take_argument.false c.take_argument.ensures in
    subst (λ es. AreEdges (edges_in t2) (λ d. Among d es × (d ≢ argument_edge c.args.argument c.args.instantiation n))) c.self.view_is (kept_edges ts t2 c.args.argument c.args.instantiation n kept c.self.invariant)
