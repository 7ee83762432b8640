use Rattle.std.proofs.Common.{subst}
use Rattle.wac_types_base.specs.Graph.{Among}
use Rattle.wac_graph_core.specs.Edges.{AreEdges, Stays}
use Rattle.wac_graph_core.specs.Ties.{edges_in}
use Rattle.wac_graph_core.proofs.Placing.{left_edges}
use Rattle.wac_graph_core.proofs.EdgeOps.{all_left}
use Rattle.wac_graph_core.proofs.edges.Edges.retain_apart.Goals as goal

pub invariant_of-self : goal.invariant_of-self
invariant_of-self c = all_left c.args.gone.now c.self.inside.ties.items c.leave_all.new.ties.items c.leave_all.ensures c.self.invariant

pub returns : goal.returns
returns c =
    subst (λ es. AreEdges (edges_in c.leave_all.new.ties.items) (λ d. Among d es × (Stays c.args.gone.now d.from × Stays c.args.gone.now d.to))) c.self.view_is
    (left_edges c.args.gone.now c.self.inside.ties.items c.leave_all.new.ties.items c.leave_all.ensures)
