use Rattle.std.proofs.Common.{◌∙◌, [], ap, subst}
use Rattle.wac_graph_core.specs.Ties.{AreFrom, dependants_in, dependants_at}
use Rattle.wac_graph_core.proofs.TiedEdges.{from_node}
use Rattle.wac_graph_core.proofs.edges.Edges.dependants_of.Goals as goal

pub returns-in-Some : goal.returns-in-Some
returns-in-Some c =
    subst (λ es. AreFrom es c.args.node c.as_slice-in-Some.result.now) c.self.view_is
    (from_node c.self.inside.ties.items c.args.node c.as_slice-in-Some.result.now (c.as_slice-in-Some.ensures.value ∙ ap dependants_in c.in-Some.ensures ∙ ap (λ l. dependants_at l c.args.node) c.as_slice.ensures.value))

pub returns-in-None : goal.returns-in-None
returns-in-None c =
    subst (λ es. AreFrom es c.args.node []) c.self.view_is
    (from_node c.self.inside.ties.items c.args.node [] (ap dependants_in c.in-None.ensures ∙ ap (λ l. dependants_at l c.args.node) c.as_slice.ensures.value))
