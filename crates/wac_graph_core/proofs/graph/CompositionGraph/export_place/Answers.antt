use Rattle.std.proofs.Common.{ap, sym, ◌∙◌}
use Rattle.wac_graph_core.specs.Graph.{Graph}
use Rattle.wac_graph_core.specs.Exporting.{place_of}
use Rattle.wac_graph_core.proofs.Calls.{told_by, told_none}
use Rattle.wac_graph_core.proofs.graph.CompositionGraph.export_place.Goals as goal

pub returns-in-Some : goal.returns-in-Some
returns-in-Some c =
    told_by c.args.self.now c.args.node c.node.result.now c.in-Some.name.now c.place_of.result c.see_sound.ensures c.node.ensures (sym c.in-Some.ensures)
    (c.place_of.ensures ∙ ap (λ (g : Graph). place_of g.exports c.in-Some.name.now) c.self.view_is)

pub returns-in-None : goal.returns-in-None
returns-in-None c = told_none c.args.self.now c.args.node c.node.result.now c.node.ensures (sym c.in-None.ensures)
