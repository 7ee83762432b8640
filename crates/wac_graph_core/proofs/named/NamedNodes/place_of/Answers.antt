use Rattle.std.proofs.Common.{◌∙◌, ap}
use Rattle.wac_graph_core.specs.Named.{Named}
use Rattle.wac_graph_core.specs.Exporting.{place_of}
use Rattle.wac_graph_core.proofs.NamedLists.{name_place}
use Rattle.wac_graph_core.proofs.named.NamedNodes.place_of.Goals as goal

pub returns : goal.returns
returns c = c.get_index_of.ensures.index ∙ name_place c.args.name.now c.self.inside.map.entries ∙ ap (λ (v : Named). place_of v.items c.args.name.now) c.self.view_is
