use Rattle.std.proofs.Common.{ap, ◌∙◌}
use Rattle.wac_graph_core.specs.TypeMaps.{node_of}
use Rattle.wac_graph_core.proofs.type_map.TypeMap.get.Goals as goal

pub returns-in-Some : goal.returns-in-Some
returns-in-Some c = c.in-Some.ensures.value ∙ ap (λ l. node_of l c.args.ty) c.self.view_is

pub returns-in-None : goal.returns-in-None
returns-in-None c = c.in-None.ensures.value ∙ ap (λ l. node_of l c.args.ty) c.self.view_is
