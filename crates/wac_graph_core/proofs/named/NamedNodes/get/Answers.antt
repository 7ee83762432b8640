use Rattle.std.proofs.Common.{◌∙◌, ap}
use Rattle.wac_types_base.specs.Entries.{value_at}
use Rattle.wac_types_base.proofs.Looked.{looked}
use Rattle.wac_graph_core.specs.Named.{Named}
use Rattle.wac_graph_core.proofs.named.NamedNodes.get.Goals as goal

pub returns : goal.returns
returns c = c.copied.ensures ∙ c.get.ensures.value ∙ looked c.args.name.now c.self.inside.map.entries ∙ ap (λ (v : Named). value_at v.items c.args.name.now) c.self.view_is
