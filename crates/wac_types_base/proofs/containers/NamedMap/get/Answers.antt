use Rattle.std.proofs.Common.{◌∙◌, ap}
use Rattle.wac_types_base.specs.Entries.{value_at}
use Rattle.wac_types_base.proofs.Looked.{looked}
use Rattle.wac_types_base.proofs.containers.NamedMap.get.Goals as goal

pub returns : goal.returns
returns g c = c.get.ensures.value ∙ looked c.args.name.now c.self.inside.map.entries ∙ ap (λ l. value_at l c.args.name.now) c.self.view_is
