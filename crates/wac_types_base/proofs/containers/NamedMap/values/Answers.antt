use Rattle.std.proofs.Common.{◌∙◌, ap}
use Rattle.wac_types_base.specs.Entries.{values_of}
use Rattle.wac_types_base.proofs.Looked.{values-entries}
use Rattle.wac_types_base.proofs.containers.NamedMap.values.Goals as goal

pub returns : goal.returns
returns g c = c.as_slice.ensures ∙ c.values.ensures.rest ∙ values-entries c.self.inside.map.entries ∙ ap values_of c.self.view_is
