use Rattle.std.proofs.Common.{◌∙◌, ap}
use Rattle.wac_types_base.specs.Entries.{values_of}
use Rattle.wac_types_base.proofs.PairNames.{pair-values}
use Rattle.wac_types_base.proofs.core_types.CoreImports.values.Goals as goal

pub returns : goal.returns
returns c = c.as_slice.ensures ∙ c.values.ensures.rest ∙ pair-values c.self.inside.map.entries ∙ ap values_of c.self.view_is
