use Rattle.std.proofs.Common.{◌∙◌, ap}
use Rattle.wac_types_base.specs.Entries.{pairs_of, names_of}
use Rattle.wac_types_base.proofs.PairNames.{pair-names}
use Rattle.wac_types_base.proofs.core_types.CoreImports.names.Goals as goal

pub returns : goal.returns
returns c = ap pairs_of (c.as_slice.ensures ∙ c.keys.ensures.rest) ∙ pair-names c.self.inside.map.entries ∙ ap names_of c.self.view_is
