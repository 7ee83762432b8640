use Rattle.wac_composition.proofs.NameLaws.{compatible_is, later_is}
use Rattle.wac_composition.proofs.NamesBack.{is_compatible, later_on_track}
use Rattle.wac_composition.proofs.names_are_compatible.Goals as goal

pub returns : goal.returns
returns c = record { compatible = λ m n. (compatible_is m n, is_compatible m n); later = λ m n. (later_is m n, later_on_track m n) }
