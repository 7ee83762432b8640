use Rattle.wac_composition.specs.Worlds.{used_world}
use Rattle.wac_composition.proofs.Unused.{without_same}
use Rattle.wac_composition.proofs.uses_change_no_tree.Goals as goal

pub returns : goal.returns
returns c s = record { types = without_same; worlds = λ x. without_same (used_world x) }
