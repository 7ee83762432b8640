use Rattle.wac_types_fit.proofs.Ordering.{tree_in_order}
use Rattle.wac_composition.proofs.FitLaws.{fits_is}
use Rattle.wac_composition.proofs.FitBack.{fits_decides}
use Rattle.wac_composition.proofs.tests_of_fitting.Goals as goal

pub returns : goal.returns
returns c = record { ordered = tree_in_order; fitting = fits_decides; trees = fits_is }
