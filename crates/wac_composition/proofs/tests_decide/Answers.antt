use Rattle.wac_composition.proofs.TestLaws.{decides, labels_tell, trees_tell}
use Rattle.wac_composition.proofs.tests_decide.Goals as goal

pub returns : goal.returns
returns c = record { labels = decides labels_tell; trees = decides trees_tell }
