use Rattle.wac_composition.proofs.NotFound.{written_decides, package_decides_of}
use Rattle.wac_composition.proofs.test_of_writing.Goals as goal

pub returns-clause-items : goal.returns-clause-items
returns-clause-items c = written_decides

pub returns-clause-packages : goal.returns-clause-packages
returns-clause-packages c = package_decides_of
