use Rattle.wac_graph_core.proofs.GraphSteps.{PackageStands-grown}
use Rattle.wac_graph_core.proofs.laws.packages_still_stand.Goals as goal

pub returns : goal.returns
returns c = λ old new p e is. PackageStands-grown old.types new.types p e.grows is
