use Rattle.wac_runs.proofs.Runs.{runs}
use Rattle.wac_runs.proofs.runs_are_as_ascribed.Goals as goal

pub returns : goal.returns
returns c = runs
