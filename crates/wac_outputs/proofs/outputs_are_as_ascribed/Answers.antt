use Rattle.wac_outputs.proofs.Called.{carried}
use Rattle.wac_outputs.proofs.outputs_are_as_ascribed.Goals as goal

pub returns : goal.returns
returns c = carried
