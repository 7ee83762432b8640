use Rattle.std.proofs.Common.{ap}
use Rattle.wac_types_fit.specs.Errors.{steps_of}
use Rattle.wac_types_merge.proofs.narrower.narrower.Goals as goal

pub asked_if_narrower-requires-clause-wider : goal.asked_if_narrower-requires-clause-wider
asked_if_narrower-requires-clause-wider c = c.in-Err-Mismatch.ensures.no _ (ap steps_of c.in-Err-Mismatch.field-0-is)
