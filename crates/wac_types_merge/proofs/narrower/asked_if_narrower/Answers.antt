use Rattle.std.proofs.Common.{ap}
use Rattle.wac_types_fit.specs.Errors.{steps_of}
use Rattle.wac_types_merge.proofs.narrower.asked_if_narrower.Goals as goal

pub returns-clause-refused : goal.returns-clause-refused
returns-clause-refused c = (c.requires.wider, c.in-Err-Mismatch.ensures.no _ (ap steps_of c.in-Err-Mismatch.field-0-is))
