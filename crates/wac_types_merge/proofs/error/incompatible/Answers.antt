use Rattle.std.proofs.Common.{refl, ap}
use Rattle.wac_types_fit.specs.Errors.{steps, steps_of}
use Rattle.wac_types_merge.proofs.error.incompatible.Goals as goal

pub returns-in-Mismatch-clause-frames : goal.returns-in-Mismatch-clause-frames
returns-in-Mismatch-clause-frames c = (steps c.in-Mismatch.frames.items, refl, ap steps_of c.in-Mismatch.is)
