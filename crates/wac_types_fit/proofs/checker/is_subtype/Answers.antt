use Rattle.wac_types_fit.specs.Errors.{steps}
use Rattle.std.proofs.Common.{ap}
use Rattle.wac_types_fit.specs.Errors.{steps_of}
use Rattle.wac_types_fit.proofs.checker.is_subtype.Goals as goal

pub returns : goal.returns
returns c =
    let frames = steps c.in-Err-Mismatch.field-0-0.items in
    let no = c.in-Err-Mismatch.ensures.no frames (ap steps_of c.in-Err-Mismatch.field-0-is) in
    (λ h. absurd (cc h), λ fit. absurd (no fit))
