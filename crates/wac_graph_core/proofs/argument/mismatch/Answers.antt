use Rattle.std.proofs.Common.{ap, refl, subst, ◌∙◌}
use Rattle.wac_types_fit.specs.Errors.{steps, steps_of, words_of}
use Rattle.wac_types_fit.specs.Words.{Called, CalledUnder}
use Rattle.wac_types_fit.specs.Directions.{direction_of}
use Rattle.wac_graph_core.proofs.argument.mismatch.Goals as goal

pub returns : goal.returns
returns c =
    let e = ap steps_of c.in-Err-Mismatch.field-0-is in
    record {
      steps = steps c.in-Err-Mismatch.frames.items;
      are = refl;
      disagree = c.in-Err-Mismatch.ensures.frames (steps c.in-Err-Mismatch.frames.items) e;
      words = λ x y h.
          subst (λ n. CalledUnder (direction_of n) (Called c.args.given_types.now c.args.given (steps c.in-Err-Mismatch.frames.items)) (Called c.args.types.now c.args.asked (steps c.in-Err-Mismatch.frames.items)) x y) c.new-checker.ensures.none
          (c.in-Err-Mismatch.ensures.words (steps c.in-Err-Mismatch.frames.items) x y (ap words_of c.in-Err-Mismatch.field-0-is ∙ h));
      differ = c.in-Err-Mismatch.ensures.no (steps c.in-Err-Mismatch.frames.items) e;
    }
