use Rattle.std.proofs.Common.{[], Some, ap, ◌∙◌}
use Rattle.wac_types_base.specs.Stated.{stated_of, desc}
use Rattle.wac_types_fit.specs.Errors.{words_of}
use Rattle.wac_types_fit.specs.Words.{Called, itself, in_turn}
use Rattle.wac_types_fit.proofs.Worded.{called_here}
use Rattle.wac_types_fit.proofs.check.differ.Goals as goal

pub returns-clause-words : goal.returns-clause-words
returns-clause-words c ss e f said =
    let g = desc (stated_of c.args.sides.given.now c.args.a) in
    let a = desc (stated_of c.args.sides.asked.now c.args.b) in
    called_here c.args.sides.turned (Called c.args.sides.given.now c.args.a) (Called c.args.sides.asked.now c.args.b) (words_of c.mismatch.result) (Some g) (Some a)
    (c.mismatch.ensures.words ∙ ap (λ d. Some ([], in_turn c.args.sides.turned (Some d) (Some c.desc.result.now))) c.desc-2.ensures ∙ ap (λ d. Some ([], in_turn c.args.sides.turned (Some a) (Some d))) c.desc.ensures)
    (itself c.args.a) (itself c.args.b) ss e f said
