use Rattle.std.proofs.lemmas.Result.{err_from_is_err_and}
use Rattle.wac_types_fit.specs.Trees.{tree_in}
use Rattle.wac_types_fit.proofs.Meeting.{meet_narrower}
use Rattle.wac_types_fit.proofs.Ordering.{named_in_order}
use Rattle.wac_types_merge.proofs.cycle.unmerged.Goals as goal

pub returns-clause-met : goal.returns-clause-met
returns-clause-met c = record {
  stands = c.requires.kept;
  meet = meet_narrower (tree_in c.args.own.now c.args.a) (tree_in c.args.own.now c.args.b) (named_in_order c.args.own.now c.args.a) c.in_ok-fits_in.ensures.yes;
}

pub returns-in_err-fits_in-clause-clash : goal.returns-in_err-fits_in-clause-clash
returns-in_err-fits_in-clause-clash c =
    let p = err_from_is_err_and c.from_residual.result c.from_residual.ensures.1 in
    rw (p.1, p.2) (λ ss e. c.requires.apart (c.in_err-fits_in.ensures.no ss e))

pub returns-in_err-fits_in-clause-frames : goal.returns-in_err-fits_in-clause-frames
returns-in_err-fits_in-clause-frames c =
    let p = err_from_is_err_and c.from_residual.result c.from_residual.ensures.1 in
    rw (p.1, p.2) c.in_err-fits_in.ensures.frames
