use Rattle.wac_types_merge.proofs.Keeping.{if_ok, if_err, narrower_meet, outside_refused, clash_refused, leads_as, leads_nowhere}
use Rattle.wac_types_merge.proofs.imports.kept_of.Goals as goal

pub returns-in-Neither-clause-kept : goal.returns-in-Neither-clause-kept
returns-in-Neither-clause-kept c = if_ok c.narrower.result _ _ c.narrower.ensures.narrower (λ k h. narrower_meet c.args.own.now c.args.kept c.args.asked k c.requires.kept c.requires.asked h)

pub returns-in-Neither-clause-narrower : goal.returns-in-Neither-clause-narrower
returns-in-Neither-clause-narrower c = if_ok c.narrower.result _ _ c.narrower.ensures.narrower (λ k h e. h)

pub returns-in-Neither-clause-refused : goal.returns-in-Neither-clause-refused
returns-in-Neither-clause-refused c = if_err c.narrower.result _ _ c.narrower.ensures.refused (λ e h. outside_refused c.args.own.now c.args.family c.args.kept c.args.asked e c.in-Neither.is h)

pub returns-in-Err-clause-refused : goal.returns-in-Err-clause-refused
returns-in-Err-clause-refused c =
    clash_refused c.args.own.now c.args.family c.args.kept c.args.asked c.in-Err.fault c.incompatible.result c.in_default.not-Neither c.in-Err.ensures.clash c.incompatible.ensures.refused

pub returns-in-Ok-clause-narrower : goal.returns-in-Ok-clause-narrower
returns-in-Ok-clause-narrower c e = absurd (c.in_default.not-Neither e)

pub returns-in-Neither-clause-united : goal.returns-in-Neither-clause-united
returns-in-Neither-clause-united c = if_ok c.narrower.result _ _ c.narrower.ensures.narrower (λ k h other. absurd (other c.in-Neither.is))

pub returns-in-Ok-clause-united : goal.returns-in-Ok-clause-united
returns-in-Ok-clause-united c other = c.in-Ok.ensures.united

pub returns-in-Neither-clause-frames : goal.returns-in-Neither-clause-frames
returns-in-Neither-clause-frames c = if_err c.narrower.result _ _ c.narrower.ensures.refused (λ e h. leads_nowhere e _ _ _ h)

pub returns-in-Err-clause-frames : goal.returns-in-Err-clause-frames
returns-in-Err-clause-frames c = leads_as c.incompatible.result _ _ c.incompatible.ensures.frames (λ ss e. c.in-Err.ensures.frames ss e)
