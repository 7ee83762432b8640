use Rattle.std.proofs.Common.{subst}
use Rattle.wac_parser_resolve.specs.InTargets.{TellsMismatch, turned_by}
use Rattle.wac_parser_resolve.proofs.Meeting.{fit_held, fit_is, fit_refused}
use Rattle.wac_parser_resolve.proofs.targets.Target.fits.Goals as goal

pub returns-in-None-clause-ok : goal.returns-in-None-clause-ok
returns-in-None-clause-ok c =
    let way = turned_by c.is_turned.result in
    fit_is way c.args.types.now c.args.given c.args.asked (subst (TellsMismatch way c.args.types.now c.args.given c.args.asked) c.in-None.is c.in_ok-mismatch.ensures)

pub returns-in-None-clause-outcome : goal.returns-in-None-clause-outcome
returns-in-None-clause-outcome c =
    let way = turned_by c.is_turned.result in
    fit_held c.args.self.now c.args.types.now c.args.given c.args.asked c.args.place way
    (subst (TellsMismatch way c.args.types.now c.args.given c.args.asked) c.in-None.is c.in_ok-mismatch.ensures)

pub returns-in_ok-mismatched-in-Some-clause-outcome : goal.returns-in_ok-mismatched-in-Some-clause-outcome
returns-in_ok-mismatched-in-Some-clause-outcome c =
    let way = turned_by c.is_turned.result in
    fit_refused c.args.self.now c.args.types.now c.args.given c.args.asked c.args.place way c.in-Some.source c.in_ok-mismatched-in-Some.field-0 c.is_turned.ensures
    (subst (TellsMismatch way c.args.types.now c.args.given c.args.asked) c.in-Some.is c.in_ok-mismatch.ensures) c.in_ok-mismatched-in-Some.ensures
