use Rattle.std.proofs.Common.{arith, refl}
use Rattle.wac_parser_refusals.proofs.Outcomes.{refused_outcome}
use Rattle.wac_parser_resolve.specs.Giving.{gives_of}
use Rattle.wac_parser_resolve.specs.InTargets.{all_pass, filled_test}
use Rattle.wac_parser_resolve.specs.Targeting.{IsFilledMet}
use Rattle.wac_parser_resolve.proofs.Meeting.{Passed, all_passed, next_passes, next_refused}
use Rattle.wac_parser_resolve.proofs.TargetMet.{below_next, below_all}
use Rattle.wac_parser_resolve.proofs.targets.Target.filled_met.Goals as goal
use Rattle.wac_types_base.proofs.Looked.{among-get}

pub filled_one-requires-clause-kind : goal.filled_one-requires-clause-kind
filled_one-requires-clause-kind c =
    c.requires.imports c.entry.result.0.now c.entry.result.1.now (among-get c.args.imports.now c.loop-at.at (c.entry.result.0.now, c.entry.result.1.now) c.entry.ensures)

pub loop-at-init : goal.loop-at-init
loop-at-init c = record { below = λ i h. absurd (omega (arith, h)); rest = refl }

pub loop-at-preserved : goal.loop-at-preserved
loop-at-preserved c = record {
  below = below_next (IsFilledMet c.args.graph.now (gives_of c.args.self.now) c.args.instance)
      c.args.imports.now c.loop-at.at c.entry.result.0.now c.entry.result.1.now c.entry.ensures c.loop-at.invariant.below c.in_ok-filled_one.ensures.ok;
  rest = next_passes (filled_test c.args.self.now c.args.graph.now c.args.instance) c.args.imports.now c.loop-at.at (c.entry.result.0.now, c.entry.result.1.now) c.entry.ensures c.loop-at.invariant.rest
      c.in_ok-filled_one.ensures.outcome;
}

pub returns-in_err-filled_one-clause-outcome : goal.returns-in_err-filled_one-clause-outcome
returns-in_err-filled_one-clause-outcome c =
    refused_outcome Passed (all_pass (filled_test c.args.self.now c.args.graph.now c.args.instance) c.args.imports.now) _ _ c.from_residual.ensures.1
    (next_refused (filled_test c.args.self.now c.args.graph.now c.args.instance) c.args.imports.now c.loop-at.at (c.entry.result.0.now, c.entry.result.1.now) c.entry.ensures c.loop-at.invariant.rest
    c.in_err-filled_one.field-0.0 c.in_err-filled_one.ensures.outcome)

pub returns-clause-ok : goal.returns-clause-ok
returns-clause-ok c =
    below_all (IsFilledMet c.args.graph.now (gives_of c.args.self.now) c.args.instance)
    c.args.imports.now c.loop-at.at (omega (arith, c.len-at-end.ensures.len, c.loop-at-test.false)) c.loop-at.invariant.below

pub returns-clause-outcome : goal.returns-clause-outcome
returns-clause-outcome c =
    all_passed (filled_test c.args.self.now c.args.graph.now c.args.instance) c.args.imports.now c.loop-at.at (omega (arith, c.len-at-end.ensures.len, c.loop-at-test.false)) c.loop-at.invariant.rest
