use Rattle.std.proofs.Common.{None, subst, sym, inl, ◌∙◌}
use Rattle.wac_types_base.specs.Record.{Collection}
use Rattle.wac_parser_resolve.specs.InTargets.{IsTold, asked_in, import_test}
use Rattle.wac_parser_resolve.proofs.Meeting.{filled_asked, filled_passed, passed_is}
use Rattle.wac_parser_resolve.proofs.targets.Target.filled_one.Goals as goal

pub returns-then-is_passed-clause-ok : goal.returns-then-is_passed-clause-ok
returns-then-is_passed-clause-ok c = inl (passed_is c.args.graph.now c.args.instance c.args.name.now (sym c.is_passed.ensures ∙ c.if-is_passed.true))

pub returns-then-is_passed-clause-outcome : goal.returns-then-is_passed-clause-outcome
returns-then-is_passed-clause-outcome c =
    filled_passed c.args.self.now c.args.graph.now c.args.instance c.args.name.now c.args.kind c.is_passed.result c.is_passed.ensures c.if-is_passed.true

pub returns-clause-outcome : goal.returns-clause-outcome
returns-clause-outcome c =
    filled_asked c.args.self.now c.args.graph.now c.args.instance c.args.name.now c.args.kind c.is_passed.result c.import_met.result c.is_passed.ensures c.if-is_passed.false
    (subst (λ (x : Collection). IsTold (import_test c.args.self.now x (asked_in x c.args.name.now c.args.kind None)) c.import_met.result) c.types.ensures c.import_met.ensures.outcome)
