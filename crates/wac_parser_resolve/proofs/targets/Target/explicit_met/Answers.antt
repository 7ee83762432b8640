use Rattle.std.proofs.Common.{Some, subst}
use Rattle.wac_types_base.specs.Record.{Collection}
use Rattle.wac_parser_resolve.specs.InTargets.{IsTold, asked_in, import_test}
use Rattle.wac_parser_resolve.proofs.Meeting.{statement_is, statement_none}
use Rattle.wac_parser_resolve.proofs.targets.Target.explicit_met.Goals as goal

pub returns-in-Some-clause-outcome : goal.returns-in-Some-clause-outcome
returns-in-Some-clause-outcome c =
    statement_is c.args.self.now c.args.graph.now c.args.node c.args.span c.import_met.result c.in-Some.name.now c.item_of.result c.in-Some.ensures c.item_of.ensures.own
    (subst (λ (x : Collection). IsTold (import_test c.args.self.now x (asked_in x c.in-Some.name.now c.item_of.result (Some c.args.span))) c.import_met.result) c.types.ensures c.import_met.ensures.outcome)

pub returns-in-None-clause-outcome : goal.returns-in-None-clause-outcome
returns-in-None-clause-outcome c = statement_none c.args.self.now c.args.graph.now c.args.node c.args.span c.in-None.ensures
