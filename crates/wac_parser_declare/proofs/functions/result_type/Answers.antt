use Rattle.std.proofs.Common.{subst, sym}
use Rattle.wac_parser_tree.specs.declared.value_type.ResultList.{ResultList}
use Rattle.wac_parser_tree.specs.Views.{view_result_list}
use Rattle.wac_parser_refusals.specs.Outcomes.{IsHeld, IsOutcome}
use Rattle.wac_parser_declare.specs.Declarations.{result_of}
use Rattle.wac_parser_declare.specs.Holding.{IsValueIf, scope_of, stated_if}
use Rattle.wac_parser_declare.proofs.Members.{given_held}
use Rattle.wac_parser_declare.proofs.functions.result_type.Goals as goal

pub returns-in-Empty-clause-outcome : goal.returns-in-Empty-clause-outcome
returns-in-Empty-clause-outcome g c =
    let old = g.T.GrowingTypes.collection c.args.types.now in
    subst (λ (rs : ResultList). IsHeld (IsValueIf old) (result_of (scope_of old c.args.names.now) (stated_if old c.args.given) (view_result_list rs)) c.args.given) (sym c.in-Empty.is)
    (given_held old c.args.given c.requires.given)

pub returns-in-Scalar-clause-outcome : goal.returns-in-Scalar-clause-outcome
returns-in-Scalar-clause-outcome g c =
    let old = g.T.GrowingTypes.collection c.args.types.now in
    let new = g.T.GrowingTypes.collection c.scalar_result.new.types in
    subst (λ (rs : ResultList). IsOutcome (IsValueIf new) (result_of (scope_of old c.args.names.now) (stated_if old c.args.given) (view_result_list rs)) c.scalar_result.result) (sym c.in-Scalar.is)
    c.scalar_result.ensures.outcome
