use Rattle.std.proofs.Common.{Option, map}
use Rattle.std.specs.Prelude.{option_map}
use Rattle.wac_types_base.specs.Stated.{Stated}
use Rattle.wac_parser_tree.specs.Views.{view_package_name, view_package_path, view_statement}
use Rattle.wac_parser_refusals.specs.Causes.{each, pure, ◌>>=◌}
use Rattle.wac_parser_refusals.proofs.Outcomes.{after_outcome, refused_outcome, then_refused}
use Rattle.wac_parser_resolve.specs.Ascribing.{State}
use Rattle.wac_parser_resolve.specs.InTargets.{HoldsDocument}
use Rattle.wac_parser_resolve.specs.Meeting as stated
use Rattle.wac_parser_resolve.specs.Said.{IsSaid}
use Rattle.wac_parser_resolve.specs.Saying.{statement}
use Rattle.wac_parser_resolve.proofs.MeetingStates.{held_some, target_said}
use Rattle.wac_parser_resolve.proofs.resolver.say_document.Goals as goal

pub maybe_target-requires-clause-said : goal.maybe_target-requires-clause-said
maybe_target-requires-clause-said c =
    let own = view_package_name c.args.document.now.directive.«package» in
    let s = c.requires.said in
    held_some (λ q u. IsSaid own c.say_statements.new.state q) (each statement s.0 (map view_statement c.args.document.now.statements.items)) tt (c.in_ok-say_statements.ensures.outcome s.0 s.1)

pub returns-clause-outcome : goal.returns-clause-outcome
returns-clause-outcome c s said =
    let own = c.args.document.now.directive.«package» in
    let o = option_map view_package_path c.args.document.now.directive.targets in
    after_outcome (λ (g : State). stated.target g o >>= λ (w : Option Stated). pure (g, w)) (λ q u. IsSaid (view_package_name own) c.say_statements.new.state q) (HoldsDocument own c.maybe_target.new.state)
    (each statement s (map view_statement c.args.document.now.statements.items)) tt c.maybe_target.result (c.in_ok-say_statements.ensures.outcome s said)
    (λ g h. target_said own c.maybe_target.new.state g (c.maybe_target.ensures.said (view_package_name own) g h) (stated.target g o) c.maybe_target.result (c.maybe_target.ensures.outcome g h))

pub returns-in_err-say_statements-clause-outcome : goal.returns-in_err-say_statements-clause-outcome
returns-in_err-say_statements-clause-outcome c s said =
    let own = c.args.document.now.directive.«package» in
    let o = option_map view_package_path c.args.document.now.directive.targets in
    let f : State → _ = λ (g : State). stated.target g o >>= λ (w : Option Stated). pure (g, w) in
    refused_outcome (HoldsDocument own c.say_statements.new.state) (each statement s (map view_statement c.args.document.now.statements.items) >>= f) _ _ c.from_residual.ensures.1
    (then_refused f (each statement s (map view_statement c.args.document.now.statements.items)) c.in_err-say_statements.field-0.0 (c.in_err-say_statements.ensures.outcome s said))
