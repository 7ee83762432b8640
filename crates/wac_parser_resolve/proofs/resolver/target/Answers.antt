use Rattle.std.proofs.Common.{Some}
use Rattle.wac_parser_tree.specs.Views.{view_package_name, view_package_path}
use Rattle.wac_parser_refusals.proofs.Outcomes.{refused_outcome}
use Rattle.wac_parser_resolve.specs.InTargets.{HoldsTarget}
use Rattle.wac_parser_resolve.specs.Meeting as stated
use Rattle.wac_parser_resolve.proofs.MeetingStates.{said_noted, said_standing, target_held, target_unmet, target_unnamed}
use Rattle.wac_parser_resolve.proofs.resolver.target.Goals as goal

pub state_met-requires-clause-noted : goal.state_met-requires-clause-noted
state_met-requires-clause-noted c =
    let own = view_package_name c.args.directive.now.«package» in
    let s = c.requires.said in
    said_standing own c.target_world.new.state s.0 (c.in_ok-world.ensures.said own s.0 s.1)

pub returns-clause-world : goal.returns-clause-world
returns-clause-world c =
    let own = view_package_name c.args.directive.now.«package» in
    let s = c.requires.said in
    (c.in_ok-world.ensures.world, c.in_ok-state_met.ensures.ok (said_noted own c.target_world.new.state s.0 (c.in_ok-world.ensures.said own s.0 s.1)))

pub returns-clause-said : goal.returns-clause-said
returns-clause-said c = c.in_ok-world.ensures.said

pub returns-clause-outcome : goal.returns-clause-outcome
returns-clause-outcome c s said =
    let own = view_package_name c.args.directive.now.«package» in
    target_held own c.target_world.new.state s (c.in_ok-world.ensures.said own s said) c.args.path.now c.in_ok-world.world (c.in_ok-world.ensures.outcome s said) c.in_ok-state_met.ensures.outcome

pub returns-in_err-world-clause-outcome : goal.returns-in_err-world-clause-outcome
returns-in_err-world-clause-outcome c s said =
    refused_outcome (λ o id. HoldsTarget c.target_world.new.state.board.types.graph.types o (Some id)) (stated.target s (Some (view_package_path c.args.path.now))) _ _ c.from_residual.ensures.1
    (target_unnamed s (view_package_path c.args.path.now) c.in_err-world.field-0.0 (c.in_err-world.ensures.outcome s said))

pub returns-in_err-state_met-clause-outcome : goal.returns-in_err-state_met-clause-outcome
returns-in_err-state_met-clause-outcome c s said =
    let own = view_package_name c.args.directive.now.«package» in
    refused_outcome (λ o id. HoldsTarget c.target_world.new.state.board.types.graph.types o (Some id)) (stated.target s (Some (view_package_path c.args.path.now))) _ _ c.from_residual-in_err-state_met.ensures.1
    (target_unmet own c.target_world.new.state s (c.in_ok-world.ensures.said own s said) c.args.path.now c.in_ok-world.world c.in_err-state_met.field-0.0 (c.in_ok-world.ensures.outcome s said)
    c.in_err-state_met.ensures.outcome)
