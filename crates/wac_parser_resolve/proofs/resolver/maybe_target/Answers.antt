use Rattle.std.proofs.Common.{None, Option, Some, ap, subst, sym}
use Rattle.wac_parser_tree.specs.Trees as t
use Rattle.wac_parser_tree.specs.Views.{view_package_path}
use Rattle.wac_parser_refusals.specs.Outcomes.{IsHeld, IsRefusal}
use Rattle.wac_parser_refusals.proofs.Outcomes.{refused_outcome}
use Rattle.wac_parser_resolve.specs.InTargets.{HoldsTarget}
use Rattle.wac_parser_resolve.specs.Meeting as stated
use Rattle.std.specs.Prelude.{option_map}
use Rattle.wac_parser_resolve.proofs.Spreading.{held_to}
use Rattle.wac_parser_resolve.proofs.resolver.maybe_target.Goals as goal

pub returns-in_ok-target-in-Some-clause-outcome : goal.returns-in_ok-target-in-Some-clause-outcome
returns-in_ok-target-in-Some-clause-outcome c s said =
    let d = c.target.new.state.board.types.graph.types in
    subst (λ (o : Option t.PackagePath). IsHeld (HoldsTarget d) (stated.target s o) (Some c.in_ok-target-in-Some.field-0)) (sym (ap (option_map view_package_path) c.in-Some.is))
    (held_to (λ o id. HoldsTarget d o (Some id)) (HoldsTarget d) (stated.target s (Some (view_package_path c.in-Some.path))) c.in_ok-target-in-Some.field-0 (Some c.in_ok-target-in-Some.field-0)
    (c.in_ok-target-in-Some.ensures.outcome s said) (λ o h. h))

pub returns-in_err-target-in-Some-clause-outcome : goal.returns-in_err-target-in-Some-clause-outcome
returns-in_err-target-in-Some-clause-outcome c s said =
    refused_outcome (HoldsTarget c.target.new.state.board.types.graph.types) (stated.target s (option_map view_package_path c.args.directive.now.targets)) _ _ c.from_residual.ensures.1
    (subst (λ (o : Option t.PackagePath). IsRefusal (stated.target s o) c.in_err-target-in-Some.field-0.0) (sym (ap (option_map view_package_path) c.in-Some.is)) (c.in_err-target-in-Some.ensures.outcome s said))

pub returns-in-None-clause-outcome : goal.returns-in-None-clause-outcome
returns-in-None-clause-outcome c s said =
    subst (λ (o : Option t.PackagePath). IsHeld (HoldsTarget c.args.state.now.board.types.graph.types) (stated.target s o) None) (sym (ap (option_map view_package_path) c.in-None.is)) tt
