use Rattle.std.proofs.Common.{subst, sym}
use Rattle.wac_parser_tree.specs.declared.interface.UsePath.{UsePath}
use Rattle.wac_parser_tree.specs.Views.{view_use_path}
use Rattle.wac_parser_refusals.specs.Outcomes.{IsOutcome}
use Rattle.wac_parser_declare.specs.Bodies.{interface_at}
use Rattle.wac_parser_declare.specs.InUses.{AnInterface}
use Rattle.wac_parser_declare.specs.Scope.{use_path}
use Rattle.wac_parser_declare.proofs.paths.interface_at.Goals as goal

pub returns-in-Package-clause-outcome : goal.returns-in-Package-clause-outcome
returns-in-Package-clause-outcome g c x s =
    let d = g.T.GrowingTypes.collection c.package_interface.new.types in
    subst (λ (p : UsePath). IsOutcome (AnInterface d) (interface_at x (use_path (view_use_path p))) c.package_interface.result) (sym c.in-Package.is) (c.package_interface.ensures.outcome x s)

pub returns-in-Ident-clause-outcome : goal.returns-in-Ident-clause-outcome
returns-in-Ident-clause-outcome g c x s =
    let d = g.T.GrowingTypes.collection c.root_interface.new.types in
    subst (λ (p : UsePath). IsOutcome (AnInterface d) (interface_at x (use_path (view_use_path p))) c.root_interface.result) (sym c.in-Ident.is) (c.root_interface.ensures.outcome x s.root)
