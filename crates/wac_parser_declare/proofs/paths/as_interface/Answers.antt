use Rattle.std.proofs.Common.{subst}
use Rattle.wac_types_base.specs.Entries.{Name}
use Rattle.wac_parser_refusals.specs.Causes.{NotInterface}
use Rattle.wac_parser_refusals.specs.Outcomes.{Refuses}
use Rattle.wac_parser_declare.proofs.Roots.{interface_found, interface_lacking}
use Rattle.wac_parser_declare.proofs.paths.as_interface.Goals as goal

pub returns-in-Some-clause-outcome : goal.returns-in-Some-clause-outcome
returns-in-Some-clause-outcome c =
    interface_found c.args.types.now c.see_acyclic.ensures c.args.path.now.string.now c.args.path.now.span c.args.kind c.requires c.interface_of.result c.interface_of.ensures.interface c.in-Some.id c.in-Some.is c.in-Some.ensures.same

pub returns-in-None-clause-outcome : goal.returns-in-None-clause-outcome
returns-in-None-clause-outcome c =
    interface_lacking c.args.types.now c.see_acyclic.ensures c.args.path.now.string.now c.args.path.now.span c.args.kind c.requires c.interface_of.result c.interface_of.ensures.interface c.not_interface.result c.in-None.is
    (subst (λ (w : Name). Refuses c.not_interface.result (NotInterface c.args.path.now.string.now w) c.args.path.now.span) c.desc.ensures c.not_interface.ensures)
