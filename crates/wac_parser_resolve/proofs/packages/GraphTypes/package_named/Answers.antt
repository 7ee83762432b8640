use Rattle.std.proofs.Common.{subst}
use Rattle.wac_types_base.specs.Collection.{IsAcyclic}
use Rattle.wac_parser_resolve.proofs.Keeping.{Keeps-refl}
use Rattle.wac_parser_resolve.proofs.packages.GraphTypes.package_named.Goals as goal

pub returns-in_err-greatest_on-in-Some-clause-keeps : goal.returns-in_err-greatest_on-in-Some-clause-keeps
returns-in_err-greatest_on-in-Some-clause-keeps c = Keeps-refl c.args.self.now.graph (subst IsAcyclic c.types.ensures c.see_acyclic.ensures)

pub returns-in-None-2-clause-keeps : goal.returns-in-None-2-clause-keeps
returns-in-None-2-clause-keeps c = Keeps-refl c.args.self.now.graph (subst IsAcyclic c.types.ensures c.see_acyclic.ensures)
