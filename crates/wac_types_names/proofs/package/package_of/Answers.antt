use Rattle.std.proofs.Common.{subst}
use Rattle.wac_types_base.specs.Collection.{IsAcyclic}
use Rattle.wac_types_base.proofs.Adding.{Grows-refl}
use Rattle.wac_types_names.proofs.package.package_of.Goals as goal

pub returns-in_err-interface-clause-grows : goal.returns-in_err-interface-clause-grows
returns-in_err-interface-clause-grows c = Grows-refl c.args.types.now.types.now (subst IsAcyclic c.types.ensures c.see_acyclic.ensures)

pub returns-in_err-definitions-clause-grows : goal.returns-in_err-definitions-clause-grows
returns-in_err-definitions-clause-grows c = Grows-refl c.args.types.now.types.now (subst IsAcyclic c.types.ensures c.see_acyclic.ensures)

pub returns-in_err-name-clause-grows : goal.returns-in_err-name-clause-grows
returns-in_err-name-clause-grows c = Grows-refl c.args.types.now.types.now (subst IsAcyclic c.types.ensures c.see_acyclic.ensures)

pub returns-in_err-version-clause-grows : goal.returns-in_err-version-clause-grows
returns-in_err-version-clause-grows c = Grows-refl c.args.types.now.types.now (subst IsAcyclic c.types.ensures c.see_acyclic.ensures)
