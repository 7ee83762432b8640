use Rattle.std.proofs.Common.{◌<◌, length, sym, subst}
use Rattle.wac_types_base.proofs.Standing.{resource_found}
use Rattle.wac_types_base.proofs.types.Types.resource.Goals as goal

pub get-requires : goal.get-requires
get-requires c = subst (λ v. c.args.id.index < length v.resources) (sym c.self.view_is) (resource_found c.args.self.now c.args.id c.requires).within

pub returns-clause-own : goal.returns-clause-own
returns-clause-own c = (resource_found c.args.self.now c.args.id c.requires).own
