use Rattle.std.proofs.Common.{◌<◌, length, sym, subst}
use Rattle.wac_types_base.proofs.Standing.{defined_found}
use Rattle.wac_types_base.proofs.types.Types.defined_type.Goals as goal

pub get-requires : goal.get-requires
get-requires c = subst (λ v. c.args.id.index < length v.defined_types) (sym c.self.view_is) (defined_found c.args.self.now c.args.id c.requires).within

pub returns-clause-own : goal.returns-clause-own
returns-clause-own c = (defined_found c.args.self.now c.args.id c.requires).own
