use Rattle.std.proofs.Common.{subst}
use Rattle.wac_types_base.specs.Collection.{IsAcyclic}
use Rattle.wac_types_base.proofs.Adding.{Grows-refl}
use Rattle.wac_parser_declare.proofs.Values.{primitive_holds}
use Rattle.wac_parser_declare.proofs.value_types.primitive.Goals as goal

pub returns-clause-outcome : goal.returns-clause-outcome
returns-clause-outcome g c = primitive_holds (g.T.GrowingTypes.collection c.args.types.now) (subst IsAcyclic c.types.ensures c.see_acyclic.ensures) c.args.ty

pub returns-clause-grows : goal.returns-clause-grows
returns-clause-grows g c = Grows-refl (g.T.GrowingTypes.collection c.args.types.now) (subst IsAcyclic c.types.ensures c.see_acyclic.ensures)
