use Rattle.std.proofs.Common.{sym, subst}
use Rattle.wac_types_base.specs.Collection.{Stands}
use Rattle.wac_types_fit.specs.TargetSteps.{KindStands}
use Rattle.wac_types_fit.proofs.Reports.{promoted_stands}
use Rattle.wac_types_fit.proofs.targets.Comparison.check_import.Goals as goal

pub add_mismatch-requires-clause-given : goal.add_mismatch-requires-clause-given
add_mismatch-requires-clause-given c = let s : Stands c.args.types.now c.in-Some.given = subst (KindStands c.args.types.now) c.in-Some.is c.requires.given in subst (Stands c.args.types.now) (sym c.promote-given.ensures.kind) (promoted_stands c.args.types.now c.in-Some.given s)
