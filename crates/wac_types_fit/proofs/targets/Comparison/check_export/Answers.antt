use Rattle.std.proofs.Common.{sym, subst}
use Rattle.wac_types_base.specs.Collection.{Stands}
use Rattle.wac_types_fit.proofs.Reports.{promoted_stands}
use Rattle.wac_types_fit.proofs.targets.Comparison.check_export.Goals as goal

pub add_mismatch-requires-clause-asked : goal.add_mismatch-requires-clause-asked
add_mismatch-requires-clause-asked c = subst (Stands c.args.types.now) (sym c.promote.ensures.kind) (promoted_stands c.args.types.now c.args.asked.kind c.requires.asked)
