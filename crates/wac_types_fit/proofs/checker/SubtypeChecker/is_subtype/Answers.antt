use Rattle.wac_types_fit.specs.Trees.{tree_in}
use Rattle.wac_types_fit.proofs.Items.{disagree_no}
use Rattle.wac_types_fit.proofs.Ordering.{named_in_order}
use Rattle.std.proofs.Common.{refl}
use Rattle.wac_types_fit.specs.Words.{Called}
use Rattle.wac_types_fit.proofs.Worded.{called_under}
use Rattle.wac_types_fit.proofs.checker.SubtypeChecker.is_subtype.Goals as goal

pub returns-clause-no : goal.returns-clause-no
returns-clause-no c ss e f =
    disagree_no ss (tree_in c.args.at.now c.args.a) (tree_in c.args.bt.now c.args.b) (named_in_order c.args.at.now c.args.a) (named_in_order c.args.bt.now c.args.b) (c.fits.ensures.no ss e) f

pub returns-clause-words : goal.returns-clause-words
returns-clause-words c ss e f said =
    called_under c.args.self.now.directions _ (Called c.args.at.now c.args.a ss) (Called c.args.bt.now c.args.b ss) e f refl (c.fits.ensures.words ss e f said)
