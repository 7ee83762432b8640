use Rattle.wac_types_fit.specs.Trees.{tree_in}
use Rattle.wac_types_fit.proofs.Checks.{same_fit}
use Rattle.wac_types_fit.proofs.ItemKinds.{flat_disagree}
use Rattle.wac_types_fit.proofs.ValueTrees.{not_both}
use Rattle.wac_types_fit.proofs.check.alike.Goals as goal

pub differ-requires-clause-apart : goal.differ-requires-clause-apart
differ-requires-clause-apart c =
    flat_disagree c.args.sides.given.now c.args.sides.asked.now c.see_acyclic.ensures c.args.a c.args.b c.requires.flat c.requires.given (λ e. not_both c.args.same c.if-same.false (c.requires.tested.1 e))

pub returns-then-same-clause-yes : goal.returns-then-same-clause-yes
returns-then-same-clause-yes c = same_fit (tree_in c.args.sides.given.now c.args.a) (tree_in c.args.sides.asked.now c.args.b) (c.requires.tested.0 c.if-same.true)
