use Rattle.wac_merging.proofs.Taking.{asked_has_family, unnamed_has_none}
use Rattle.wac_merging.proofs.kept.family_asked.Goals as goal

pub returns-then-is_unnamed : goal.returns-then-is_unnamed
returns-then-is_unnamed c = λ well. unnamed_has_none c.args.types.now c.args.name.now c.args.item c.see_acyclic.ensures c.requires well (c.is_unnamed.ensures.yes c.if-is_unnamed.true)

pub returns-else-is_unnamed : goal.returns-else-is_unnamed
returns-else-is_unnamed c = λ well. asked_has_family c.args.types.now c.args.name.now c.args.item c.family_of.result c.see_acyclic.ensures c.requires well (c.is_unnamed.ensures.no c.if-is_unnamed.false) c.family_of.ensures
