use Rattle.std.proofs.Common.{sym, subst}
use Rattle.wac_types_base.specs.Remembering.{HasCopied}
use Rattle.wac_types_base.proofs.Remembering.{HasCopied-kept}
use Rattle.wac_graph_encode.specs.Worlds.{AreCopies}
use Rattle.wac_graph_encode.proofs.copying.Copies.item.Goals as goal

pub returns-in_err-is_shared-clause-copies : goal.returns-in_err-is_shared-clause-copies
unfolding AreCopies
returns-in_err-is_shared-clause-copies c = subst (HasCopied c.args.from.now c.args.to.now) (sym c.is_shared.ensures) c.requires.copies

pub item-requires-clause-copies : goal.item-requires-clause-copies
unfolding AreCopies
item-requires-clause-copies c = subst (HasCopied c.args.from.now c.args.to.now) (sym c.is_shared.ensures) c.requires.copies

pub returns-then-branch-clause-copies : goal.returns-then-branch-clause-copies
unfolding AreCopies
returns-then-branch-clause-copies c = c.item.ensures.copies

pub returns-else-branch-clause-copies : goal.returns-else-branch-clause-copies
unfolding AreCopies
returns-else-branch-clause-copies c =
    subst (HasCopied c.args.from.now c.copy_item.new.to) (sym c.is_shared.ensures)
    (HasCopied-kept c.args.from.now c.args.to.now c.copy_item.new.to c.args.self.now.copier c.copy_item.ensures.grows c.requires.copies)
