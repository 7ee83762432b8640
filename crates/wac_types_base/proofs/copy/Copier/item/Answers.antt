use Rattle.std.proofs.Common.{sym, subst}
use Rattle.wac_types_base.specs.Copying.{IsCopy}
use Rattle.wac_types_base.specs.Remembering.{HasCopied}
use Rattle.wac_types_base.proofs.Copying.{kind_copied}
use Rattle.wac_types_base.proofs.copy.Copier.item.Goals as goal

pub copy_below-requires-clause-copies : goal.copy_below-requires-clause-copies
unfolding HasCopied
copy_below-requires-clause-copies c = c.requires.copies

pub returns-clause-copied : goal.returns-clause-copied
returns-clause-copied c =
    subst (λ k. IsCopy c.args.from.now c.copy_below.new.to c.args.kind k) (sym c.kind.ensures)
    (kind_copied c.args.from.now c.copy_below.new.to c.copy_below.new.copies c.see_acyclic-2.ensures c.copy_below.ensures.grows.acyclic c.copy_below.ensures.copies c.args.kind c.requires.stands c.in_ok-copy_below.ensures.known)

pub returns-clause-copies : goal.returns-clause-copies
unfolding HasCopied
returns-clause-copies c = c.copy_below.ensures.copies

pub returns-in_err-copy_below-clause-copies : goal.returns-in_err-copy_below-clause-copies
unfolding HasCopied
returns-in_err-copy_below-clause-copies c = c.copy_below.ensures.copies
