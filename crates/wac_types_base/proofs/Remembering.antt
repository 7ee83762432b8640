-- A copier, when the collection into which it copies grows.
use Rattle.std.proofs.Common.{sym}
use Rattle.wac_types_base.specs.declared.copy.Copier.{Copier}
use Rattle.wac_types_base.specs.Record.{Collection}
use Rattle.wac_types_base.specs.Collection.{Grows}
use Rattle.wac_types_base.specs.Remembering.{HasCopied}
use Rattle.wac_types_base.proofs.Copying.{AreCopies-kept}

pub HasCopied-kept : (c d e : Collection) (x : Copier) → Grows d e → HasCopied c d x → HasCopied c e x
unfolding HasCopied
HasCopied-kept c d e x g = AreCopies-kept c d e x.copies g (sym g.number)
