-- What a copier has copied.
use Rattle.wac_types_base.specs.declared.copy.Copier.{Copier}
use Rattle.wac_types_base.specs.Record.{Collection}
use Rattle.wac_types_base.specs.Copies.{AreCopies}

-- what it remembers are copies in the second collection of what is in the first
unfoldable pub HasCopied : Collection → Collection → Copier → Type 0
HasCopied c d x = AreCopies c d x.copies
