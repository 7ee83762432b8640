-- The words of refusals.
use Rattle.std.specs.Prelude.{ℕ, List, Option, Some, None, codes}
use Rattle.wac_workspace.specs.declared.error.AddPackageError.{AddPackageError}
use Rattle.wac_workspace.specs.declared.error.ComposeError.{ComposeError}

-- of a package that is not added
abbrev pub adding_words : AddPackageError → List ℕ
adding_words AddPackageError.KeyTaken = codes "a package with this key is already there"
adding_words AddPackageError.BytesTaken = codes "these bytes are already there"
adding_words AddPackageError.NumbersExhausted = codes "collection numbers have run out"
adding_words AddPackageError.Memory = codes "out of memory"

-- of a source that is not composed; those of the faults of a document are not stated
abbrev pub composing_words : ComposeError → Option (List ℕ)
composing_words (ComposeError.Parse fault) = None
composing_words ComposeError.NumbersExhausted = Some (codes "collection numbers have run out")
composing_words (ComposeError.Resolution fault) = None
composing_words (ComposeError.Target report) = Some (codes "the output does not meet its target world")
composing_words ComposeError.KeyTaken = Some (codes "a package with this key is already there")
composing_words ComposeError.BytesTaken = Some (codes "these bytes are already there")
composing_words ComposeError.Memory = Some (codes "out of memory")
