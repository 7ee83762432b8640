-- What reading a source does to its reader, and why a source is not read.
use Rattle.std.specs.Prelude.{◌≡◌, ◌<◌, ◌⊎◌, ◌++◌, ℕ, List, Option, Result, IfSome, IsErrOf, length}
use Rattle.std.specs.Io.KnownBytes.{Consumes, IsAtEnd}
use Rattle.wac_workspace.specs.declared.error.StreamError.{StreamError}
use Rattle.wac_workspace.specs.declared.error.StreamError.TheVariants as error

-- a piece of so many bytes is taken from the reader and stands behind what was there
abbrev pub Takes : (reader left : Option (List ℕ)) (had has : List ℕ) → ℕ → Type 0
Takes reader left had has n = (piece : List ℕ) × (length piece ≡ n) × (has ≡ had ++ piece) × Consumes reader left piece

-- these bytes are all that the reader had
abbrev pub ToEnd : (reader left : Option (List ℕ)) → List ℕ → Type 0
ToEnd reader left source = Consumes reader left source × IsAtEnd left

-- the reader had more than a source may have
abbrev pub HasTooMany : Option (List ℕ) → Type 0
HasTooMany reader = IfSome reader (λ bytes. 16777216 < length bytes)

-- the refusal is one of reading
abbrev pub IsUnread : {A : Type 0} → Result A StreamError → Type 0
IsUnread r = IsErrOf r error.Read ⊎ IsErrOf r error.SourceTooLong ⊎ IsErrOf r error.Memory
