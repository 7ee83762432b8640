-- What the bytes of a component say, and what is answered of them.
use Rattle.std.specs.Prelude.{◌≡◌, ℕ, ◌+◌, List, [], length, Result, Ok, Err}
use Rattle.wac_component.specs.declared.fault.ReadError.{ReadError}
use Rattle.wac_component.specs.declared.fault.ReadError.TheVariants as errors
use Rattle.wac_component.specs.Entries.{Section}
use Rattle.wac_component.specs.Sections.{component}

-- the bytes are the preamble and these sections (Component Model, binary format), all of the bytes
abbrev pub IsComponent : List ℕ → List Section → Type 0
IsComponent bytes sections = component.Is sections bytes []

-- The answer, seen by view, is what the bytes have, and the one thing that they have; where the answer is a refusal, they
-- have none.
abbrev pub Reads : {T : Type 0} → (T → List Section) → Result T ReadError → List ℕ → Type 0
Reads view (Ok x) bytes =
    IsComponent bytes (view x) × ((others : List Section) → IsComponent bytes others → others ≡ view x)
Reads view (Err errors.Memory) bytes = Unit {0}
Reads view (Err (errors.Refused offset kind)) bytes = (sections : List Section) → IsComponent bytes sections → ⊥

-- The rules read from left to right to this fault, and so many bytes are left behind its offset.
abbrev pub IsFirstFault : List ℕ → ReadError → Type 0
IsFirstFault bytes errors.Memory = Unit {0}
IsFirstFault bytes (errors.Refused offset kind) =
    (left : ℕ) × (component.read bytes ≡ Err (record { kind = kind; left = left }))
    × (offset + left ≡ length bytes)
