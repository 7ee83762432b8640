-- Maps by name that keep the first value of each name.
use Rattle.std.specs.Prelude.{◌≡◌, ℕ, List}
use Rattle.wac_types_base.specs.Entries.{Name, value_at}
use Rattle.std.specs.Option.{option_or}

-- these are added behind, each where its name is new
abbrev pub AddsFirst : (old new more : List (Name × ℕ)) → Type 0
AddsFirst old new more = (n : Name) → value_at new n ≡ option_or (value_at old n) (value_at more n)

-- under each name is the first that has it
abbrev pub AreFirst : (new all : List (Name × ℕ)) → Type 0
AreFirst new all = (n : Name) → value_at new n ≡ value_at all n
