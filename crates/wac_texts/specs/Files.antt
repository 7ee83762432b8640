-- Files by their paths.
use Rattle.std.specs.Prelude.{◌≡◌, ◌≢◌, ◌+◌, ℕ, List, Option, Some, None, IfSome}
use Rattle.wac_types_base.specs.Entries.{Name}

-- what each path's file has, if it is there
abbrev pub Stored : Type 0
Stored = Name → Option (List ℕ)

-- where it is known what files hold, a path's file has these bytes, or is not there
abbrev pub Has : Option Stored → Name → Option (List ℕ) → Type 0
Has None path bytes = Unit {0}
Has (Some files) path bytes = files path ≡ bytes

-- what is known of files stays known, and no other path's file changes
abbrev pub KeepsOthers : Name → (old new : Option Stored) → Type 0
KeepsOthers path None new = Unit {0}
KeepsOthers path (Some old) None = ⊥
KeepsOthers path (Some old) (Some new) = (other : Name) → other ≢ path → new other ≡ old other

-- one more write failed than before
abbrev pub FailsToWrite : (old new : Option ℕ) → Type 0
FailsToWrite old new = IfSome old (λ n. new ≡ Some (n + 1))
