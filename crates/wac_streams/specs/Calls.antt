-- What a reader and a writer tell of their calls.
use Rattle.std.specs.Prelude.{◌≡◌, ℕ, ◌+◌, ◌≤◌, ◌==◌, ◌&&◌, not, List, ◌++◌, length, Result, Ok, Err, Option, Some, IfSome, is_ok, if◌then◌else◌}
use Rattle.std.specs.Io.KnownBytes.{Appends}

-- how many calls an end has had, and how many of them gave nothing of what they were asked for
pub record Calls : Type 0 where
  pub all : ℕ
  pub failed : ℕ

-- one more call, which failed or not
abbrev pub one_more : Calls → (failed : ℕ) → Calls
one_more k failed = record { all = k.all + 1; failed = k.failed + failed }

-- a read counts, and as a failure where it is one
abbrev pub CountsRead : {E : Type 0} → Option Calls → Option Calls → Result ℕ E → Type 0
CountsRead old new r = IfSome old (λ k. new ≡ Some (one_more k (if is_ok r then 0 else 1)))

-- a write that takes nothing of some bytes fails too
abbrev pub write_failures : {E : Type 0} → Result ℕ E → List ℕ → ℕ
write_failures (Ok n) bytes = if (n == 0) && not (length bytes == 0) then 1 else 0
write_failures (Err e) bytes = 1

abbrev pub CountsWrite : {E : Type 0} → Option Calls → Option Calls → Result ℕ E → List ℕ → Type 0
CountsWrite old new r bytes = IfSome old (λ k. new ≡ Some (one_more k (write_failures r bytes)))

-- in this stretch, exactly one more call failed than before
abbrev pub FailedOnce : Option Calls → Option Calls → Type 0
FailedOnce old new = IfSome old (λ k. (j : Calls) × (new ≡ Some j) × (j.failed ≡ k.failed + 1))

-- no call of this stretch failed
abbrev pub NoneFailed : Option Calls → Option Calls → Type 0
NoneFailed old new = IfSome old (λ k. (j : Calls) × (new ≡ Some j) × (j.failed ≡ k.failed))

-- at most so many calls
abbrev pub CallsAtMost : Option Calls → Option Calls → ℕ → Type 0
CallsAtMost old new limit = IfSome old (λ k. (j : Calls) × (new ≡ Some j) × (j.all ≤ k.all + limit))

-- known contents grew by the front of these bytes
abbrev pub AppendsPrefix : Option (List ℕ) → Option (List ℕ) → List ℕ → Type 0
AppendsPrefix old new bytes = (front : List ℕ) × (rest : List ℕ) × (bytes ≡ front ++ rest) × Appends old new front
