-- Where a byte stands first.
use Rattle.std.proofs.Common.{◌≡◌, ℕ, false, List}
use Rattle.std.specs.Prelude.{◌==◌}
use Rattle.std.specs.List.{AllByRecursion}

abbrev pub NoByte : ℕ → List ℕ → Type 0
NoByte c w = AllByRecursion (λ b. (b == c) ≡ false) w
