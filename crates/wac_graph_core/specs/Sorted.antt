-- Where a key stands in a list whose keys rise, and how many comparisons a search may take.
use Rattle.std.specs.Prelude.{◌≡◌, ◌<◌, ◌≤◌, ◌+◌, ◌-◌, ◌*◌, ◌^◌, ℕ, List, length, Some, slice_get}
use Rattle.std.specs.declared.cmp.Ordering.{Ordering}
use Rattle.std.specs.declared.cmp.Ordering.TheVariants.{Less, Equal}

module _ {K V : Type 0} (order : K → K → Ordering) (entries : List (K × V)) (key : K) where
  -- the key at that place is equal to this one
  pub record IsAt (place : ℕ) : Type 0 where
    pub within : place < length entries
    pub entry : K × V
    pub there : slice_get entries place ≡ Some entry
    pub equal : order entry.0 key ≡ Equal

  -- the keys before that place are below this one, and those from it on above it
  pub record Belongs (place : ℕ) : Type 0 where
    pub within : place ≤ length entries
    pub before : (i : ℕ) (e : K × V) → i < place → slice_get entries i ≡ Some e → order e.0 key ≡ Less
    pub behind : (i : ℕ) (e : K × V) → place ≤ i → slice_get entries i ≡ Some e → order key e.0 ≡ Less

-- no more are counted than the number has binary digits; 0 has none
abbrev pub IsWithinDigits : (before after n : ℕ) → Type 0
IsWithinDigits before after n = (before ≤ after) × (2 ^ (after - before) ≤ 2 * n + 1)
