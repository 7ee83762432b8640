-- The classes of asks, each called by the place of its first ask, and the ask that spells each.
use Rattle.std.specs.Prelude.{◌≡◌, ℕ, List, length, Some, slice_get}
use Rattle.wac_composition.specs.Asks.{Ask}
use Rattle.wac_composition.specs.Classes.{Linked, class, spelled}
pub use Rattle.wac_merging.specs.Labelled.{IsFirstLinked, AreLabels}

module _ {A : Type 0} where
  -- at that place stands one of the class by whose name the class is spelled
  pub record IsSpelledAt (asks : List (Ask A)) (a : Ask A) (place : ℕ) : Type 0 where
    pub ask : Ask A
    pub there : slice_get asks place ≡ Some ask
    pub linked : Linked asks a ask
    pub spells : ask.name ≡ spelled (class asks a)

  -- at the place of the first ask of each class stands the place of the one that spells it
  pub record AreSpellings (asks : List (Ask A)) (labels spellings : List ℕ) : Type 0 where
    pub as_many : length spellings ≡ length asks
    pub each : (first : ℕ) (a : Ask A) → slice_get labels first ≡ Some first → slice_get asks first ≡ Some a
        → (place : ℕ) × (slice_get spellings first ≡ Some place) × IsSpelledAt asks a place
