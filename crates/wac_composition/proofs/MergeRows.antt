-- What is so of each type of a row, or of a list of entries, with how it merges.
use Rattle.std.proofs.Common.{List, [], ◌∷◌, length, drop, Option, Some, None}
use Rattle.wac_types_base.specs.Entries.{Name}
use Rattle.wac_types_base.specs.Stated.{Stated, with_names}
use Rattle.wac_composition.specs.Merging.{Merge}

module _ (P : Stated → Merge → Type 0) where
  abbrev pub EachEntry : List (Name × (Stated × Merge)) → Type 0
  EachEntry [] = Unit {0}
  EachEntry (e ∷ es) = P e.1.0 e.1.1 × EachEntry es

  abbrev pub EachPlace : List (Option (Stated × Merge)) → Type 0
  EachPlace [] = Unit {0}
  EachPlace (None ∷ os) = EachPlace os
  EachPlace (Some x ∷ os) = P x.0 x.1 × EachPlace os

  pub names_each : (ns : List Name) (os : List (Option (Stated × Merge))) → EachPlace os → EachEntry (with_names ns os)
  names_each [] os h = tt
  names_each (n ∷ ns) [] h = tt
  names_each (n ∷ ns) (None ∷ os) h = names_each ns os h
  names_each (n ∷ ns) (Some x ∷ os) h = (h.0, names_each ns os h.1)

  pub drop_each : {U : Type 0} (us : List U) (os : List (Option (Stated × Merge))) → EachPlace os → EachPlace (drop (length us) os)
  drop_each [] os h = h
  drop_each (u ∷ us) [] h = tt
  drop_each (u ∷ us) (None ∷ os) h = drop_each us os h
  drop_each (u ∷ us) (Some x ∷ os) h = drop_each us os h.1
