-- The outer imports: one for each class of asks, in asking order.
use Rattle.std.specs.Prelude.{List, [], ◌∷◌, ◌++◌, map, Option, Some, None, option_map, is_some, if◌then◌else◌}
use Rattle.wac_types_base.specs.Entries.{Name, value_at}
use Rattle.wac_types_base.specs.Stated.{Stated}
use Rattle.wac_composition.specs.Asks.{Ask}
use Rattle.wac_composition.specs.Classes.{class, spelled}
use Rattle.wac_composition.specs.Merging.{Asked, kept, identified}

abbrev pub with_new : List (Name × Stated) → Option (Name × Stated) → List (Name × Stated)
with_new found None = found
with_new found (Some o) = if is_some (value_at found o.0) then found else found ++ o ∷ []

module _ {A : Type 0} where
  abbrev pub asked_in : List (Ask A) → List Asked
  asked_in as_ = map (λ a. (a.name, a.item)) as_

  -- the outer import of a class, if its asks merge
  abbrev pub outer_of : List (Ask A) → Option (Name × Stated)
  outer_of as_ = option_map (λ x. (spelled as_, identified (spelled as_) (asked_in as_) x)) (kept (asked_in as_))

  abbrev pub outers_from : List (Name × Stated) → List (Ask A) → List (Ask A) → List (Name × Stated)
  outers_from found asks [] = found
  outers_from found asks (a ∷ as_) = outers_from (with_new found (outer_of (class asks a))) asks as_

  abbrev pub outer_imports : List (Ask A) → List (Name × Stated)
  outer_imports asks = outers_from [] asks asks
