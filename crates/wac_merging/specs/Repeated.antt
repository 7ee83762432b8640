-- An ask that repeats one before it, and conflicts.
use Rattle.std.specs.Prelude.{◌≡◌, List, [], ◌∷◌, ◌++◌}
use Rattle.wac_types_base.specs.Graph.{Among}
use Rattle.wac_composition.specs.Asks.{Ask}
use Rattle.wac_composition.specs.Again.{IsWell}
use Rattle.wac_composition.specs.Conflicts.{merge_conflict}

-- the first conflict of asks is the same where what was asked under a name is asked again, by whomever
abbrev pub Repeated_conflicts_no_more : Type 0 → Type 0
Repeated_conflicts_no_more A =
    (before after : List (Ask A)) (a b : Ask A) → Among b before → b.name ≡ a.name → b.item ≡ a.item
    → ((c : Ask A) → Among c before → IsWell c.item)
    → merge_conflict (before ++ a ∷ after) [] (before ++ a ∷ after) ≡ merge_conflict (before ++ after) [] (before ++ after)
