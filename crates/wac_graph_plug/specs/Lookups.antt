-- Single steps of the search for matches.
use Rattle.std.specs.Prelude.{◌≡◌, ℕ, ◌<◌, ◌≤◌, List, [], ◌∷◌, ◌++◌, length, Option, Some, None, slice_get}
use Rattle.wac_types_base.specs.declared.item.ItemKind.{ItemKind}
use Rattle.wac_types_base.specs.Collection.{Stands}
use Rattle.wac_types_base.specs.Record.{Collection}
use Rattle.wac_types_base.specs.Entries.{Name, value_at}
use Rattle.wac_types_base.specs.Stated.{Stated}
use Rattle.wac_types_names.specs.Tracks.{AreCompatible}
use Rattle.wac_graph_plug.specs.declared.matching.Match.{Match}
use Rattle.wac_graph_plug.specs.Plugging.{Matches}

-- the entry at this place has a name that is compatible with e
pub record IsNear (xs : List (Name × ItemKind)) (e : Name) (at : ℕ) : Type 0 where
  pub name : Name
  pub item : ItemKind
  pub there : slice_get xs at ≡ Some (name, item)
  pub near : AreCompatible e name

-- the first such place that is no lower
pub record IsNext (xs : List (Name × ItemKind)) (e : Name) (low at : ℕ) : Type 0 where
  pub within : at < length xs
  pub above : low ≤ at
  pub near : IsNear xs e at
  pub first : (j : ℕ) → low ≤ j → j < at → IsNear xs e j → ⊥

abbrev pub NoneNear : List (Name × ItemKind) → Name → ℕ → Type 0
NoneNear xs e low = (j : ℕ) → low ≤ j → IsNear xs e j → ⊥

-- the match of an export, if there is one
abbrev pub IsMatchOf : List (Name × Stated) → Name → Stated → Option Match → Type 0
IsMatchOf imports e given None = (i : Name) → Matches imports e given i → ⊥
IsMatchOf imports e given (Some m) = (m.export ≡ e) × Matches imports e given m.import

-- each item stands
abbrev pub ItemsStandIn : Collection → List (Name × ItemKind) → Type 0
ItemsStandIn c xs = (n : Name) (k : ItemKind) → value_at xs n ≡ Some k → Stands c k

-- these, and a match more where there is one
abbrev pub with_match : List Match → Option Match → List Match
with_match ms None = ms
with_match ms (Some m) = ms ++ m ∷ []
