-- What an error tells of asks that do not merge.
use Rattle.std.specs.Prelude.{◌≡◌, ℕ, Bool, true, false, List, [], ◌∷◌, ◌++◌, length, Some, None}
use Rattle.wac_types_base.specs.Graph.{Among}
use Rattle.wac_types_base.specs.Stated.{Stated}
use Rattle.wac_types_base.specs.Tree.{Tree, tree}
use Rattle.wac_types_base.specs.Fits.{Fits}
use Rattle.wac_types_fit.specs.declared.error.SubtypeError.{SubtypeError}
use Rattle.wac_types_fit.specs.Errors.{steps_of}
use Rattle.wac_types_fit.specs.Frames.{Step, Disagree}
use Rattle.wac_types_fit.specs.Meets.{Clash}
use Rattle.wac_types_merge.specs.declared.error.AggregateError.{AggregateError}
use Rattle.wac_composition.specs.Asks.{Ask}
use Rattle.wac_composition.specs.Classes.{class}
use Rattle.wac_composition.specs.Merging.{Asked, in_family, kept}
use Rattle.wac_composition.specs.Again.{IsWell}
use Rattle.wac_composition.specs.OuterImports.{asked_in}
use Rattle.wac_composition.specs.Conflicts.{those_in, merge_conflict}
use Rattle.wac_merging.specs.Labelled.{labelled, LabelClasses, AreKept}

-- its steps lead from the two trees to where they disagree
abbrev pub LeadsApart : SubtypeError → Tree → Tree → Type 0
LeadsApart f t u = (ss : List Step) × (steps_of f ≡ Some ss) × Disagree ss t u

-- In one family no tree fits both, and the steps lead to where they disagree; in no one family neither fits the other.
abbrev pub TellsApart : AggregateError → (one_family : Bool) → Tree → Tree → Type 0
TellsApart (AggregateError.Incompatible f) b t u = (b ≡ true) × Clash t u × LeadsApart f t u
TellsApart AggregateError.OutsideFamilies b t u = (b ≡ false) × (Fits t u → ⊥) × (Fits u t → ⊥)
TellsApart AggregateError.UsedWithoutIdentifier b t u = ⊥
TellsApart AggregateError.Memory b t u = ⊥

-- nothing is kept with this ask, and the error tells how it is apart from what those before it keep
pub record TellsUnmerged (e : AggregateError) (before : List Asked) (ask : Asked) : Type 0 where
  pub item : Stated
  pub so_far : kept before ≡ Some item
  pub nothing : kept (before ++ ask ∷ []) ≡ None
  pub apart : TellsApart e (in_family (before ++ ask ∷ [])) (tree item) (tree ask.1)

-- it tells so of the first ask that conflicts, and those before it in its class
pub record TellsConflict {A : Type 0} (e : AggregateError) (asks : List (Ask A)) : Type 0 where
  pub before : List (Ask A)
  pub ask : Ask A
  pub later : List (Ask A)
  pub are : asks ≡ before ++ ask ∷ later
  pub none_before : merge_conflict asks [] before ≡ None
  pub tells : TellsUnmerged e (asked_in (those_in (class asks ask) before)) (ask.name, ask.item)

-- ---- laws

-- the first ask behind which those of its label keep nothing is the one of which it tells
abbrev pub Refused_is_told : Type 0 → Type 0
Refused_is_told A = (e : AggregateError) (asks later : List (Ask A)) (labels more : List ℕ) (a : Ask A) (l : ℕ)
    → LabelClasses (asks ++ a ∷ later) (labels ++ l ∷ more) → length labels ≡ length asks → AreKept asks labels
    → TellsUnmerged e (asked_in (labelled l asks labels)) (a.name, a.item) → TellsConflict e (asks ++ a ∷ later)

-- it tells the same where what was asked under a name is asked again, by whomever
abbrev pub Repeated_is_told : Type 0 → Type 0
Repeated_is_told A =
    (e : AggregateError) (before after : List (Ask A)) (a b : Ask A) → Among b before → b.name ≡ a.name → b.item ≡ a.item
    → ((c : Ask A) → Among c before → IsWell c.item) → TellsConflict e (before ++ after) → TellsConflict e (before ++ a ∷ after)
