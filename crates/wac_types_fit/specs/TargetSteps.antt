-- Single steps of the report against a target, item by item.
use Rattle.std.specs.Prelude.{◌≡◌, List, [], ◌∷◌, ◌++◌, map, Option, Some, None, ◌⊎◌, string_bytes, String}
use Rattle.wac_types_base.specs.declared.item.ItemKind.{ItemKind}
use Rattle.wac_types_base.specs.declared.item.ExternKind.{ExternKind}
use Rattle.wac_types_base.specs.Record.{Collection}
use Rattle.wac_types_base.specs.Graph.{Among}
use Rattle.wac_types_base.specs.Collection.{Stands}
use Rattle.wac_types_base.specs.Entries.{Name}
use Rattle.wac_types_base.specs.Resolving.{promoted}
use Rattle.wac_types_fit.specs.declared.checker.SubtypeCheck.{SubtypeCheck}
use Rattle.wac_types_fit.specs.declared.error.SubtypeError.{SubtypeError}
use Rattle.wac_types_fit.specs.Frames.{Step, Disagree}
use Rattle.wac_types_fit.specs.Errors.{words_of}
use Rattle.wac_types_fit.specs.Trees.{tree_in, Fit}
use Rattle.wac_types_fit.specs.Targets.{Mismatched}
use Rattle.wac_types_fit.specs.Words.{Called, CalledUnder}

abbrev pub mismatches : {Y : Type 0} → List (String Y × ExternKind × SubtypeError) → List Mismatched
mismatches ms = map (λ m. (string_bytes m.0, m.1, words_of m.2)) ms

abbrev pub name_if : Option ItemKind → Name → List Name
name_if None n = n ∷ []
name_if (Some k) n = []

abbrev pub entry_if : Option ItemKind → Name → ItemKind → List (Name × ItemKind)
entry_if None n k = (n, k) ∷ []
entry_if (Some j) n k = []

-- the direction in which an item of a side is tested, so that the target's word is the expected one
abbrev pub tested : ExternKind → SubtypeCheck
tested ExternKind.Import = SubtypeCheck.Contravariant
tested ExternKind.Export = SubtypeCheck.Covariant

-- one more mismatch, of this name: j does not fit k, the steps lead from j to k, and the words are theirs
pub record OneMore (c : Collection) (j k : ItemKind) (side : ExternKind) (n : Name) (old new : List Mismatched) : Type 0 where
  pub apart : Fit c j c k → ⊥
  pub steps : List Step
  pub expected : Option Name
  pub found : Option Name
  pub leads : Disagree steps (tree_in c j) (tree_in c k)
  pub words : CalledUnder (tested side) (Called c j steps) (Called c k steps) expected found
  pub added : new ≡ old ++ (n, side, Some (steps, (expected, found))) ∷ []

-- one more mismatch where j does not fit k
abbrev pub PairChecked : Collection → ItemKind → ItemKind → ExternKind → Name → List Mismatched → List Mismatched → Type 0
PairChecked c j k side n old new = (Fit c j c k × (new ≡ old)) ⊎ OneMore c j k side n old new

abbrev pub ImportChecked : Collection → Option ItemKind → Name → ItemKind → List Mismatched → List Mismatched → Type 0
ImportChecked c None n k old new = new ≡ old
ImportChecked c (Some j) n k old new = PairChecked c (promoted j) k ExternKind.Import n old new

abbrev pub ExportChecked : Collection → Option ItemKind → Name → ItemKind → List Mismatched → List Mismatched → Type 0
ExportChecked c None n k old new = new ≡ old
ExportChecked c (Some j) n k old new = PairChecked c j (promoted k) ExternKind.Export n old new

abbrev pub KindStands : Collection → Option ItemKind → Type 0
KindStands c None = Unit {0}
KindStands c (Some k) = Stands c k

-- each item that is given stands
abbrev pub GivesStanding : Collection → (Name → Option ItemKind) → Type 0
GivesStanding c given = (n : Name) → KindStands c (given n)

-- each item stands
abbrev pub AllStand : Collection → List (Name × ItemKind) → Type 0
AllStand c es = (n : Name) (k : ItemKind) → Among (n, k) es → Stands c k
