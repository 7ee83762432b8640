-- How a component differs from a target world, as three lists.
use Rattle.std.specs.Prelude.{◌≡◌, List, [], ◌∷◌, ◌++◌, Option, Some, None, Result, Ok, Err, ⊤}
use Rattle.std.specs.Option.{option_or}
use Rattle.wac_types_base.specs.declared.item.ItemKind.{ItemKind}
use Rattle.wac_types_base.specs.declared.item.ExternKind.{ExternKind}
use Rattle.wac_types_base.specs.declared.defined.World.{World}
use Rattle.wac_types_base.specs.Record.{Collection}
use Rattle.wac_types_base.specs.Entries.{Name, value_at, names_of}
use Rattle.wac_types_base.specs.Resolving.{promoted}
use Rattle.wac_types_base.specs.Implicit.{implicit_interfaces, by_identifier}
use Rattle.wac_types_fit.specs.Frames.{Step, Disagree}
use Rattle.wac_types_fit.specs.Errors.{Said}
use Rattle.wac_types_fit.specs.Trees.{tree_in, Fit}
use Rattle.wac_types_fit.specs.Words.{Called}

-- an import or export that does not fit: its name, and what is said of the fault, if it is a mismatch
abbrev pub Mismatched : Type 0
Mismatched = Name × ExternKind × Option Said

-- what contracts see of a report
pub record Report : Type 0 where
  pub imports_not_in_target : List Name
  pub missing_exports : List (Name × ItemKind)
  pub mismatched_types : List Mismatched

-- ys are those of xs that are so, in order
pub data AreThose {X : Type 0} (IsSo : X → Type 0) : List X → List X → Type 0 where
  none_left : AreThose IsSo [] []
  first_is : {x : X} {xs ys : List X} → IsSo x → AreThose IsSo xs ys → AreThose IsSo (x ∷ xs) (x ∷ ys)
  first_is_not : {x : X} {xs ys : List X} → (IsSo x → ⊥) → AreThose IsSo xs ys → AreThose IsSo (x ∷ xs) ys

-- what a target gives under the name of an import: an interface that it imports implicitly, else one of its imports
abbrev pub target_import : List (Name × ItemKind) → List (Name × ItemKind) → Name → Option ItemKind
target_import implicit imports n = option_or (value_at implicit n) (value_at imports n)

-- nothing is given under the item's name
abbrev pub IsLacking : (Name → Option ItemKind) → Name × ItemKind → Type 0
IsLacking given e = given e.0 ≡ None

-- what a target gives for an import does not fit it
abbrev pub ImportDiffers : Collection → (Name → Option ItemKind) → Name × ItemKind → Type 0
ImportDiffers c given e = (j : ItemKind) × (given e.0 ≡ Some j) × (Fit c (promoted j) c e.1 → ⊥)

-- what a component exports does not fit the export of the target
abbrev pub ExportDiffers : Collection → (Name → Option ItemKind) → Name × ItemKind → Type 0
ExportDiffers c given e = (j : ItemKind) × (given e.0 ≡ Some j) × (Fit c j c (promoted e.1) → ⊥)

-- where the steps of an item's fault lead, and what was expected and found there
abbrev pub Leading : Type 1
Leading = Name × ItemKind → List Step → Option Name → Option Name → Type 0

-- the steps lead from what a target gives for an import (there called as expected) to the import (there called as found)
abbrev pub ImportLeads : Collection → (Name → Option ItemKind) → Leading
ImportLeads c given e ss expected found = (j : ItemKind) × (given e.0 ≡ Some j)
    × Disagree ss (tree_in c (promoted j)) (tree_in c e.1) × Called c (promoted j) ss expected × Called c e.1 ss found

-- the steps lead from what a component exports (there called as found) to the export of the target (there called as expected)
abbrev pub ExportLeads : Collection → (Name → Option ItemKind) → Leading
ExportLeads c given e ss expected found = (j : ItemKind) × (given e.0 ≡ Some j)
    × Disagree ss (tree_in c j) (tree_in c (promoted e.1)) × Called c (promoted e.1) ss expected × Called c j ss found

-- the mismatch of an item: its name, its side and what is said of its fault, which leads so
abbrev pub IsFault : Leading → ExternKind → Name × ItemKind → Mismatched → Type 0
IsFault Leads side e m = (ss : List Step) × (expected : Option Name) × (found : Option Name)
    × (m ≡ (e.0, side, Some (ss, (expected, found)))) × Leads e ss expected found

-- the mismatches of items, in order
abbrev pub AreFaults : Leading → ExternKind → List (Name × ItemKind) → List Mismatched → Type 0
AreFaults Leads side [] [] = Unit {0}
AreFaults Leads side [] (m ∷ ms) = ⊥
AreFaults Leads side (e ∷ es) [] = ⊥
AreFaults Leads side (e ∷ es) (m ∷ ms) = IsFault Leads side e m × AreFaults Leads side es ms

-- the names of the items under whose names nothing is given
pub record AreLacking (given : Name → Option ItemKind) (es : List (Name × ItemKind)) (ns : List Name) : Type 0 where
  pub lacking : List (Name × ItemKind)
  pub those : AreThose (IsLacking given) es lacking
  pub names : ns ≡ names_of lacking

-- the items that differ, each with what is said of its fault, after others
pub record Differing (Differs : Name × ItemKind → Type 0) (Leads : Leading) (side : ExternKind)
    (es : List (Name × ItemKind)) (old new : List Mismatched) : Type 0 where
  pub differing : List (Name × ItemKind)
  pub those : AreThose Differs es differing
  pub mismatched : List Mismatched
  pub faults : AreFaults Leads side differing mismatched
  pub added : new ≡ old ++ mismatched

-- the report of a component against a target
pub record IsReport (c : Collection) (target component : World) (r : Report) : Type 0 where
  pub implicit : List (Name × ItemKind)
  pub implicit_is : by_identifier c [] (implicit_interfaces c target) ≡ Some implicit
  pub imports_not_in_target : AreLacking (target_import implicit target.imports) component.imports r.imports_not_in_target
  pub missing_exports : AreThose (IsLacking (value_at component.exports)) target.exports r.missing_exports
  pub imports : List Mismatched
  pub mismatched_imports : Differing (ImportDiffers c (target_import implicit target.imports))
      (ImportLeads c (target_import implicit target.imports)) ExternKind.Import component.imports [] imports
  pub mismatched_types : Differing (ExportDiffers c (value_at component.exports))
      (ExportLeads c (value_at component.exports)) ExternKind.Export target.exports imports r.mismatched_types

-- the three lists are empty
pub record IsEmptyReport (r : Report) : Type 0 where
  pub imports_not_in_target : r.imports_not_in_target ≡ []
  pub missing_exports : r.missing_exports ≡ []
  pub mismatched_types : r.mismatched_types ≡ []

-- accepted exactly where the report's lists are empty, and else refused with it
abbrev pub Tells : Report → Result ⊤ Report → Type 0
Tells r (Ok x) = IsEmptyReport r
Tells r (Err e) = (e ≡ r) × (IsEmptyReport r → ⊥)
