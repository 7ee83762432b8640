-- Names that are alike.
use Rattle.std.specs.Prelude.{◌≡◌, ℕ, ◌+◌, Bool, true, false, List, [], ◌∷◌, ◌++◌, map, codes, slice_get, Option, Some, None, option_map, String, string_bytes}
use Rattle.std.specs.Map.{keys_of}
use Rattle.wac_types_base.specs.Entries.{Name, names_of}
use Rattle.wac_types_names.specs.Packaged.{Packaged}
use Rattle.wac_graph_core.specs.declared.ids.PackageId.{PackageId}
use Rattle.wac_graph_core.specs.Graph.{Graph, package_of}
use Rattle.wac_types_parts.specs.Parts.{imports_of}
use Rattle.wac_composition.specs.Conflicts.{Cause, ImportNames, ExportNames, version_name, lower, twins, alike, name_cause}
use Rattle.wac_graph_asks.specs.declared.asks.Asked.{Asked}
use Rattle.wac_graph_asks.specs.declared.outers.Outers.{Outers}
use Rattle.wac_graph_asks.specs.Graphs.{composition_of}
use Rattle.wac_graph_asks.specs.Asked.{package_ids, with_ids}
use Rattle.wac_graph_asks.specs.Outers.{IsOuters}
use Rattle.wac_names.specs.declared.error.ValidationFault.{ValidationFault}
use Rattle.wac_graph_causes.specs.declared.error.Refusal.{Refusal}

-- ---- texts

abbrev pub AddsText : {Y Z : Type 0} → String Y → String Z → Name → Type 0
AddsText old new text = string_bytes new ≡ string_bytes old ++ text

abbrev pub both_texts : {Y Z : Type 0} → Option (String Y × String Z) → Option (Name × Name)
both_texts o = option_map (λ t. (string_bytes t.0, string_bytes t.1)) o

-- ---- twins

-- what names that are alike share
abbrev pub likeness : (validate : Bool) → Name → Name
likeness true n = map lower n
likeness false n = n

-- the places of names, from this one on, under what they share with others
abbrev pub places_from : (validate : Bool) → ℕ → List Name → List (Name × ℕ)
places_from v k [] = []
places_from v k (n ∷ ns) = (likeness v n, k) ∷ places_from v (k + 1) ns

-- at these places are the first name that is like an earlier one, and before it that one
pub record AreTwinsAt (validate : Bool) (ns : List Name) (first second : ℕ) : Type 0 where
  pub name : Name
  pub twin : Name
  pub name_at : slice_get ns first ≡ Some name
  pub twin_at : slice_get ns second ≡ Some twin
  pub are : twins (alike validate) [] ns ≡ Some (name, twin)

abbrev pub AreTwins : (validate : Bool) → List Name → Option (ℕ × ℕ) → Type 0
AreTwins v ns None = twins (alike v) [] ns ≡ None
AreTwins v ns (Some at) = AreTwinsAt v ns at.0 at.1

-- ---- names of packages

-- the name, and perhaps the version
abbrev pub package_name : Option Packaged → Name
package_name None = []
package_name (Some p) = p.name ++ version_name p.version

-- the name under which a package is imported
abbrev pub dependency_of : Graph → PackageId → Name
dependency_of g id = codes "unlocked-dep=<" ++ (package_name (package_of g id) ++ codes ">")

abbrev pub package_names : Graph → Asked → List Name
package_names g asked = map (dependency_of g) (keys_of asked.packages.entries)

-- those that are imported
abbrev pub dependency_names : (define : Bool) → Graph → Asked → List Name
dependency_names true g asked = []
dependency_names false g asked = package_names g asked

-- ---- the names of imports and exports

abbrev pub outer_names : Asked → Outers → List Name
outer_names asked outers = names_of (imports_of asked.types outers.world)

abbrev pub names_imported : (define : Bool) → Graph → Asked → Outers → List Name
names_imported define g asked outers = outer_names asked outers ++ dependency_names define g asked

abbrev pub imports_alike : (validate : Bool) → List Name → Option (Cause ℕ)
imports_alike v ns = option_map (λ t. ImportNames t.0 t.1) (twins (alike v) [] ns)

abbrev pub exports_alike : (validate : Bool) → List Name → Option (Cause ℕ)
exports_alike v ns = option_map (λ t. ExportNames t.0 t.1) (twins (alike v) [] ns)

-- ---- the refusal

abbrev pub names_told : ValidationFault → Cause ℕ
names_told (ValidationFault.ImportNames m n) = ImportNames (string_bytes m) (string_bytes n)
names_told (ValidationFault.ExportNames m n) = ExportNames (string_bytes m) (string_bytes n)

-- it tells this cause, or want of memory
abbrev pub TellsAlike : Option (Cause ℕ) → Refusal → Type 0
TellsAlike o (Refusal.ValidationFailure fault) = o ≡ Some (names_told fault)
TellsAlike o Refusal.Memory = Unit {0}
TellsAlike o e = ⊥

-- the packages that the graph instantiates are held, each once, and its outer imports
pub record AreHeld (g : Graph) (asked : Asked) (outers : Outers) : Type 0 where
  pub packages : keys_of asked.packages.entries ≡ with_ids [] (package_ids g)
  pub imports : IsOuters g asked.types outers.world outers.places

-- the first names that are alike, in the graph's composition
abbrev pub alike_cause : (define validate : Bool) → Graph → Option (Cause ℕ)
alike_cause define validate g = name_cause define validate (composition_of g)

abbrev pub IsAlike : (define validate : Bool) → Graph → Refusal → Type 0
IsAlike define validate g e = TellsAlike (alike_cause define validate g) e
