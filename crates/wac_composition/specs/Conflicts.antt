-- Why a composition cannot be written: the first cause in order.
use Rattle.std.specs.Prelude.{◌+◌, ℕ, Bool, true, false, nat_le, ◌&&◌, List, [], ◌∷◌, ◌++◌, map, Option, Some, None, is_some, option_map, filter, find, bytes_eq, codes, if◌then◌else◌}
use Rattle.std.specs.Option.{option_or}
use Rattle.std.specs.List.{list_any, flat_map}
use Rattle.semver.specs.Parse.{Parts}
use Rattle.semver.specs.Identifiers.{parts_text}
use Rattle.wac_types_base.specs.Entries.{Name, names_of}
use Rattle.wac_types_base.specs.Stated.{Stated, Kind, IsInterface, IsWorld, kind_of}
use Rattle.wac_types_names.specs.Keys.{Key, same_key}
use Rattle.wac_composition.specs.Composition.{Placed, Made, Composition}
use Rattle.wac_composition.specs.Asks.{Asking, ByName, ToFill, Ask, asks_of}
use Rattle.wac_composition.specs.Classes.{class, spelling}
use Rattle.wac_composition.specs.Merging.{kept}
use Rattle.wac_composition.specs.OuterImports.{asked_in, outer_imports}
use Rattle.wac_types_written.specs.Written.{written_definition}
use Rattle.wac_composition.specs.Writable.{holder, unwritable, outer_unwritable, definition_unwritable, package_unwritable, alias_unwritable}
use Rattle.wac_composition.specs.Circles.{interfaces_written, written_inside, written_whole, written_package}

pub data Cause (A : Type 0) : Type 0 where
  -- an instance's import that is not given has exactly the name of an import
  ImplicitImport : Name → (import filled : A) → Cause A
  -- two imports of one class do not merge
  ExplicitImport : Name → (first second : A) → Cause A
  -- likewise, where the second is no import
  ImportTypes : Name → (first second : A) → Cause A
  -- the type under this name cannot be written
  Unwritable : Name → Cause A
  -- two names of imports, or of exports, that are equal but for ASCII case
  ImportNames : Name → Name → Cause A
  ExportNames : Name → Name → Cause A

-- the first that is found of one of them
abbrev pub first_found : {X Y : Type 0} → (X → Option Y) → List X → Option Y
first_found f [] = None
first_found f (x ∷ xs) = option_or (f x) (first_found f xs)

-- ---- the packages that are imported instead of nested: each once

abbrev pub version_name : Option Parts → List ℕ
version_name None = []
version_name (Some p) = codes "@{>=" ++ (parts_text p ++ codes "}")

abbrev pub dependency_name : Key → Name
dependency_name k = codes "unlocked-dep=<" ++ (k.0 ++ (version_name k.1 ++ codes ">"))

abbrev pub each_once : {A I : Type 0} → List Key → List (Made A I) → List (Name × Stated)
each_once seen [] = []
each_once seen (m ∷ ms) =
    if list_any (same_key m.key) seen then each_once seen ms
    else (dependency_name m.key, m.world) ∷ each_once (m.key ∷ seen) ms

-- the dependencies, where components are not defined
abbrev pub dependencies_of : {A I : Type 0} → (define : Bool) → Composition A I → List (Name × Stated)
dependencies_of true c = []
dependencies_of false c = each_once [] c.made

-- ---- what is written, as it is written

abbrev pub late_unwritable : (outer : Bool) → Name × Stated → Bool
late_unwritable outer e = unwritable e.1 e.0 (holder [] []) outer

abbrev pub is_whole : Kind → Bool
is_whole IsInterface = true
is_whole IsWorld = true
is_whole k = false

-- outer imports, and those of component types that stand in them
abbrev pub outers_written : (Name → Name) → List (Name × Stated) → List (Name × Stated)
outers_written spell outers = interfaces_written spell outers ++ flat_map written_inside outers

module _ {A : Type 0} where
  -- ---- an import that is asked by its name and by an instance

  abbrev pub implicit_with : Ask A → Option (Placed A) → Option (Cause A)
  implicit_with a None = None
  implicit_with a (Some i) = Some (ImplicitImport a.name i.by a.by)

  abbrev pub implicit_by : Asking → List (Placed A) → Ask A → Option (Cause A)
  implicit_by ToFill is a = implicit_with a (find (λ i. bytes_eq i.name a.name) is)
  implicit_by k is a = None

  abbrev pub implicit_conflict : List (Placed A) → List (Ask A) → Option (Cause A)
  implicit_conflict is asks = first_found (λ a. implicit_by a.asking is a) asks

  -- ---- asks of one class that do not merge

  abbrev pub merge_cause : Asking → Ask A → List (Ask A) → Option (Cause A)
  merge_cause k a [] = None
  merge_cause ByName a (b ∷ bs) = Some (ExplicitImport a.name b.by a.by)
  merge_cause k a (b ∷ bs) = Some (ImportTypes a.name b.by a.by)

  -- the asks of its class up to it keep nothing
  abbrev pub merge_fails : Ask A → List (Ask A) → Option (Cause A)
  merge_fails a as_ = if is_some (kept (asked_in as_)) then None else merge_cause a.asking a as_

  -- of these asks, those of a class; by their names, since all asks of one name are in one class
  abbrev pub those_in : List (Ask A) → List (Ask A) → List (Ask A)
  those_in cs as_ = filter (λ a. list_any (λ c. bytes_eq a.name c.name) cs) as_

  abbrev pub merge_conflict : List (Ask A) → List (Ask A) → List (Ask A) → Option (Cause A)
  merge_conflict asks before [] = None
  merge_conflict asks before (a ∷ as_) =
      option_or (merge_fails a (those_in (class asks a) (before ++ a ∷ []))) (merge_conflict asks (before ++ a ∷ []) as_)

  -- ---- a type that cannot be written

  abbrev pub cause_at : (Name × Stated → Bool) → Name × Stated → Option (Cause A)
  cause_at p e = if p e then Some (Unwritable e.0) else None

  abbrev pub placed : List (Placed A) → List (Name × Stated)
  placed ds = map (λ d. (d.name, d.item)) ds

  abbrev pub unwritable_cause : {I : Type 0} → Bool → Composition A I → List (Name × Stated) → Option (Cause A)
  unwritable_cause define c outers =
      option_or (first_found (cause_at alias_unwritable) c.aliases)
      (option_or (first_found (cause_at (outer_unwritable outers)) outers)
      (option_or (first_found (cause_at (definition_unwritable outers)) (placed c.definitions))
      (first_found (cause_at package_unwritable) (dependencies_of define c))))

  abbrev pub written_forms : List (Placed A) → List (Name × Stated)
  written_forms ds = map (λ d. (d.name, written_definition d.item)) ds

  -- those of interfaces and of worlds
  abbrev pub whole_forms : List (Placed A) → List (Name × Stated)
  whole_forms ds = filter (λ e. is_whole (kind_of e.1)) (written_forms ds)

  -- What could be written but for what its parts use, as it is written: an interface that uses one that waits for it, which is an
  -- outer import, or an import of a component type that stands in an outer import, in a definition, or in the world of an imported
  -- package; and a definition, whose component types import all that they use.
  abbrev pub circle_cause : {I : Type 0} → Bool → Composition A I → (Name → Name) → List (Name × Stated) → Option (Cause A)
  circle_cause define c spell outers =
      option_or (first_found (cause_at (late_unwritable true)) (outers_written spell outers))
      (option_or (first_found (cause_at (late_unwritable true)) (flat_map written_whole (whole_forms c.definitions)))
      (first_found (cause_at (late_unwritable true)) (flat_map written_package (dependencies_of define c))))

  -- the first cause but for sizes and for names that are alike
  abbrev pub first_cause : {I : Type 0} → Bool → Composition A I → Option (Cause A)
  first_cause define c =
      option_or (implicit_conflict c.imports (asks_of c))
      (option_or (merge_conflict (asks_of c) [] (asks_of c))
      (option_or (unwritable_cause define c (outer_imports (asks_of c)))
      (circle_cause define c (spelling (asks_of c)) (outer_imports (asks_of c)))))

-- ---- names that are alike

abbrev pub lower : ℕ → ℕ
lower c = if nat_le 65 c && nat_le c 90 then c + 32 else c

abbrev pub same_but_case : Name → Name → Bool
same_but_case m n = bytes_eq (map lower m) (map lower n)

-- the first that is like an earlier one, behind that one
abbrev pub twins : (Name → Name → Bool) → List Name → List Name → Option (Name × Name)
twins p seen [] = None
twins p seen (n ∷ ns) = option_or (option_map (λ m. (m, n)) (find (p n) seen)) (twins p (seen ++ n ∷ []) ns)

-- without validation names are only asked not to be equal
abbrev pub alike : (validate : Bool) → Name → Name → Bool
alike true = same_but_case
alike false = bytes_eq

abbrev pub import_names : {A I : Type 0} → Bool → Composition A I → List Name
import_names define c = names_of (outer_imports (asks_of c)) ++ names_of (dependencies_of define c)

abbrev pub name_cause : {A I : Type 0} → (define validate : Bool) → Composition A I → Option (Cause A)
name_cause define validate c =
    option_or (option_map (λ t. ImportNames t.0 t.1) (twins (alike validate) [] (import_names define c)))
    (option_map (λ t. ExportNames t.0 t.1) (twins (alike validate) [] (map (λ e. e.0) c.exports)))
