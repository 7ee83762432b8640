-- An import that is asked by its name and by an instance, in asks as they are held.
use Rattle.std.specs.Prelude.{◌≡◌, ℕ, List, [], ◌∷◌, Option, Some, None, IsSome, string_bytes}
use Rattle.std.specs.List.{flat_map}
use Rattle.wac_types_base.specs.Entries.{Name, value_at}
use Rattle.wac_types_base.specs.Graph.{Among}
use Rattle.wac_types_names.specs.declared.package.PackageKey.{PackageKey}
use Rattle.wac_types_names.specs.Packaged.{Packaged}
use Rattle.wac_types_names.specs.Keys.{owned_key, package_key}
use Rattle.wac_graph_core.specs.Graph.{Graph, instantiated}
use Rattle.wac_composition.specs.Asks.{asks_of}
use Rattle.wac_composition.specs.Conflicts.{Cause, ImplicitImport, first_found, implicit_conflict}
use Rattle.wac_graph_asks.specs.declared.asks.Asking.{Asking}
use Rattle.wac_graph_asks.specs.declared.asks.Ask.{Ask}
use Rattle.wac_graph_asks.specs.Graphs.{composition_of}
use Rattle.wac_graph_causes.specs.declared.error.Refusal.{Refusal}

-- ---- asks by name

-- who asks by name, under the name
abbrev pub named_by : Asking → Ask → List (Name × ℕ)
named_by Asking.ByName a = (a.name, a.by) ∷ []
named_by k a = []

abbrev pub named : Ask → List (Name × ℕ)
named a = named_by a.asking a

-- those that ask by name, under their names
abbrev pub all_named : List Ask → List (Name × ℕ)
all_named asks = flat_map named asks

-- ---- asks of instances

-- the cause that an ask of an instance is, if an import asks under its name
abbrev pub clash_with : Ask → (import : Option ℕ) → Option (Cause ℕ)
clash_with a None = None
clash_with a (Some import) = Some (ImplicitImport a.name import a.by)

-- where these import under their names
abbrev pub clash_named : List (Name × ℕ) → Ask → Option (Cause ℕ)
clash_named imports a = clash_with a (value_at imports a.name)

abbrev pub clash_by : Asking → List (Name × ℕ) → Ask → Option (Cause ℕ)
clash_by Asking.ToFill imports a = clash_named imports a
clash_by k imports a = None

abbrev pub clash : List (Name × ℕ) → Ask → Option (Cause ℕ)
clash imports a = clash_by a.asking imports a

abbrev pub first_clash : List (Name × ℕ) → List Ask → Option (Cause ℕ)
first_clash imports asks = first_found (clash imports) asks

-- what asks for an instance is one, of a package
abbrev pub IsMade : Graph → Ask → Type 0
IsMade g a = a.asking ≡ Asking.ToFill → IsSome (instantiated g a.by)

abbrev pub AreMade : Graph → List Ask → Type 0
AreMade g asks = (a : Ask) → Among a asks → IsMade g a

-- ---- the refusal

-- it tells this import, and the ask of an instance of this package
abbrev pub TellsAsk : Packaged → (import : ℕ) → Ask → Refusal → Type 0
TellsAsk p import a (Refusal.ImplicitImportConflict i k key n) =
    (i ≡ import) × (k ≡ a.by) × (owned_key key ≡ package_key p) × (string_bytes n ≡ a.name)
TellsAsk p import a e = ⊥

-- the key is that of an instance's package
pub record IsKeyOf (g : Graph) (k : ℕ) (key : PackageKey) : Type 0 where
  pub of : Packaged
  pub is : instantiated g k ≡ Some of
  pub key_is : owned_key key ≡ package_key of

-- it tells this cause, or want of memory
abbrev pub TellsClash : Graph → Option (Cause ℕ) → Refusal → Type 0
TellsClash g o (Refusal.ImplicitImportConflict import instantiation key n) =
    (o ≡ Some (ImplicitImport (string_bytes n) import instantiation)) × IsKeyOf g instantiation key
TellsClash g o Refusal.Memory = Unit {0}
TellsClash g o e = ⊥

-- the first instance's import that is not given and has exactly the name of an import, in the graph's composition
abbrev pub implicit_cause : Graph → Option (Cause ℕ)
implicit_cause g = implicit_conflict (composition_of g).imports (asks_of (composition_of g))

abbrev pub IsImplicit : Graph → Refusal → Type 0
IsImplicit g e = TellsClash g (implicit_cause g) e
