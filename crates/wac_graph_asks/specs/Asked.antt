-- What a graph asks and defines as it is held, and when that is what its composition asks and defines.
use Rattle.std.specs.Prelude.{◌≡◌, ℕ, List, [], ◌∷◌, ◌++◌, map, Bool, true, false, Option, Some, None, fold, filter_map, if◌then◌else◌}
use Rattle.std.specs.List.{list_any}
use Rattle.std.specs.Map.{keys_of}
use Rattle.wac_types_base.specs.declared.ids.WorldId.{WorldId}
use Rattle.wac_types_base.specs.declared.item.ItemKind.{ItemKind}
use Rattle.wac_types_base.specs.declared.item.«Type».{«Type» as TypeKind}
use Rattle.wac_types_base.specs.Record.{Collection}
use Rattle.wac_types_base.specs.Graph.{Among}
use Rattle.wac_types_base.specs.Collection.{Stands, IsAcyclic, Grows}
use Rattle.wac_types_base.specs.Copying.{IsCopy}
use Rattle.wac_types_base.specs.Stated.{stated_of, identifier_of}
use Rattle.wac_types_names.specs.Packaged.{Packaged}
use Rattle.wac_types_merge.specs.declared.error.AggregateError.{AggregateError}
use Rattle.wac_graph_core.specs.declared.ids.PackageId.{PackageId}
use Rattle.wac_graph_core.specs.contracts.ids.PackageIdPartialEq.TheImpl.{eq-value}
use Rattle.wac_graph_core.specs.Graph.{Graph, package_of}
use Rattle.wac_composition.specs.Composition.{Placed}
use Rattle.wac_composition.specs.Asks.{Ask, named_asks, asks_to_use}
use Rattle.wac_composition.specs.Conflicts.{merge_conflict}
use Rattle.wac_composition.specs.OuterImports.{outer_imports}
use Rattle.wac_composition.specs.Again.{IsWell, KeepsClasses}
use Rattle.wac_merging.specs.Unmerged.{TellsConflict}
use Rattle.wac_graph_asks.specs.declared.asks.Ask.{Ask as HeldAsk}
use Rattle.wac_graph_asks.specs.declared.asks.Definition.{Definition}
use Rattle.wac_graph_asks.specs.declared.asks.Asked.{Asked}
use Rattle.wac_graph_asks.specs.Graphs.{nodes_of, composition_of}
use Rattle.wac_graph_asks.specs.AsksIn.{asks_in}

-- ---- asks

-- The list has these asks in order, without some of interfaces under their identifiers, where one before them in it asks the
-- same under that name.
pub data IsAskedBehind {A : Type 0} : (before asks list : List (Ask A)) → Type 0 where
  no_more : {before : List (Ask A)} → IsAskedBehind before [] []
  asked : {before asks list : List (Ask A)} (a : Ask A) → IsAskedBehind (before ++ a ∷ []) asks list
      → IsAskedBehind before (a ∷ asks) (a ∷ list)
  left_out : {before asks list : List (Ask A)} (a b : Ask A) → identifier_of a.item ≡ Some a.name → Among b before
      → b.name ≡ a.name → b.item ≡ a.item → IsAskedBehind before asks list → IsAskedBehind before (a ∷ asks) list

abbrev pub IsAskedOnce : {A : Type 0} → (asks list : List (Ask A)) → Type 0
IsAskedOnce asks list = IsAskedBehind [] asks list

-- What is listed once has the classes, what they keep and the spellings of all asks.
abbrev pub Asked_once_keeps : Type 0 → Type 0
Asked_once_keeps A =
    (asks list : List (Ask A)) → IsAskedOnce asks list → ((a : Ask A) → Among a list → IsWell a.item) → KeepsClasses list asks

-- It has their outer imports.
abbrev pub Asked_once_imports : Type 0 → Type 0
Asked_once_imports A = (asks list : List (Ask A)) → IsAskedOnce asks list → ((a : Ask A) → Among a list → IsWell a.item)
    → outer_imports asks ≡ outer_imports list

-- It has their conflicts.
abbrev pub Asked_once_conflicts : Type 0 → Type 0
Asked_once_conflicts A = (asks list : List (Ask A)) → IsAskedOnce asks list → ((a : Ask A) → Among a list → IsWell a.item)
    → merge_conflict asks [] asks ≡ merge_conflict list [] list

-- What is told of its conflict is told of theirs.
abbrev pub Asked_once_tells : Type 0 → Type 0
Asked_once_tells A = (e : AggregateError) (asks list : List (Ask A)) → IsAskedOnce asks list
    → ((a : Ask A) → Among a list → IsWell a.item) → TellsConflict e list → TellsConflict e asks

-- ---- packages

-- the packages that are instantiated, in the order of their instances
abbrev pub package_ids : Graph → List PackageId
package_ids g = filter_map (λ e. e.1.of) (nodes_of g)

abbrev pub with_id : List PackageId → PackageId → List PackageId
with_id ids id = if list_any (eq-value.it id) ids then ids else ids ++ id ∷ []

-- behind these those that are not among them, each once
abbrev pub with_ids : List PackageId → List PackageId → List PackageId
with_ids ids more = fold with_id ids more

-- the world is a copy of the package's
pub record IsWorldOf (g : Graph) (c : Collection) (id : PackageId) (w : WorldId) : Type 0 where
  pub held : Packaged
  pub is : package_of g id ≡ Some held
  pub copy : IsCopy g.types c (ItemKind.Component held.ty) (ItemKind.Component w)

-- ---- definitions

abbrev pub placed_in : Collection → Definition → Placed ℕ
placed_in c d = record { by = d.node; name = d.name; item = stated_of c (ItemKind.Ty d.ty) }

-- interfaces and worlds
abbrev pub uses_others : TypeKind → Bool
uses_others (TypeKind.Interface i) = true
uses_others (TypeKind.World w) = true
uses_others t = false

-- a copy of each interface and world, and of no other type
abbrev pub HasCopy : (c d : Collection) → TypeKind → Option ItemKind → Type 0
HasCopy c d t (Some k) = (uses_others t ≡ true) × IsCopy c d (ItemKind.Ty t) k × Stands c (ItemKind.Ty t)
HasCopy c d t None = (uses_others t ≡ false) × Stands c (ItemKind.Ty t)

-- ---- all

-- each item that is asked stands, and worlds and definitions have their copies
pub record IsHeld (g : Graph) (a : Asked) : Type 0 where
  pub acyclic : IsAcyclic a.types
  pub items : (x : HeldAsk) → Among x a.asks.items → Stands a.types x.item
  pub worlds : (id : PackageId) (w : WorldId) → Among (id, w) a.packages.entries → IsWorldOf g a.types id w
  pub copies : (d : Definition) → Among d a.definitions.items → HasCopy g.types a.types d.ty d.copy

-- the collection may have grown, and all else is as it was
pub record KeepsAsked (old new : Asked) : Type 0 where
  pub grows : Grows old.types new.types
  pub asks : new.asks ≡ old.asks
  pub packages : new.packages ≡ old.packages
  pub definitions : new.definitions ≡ old.definitions

-- these asks, packages and definitions are added behind the others
pub record Adds (g : Graph) (old new : Asked) (asks : List (Ask ℕ)) (ids : List PackageId)
    (placed : List (Placed ℕ)) : Type 0 where
  pub held : IsHeld g new
  pub grows : Grows old.types new.types
  pub asked : asks_in new.types new.asks.items ≡ asks_in old.types old.asks.items ++ asks
  pub packages : keys_of new.packages.entries ≡ with_ids (keys_of old.packages.entries) ids
  pub definitions : map (placed_in g.types) new.definitions.items ≡ map (placed_in g.types) old.definitions.items ++ placed

-- The asks by name and those that instances leave are those of the composition, in order, and behind them stand those of used
-- interfaces that ask anything new. The packages that are instantiated stand each once, and the definitions are the
-- composition's.
pub record IsAsked (g : Graph) (a : Asked) : Type 0 where
  pub held : IsHeld g a
  pub uses : List (Ask ℕ)
  pub asks : asks_in a.types a.asks.items ≡ named_asks (composition_of g) ++ uses
  pub once : IsAskedBehind (named_asks (composition_of g)) (asks_to_use (composition_of g)) uses
  pub packages : keys_of a.packages.entries ≡ with_ids [] (package_ids g)
  pub definitions : map (placed_in g.types) a.definitions.items ≡ (composition_of g).definitions
