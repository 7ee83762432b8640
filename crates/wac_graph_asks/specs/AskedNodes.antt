-- What each node asks and defines.
use Rattle.std.specs.Prelude.{◌≡◌, ◌≢◌, ℕ, List, [], ◌∷◌, ◌++◌, map, not, Option, Some, None, is_some, option_map, option_to_list, filter, unwrap_or}
use Rattle.std.specs.List.{flat_map}
use Rattle.std.specs.Map.{lookup}
use Rattle.wac_types_base.specs.declared.ids.WorldId.{WorldId}
use Rattle.wac_types_base.specs.declared.item.ItemKind.{ItemKind}
use Rattle.wac_types_base.specs.Entries.{Name, value_at}
use Rattle.wac_graph_core.specs.declared.ids.PackageId.{PackageId}
use Rattle.wac_graph_core.specs.Nodes.{NodeData}
use Rattle.wac_graph_core.specs.contracts.ids.NodeIdPartialEq.TheImpl.{eq-value}
use Rattle.wac_graph_core.specs.Graph.{Graph, node_at, package_of, package_if}
use Rattle.wac_composition.specs.Composition.{Placed, Made}
use Rattle.wac_composition.specs.Asks.{Ask, explicit_ask, filled_asks}
use Rattle.wac_graph_asks.specs.declared.asks.Asking.{Asking as HeldAsking}
use Rattle.wac_graph_asks.specs.declared.asks.Ask.{Ask as HeldAsk}
use Rattle.wac_graph_asks.specs.declared.asks.Asked.{Asked}
use Rattle.wac_graph_asks.specs.Graphs.{import_by, made_with, definition_by, first_export, composition_of}
use Rattle.wac_graph_asks.specs.Reads.{package_id_of}
use Rattle.wac_graph_asks.specs.Asked.{package_ids, IsWorldOf, Adds}

-- an ask as it is held
abbrev pub held_ask : HeldAsking → ℕ → Name → ItemKind → HeldAsk
held_ask asking by name item = record { asking = asking; by = by; name = name; item = item }

-- what a node asks of imports: those that are not given
abbrev pub unbound_asks : ℕ → (given : List (Name × ℕ)) → List (Name × ItemKind) → List HeldAsk
unbound_asks k given imports =
    map (λ e. held_ask HeldAsking.ToFill k e.0 e.1) (filter (λ e. not (is_some (value_at given e.0))) imports)

abbrev pub filled_by : Option (Made ℕ ℕ) → List (Ask ℕ)
filled_by None = []
filled_by (Some m) = filled_asks m

module _ (g : Graph) where
  abbrev pub imported_at : ℕ → Option NodeData → Option (Placed ℕ)
  imported_at k None = None
  imported_at k (Some x) = import_by g k x x.role

  abbrev pub made_at : ℕ → Option NodeData → Option (Made ℕ ℕ)
  made_at k None = None
  made_at k (Some x) = made_with g k (package_if g x.of)

  abbrev pub defined_at : ℕ → Option NodeData → Option (Placed ℕ)
  defined_at k None = None
  defined_at k (Some x) = definition_by g k x x.role

  -- what all imports ask, what all instances leave, and what is defined and is a type
  abbrev pub imports_ask : List (Ask ℕ)
  imports_ask = map explicit_ask (composition_of g).imports

  abbrev pub instances_ask : List (Ask ℕ)
  instances_ask = flat_map filled_asks (composition_of g).made

  abbrev pub all_defined : List (Placed ℕ)
  all_defined = (composition_of g).definitions

  -- all that the nodes ask and define is added
  abbrev pub AddsNodes : (old new : Asked) → Type 0
  AddsNodes old new = Adds g old new (imports_ask ++ instances_ask) (package_ids g) all_defined

  -- what a node asks by name
  abbrev pub import_asks : ℕ → List (Ask ℕ)
  import_asks k = option_to_list (option_map explicit_ask (imported_at k (node_at g k)))

  -- what it leaves, and its package
  abbrev pub instance_asks : ℕ → List (Ask ℕ)
  instance_asks k = filled_by (made_at k (node_at g k))

  abbrev pub instance_ids : ℕ → List PackageId
  instance_ids k = option_to_list (package_id_of (node_at g k))

  -- what an instance leaves is added, with its package
  abbrev pub AsksInstance : ℕ → (old new : Asked) → Type 0
  AsksInstance k old new = Adds g old new (instance_asks k) (instance_ids k) []

  -- what it defines
  abbrev pub definitions_at : ℕ → List (Placed ℕ)
  definitions_at k = option_to_list (defined_at k (node_at g k))

  -- the package's world has a copy; there is none where the package does not stand
  abbrev pub CopiesWorld : (old new : Asked) → PackageId → Option WorldId → Type 0
  CopiesWorld old new id (Some w) = IsWorldOf g new.types id w × Adds g old new [] (id ∷ []) []
  CopiesWorld old new id None = package_of g id ≡ None

-- the name of a node, if it has one
abbrev pub name_in : List (ℕ × Name) → ℕ → Name
name_in names k = unwrap_or (lookup (eq-value.it k) names) []

-- the node has its old name, or else this one, and the others have theirs
pub record NamesFirst (old new : List (ℕ × Name)) (k : ℕ) (n : Name) : Type 0 where
  pub own : lookup (eq-value.it k) new ≡ Some (unwrap_or (lookup (eq-value.it k) old) n)
  pub others : (j : ℕ) → j ≢ k → lookup (eq-value.it j) new ≡ lookup (eq-value.it j) old

-- each node has the first name that it is exported under
abbrev pub AreFirstNames : Graph → List (ℕ × Name) → Type 0
AreFirstNames g names = (k : ℕ) → name_in names k ≡ first_export g.exports k
