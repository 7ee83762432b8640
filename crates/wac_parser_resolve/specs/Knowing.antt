-- What is known of packages: those of a graph, then those that are handed in.
use base.Stored.{Gv}
use Rattle.std.specs.Prelude.{◌≡◌, ℕ, Bool, false, is_some, cond, List, [], ◌∷◌, Option, Some, None, Result, refl}
use Rattle.std.specs.Option.{option_and_then, option_or}
use Rattle.std.specs.Coded.{Coded, code_by, coded_list, coded_option, coded_ℕ, coded×}
use Rattle.indexmap.specs.IndexMap.{IndexMap, get_by}
use Rattle.semver.specs.Parse.{Parts}
use Rattle.wac_types_base.specs.declared.item.ItemKind.{ItemKind}
use Rattle.wac_types_base.specs.declared.ids.WorldId.{WorldId}
use Rattle.wac_types_base.specs.Record.{Collection}
use Rattle.wac_types_base.specs.Entries.{Name, names_of, value_at}
use Rattle.wac_types_base.specs.Collection.{empty, item_node}
use Rattle.wac_types_base.specs.Stated.{Stated, kind_of, stated_of}
use Rattle.wac_types_names.specs.declared.package.BorrowedPackageKey.{BorrowedPackageKey}
use Rattle.wac_types_names.specs.Packaged.{Packaged}
use Rattle.wac_types_names.specs.contracts.package.Package as package_row
use Rattle.wac_types_names.specs.Keys.{Key, borrowed_key, package_key, same_key}
use Rattle.wac_graph_core.specs.declared.ids.PackageId.{PackageId}
use Rattle.wac_graph_core.specs.declared.package.Place.{Place}
use Rattle.wac_graph_core.specs.Graph.{Graph, instantiated, package_of}
use Rattle.wac_graph_core.specs.contracts.graph.CompositionGraph as graph_row
use Rattle.wac_parser_refusals.specs.declared.refusal.Refusal.{Refusal}
use Rattle.wac_parser_refusals.specs.Causes.{UnknownPackage, present}
use Rattle.wac_parser_refusals.specs.Outcomes.{IsOutcome}
use Rattle.wac_parser_tree.specs.Trees.{Span}
use Rattle.wac_parser_declare.specs.Packages.{Content, HoldsIf, Known, world_if}
use Rattle.wac_parser_declare.specs.Scope.{definition_by, definitions}
use Rattle.wac_parser_resolve.specs.declared.packages.GraphTypes.{GraphTypes}
use Rattle.wac_parser_resolve.specs.declared.packages.PackageRef.{PackageRef}
use Rattle.wac_parser_resolve.specs.Choosing.{version_on}

-- ---- the packages of a graph

-- what a package has, its world in this collection
abbrev pub content_of : Collection → Packaged → Content
content_of c p = record { world = stated_of c (ItemKind.Component p.ty); bytes = p.bytes }

-- what a package has that has the key
abbrev pub held_under : Collection → Key → Option Packaged → Option Content
held_under c k None = None
held_under c k (Some p) = cond (same_key k (package_key p)) (Some (content_of c p)) None

abbrev pub content_in : Collection → List Place → Key → Option Content
content_in c [] k = None
content_in c (p ∷ ps) k = option_or (held_under c k p.held) (content_in c ps k)

abbrev pub known_of : Graph → Key → Option Content
known_of g = content_in g.types g.places

-- the package of this key has this, each other what it had
pub record Gets (old new : Graph) (key : Key) (x : Content) : Type 0 where
  pub own : known_of new key ≡ Some x
  pub others : (k : Key) → same_key k key ≡ false → known_of new k ≡ known_of old k

-- the package of an id has this key and this world
pub record IsPackage (g : Graph) (k : Key) (w : Stated) (id : PackageId) : Type 0 where
  pub held : Packaged
  pub there : package_of g id ≡ Some held
  pub key : package_key held ≡ k
  pub world : stated_of g.types (ItemKind.Component held.ty) ≡ w

-- ---- those that are handed in

abbrev pub stated_handed : PackageRef → Stated
stated_handed p = stated_of p.types.now (ItemKind.Component p.«package».now.ty)

abbrev pub lent_content : PackageRef → Content
lent_content p = content_of p.types.now p.«package».now

-- its world stands in its collection
abbrev pub world_stands : PackageRef → Bool
world_stands p = is_some (item_node p.types.now (ItemKind.Component p.«package».now.ty))

-- what it has, where its world stands
abbrev pub handed_content : PackageRef → Option Content
handed_content p = cond (world_stands p) (Some (lent_content p)) None

abbrev pub handed_under : GraphTypes → Key → Option Content
handed_under g k = option_and_then handed_content (get_by (λ key. same_key k (borrowed_key key)) g.packages.now)

abbrev pub with_handed : Option Content → Key → List (Key × Content) → List (Key × Content)
with_handed None k ps = ps
with_handed (Some x) k ps = (k, x) ∷ ps

abbrev pub handed_entries : List (BorrowedPackageKey × PackageRef) → List (Key × Content)
handed_entries [] = []
handed_entries (e ∷ es) = with_handed (handed_content e.1) (borrowed_key e.0) (handed_entries es)

-- each with its world and its bytes, in order
abbrev pub handed_list : {S : Type 0} → IndexMap BorrowedPackageKey PackageRef S → List (Key × Content)
handed_list m = handed_entries m.entries

-- the keys of those whose worlds stand
abbrev pub handed_keys : GraphTypes → List Key
handed_keys g = names_of (handed_list g.packages.now)

-- the version of one whose world stands, on a track
abbrev pub handed_version : Name → BorrowedPackageKey → PackageRef → Option Parts
handed_version track k p = cond (world_stands p) (version_on track (borrowed_key k)) None

-- the graph's come first
abbrev pub known_in : GraphTypes → Key → Option Content
known_in g k = option_or (known_of g.graph k) (handed_under g k)

-- ---- what is beside them

-- a graph's nodes, edges and exports
abbrev pub wiring_of : Graph → Graph
wiring_of g = record { types = empty 0; nodes = g.nodes; edges = g.edges; exports = g.exports; places = [] }

abbrev pub coded_parts : Coded Parts
coded_parts =
    code_by (ℕ × (ℕ × (ℕ × (List ℕ × List ℕ))))
    (coded× coded_ℕ (coded× coded_ℕ (coded× coded_ℕ (coded× (coded_list coded_ℕ) (coded_list coded_ℕ)))))
    (λ p. (p.0, (p.1, (p.2, (p.3, p.4))))) (λ q. (q.0, q.1.0, q.1.1.0, q.1.1.1.0, q.1.1.1.1)) (λ _. refl)

abbrev pub coded_keys : Coded (List Key)
coded_keys = coded_list (coded× (coded_list coded_ℕ) (coded_option coded_parts))

-- a graph's wiring, the package that a node is an instance of, and keys
unfoldable pub coded_rest : Coded (Graph × (Option Packaged × List Key))
coded_rest = coded× graph_row.the_row.coded (coded× (coded_option package_row.the_row.coded) coded_keys)

-- these as a ghost value
abbrev pub node_rest : Graph → List Key → ℕ → Gv
node_rest g ks k = coded_rest.code (wiring_of g, (instantiated g k, ks))

-- what is known of packages, and all else that the graph holds, with the keys of those that are handed in
abbrev pub all_known : GraphTypes → Known
all_known g = record { packages = known_in g; rest = node_rest g.graph (handed_keys g) }

-- the package of each key has what it had
pub record SameContents (f g : Key → Option Content) : Type 0 where
  pub same : (k : Key) → g k ≡ f k

-- ---- one package

-- the package of a key, or the refusal of one that nobody knows
abbrev pub IsPackageOf : GraphTypes → Key → Span → Graph → Result PackageId Refusal → Type 0
IsPackageOf g key s new r = IsOutcome (IsPackage new key) (present (world_if (known_in g key)) (UnknownPackage key.0) s) r

-- ---- definitions

-- what an export defines, if it does
abbrev pub IsDefinedBy : Collection → ItemKind → Option ItemKind → Type 0
IsDefinedBy c k o = HoldsIf c (definition_by (kind_of (stated_of c k)) (stated_of c k)) o

-- what a world defines under a name
abbrev pub IsDefinedIn : Collection → WorldId → Name → Option ItemKind → Type 0
IsDefinedIn c w n o = HoldsIf c (value_at (definitions (stated_of c (ItemKind.Component w))) n) o
