-- What writing the nodes of a graph does, one behind those that it needs.
use Rattle.std.specs.Prelude.{◌≡◌, ◌⊎◌, ◌<◌, ◌≤◌, ℕ, Bool, List, ◌++◌, [], ◌∷◌, Option, Some, None, slice_get, option_to_list, filter, not, Result, OnOk, IfOk}
use Rattle.std.specs.List.{AllZip}
use Rattle.wac_types_base.specs.declared.ids.WorldId.{WorldId}
use Rattle.wac_types_base.specs.Record.{Collection}
use Rattle.wac_types_base.specs.Entries.{AreDistinct, Name, names_of, value_at, has_name}
use Rattle.wac_types_base.specs.Graph.{Among}
use Rattle.wac_types_base.specs.Tree.{Tree}
use Rattle.wac_graph_bytes.specs.declared.value.Sort.{Sort}
use Rattle.wac_graph_bytes.specs.declared.value.Sort.TheVariants as sort
use Rattle.wac_graph_bytes.specs.declared.entry.Entry.{Entry as CodeEntry}
use Rattle.wac_graph_bytes.specs.declared.entry.NamedIndex.{NamedIndex}
use Rattle.wac_graph_bytes.specs.Entries.{Entry, Argument, Instantiate, Exported}
use Rattle.wac_graph_bytes.specs.Typing.{Worlds}
use Rattle.wac_graph_bytes.specs.Views.{view, arguments_view}
use Rattle.wac_graph_core.specs.Edges.{IsRank, HasAlias, HasArgument}
use Rattle.wac_graph_core.specs.declared.ids.PackageId.{PackageId}
use Rattle.wac_graph_core.specs.Graph.{Graph, ContainsNode, IsOfKind, node_at, package_of}
use Rattle.wac_types_parts.specs.Parts.{imports_of}
use Rattle.wac_types_names.specs.Packaged.{Packaged}
use Rattle.wac_graph_asks.specs.Reads.{AreArguments, package_id_of}
use Rattle.wac_graph_scopes.specs.declared.imports.SortIndex.{SortIndex}
use Rattle.wac_graph_encode.specs.declared.root.Root.{Root}
use Rattle.wac_graph_encode.specs.declared.instances.Wired.{Wired}
use Rattle.wac_graph_encode.specs.declared.instances.Standing.{Standing}
use Rattle.wac_graph_scopes.specs.Items.{sort_of}
use Rattle.wac_graph_encode.specs.Encoding.{nested_at}
use Rattle.wac_graph_encode.specs.Standing.{AreFirst, counted, CountsNext, IsFinished, IsGivenAt, IsOuterAt, IsWritten, Rearranges, written_under}

-- ---- entries

-- one more entry, which is that
pub record AddsEntry (old new : List CodeEntry) (x : Entry) : Type 0 where
  pub entry : CodeEntry
  pub added : new ≡ old ++ entry ∷ []
  pub is : view entry ≡ x

-- one more entry, and with it the next index of the sort
pub record AddsIndex (old new : Root) (x : Entry) (s : Sort) (p : SortIndex) : Type 0 where
  pub entry : AddsEntry old.entries.items new.entries.items x
  pub counts : CountsNext s old.counts new.counts
  pub index : p ≡ record { sort = s; index = counted old.counts s }
  pub nodes : new.nodes ≡ old.nodes
  pub exported : new.exported ≡ old.exported
  pub packages : new.packages ≡ old.packages

-- one more instance, of that component
abbrev pub AddsInstance : Root → Root → ℕ → List NamedIndex → SortIndex → Type 0
AddsInstance old new component given p = AddsIndex old new (Instantiate component (arguments_view given)) sort.Instance p

-- ---- arguments

-- the first is passed to the other, or the other is an alias of an export of it
abbrev pub IsNeeded : Graph → ℕ → ℕ → Type 0
IsNeeded g j k = ((n : Name) × HasArgument g.edges k n j) ⊎ ((n : Name) × HasAlias g.edges j n k)

-- only such are added
abbrev pub AddsNeeded : Graph → ℕ → List ℕ → List ℕ → Type 0
AddsNeeded g k old new = (j : ℕ) → Among j new → Among j old ⊎ IsNeeded g j k

-- what is written of the outer import that is asked under a name
abbrev pub outer_in : Standing → Name → Option SortIndex
outer_in s = written_under s.places.now s.imports.now

abbrev pub outer_of : Wired → Name → Option SortIndex
outer_of w = written_under w.places.now w.imports.items

-- what is given under a name: the node that is bound, where it stands, or else the outer import
pub data GivesUnder (s : Standing) (bound : List (Name × ℕ)) (n : Name) (p : SortIndex) : Type 0 where
  by_node : (a : ℕ) → value_at bound n ≡ Some a → Among (a, p) s.nodes.now.entries → GivesUnder s bound n p
  by_import : value_at bound n ≡ None → outer_in s n ≡ Some p → GivesUnder s bound n p

abbrev pub AreGivenUnder : Standing → List (Name × ℕ) → List Name → List Argument → Type 0
AreGivenUnder s bound ns as_ = AllZip (λ n a. (a.0 ≡ n) × GivesUnder s bound n (record { sort = a.1; index = a.2 })) ns as_

-- under each name, what is given to the instance there
abbrev pub AreGivenAt : Graph → (Name → Option SortIndex) → List (ℕ × SortIndex) → ℕ → List Name → List Argument → Type 0
AreGivenAt g found nodes k ns as_ =
    AllZip (λ n a. (a.0 ≡ n) × IsGivenAt g found nodes k n (record { sort = a.1; index = a.2 })) ns as_

-- under the name of each import of the world
abbrev pub AreGivenIn : Collection → WorldId → Standing → List (Name × ℕ) → List NamedIndex → Type 0
AreGivenIn types world s bound new = AreGivenUnder s bound (names_of (imports_of types world)) (arguments_view new)

abbrev pub AddsArgument : List NamedIndex → List NamedIndex → Argument → Type 0
AddsArgument old new a = arguments_view new ≡ arguments_view old ++ a ∷ []

-- one more argument, of what is given under the name
pub record AddsGiven (s : Standing) (bound : List (Name × ℕ)) (n : Name) (old new : List NamedIndex) : Type 0 where
  pub place : SortIndex
  pub given : GivesUnder s bound n place
  pub added : arguments_view new ≡ arguments_view old ++ (n, place.sort, place.index) ∷ []

-- ---- what is written

abbrev pub noted : Wired → List (ℕ × SortIndex)
noted w = w.root.nodes.entries

-- what is written, where these nodes stand
abbrev pub WrittenWith : Bool → Worlds → List (Name × Tree) → Wired → List (ℕ × SortIndex) → Type 0
WrittenWith define worlds asked w nodes =
    IsWritten w.graph.now worlds define asked (outer_of w) w.root.packages.entries w.root.exported w.root.entries.items
    w.root.counts nodes

abbrev pub WrittenSo : Bool → Worlds → List (Name × Tree) → Wired → Type 0
WrittenSo define worlds asked w = WrittenWith define worlds asked w (noted w)

-- it is written again
abbrev pub KeepsWritten : {A E : Type 0} → Wired → Wired → Result A E → Type 0
KeepsWritten old new r = (define : Bool) (worlds : Worlds) (asked : List (Name × Tree)) → WrittenSo define worlds asked old
    → OnOk r (WrittenSo define worlds asked new)

-- no more component is nested
abbrev pub NestsNoMore : Root → Root → Type 0
NestsNoMore old new = nested_at new.entries.items ≡ nested_at old.entries.items

-- the graph, the outer imports, the packages and the first exports are the same
pub record IsSameRoot (old new : Wired) : Type 0 where
  pub graph : new.graph ≡ old.graph
  pub places : new.places ≡ old.places
  pub imports : new.imports ≡ old.imports
  pub packages : new.root.packages ≡ old.root.packages
  pub exported : new.root.exported ≡ old.root.exported
  pub nested : NestsNoMore old.root new.root

-- and what stood stands
pub record KeepsNodes (old new : Wired) : Type 0 where
  pub same : IsSameRoot old new
  pub kept : (k : ℕ) (p : SortIndex) → Among (k, p) (noted old) → Among (k, p) (noted new)

-- a node that did not stand is written, and stands at this index
abbrev pub WritesNode : {E : Type 0} → ℕ → Wired → Wired → Result SortIndex E → Type 0
WritesNode k old new r = (define : Bool) (worlds : Worlds) (asked : List (Name × Tree)) → WrittenSo define worlds asked old
    → (Among k (names_of (noted old)) → ⊥)
    → IfOk r (λ p. WrittenWith define worlds asked new (noted old ++ (k, p) ∷ []))

-- an instance of the package to which that is passed is written, whichever node it is
abbrev pub WritesInstance : {E : Type 0} → PackageId → List (Name × ℕ) → Wired → Wired → Result SortIndex E → Type 0
WritesInstance id bound old new r =
    (k : ℕ) → package_id_of (node_at old.graph.now k) ≡ Some id → AreArguments old.graph.now k bound → WritesNode k old new r

-- under each import of the package, what is passed to an instance of it
abbrev pub PassesAll : Wired → PackageId → List (Name × ℕ) → List Argument → Type 0
PassesAll w id bound as_ = (of : Packaged) → package_of w.graph.now id ≡ Some of
    → AreDistinct (names_of (imports_of w.graph.now.types of.ty))
    × ((k : ℕ) → AreArguments w.graph.now k bound
    → AreGivenAt w.graph.now (outer_of w) (noted w) k (names_of (imports_of w.graph.now.types of.ty)) as_)

-- the node is an alias of this sort, of an export of what stands at the index
pub record IsAliasAt (w : Wired) (k : ℕ) (s : Sort) (index : ℕ) (n : Name) : Type 0 where
  pub from : ℕ
  pub place : SortIndex
  pub stands : Among (from, place) (noted w)
  pub same : index ≡ place.index
  pub edge : HasAlias w.graph.now.edges from n k
  pub item : IsOfKind w.graph.now k (λ x. sort_of x ≡ Some s)

-- no node stands that did not, but those that are so
abbrev pub AddsOnly : ((ℕ → ℕ) → ℕ → Type 0) → Wired → Wired → Type 0
AddsOnly P old new = (rank : ℕ → ℕ) → IsRank old.graph.now.edges rank → (k : ℕ) → Among k (names_of (noted new))
    → Among k (names_of (noted old)) ⊎ P rank k

abbrev pub UpTo : ℕ → (ℕ → ℕ) → ℕ → Type 0
UpTo node rank k = rank k ≤ rank node

abbrev pub Below : ℕ → (ℕ → ℕ) → ℕ → Type 0
Below node rank k = rank k < rank node

abbrev pub UpToOne : List ℕ → (ℕ → ℕ) → ℕ → Type 0
UpToOne nodes rank k = (j : ℕ) × Among j nodes × (rank k ≤ rank j)

-- all nodes stand
abbrev pub AllAreWritten : Graph → List (ℕ × SortIndex) → Type 0
AllAreWritten g nodes = (k : ℕ) → ContainsNode g k → Among k (names_of nodes)

-- ---- the whole

-- The types, the outer imports and the packages are written, and no instance: what is written of the imports at these places
-- stands for the outer imports that are asked under these names.
pub record IsBegun (define : Bool) (worlds : Worlds) (asked : List (Name × Tree)) (places : List (Name × ℕ)) (g : Graph)
    (r : Root) : Type 0 where
  pub written : IsWritten g worlds define asked (λ n. None) r.packages.entries r.exported r.entries.items r.counts
      r.nodes.entries
  pub outers : (n : Name) (p : SortIndex) → written_under places r.imports.items n ≡ Some p
      → IsOuterAt g worlds written.state n p

-- what is begun is finished
abbrev pub Finishes : {A E : Type 0} → Wired → Wired → Result A E → Type 0
Finishes old new r = (define : Bool) (worlds : Worlds) (asked : List (Name × Tree))
    → IsBegun define worlds asked old.places.now old.graph.now old.root
    → OnOk r (IsFinished old.graph.now worlds define asked new.root.entries.items)

-- ---- exports

-- an export under a name, of which nothing is said
abbrev pub exported_as : Name → SortIndex → Entry
exported_as n p = Exported (record { name = n; sort = p.sort; index = p.index; stated = None })

-- the entry exports what stands for the node under the name
pub record IsExportOf (nodes : List (ℕ × SortIndex)) (x : Name × ℕ) (e : CodeEntry) : Type 0 where
  pub place : SortIndex
  pub stands : Among (x.1, place) nodes
  pub is : view e ≡ exported_as x.0 place

-- one more entry, which exports the node under the name
pub record AddsExport (nodes : List (ℕ × SortIndex)) (x : Name × ℕ) (old new : List CodeEntry) : Type 0 where
  pub entry : CodeEntry
  pub added : new ≡ old ++ entry ∷ []
  pub is : IsExportOf nodes x entry

-- one more entry for each export
pub record AddsExports (nodes : List (ℕ × SortIndex)) (exports : List (Name × ℕ)) (old new : List CodeEntry) : Type 0 where
  pub entries : List CodeEntry
  pub added : new ≡ old ++ entries
  pub are : AllZip (IsExportOf nodes) exports entries

-- those whose names are not among these
abbrev pub other_exports : List (Name × ℕ) → List (Name × ℕ) → List (Name × ℕ)
other_exports given xs = filter (λ x. not (has_name (names_of given) x.0)) xs

-- of the exports those at these places
abbrev pub exports_at : List (Name × ℕ) → List ℕ → List (Name × ℕ)
exports_at xs [] = []
exports_at xs (k ∷ ks) = option_to_list (slice_get xs k) ++ exports_at xs ks

-- for each at these places whose name is not among these
abbrev pub AddsAt : List (ℕ × SortIndex) → List (Name × ℕ) → List (Name × ℕ) → List ℕ → (old new : List CodeEntry) → Type 0
AddsAt nodes given exports places old new = AddsExports nodes (other_exports given (exports_at exports places)) old new

-- in some order, behind those that are written first
pub record AddsInOrder (nodes : List (ℕ × SortIndex)) (given exports : List (Name × ℕ)) (old new : List CodeEntry) : Type 0 where
  pub listing : List (Name × ℕ)
  pub rearranged : AreFirst given exports → Rearranges exports (given ++ listing)
  pub adds : AddsExports nodes listing old new
