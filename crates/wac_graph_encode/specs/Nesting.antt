-- Packages that are nested at the root of a component.
pub use Rattle.wac_graph_encode.specs.Encoding.{bytes_in, bytes_of}
use Rattle.std.specs.Prelude.{◌≡◌, ◌≤◌, ℕ, ◌+◌, Bool, List, [], ◌∷◌, length, map, Some, if◌then◌else◌}
use Rattle.indexmap.specs.IndexMap.{insert_entry, insert_all}
use Rattle.wac_types_base.specs.declared.item.ItemKind.{ItemKind}
use Rattle.wac_types_base.specs.Entries.{names_of}
use Rattle.wac_types_base.specs.Stated.{stated_of}
use Rattle.wac_types_base.specs.Tree.{tree}
use Rattle.wac_types_names.specs.Packaged.{Packaged}
use Rattle.wac_graph_bytes.specs.declared.value.Sort.{Sort}
use Rattle.wac_graph_bytes.specs.declared.value.Sort.TheVariants as sort
use Rattle.wac_graph_bytes.specs.Counting.{same_sort}
use Rattle.wac_graph_bytes.specs.Entries.{Nested}
use Rattle.wac_graph_bytes.specs.Typing.{Worlds}
use Rattle.wac_graph_scopes.specs.declared.imports.ImportScope.{ImportScope}
use Rattle.wac_graph_core.specs.declared.ids.PackageId.{PackageId}
use Rattle.wac_graph_core.specs.contracts.ids.PackageIdPartialEq.TheImpl as package_id
use Rattle.wac_graph_core.specs.Graph.{Graph, package_of}
use Rattle.wac_graph_encode.specs.declared.root.Root.{Root}
use Rattle.wac_graph_encode.specs.Encoding.{tag_of}
use Rattle.wac_graph_encode.specs.Standing.{counted, CountsNext}
use Rattle.wac_graph_encode.specs.Writing.{AddsEntry}
use Rattle.wac_graph_encode.specs.Ready.{AddsNames}
use Rattle.wac_graph_encode.specs.Rooting.{AddsRead, TakesScope}

-- of the root nothing else is changed
pub record KeepsOthers (old new : Root) : Type 0 where
  pub imports : new.imports ≡ old.imports
  pub nodes : new.nodes ≡ old.nodes
  pub exported : new.exported ≡ old.exported

-- One more component, of those bytes, is nested behind the entries, and the id has its index.
pub record NestsOne (id : PackageId) (bytes : List ℕ) (old new : Root) : Type 0 where
  pub entry : AddsEntry old.entries.items new.entries.items (Nested bytes)
  pub counts : CountsNext sort.Component old.counts new.counts
  pub packages : new.packages.entries
      ≡ insert_entry package_id.eq-value.it old.packages.entries id (counted old.counts sort.Component)
  pub others : KeepsOthers old new

-- these under that index and those after it
abbrev pub numbered : {X : Type 0} → ℕ → List X → List (X × ℕ)
numbered k [] = []
numbered k (x ∷ xs) = (x, k) ∷ numbered (k + 1) xs

-- no more components are counted than there are entries
abbrev pub IsCounted : Root → Type 0
IsCounted r = counted r.counts sort.Component ≤ length r.entries.items

-- the next indexes of components are those of the ids, and are counted
pub record NumbersAll (ids : List PackageId) (old new : Root) : Type 0 where
  pub counts : (s : Sort) → counted new.counts s ≡ counted old.counts s + (if same_sort s sort.Component then length ids else 0)
  pub packages : new.packages.entries
      ≡ insert_all package_id.eq-value.it old.packages.entries (numbered (counted old.counts sort.Component) ids)

-- The packages are nested behind the entries, in order and unchanged, and the ids have their indexes.
pub record NestsAll (g : Graph) (ids : List PackageId) (old new : Root) : Type 0 where
  pub entries : AddsRead old.entries.items new.entries.items (map (λ id. Nested (bytes_of g id)) ids)
  pub numbers : IsCounted old → NumbersAll ids old new
  pub held : AddsNames ids (names_of old.packages.entries) (names_of new.packages.entries)
  pub others : KeepsOthers old new

-- what is written in the scope is taken to the root, and the packages are nested behind it
pub record NestsBehind (g : Graph) (ids : List PackageId) (scope : ImportScope) (old new : Root) : Type 0 where
  pub taken : Root
  pub takes : TakesScope scope old taken
  pub nests : NestsAll g ids taken new

-- the worlds say what an instance of the package is
pub record IsTold (define : Bool) (g : Graph) (worlds : Worlds) (id : PackageId) : Type 0 where
  pub of : Packaged
  pub is : package_of g id ≡ Some of
  pub world : worlds (tag_of define of) ≡ Some (tree (stated_of g.types (ItemKind.Instance of.instance_type)))
