-- The world that a document targets, and when a graph meets it: by the types that statements ask and instances leave open.
use Rattle.std.specs.Prelude.{◌≡◌, ◌⊎◌, ℕ, List, [], Option, Some, None, slice_get}
use Rattle.wac_types_base.specs.declared.ids.WorldId.{WorldId}
use Rattle.wac_types_base.specs.declared.item.ItemKind.{ItemKind}
use Rattle.wac_types_base.specs.declared.defined.World.{World}
use Rattle.wac_types_base.specs.Record.{Collection}
use Rattle.wac_types_base.specs.Collection.{Stands}
use Rattle.wac_types_base.specs.Entries.{Name, value_at}
use Rattle.wac_types_base.specs.Graph.{Among}
use Rattle.wac_types_base.specs.Resolving.{promoted}
use Rattle.wac_types_base.specs.Implicit.{implicit_interfaces, by_identifier}
use Rattle.wac_types_fit.specs.Trees.{Fit}
use Rattle.wac_types_fit.specs.Targets.{target_import}
use Rattle.wac_graph_core.specs.Edges.{HasArgument}
use Rattle.wac_graph_core.specs.NodeMaps.{IsImport}
use Rattle.wac_graph_core.specs.Graph.{Graph, IsOfKind}
use Rattle.wac_graph_core.specs.Refusals.{IsOpen}

-- what a target gives, by name
abbrev pub Gives : Type 0
Gives = Name → Option ItemKind

-- the target gives an item of that name, and it fits what is asked
pub record IsImportMet (c : Collection) (given : Gives) (n : Name) (asked : ItemKind) : Type 0 where
  pub item : ItemKind
  pub is : given n ≡ Some item
  pub fits : Fit c (promoted item) c asked

-- what an import statement asks
abbrev pub IsStatementMet : Graph → Gives → ℕ → Type 0
IsStatementMet g given k = (n : Name) → IsImport g.nodes k n → IsOfKind g k (λ x. IsImportMet g.types given n x)

-- the imports of an instance to which nothing is passed
abbrev pub IsInstanceMet : Graph → Gives → ℕ → Type 0
IsInstanceMet g given k = (n : Name) (item : ItemKind) → IsOpen g k n item → IsImportMet g.types given n item

-- something is passed to an instance under a name
abbrev pub IsPassed : Graph → ℕ → Name → Type 0
IsPassed g i n = (a : ℕ) × HasArgument g.edges i n a

-- an import of an instance: something is passed to it, or the target gives it
abbrev pub IsFilledMet : Graph → Gives → ℕ → Name → ItemKind → Type 0
IsFilledMet g given i n k = IsPassed g i n ⊎ IsImportMet g.types given n k

-- of these imports of an instance, those to which nothing is passed
abbrev pub AreFilledMet : Graph → Gives → ℕ → List (Name × ItemKind) → Type 0
AreFilledMet g given i imports = (n : Name) (k : ItemKind) → Among (n, k) imports → IsFilledMet g given i n k

-- the graph exports an item of that name, and it fits the target's
pub record IsExportMet (g : Graph) (n : Name) (wanted : ItemKind) : Type 0 where
  pub node : ℕ
  pub is : value_at g.exports n ≡ Some node
  pub fits : IsOfKind g node (λ x. Fit g.types x g.types (promoted wanted))

-- all exports of the target
abbrev pub AreExportsMet : Graph → List (Name × ItemKind) → Type 0
AreExportsMet g wanted = (n : Name) (k : ItemKind) → Among (n, k) wanted → IsExportMet g n k

-- the graph meets the world
pub record IsMet (g : Graph) (w : WorldId) : Type 0 where
  pub world : World
  pub is : slice_get g.types.worlds w.index ≡ Some world
  pub implicit : List (Name × ItemKind)
  pub implicit_is : by_identifier g.types [] (implicit_interfaces g.types world) ≡ Some implicit
  pub statements : (k : ℕ) → IsStatementMet g (target_import implicit world.imports) k
  pub instances : (k : ℕ) → IsInstanceMet g (target_import implicit world.imports) k
  pub exports : AreExportsMet g world.exports

-- the target, if there is one, stands in the graph's collection, and the graph meets it
abbrev pub IsTarget : Graph → Option WorldId → Type 0
IsTarget g None = Unit {0}
IsTarget g (Some w) = Stands g.types (ItemKind.Component w) × IsMet g w
