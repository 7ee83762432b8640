-- When a call is refused, and by what. Each case says that the tests before it passed.
use Rattle.std.specs.Prelude.{◌≡◌, ◌≢◌, ℕ, List, [], ◌∷◌, true, false, Option, Some, None, MatchOption, string_bytes}
use Rattle.wac_types_base.specs.declared.item.ItemKind.{ItemKind}
use Rattle.wac_types_base.specs.Record.{Collection}
use Rattle.wac_types_base.specs.Entries.{Name}
use Rattle.wac_types_base.specs.Stated.{Stated, stated_of}
use Rattle.wac_types_base.specs.Tree.{tree}
use Rattle.wac_types_base.specs.Fits.{Fits}
use Rattle.wac_types_written.specs.Written.{written_definition}
use Rattle.wac_types_names.specs.Packaged.{Packaged}
use Rattle.wac_types_fit.specs.declared.error.SubtypeError.{SubtypeError}
use Rattle.wac_types_fit.specs.Trees.{Fit, tree_in}
use Rattle.wac_types_fit.specs.Frames.{Step, Disagree}
use Rattle.wac_types_fit.specs.Errors.{steps_of, words_of}
use Rattle.wac_types_fit.specs.Words.{Called}
use Rattle.wac_graph_core.specs.declared.edge.Follow.{Follow}
use Rattle.wac_graph_core.specs.declared.error.ImportError.{ImportError}
use Rattle.wac_graph_core.specs.declared.error.AliasError.{AliasError}
use Rattle.wac_graph_core.specs.declared.error.InstantiationArgumentError.{InstantiationArgumentError}
use Rattle.wac_graph_core.specs.NodeMaps.{IsImport, NoImport}
use Rattle.wac_graph_core.specs.Edges.{HasArgument, Reaches}
use Rattle.wac_graph_core.specs.Nodes.{NodeData}
use Rattle.wac_graph_core.specs.Graph.{Graph, IsOfKind, node_at, passed, is_instance, item_export, item_import, instantiated, IsArgument}
use Rattle.wac_graph_core.specs.Steps.{IsExternName, NodeFits}

abbrev pub ImportRefused : Graph → Name → ImportError → Type 0
ImportRefused g n (ImportError.ImportAlreadyExists m k) = (string_bytes m ≡ n) × IsImport g.nodes k n
ImportRefused g n (ImportError.InvalidImportName m source) = (string_bytes m ≡ n) × NoImport g.nodes n × (IsExternName n → ⊥)
ImportRefused g n ImportError.Memory = Unit {0}

abbrev pub AliasRefused : Graph → ℕ → Name → AliasError → Type 0
AliasRefused g i n (AliasError.NodeIsNotAnInstance k) = (k ≡ i) × IsOfKind g i (λ x. is_instance x ≡ false)
AliasRefused g i n (AliasError.InstanceMissingExport k m) =
    (k ≡ i) × (string_bytes m ≡ n) × IsOfKind g i (λ x. (is_instance x ≡ true) × (item_export g.types x n ≡ None))
AliasRefused g i n AliasError.Memory = Unit {0}

-- the steps of the checker's fault lead to where the two trees disagree; what is asked there is called as it says is expected,
-- what is given as it says is found
pub record Mismatches (c : Collection) (given : ItemKind) (d : Collection) (asked : ItemKind)
    (fault : SubtypeError) : Type 0 where
  pub steps : List Step
  pub are : steps_of fault ≡ Some steps
  pub disagree : Disagree steps (tree_in c given) (tree_in d asked)
  pub words : (expected found : Option Name) → words_of fault ≡ Some (steps, (expected, found))
      → Called d asked steps expected × Called c given steps found
  pub differ : Fit c given d asked → ⊥

-- none where the one fits the other, and else the fault
abbrev pub TellsMismatch : Collection → ItemKind → Collection → ItemKind → Option SubtypeError → Type 0
TellsMismatch c given d asked o = MatchOption o (Fit c given d asked) (Mismatches c given d asked)

-- what a definition of the one is written as fits the other
abbrev pub WrittenFits : Collection → ItemKind → ItemKind → Type 0
WrittenFits c given asked = Fits (tree (written_definition (stated_of c given))) (tree_in c asked)

-- the fault is told from a collection in which this stated type stands
pub record StatedMismatches (t : Stated) (c : Collection) (asked : ItemKind) (fault : SubtypeError) : Type 0 where
  pub types : Collection
  pub given : ItemKind
  pub is : stated_of types given ≡ t
  pub differ : Mismatches types given c asked fault

abbrev pub WrittenMismatches : Collection → ItemKind → ItemKind → SubtypeError → Type 0
WrittenMismatches c given asked fault = StatedMismatches (written_definition (stated_of c given)) c asked fault

-- the node, as it is passed, does not fit
pub record NodeMismatches (g : Graph) (a : ℕ) (item : ItemKind) (fault : SubtypeError) : Type 0 where
  pub node : NodeData
  pub there : node_at g a ≡ Some node
  pub mismatch : StatedMismatches (passed g.types node) g.types item fault

-- the package of this name has no import of that one
pub record LacksArgument (g : Graph) (i : ℕ) (n : Name) (p : Name) : Type 0 where
  pub of : Packaged
  pub is : instantiated g i ≡ Some of
  pub named : of.name ≡ p
  pub import : item_import g.types of.ty n ≡ None

-- it has one of this kind, to which nothing is passed
pub record IsOpen (g : Graph) (i : ℕ) (n : Name) (item : ItemKind) : Type 0 where
  pub is : IsArgument g i n item
  pub none : (b : ℕ) → HasArgument g.edges i n b → ⊥

-- no import of an instance: neither an argument that is there, another type nor a circle is a cause
abbrev pub LacksImport : Graph → ℕ → Name → InstantiationArgumentError → Type 0
LacksImport g i n (InstantiationArgumentError.NodeIsNotAnInstantiation k) = (k ≡ i) × (instantiated g i ≡ None)
LacksImport g i n (InstantiationArgumentError.InvalidArgumentName k m p) =
    (k ≡ i) × (string_bytes m ≡ n) × LacksArgument g i n (string_bytes p)
LacksImport g i n (InstantiationArgumentError.ArgumentAlreadyPassed k m) = ⊥
LacksImport g i n (InstantiationArgumentError.ArgumentTypeMismatch m fault) = ⊥
LacksImport g i n (InstantiationArgumentError.WouldFormCycle k) = ⊥
LacksImport g i n InstantiationArgumentError.Memory = Unit {0}

abbrev pub ArgumentRefused : Graph → ℕ → Name → ℕ → InstantiationArgumentError → Type 0
ArgumentRefused g i n a (InstantiationArgumentError.NodeIsNotAnInstantiation k) = (k ≡ i) × (instantiated g i ≡ None)
ArgumentRefused g i n a (InstantiationArgumentError.InvalidArgumentName k m p) =
    (k ≡ i) × (string_bytes m ≡ n) × LacksArgument g i n (string_bytes p)
ArgumentRefused g i n a (InstantiationArgumentError.ArgumentAlreadyPassed k m) =
    (k ≡ i) × (string_bytes m ≡ n) × (item : ItemKind) × IsArgument g i n item × (b : ℕ) × HasArgument g.edges i n b × (b ≢ a)
ArgumentRefused g i n a (InstantiationArgumentError.ArgumentTypeMismatch m fault) =
    (string_bytes m ≡ n) × (item : ItemKind) × IsOpen g i n item × NodeMismatches g a item fault
ArgumentRefused g i n a (InstantiationArgumentError.WouldFormCycle k) =
    (k ≡ i) × (item : ItemKind) × IsOpen g i n item × NodeFits g a item × Reaches Follow.Flow g.edges (i ∷ []) a
ArgumentRefused g i n a InstantiationArgumentError.Memory = Unit {0}
