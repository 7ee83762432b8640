-- The components of a manifest, which are added to a workspace.
use Rattle.std.specs.Prelude.{◌≡◌, ◌+◌, ℕ, List, [], ◌∷◌, Option, Some, Ok, true, string_bytes}
use Rattle.std.specs.Option.{option_map}
use Rattle.semver.specs.Identifiers.{parts_of}
use Rattle.wac_types_base.specs.declared.ids.WorldId.{WorldId}
use Rattle.wac_types_base.specs.Entries.{Name}
use Rattle.wac_types_base.specs.Record.{Collection}
use Rattle.wac_types_names.specs.Keys.{Key}
use Rattle.wac_graph_core.specs.Graph.{Graph}
use Rattle.wac_manifest.specs.declared.data.BytesData.{BytesData}
use Rattle.wac_manifest.specs.declared.manifest.Component.{Component}
use Rattle.wac_parser_grammar.specs.Reads.{read_source}
use Rattle.wac_parser_grammar.specs.Rules.{Rule}
use Rattle.wac_parser_resolve.specs.Meeting.{resolved}
use Rattle.wac_parser_tree.specs.Trees.{Document}
use Rattle.wac_workspace.specs.Composing.{IsDocument}
use Rattle.wac_workspace.specs.Packages.{Held, PackageParts, AddsPackage, HasBytes}
use Rattle.wac_workspace.specs.Resolving.{IsGraphOf}
use Rattle.wac_texts.specs.declared.declared.Declares.{Declares}
use Rattle.wac_texts.specs.Declarations.{declared_in}
use Rattle.wac_texts.specs.Files.{Stored, Has}
use Rattle.wac_texts.specs.Worlds.{IsDefined}
use Rattle.wac.specs.declared.components.Added.{Added}
use Rattle.wac.specs.Loading.{IsTextOf}

-- the bytes that are given, or that a file has
abbrev pub IsBytesOf : Option Stored → BytesData → List ℕ → Type 0
IsBytesOf files (BytesData.Bytes given) bytes = bytes ≡ given.items
IsBytesOf files (BytesData.File path) bytes = Has files (string_bytes path) (Some bytes)

-- one more package, handed in, of this key and these bytes, which no package had; its world has the next number
pub record AddsHanded (k : Key) (bs : List ℕ) (old new : Held) : Type 0 where
  pub parts : PackageParts
  pub key : parts.key ≡ k
  pub bytes : parts.bytes ≡ bs
  pub fresh : HasBytes old.packages bs → ⊥
  pub added : AddsPackage old.packages new.packages true parts
  pub next : new.next ≡ old.next + 1

abbrev pub component_key : Component → Key
component_key x = (string_bytes x.name, option_map parts_of x.version)

abbrev pub added_key : Added → Key
added_key x = (string_bytes x.name, option_map parts_of x.version)

-- the package has the world that a graph defines under a name, where a document declares one
pub record AddsDefined (g : Graph) (declares : Declares) (x : Added) (old new : Held) : Type 0 where
  pub handed : AddsHanded (added_key x) x.bytes.items old new
  pub declared : declares ≡ Declares.World
  pub defined : IsDefined g (string_bytes x.select) handed.parts.world
  pub there : handed.parts.types ≡ g.types

-- a text is a document that declares the world under a name: its graph, over no packages, defines it there
pub record DeclaresWorld (text : List ℕ) (name : Name) (types : Collection) (world : WorldId) : Type 0 where
  pub tree : Document
  pub read : IsDocument text tree
  pub declared : declared_in tree name ≡ Declares.World
  pub graph : Graph
  pub holds : IsGraphOf (resolved tree []) graph
  pub defined : IsDefined graph name world
  pub there : types ≡ graph.types

-- so what a rule reads of a text does, where this is said and that is declared of it
pub record AddsRead {T X : Type 0} (view : T → X) (rule : Rule X) (said declares : T → Document) (text : List ℕ) (x : Added)
    (old new : Held) : Type 0 where
  pub tree : T
  pub read : read_source rule text ≡ Ok (view tree)
  pub graph : Graph
  pub holds : IsGraphOf (resolved (said tree) []) graph
  pub adds : AddsDefined graph (declared_in (declares tree) (string_bytes x.select)) x old new

-- the component is added under its key, with the bytes that the manifest gives or a file has, and with the world that its text
-- declares
pub record AddsComponent (files : Option Stored) (x : Component) (old new : Held) : Type 0 where
  pub bytes : List ℕ
  pub given : IsBytesOf files x.bytes bytes
  pub text : List ℕ
  pub stated : IsTextOf files x.world text
  pub added : AddsHanded (component_key x) bytes old new
  pub declares : DeclaresWorld text (string_bytes x.select) added.parts.types added.parts.world

-- a workspace to which nothing was added
abbrev pub unused : Held
unused = record { next = 0; packages = [] }

-- so are they all, one after another
abbrev pub AddsComponents : Option Stored → List Component → (old new : Held) → Type 0
AddsComponents files [] old new = new ≡ old
AddsComponents files (x ∷ xs) old new =
    (between : Held) × (AddsComponent files x old between × AddsComponents files xs between new)
