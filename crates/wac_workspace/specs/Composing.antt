-- A composed source, and a refused one.
use Rattle.std.specs.Prelude.{◌≡◌, ℕ, ◌+◌, ◌<◌, ◌≤◌, List, Bool, true, false, Ok, Err, string_bytes}
use Rattle.std.specs.Option.{option_map}
use Rattle.semver.specs.Identifiers.{parts_of}
use Rattle.wac_types_base.specs.declared.ids.WorldId.{WorldId}
use Rattle.wac_types_base.specs.declared.item.ItemKind.{ItemKind}
use Rattle.wac_types_base.specs.Record.{Collection}
use Rattle.wac_types_base.specs.Collection.{Stands}
use Rattle.wac_types_names.specs.Keys.{Key}
use Rattle.wac_graph_core.specs.Graph.{Graph}
use Rattle.wac_graph_encode.specs.declared.options.EncodeOptions.{EncodeOptions}
use Rattle.wac_graph_encode.specs.Encoding.{IsComposed as IsComponentOf}
use Rattle.wac_parser_tree.specs.Trees.{Document}
use Rattle.wac_parser_grammar.specs.Documents.{document}
use Rattle.wac_parser_grammar.specs.Reads.{read_source}
use Rattle.wac_parser_grammar.specs.Faults.{fault_of}
use Rattle.wac_parser_resolve.specs.InDocuments.{IsErrorOf}
use Rattle.wac_parser_resolve.specs.Ascribed.{ascribed}
use Rattle.wac_parser_resolve.specs.Meeting.{resolved}
use Rattle.wac_parser_encode.specs.Meaning.{ImportsAscribed, MeansAscribed}
use Rattle.wac_parser_encode.specs.Processing.{TellsSomeProcessor}
use Rattle.wac_workspace.specs.declared.output.Output.{Output}
use Rattle.wac_workspace.specs.declared.error.ComposeError.{ComposeError}
use Rattle.wac_workspace.specs.declared.error.ComposeError.TheVariants as error
use Rattle.wac_workspace.specs.Packages.{Held, PackageParts, HasKey, HasHanded, AddsPackage}
use Rattle.wac_workspace.specs.Resolving.{Handed, Resolves, handed, IsGraphOf, IsAccepted, IsComposition, IsTargetUnmet, NamesFirst}

-- the greatest number of a collection, which is never given out
abbrev pub greatest : ℕ
greatest = 18446744073709551615

-- the document that a source is
abbrev pub IsDocument : List ℕ → Document → Type 0
IsDocument source d = read_source document source ≡ Ok d

-- the key of the directive's package
abbrev pub directive_key : Document → Key
directive_key d = (d.directive.«package».name, d.directive.«package».version)

-- the key of an output
abbrev pub output_key : Output → Key
output_key o = (string_bytes o.name, option_map parts_of o.version)

-- what is registered of an output: its key, its bytes, and its world under its number
abbrev pub output_parts : Output → PackageParts
output_parts o = record { key = output_key o; bytes = o.bytes.items; types = o.types; world = o.world; number = o.types.number }

-- the output is registered: its key is no package's, and its bytes are no handed component's
pub record Registers (old new : Held) (o : Output) : Type 0 where
  pub key : HasKey old.packages (output_key o) → ⊥
  pub bytes : HasHanded old.packages o.bytes.items → ⊥
  pub added : AddsPackage old.packages new.packages false (output_parts o)
  pub next : new.next ≡ old.next

-- with components defined the output is registered; else the packages stay
abbrev pub RegistersIf : (define : Bool) → Held → Held → Output → Type 0
RegistersIf true old new o = Registers old (record new { next = old.next }) o
RegistersIf false old new o = new.packages ≡ old.packages

-- The source is a document against which no cause stands over these packages, and the output has its directive's key and its
-- world, which meets the target that is named, under the last of the next three numbers.
pub record IsOutput (next : ℕ) (ps : Handed) (source : List ℕ) (define : Bool) (o : Output) : Type 0 where
  pub tree : Document
  pub read : IsDocument source tree
  pub accepted : IsAccepted (ascribed define tree ps)
  pub room : next + 3 ≤ greatest
  pub key : output_key o ≡ directive_key tree
  pub number : o.types.number ≡ next + 2
  pub stands : Stands o.types (ItemKind.Component o.world)
  pub composed : IsComposition (resolved tree ps) o.types o.world

-- the bytes mean the wiring that is ascribed over the packages handed in
unfoldable pub AreAscribedBytes : Resolves → List ℕ → Type 0
AreAscribedBytes (Ok s) bytes = MeansAscribed s.0 bytes
AreAscribedBytes (Err c) bytes = ⊥

-- The bytes mean what is ascribed, and are a component of a graph that holds it: its packages are nested, each once and
-- unchanged, and nothing else is.
pub record IsMeant (q : Resolves) (bytes : List ℕ) : Type 0 where
  pub ascribed : AreAscribedBytes q bytes
  pub graph : Graph
  pub holds : IsGraphOf q graph
  pub component : IsComponentOf true graph bytes

-- so it is, with components defined, of what is resolved
abbrev pub MeansSaid : EncodeOptions → Resolves → List ℕ → Type 0
MeansSaid options q bytes = options.define_components ≡ true → IsMeant q bytes

-- likewise of the document that a source is
pub record IsMeantBy (ps : Handed) (source : List ℕ) (bytes : List ℕ) : Type 0 where
  pub tree : Document
  pub read : IsDocument source tree
  pub meant : IsMeant (resolved tree ps) bytes

unfoldable pub MeansSource : (define : Bool) → Handed → List ℕ → List ℕ → Type 0
MeansSource define ps source bytes = define ≡ true → IsMeantBy ps source bytes

-- ---- with packages imported

-- the bytes mean the wiring that is ascribed over them
unfoldable pub AreImportingBytes : Resolves → List ℕ → Type 0
AreImportingBytes (Ok s) bytes = ImportsAscribed s.0 bytes
AreImportingBytes (Err c) bytes = ⊥

-- The bytes mean what is ascribed, and are a component of a graph that holds it: its packages are imported, each once, and
-- nothing is nested.
pub record IsImporting (q : Resolves) (bytes : List ℕ) : Type 0 where
  pub ascribed : AreImportingBytes q bytes
  pub graph : Graph
  pub holds : IsGraphOf q graph
  pub component : IsComponentOf false graph bytes

abbrev pub ImportsSaid : EncodeOptions → Resolves → List ℕ → Type 0
ImportsSaid options q bytes = options.define_components ≡ false → IsImporting q bytes

pub record IsImportingBy (ps : Handed) (source : List ℕ) (bytes : List ℕ) : Type 0 where
  pub tree : Document
  pub read : IsDocument source tree
  pub imported : IsImporting (resolved tree ps) bytes

unfoldable pub ImportsSource : (define : Bool) → Handed → List ℕ → List ℕ → Type 0
ImportsSource define ps source bytes = define ≡ false → IsImportingBy ps source bytes

-- ---- what is done

-- The source is composed: the output's bytes mean what the source ascribes and tell the processor that is given, or this
-- project's; three numbers are taken, and the output is kept.
pub record ComposesSource (old new : Held) (source : List ℕ) (options : EncodeOptions) (o : Output) : Type 0 where
  pub output : IsOutput old.next (handed old.packages) source options.define_components o
  pub means : MeansSource options.define_components (handed old.packages) source o.bytes.items
  pub imports : ImportsSource options.define_components (handed old.packages) source o.bytes.items
  pub processor : TellsSomeProcessor options.processor o.bytes.items
  pub next : new.next ≡ old.next + 3
  pub kept : RegistersIf options.define_components old new o

-- the source is a document, there are three more numbers, and this is so of what the document resolves to
pub record IsTried (next : ℕ) (ps : Handed) (source : List ℕ) (P : Resolves → Type 0) : Type 0 where
  pub tree : Document
  pub read : IsDocument source tree
  pub room : next + 3 ≤ greatest
  pub late : P (resolved tree ps)

-- the document that the source is has a key of this kind
abbrev pub WithKey : List ℕ → (Key → Type 0) → Type 0
WithKey source P = (d : Document) × IsDocument source d × P (directive_key d)

-- The source is a document against which no cause stands, there are three more numbers, and a world that states what it says
-- meets the target that is named.
pub record CanBeComposed (next : ℕ) (ps : Handed) (source : List ℕ) (define : Bool) : Type 0 where
  pub tree : Document
  pub read : IsDocument source tree
  pub room : next + 3 ≤ greatest
  pub accepted : IsAccepted (ascribed define tree ps)
  pub types : Collection
  pub world : WorldId
  pub composed : IsComposition (resolved tree ps) types world

-- the graph holds what the document says that the source is
abbrev pub IsGraphed : Handed → List ℕ → Graph → Type 0
IsGraphed ps source g = (d : Document) × IsDocument source d × IsGraphOf (resolved d ps) g

-- why a source has no graph: it is no document, or the document's first cause
abbrev pub IsUnresolved : Handed → List ℕ → ComposeError → Type 0
IsUnresolved ps source (error.Parse f) = read_source document source ≡ Err (fault_of f)
IsUnresolved ps source (error.Resolution f) = (d : Document) × IsDocument source d × IsErrorOf (resolved d ps) f
IsUnresolved ps source error.Memory = Unit {0}
IsUnresolved ps source e = ⊥

-- why a source has no output, whatever stands in the workspace under its key
abbrev pub IsUnmade : ℕ → Handed → List ℕ → EncodeOptions → ComposeError → Type 0
IsUnmade next ps source options (error.Parse f) = read_source document source ≡ Err (fault_of f)
IsUnmade next ps source options error.NumbersExhausted = (d : Document) × IsDocument source d × (greatest < next + 3)
IsUnmade next ps source options (error.Resolution f) = IsTried next ps source (λ q. NamesFirst options q f)
IsUnmade next ps source options (error.Target r) = IsTried next ps source (IsTargetUnmet options.define_components r)
IsUnmade next ps source options error.KeyTaken = ⊥
IsUnmade next ps source options error.BytesTaken = ⊥
IsUnmade next ps source options error.Memory = Unit {0}

-- bytes that are what the source means are a handed component's
abbrev pub MeansHanded : Held → List ℕ → Type 0
MeansHanded w source = (bytes : List ℕ) × HasHanded w.packages bytes × IsMeantBy (handed w.packages) source bytes

-- The causes of a refusal, in their order: that of the source, its key, its bytes.
abbrev pub IsRefused : Held → List ℕ → EncodeOptions → ComposeError → Type 0
IsRefused w source options error.KeyTaken =
    (options.define_components ≡ true) × CanBeComposed w.next (handed w.packages) source options.define_components
    × WithKey source (HasKey w.packages)
IsRefused w source options error.BytesTaken =
    (options.define_components ≡ true)
    × CanBeComposed w.next (handed w.packages) source options.define_components
    × WithKey source (λ k. HasKey w.packages k → ⊥)
    × MeansHanded w source
IsRefused w source options e = IsUnmade w.next (handed w.packages) source options e
