-- Why a run stops, and what it leaves: what does not stand in the manifest, its files and its texts.
use Rattle.std.specs.Prelude.{◌≡◌, ◌≢◌, ◌⊎◌, ℕ, Bool, true, not, List, [], ◌∷◌, Option, Some, None, IsSome, Ok, Err, option_map, slice_get, take, codes, string_bytes}
use Rattle.std.specs.List.{AllZip}
use Rattle.std.specs.Str.{IsUtf8}
use Rattle.wac_streams.specs.Calls.{AppendsPrefix, Calls, FailedOnce}
use Rattle.wac_types_base.specs.declared.ids.WorldId.{WorldId}
use Rattle.wac_types_base.specs.Entries.{Name}
use Rattle.wac_types_base.specs.Graph.{Among}
use Rattle.wac_types_names.specs.Keys as names
use Rattle.wac_graph_core.specs.Graph.{Graph}
use Rattle.wac_manifest.specs.declared.data.BytesData.{BytesData}
use Rattle.wac_manifest.specs.declared.error.ManifestError.{ManifestError}
use Rattle.wac_manifest.specs.declared.manifest.Component.{Component}
use Rattle.wac_manifest.specs.declared.manifest.ComposeManifest.{ComposeManifest}
use Rattle.wac_manifest.specs.declared.manifest.Key.{Key}
use Rattle.wac_manifest.specs.declared.manifest.PlugManifest.{PlugManifest}
use Rattle.wac_manifest.specs.declared.manifest.Source.{Source}
use Rattle.wac_manifest.specs.Manifests.{says_composing, says_plugging}
use Rattle.wac_manifest.specs.Views.{composing_view, key_view, plugging_view}
use Rattle.wac_manifest.specs.Words.{manifest_words}
use Rattle.wac_parser_grammar.specs.declared.error.Error.{Error as ParseError}
use Rattle.wac_parser_grammar.specs.Documents.{document}
use Rattle.wac_parser_grammar.specs.Faults.{fault_of}
use Rattle.wac_parser_grammar.specs.Reads.{read_source}
use Rattle.wac_parser_grammar.specs.Rules.{Rule}
use Rattle.wac_parser_refusals.specs.declared.error.Error.{Error as ResolutionError}
use Rattle.wac_parser_resolve.specs.declared.packages.PackageRef.{PackageRef}
use Rattle.wac_parser_resolve.specs.InDocuments.{IsErrorOf}
use Rattle.wac_parser_resolve.specs.Meeting.{resolved}
use Rattle.wac_parser_tree.specs.Trees.{Document}
use Rattle.wac_workspace.specs.declared.entries.Entry.{Entry}
use Rattle.wac_workspace.specs.declared.error.AddPackageError.{AddPackageError}
use Rattle.wac_workspace.specs.declared.error.ComposeError.{ComposeError}
use Rattle.wac_workspace.specs.declared.output.Output.{Output}
use Rattle.wac_workspace.specs.Composing.{ComposesSource, IsDocument, IsRefused, greatest}
use Rattle.wac_workspace.specs.Getting.{Gets}
use Rattle.wac_workspace.specs.Packages.{Held, HasBytes, HasKey}
use Rattle.wac_workspace.specs.Reading.{HasTooMany, ToEnd}
use Rattle.wac_workspace.specs.Resolving.{IsGraphOf}
use Rattle.wac_texts.specs.declared.declared.Declares.{Declares}
use Rattle.wac_texts.specs.declared.declared.DeclaredWorldError.{DeclaredWorldError}
use Rattle.wac_texts.specs.declared.plugging.PlugTextError.{PlugTextError}
use Rattle.wac_texts.specs.Declarations.{declared_in}
use Rattle.wac_texts.specs.Files.{Stored, Has, KeepsOthers, FailsToWrite}
use Rattle.wac_texts.specs.Plugs.{PlugTextRefused, plugging_words}
use Rattle.wac_texts.specs.Worlds.{IsDefined, IsNotGiven}
use Rattle.wac.specs.declared.sources.Wanted.{Wanted}
use Rattle.wac.specs.declared.stop.Stop.{Stop}
use Rattle.wac.specs.Adding.{AddsComponents, IsBytesOf, component_key, unused}
use Rattle.wac.specs.Loading.{Ends, HasNoFileText, HasNoTextOf, IsTextOf, StopsFor}
use Rattle.wac.specs.Telling.{Errors, Tells, TellsIn, TellsParsing, TellsResolving}
use Rattle.wac.specs.Texts.{Says, SaysIf, SaysOf, Told, adding_text, selecting_text, taken_text, unknown_text, unread_text, unwritten_text}
use Rattle.wac.specs.Running.{IsFormatted, IsFound, IsTextAt, Keeps, Outside, PlugsFound, PutsSources, line_of, options_of, path_of}

-- a cause is told only where it stands, and nothing was written
abbrev pub EndsBefore : (cause : Told → Type 0) → (before after : Outside) → Stop → Type 0
EndsBefore cause before after stop = StopsFor cause stop × (after ≡ before)

-- ---- components

-- the path has no file
abbrev pub HasNoBytesOf : Option Stored → BytesData → Told → Type 0
HasNoBytesOf files (BytesData.Bytes given) told = ⊥
HasNoBytesOf files (BytesData.File path) told =
    SaysOf (Has files (string_bytes path) None) (unread_text (string_bytes path)) told

-- the key is a package's, or the bytes are, or no number is left: the first of these
abbrev pub IsTaken : Held → names.Key → List ℕ → Told → Type 0
IsTaken w k bytes told =
    SaysOf (HasKey w.packages k) (adding_text k AddPackageError.KeyTaken) told
    ⊎ SaysOf ((HasKey w.packages k → ⊥) × HasBytes w.packages bytes) (adding_text k AddPackageError.BytesTaken) told
    ⊎ SaysOf ((HasKey w.packages k → ⊥) × (HasBytes w.packages bytes → ⊥) × (w.next ≡ greatest))
    (adding_text k AddPackageError.NumbersExhausted) told

-- by its graph, a document that declares this gives no world of the name; or it gives one, and what is to have it is taken
abbrev pub GivesNone : Graph → Declares → Name → (taken : Told → Type 0) → Told → Type 0
GivesNone g declares name taken told =
    ((fault : DeclaredWorldError) × SaysOf (IsNotGiven g declares name fault) (selecting_text name fault) told)
    ⊎ ((declares ≡ Declares.World) × ((world : WorldId) × IsDefined g name world) × taken told)

-- what is said of a document, over no packages, has a cause against it; or the graph that holds it gives none
abbrev pub SaysNone : (said declares : Document) → Name → (taken : Told → Type 0) → Told → Type 0
SaysNone said declares name taken told =
    ((fault : ResolutionError) × IsErrorOf (resolved said []) fault × TellsResolving fault told)
    ⊎ ((g : Graph) × IsGraphOf (resolved said []) g × GivesNone g (declared_in declares name) name taken told)

-- the rule does not read the text
abbrev pub IsNotRead : {X : Type 0} → Rule X → (text : List ℕ) → Told → Type 0
IsNotRead rule text told =
    (fault : ParseError) × (read_source rule text ≡ Err (fault_of fault)) × TellsParsing fault told

-- the text is no document, or one that gives no world, or what is to have it is taken
abbrev pub DeclaresNone : (text : List ℕ) → Name → (taken : Told → Type 0) → Told → Type 0
DeclaresNone text name taken told =
    IsNotRead document text told ⊎ ((d : Document) × IsDocument text d × SaysNone d d name taken told)

-- so it is of what a rule reads of a text
abbrev pub ReadsNone : {T X : Type 0} → (T → X) → Rule X → (said declares : T → Document) → (text : List ℕ) → Name
    → (taken : Told → Type 0) → Told → Type 0
ReadsNone {T = T} view rule said declares text name taken told =
    IsNotRead rule text told
    ⊎ ((t : T) × (read_source rule text ≡ Ok (view t)) × SaysNone (said t) (declares t) name taken told)

-- Why a component is not added, the first cause in order: its bytes are not there; the text of its world is not; that declares no
-- such world; or the key, the bytes or the numbers are taken.
abbrev pub IsNotAdded : Option Stored → Component → Held → Told → Type 0
IsNotAdded files x w told =
    HasNoBytesOf files x.bytes told
    ⊎ ((bytes : List ℕ) × IsBytesOf files x.bytes bytes
    × (HasNoTextOf files x.world told
    ⊎ ((text : List ℕ) × IsTextOf files x.world text
    × DeclaresNone text (string_bytes x.select) (IsTaken w (component_key x) bytes) told)))

-- the component at a place is not added, where those before it are
pub record StopsAdding (files : Option Stored) (xs : List Component) (w : Held) (told : Told) : Type 0 where
  pub at : ℕ
  pub stopped : Component
  pub there : slice_get xs at ≡ Some stopped
  pub between : Held
  pub adds : AddsComponents files (take at xs) w between
  pub cause : IsNotAdded files stopped between told

-- ---- sources

-- the rule does not read the text, or the key of what it reads is told to be there
abbrev pub TellsKey : {T X : Type 0} → (T → X) → Rule X → (key : T → names.Key) → (text : List ℕ) → Told → Type 0
TellsKey {T = T} view rule key text told =
    IsNotRead rule text told ⊎ ((t : T) × (read_source rule text ≡ Ok (view t)) × Says (taken_text (key t)) told)

-- composing the text over the packages that stand there is refused for a cause
abbrev pub IsUncomposed : (define : Bool) → (source : List ℕ) → Held → Told → Type 0
IsUncomposed define source w told =
    (fault : ComposeError) × IsRefused w source (options_of define) fault × TellsIn source fault told

-- at most the file of the path has changed, and nothing was printed
abbrev pub KeepsAllBut : (path : Option Name) → (before after : Option Stored) → Type 0
KeepsAllBut None before after = after ≡ before
KeepsAllBut (Some path) before after = KeepsOthers path before after

pub record TouchesFile (path : Option Name) (before after : Outside) : Type 0 where
  pub others : KeepsAllBut path before.files after.files
  pub printed : after.printed ≡ before.printed
  pub calls : after.calls ≡ before.calls

-- the component was to go to a file, and writing that failed
pub record FailsToKeep (path : Option Name) (before after : Outside) (told : Told) : Type 0 where
  pub file : IsSome path
  pub touches : TouchesFile path before after
  pub failed : FailsToWrite before.failures after.failures
  pub says : SaysIf (option_map unwritten_text path) told

-- the component went where it was to go, and writing its line failed: a front of that is written
pub record FailsToTell (path : Option Name) (o : Output) (before after : Outside) : Type 0 where
  pub kept : Keeps path o.bytes.items before.files after.files
  pub failures : after.failures ≡ before.failures
  pub front : AppendsPrefix before.printed after.printed (line_of path o)
  pub failed : FailedOnce before.calls after.calls

-- writing a line failed, and a front of it is written; or memory was short, and nothing is
abbrev pub FailsToWriteLine : (line : List ℕ) → (had has : Option (List ℕ)) → (calls called : Option Calls) → Stop → Type 0
FailsToWriteLine line had has calls called =
    Ends (λ told. ⊥) (AppendsPrefix had has line × FailedOnce calls called) ((has ≡ had) × (called ≡ calls))

-- an output that is not put where it was to go
abbrev pub FailsToPut : (path : Option Name) → Output → (before after : Outside) → Stop → Type 0
FailsToPut path o before after =
    Ends (FailsToKeep path before after) (FailsToTell path o before after) (TouchesFile path before after)

-- the text is composed, and its output is not put where it was to go
pub record IsUnkept (define : Bool) (path : Option Name) (source : List ℕ) (old : Held) (before after : Outside) (stop : Stop)
    : Type 0 where
  pub new : Held
  pub output : Output
  pub composed : ComposesSource old new source (options_of define) output
  pub fails : FailsToPut path output before after stop

abbrev pub IsUnput : (define : Bool) → (path : Option Name) → (source : List ℕ) → Held → (before after : Outside) → Stop
    → Type 0
IsUnput define path source w before after stop =
    EndsBefore (IsUncomposed define source w) before after stop ⊎ IsUnkept define path source w before after stop

-- so it is where this is wanted
abbrev pub PutsNot : Wanted → (source : List ℕ) → Held → (before after : Outside) → Stop → Type 0
PutsNot wanted source w before after stop =
    IsUnput wanted.define (option_map (λ p. p.now) wanted.path) source w before after stop

-- the text of a source is not there, or it is not put
abbrev pub IsStopped : (define : Bool) → Source → Held → (before after : Outside) → Stop → Type 0
IsStopped define s w before after stop =
    EndsBefore (HasNoTextOf before.files s.source) before after stop
    ⊎ ((source : List ℕ) × IsTextOf before.files s.source source × IsUnput define (path_of s) source w before after stop)

-- so it is of the source at a place, where those before it are put
pub record StopsComposing (define : Bool) (ss : List Source) (w : Held) (before after : Outside) (stop : Stop) : Type 0 where
  pub at : ℕ
  pub stopped : Source
  pub there : slice_get ss at ≡ Some stopped
  pub mid : Held
  pub between : Outside
  pub puts : PutsSources define (take at ss) w mid before between
  pub stops : IsStopped define stopped mid between after stop

-- ---- what a command is stopped by

-- a manifest's components are not all added
abbrev pub IsNotBegun : (xs : List Component) → (before after : Outside) → Stop → Type 0
IsNotBegun xs before after stop = EndsBefore (StopsAdding before.files xs unused) before after stop

-- A manifest's components are added, and its sources are not all put.
pub record IsNotComposed (manifest : ComposeManifest) (before after : Outside) (stop : Stop) : Type 0 where
  pub added : Held
  pub adds : AddsComponents before.files manifest.components.items unused added
  pub stops : StopsComposing (not manifest.«import») manifest.sources.items added before after stop

-- a text that says no manifest is told so
abbrev pub IsNoManifest : {A : Type 0} → (said : Option A) → Told → Type 0
IsNoManifest said = SaysOf (said ≡ None) (manifest_words ManifestError.Bad)

-- the text says no manifest, or one that is not begun or not composed
abbrev pub ComposesNot : (source : List ℕ) → (before after : Outside) → Stop → Type 0
ComposesNot source before after stop =
    EndsBefore (IsNoManifest (says_composing source)) before after stop
    ⊎ ((manifest : ComposeManifest) × (says_composing source ≡ Some (composing_view manifest))
    × (IsNotBegun manifest.components.items before after stop ⊎ IsNotComposed manifest before after stop))

-- no package stands under the key, or under one of the keys
abbrev pub HasNone : List Entry → Key → Told → Type 0
HasNone packages k = SaysOf (Gets packages (key_view k) None) (unknown_text (key_view k))

abbrev pub IsNotFound : List Entry → List Key → Told → Type 0
IsNotFound packages keys told = (k : Key) × Among k keys × HasNone packages k told

-- the packages of these keys stand there, and no text plugs them
pub record IsNotPlugged (packages : List Entry) (name : Name) (keys : List Key) (into : Key) (told : Told) : Type 0 where
  pub plugs : List PackageRef
  pub found : AllZip (IsFound packages) keys plugs
  pub socket : PackageRef
  pub stands : IsFound packages into socket
  pub fault : PlugTextError
  pub not_memory : fault ≢ PlugTextError.Memory
  pub refused : PlugTextRefused name plugs socket fault
  pub says : Says (plugging_words fault) told

-- there is no text that plugs what a manifest says: a package is not there, or they are not plugged
abbrev pub HasNoPlug : List Entry → (name : Name) → (keys : List Key) → (into : Key) → Told → Type 0
HasNoPlug packages name keys into told =
    IsNotFound packages (into ∷ keys) told ⊎ IsNotPlugged packages name keys into told

-- A manifest's components are added, and there is no text that plugs them, or it is not put.
pub record IsNotPlugging (manifest : PlugManifest) (before after : Outside) (stop : Stop) : Type 0 where
  pub added : Held
  pub adds : AddsComponents before.files manifest.components.items unused added
  pub stops :
      EndsBefore (HasNoPlug added.packages (string_bytes manifest.name) manifest.plugs.items manifest.socket) before after stop
      ⊎ ((source : List ℕ) × PlugsFound added.packages (string_bytes manifest.name) manifest.plugs.items manifest.socket source
      × IsUnput true (option_map string_bytes manifest.out) source added before after stop)

abbrev pub PlugsNot : (source : List ℕ) → (before after : Outside) → Stop → Type 0
PlugsNot source before after stop =
    EndsBefore (IsNoManifest (says_plugging source)) before after stop
    ⊎ ((manifest : PlugManifest) × (says_plugging source ≡ Some (plugging_view manifest))
    × (IsNotBegun manifest.components.items before after stop ⊎ IsNotPlugging manifest before after stop))

-- the text is no document; or writing its print failed, and a front of that is written; or memory was short
abbrev pub FailsToPrint : (source : List ℕ) → (had has : Option (List ℕ)) → (calls called : Option Calls) → Stop → Type 0
FailsToPrint source had has calls called =
    Ends (λ told. IsNotRead document source told × (has ≡ had) × (called ≡ calls))
    ((print : List ℕ) × IsFormatted source print × AppendsPrefix had has print × FailedOnce calls called)
    ((has ≡ had) × (called ≡ calls))

-- so it is, and no file changes
pub record FormatsNot (source : List ℕ) (before after : Outside) (stop : Stop) : Type 0 where
  pub fails : FailsToPrint source before.printed after.printed before.calls after.calls stop
  pub files : after.files ≡ before.files
  pub failures : after.failures ≡ before.failures

-- what stops a command with a text
abbrev pub DoesNot : (word : Name) → (source : List ℕ) → (before after : Outside) → Stop → Type 0
DoesNot word source before after stop =
    ((word ≡ codes "compose") × ComposesNot source before after stop)
    ⊎ ((word ≡ codes "format") × FormatsNot source before after stop)
    ⊎ ((word ≡ codes "plug") × PlugsNot source before after stop)

-- ---- runs

-- the input failed, or had too much
abbrev pub HasNoInput : (had : Option (List ℕ)) → (calls called : Option Calls) → Told → Type 0
HasNoInput had calls called = SaysOf (FailedOnce calls called ⊎ HasTooMany had) (unread_text (codes "-"))

-- so it is, or the input is no text
abbrev pub HasNoInputText : (had left : Option (List ℕ)) → (calls called : Option Calls) → Told → Type 0
HasNoInputText had left calls called told =
    HasNoInput had calls called told
    ⊎ ((bytes : List ℕ) × ToEnd had left bytes × SaysOf (IsUtf8 bytes → ⊥) (unread_text (codes "-")) told)

-- no text stands at the path: in its file, or for `-` in the input
abbrev pub HasNoTextAt : (had left : Option (List ℕ)) → (calls called : Option Calls) → Option Stored → Name → Told → Type 0
HasNoTextAt had left calls called files path told =
    ((path ≡ codes "-") × HasNoInputText had left calls called told) ⊎ ((path ≢ codes "-") × HasNoFileText files path told)

-- What stops a run whose words are a command and a path: no text stands there, or what stops the command with it.
abbrev pub StopsAt : (word : Name) → (had left : Option (List ℕ)) → (calls called : Option Calls) → (path : Name)
    → (before after : Outside) → Stop → Type 0
StopsAt word had left calls called path before after stop =
    EndsBefore (HasNoTextAt had left calls called before.files path) before after stop
    ⊎ ((source : List ℕ) × IsTextAt had left before.files path source × DoesNot word source before after stop)

-- A run that is refused: its words are a command and a path, what is told of it stands there, and the line of that is written to
-- the errors, or a front of it where they failed.
pub record IsRefusedRun (words : List Name) (had left : Option (List ℕ)) (calls called : Option Calls) (before after : Outside)
    (untold told : Errors) : Type 0 where
  pub word : Name
  pub path : Name
  pub asked : words ≡ word ∷ path ∷ []
  pub stop : Stop
  pub stops : StopsAt word had left calls called path before after stop
  pub tells : Tells stop untold told
