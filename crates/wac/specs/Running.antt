-- What the program does.
use Rattle.std.specs.Prelude.{◌≡◌, ◌≢◌, ◌≤◌, ◌⊎◌, ℕ, Bool, true, not, List, [], ◌∷◌, ◌++◌, length, Option, Some, None, Ok, option_map, codes, string_bytes}
use Rattle.std.specs.Io.KnownBytes.{Appends}
use Rattle.std.specs.Fmt.{decimal}
use Rattle.std.specs.List.{AllZip}
use Rattle.hex.specs.Hex.{encode_lower}
use Rattle.wac_streams.specs.Calls.{Calls, NoneFailed}
use Rattle.wac_types_base.specs.Entries.{Name}
use Rattle.wac_types_names.specs.Keys.{key_text}
use Rattle.wac_graph_encode.specs.declared.options.EncodeOptions.{EncodeOptions}
use Rattle.wac_parser_tree.specs.Trees.{Document}
use Rattle.wac_parser_grammar.specs.Rules.{Rule}
use Rattle.wac_parser_grammar.specs.Reads.{read_source}
use Rattle.wac_parser_print.specs.Printing as text
use Rattle.wac_parser_resolve.specs.declared.packages.PackageRef.{PackageRef}
use Rattle.wac_workspace.specs.declared.entries.Entry.{Entry}
use Rattle.wac_workspace.specs.declared.output.Output.{Output}
use Rattle.wac_workspace.specs.Packages.{Held}
use Rattle.wac_workspace.specs.Getting.{Gets}
use Rattle.wac_workspace.specs.Composing.{ComposesSource, IsDocument, output_key}
use Rattle.wac_workspace.specs.Reading.{ToEnd}
use Rattle.wac_manifest.specs.declared.manifest.ComposeManifest.{ComposeManifest}
use Rattle.wac_manifest.specs.declared.manifest.PlugManifest.{PlugManifest}
use Rattle.wac_manifest.specs.declared.manifest.Key.{Key}
use Rattle.wac_manifest.specs.declared.manifest.Source.{Source}
use Rattle.wac_manifest.specs.Manifests.{says_composing, says_plugging}
use Rattle.wac_manifest.specs.Views.{composing_view, key_view, plugging_view}
use Rattle.wac_texts.specs.Files.{Stored, Has, KeepsOthers}
use Rattle.wac_texts.specs.Plugs.{Plugs}
use Rattle.wac.specs.Adding.{AddsComponents, unused}
use Rattle.wac.specs.declared.sources.Wanted.{Wanted}
use Rattle.wac.specs.Loading.{IsTextOf}

-- ---- outputs

-- how the program composes: names are tested, and no processor is named
abbrev pub options_of : (define : Bool) → EncodeOptions
options_of define = record { define_components = define; validate = true; processor = None }

-- what is known of the files and of the output: what they have, and how many writes failed
pub record Outside : Type 0 where
  pub files : Option Stored
  pub failures : Option ℕ
  pub printed : Option (List ℕ)
  pub calls : Option Calls

abbrev pub outside : (files : Option Stored) → (failures : Option ℕ) → (printed : Option (List ℕ)) → (calls : Option Calls)
    → Outside
outside files failures printed calls = record { files = files; failures = failures; printed = printed; calls = calls }

-- no write failed
pub record NoneFails (before after : Outside) : Type 0 where
  pub files : after.failures ≡ before.failures
  pub output : NoneFailed before.calls after.calls

-- the file of the path has these bytes now, and no other file has changed; without a path none has
abbrev pub Keeps : (path : Option Name) → List ℕ → (before after : Option Stored) → Type 0
Keeps None bytes before after = after ≡ before
Keeps (Some path) bytes before after = Has after path (Some bytes) × KeepsOthers path before after

-- the key of an output, and how many bytes it has
abbrev pub head_of : Output → List ℕ
head_of o = key_text (output_key o) ++ 32 ∷ decimal (length o.bytes.items)

-- behind it, the bytes that no file has, in hexadecimal digits
abbrev pub line_of : (path : Option Name) → Output → List ℕ
line_of None o = head_of o ++ 32 ∷ encode_lower o.bytes.items ++ 10 ∷ []
line_of (Some path) o = head_of o ++ 10 ∷ []

-- a text is composed; its component is kept, and its line printed
pub record Puts (define : Bool) (path : Option Name) (source : List ℕ) (old new : Held) (before after : Outside) : Type 0 where
  pub output : Output
  pub composed : ComposesSource old new source (options_of define) output
  pub kept : Keeps path output.bytes.items before.files after.files
  pub line : Appends before.printed after.printed (line_of path output)
  pub fine : NoneFails before after

-- so is one that is wanted so
abbrev pub PutsWanted : Wanted → (source : List ℕ) → (old new : Held) → (before after : Outside) → Type 0
PutsWanted wanted source old new before after = Puts wanted.define (option_map (λ p. p.now) wanted.path) source old new before after

abbrev pub path_of : Source → Option Name
path_of s = option_map string_bytes s.out

-- so is the text of a source
abbrev pub PutsSource : (define : Bool) → Source → (old new : Held) → (before after : Outside) → Type 0
PutsSource define s old new before after =
    (source : List ℕ) × IsTextOf before.files s.source source × Puts define (path_of s) source old new before after

-- so are they all, one after another: a later one finds the outputs of those before it, and their files
abbrev pub PutsSources : (define : Bool) → List Source → (old new : Held) → (before after : Outside) → Type 0
PutsSources define [] old new before after = (new ≡ old) × (after ≡ before)
PutsSources define (s ∷ ss) old new before after =
    (mid : Held) × (between : Outside) × PutsSource define s old mid before between × PutsSources define ss mid new between after

-- ---- texts

-- the text is all that the input had, and not too long
abbrev pub IsInputText : (had left : Option (List ℕ)) → List ℕ → Type 0
IsInputText had left source = ToEnd had left source × (length source ≤ 16777216)

-- the text is that of the file, and the input is left, or for `-` it is that of the input
abbrev pub IsTextAt : (had left : Option (List ℕ)) → Option Stored → Name → List ℕ → Type 0
IsTextAt had left files path source =
    ((path ≡ codes "-") × IsInputText had left source) ⊎ ((path ≢ codes "-") × Has files path (Some source) × (left ≡ had))

-- ---- runs

-- A text is composed as a manifest: it says one, whose components are added to a workspace without packages, in order, and
-- whose sources are then composed in order.
pub record ComposesManifest (source : List ℕ) (before after : Outside) : Type 0 where
  pub manifest : ComposeManifest
  pub said : says_composing source ≡ Some (composing_view manifest)
  pub added : Held
  pub last : Held
  pub adds : AddsComponents before.files manifest.components.items unused added
  pub puts : PutsSources (not manifest.«import») manifest.sources.items added last before after

-- the package that stands under a key
abbrev pub IsFound : List Entry → Key → PackageRef → Type 0
IsFound packages k p = Gets packages (key_view k) (Some p)

-- the text plugs the packages of these keys into that of the other
pub record PlugsFound (packages : List Entry) (name : Name) (keys : List Key) (into : Key) (source : List ℕ) : Type 0 where
  pub plugs : List PackageRef
  pub found : AllZip (IsFound packages) keys plugs
  pub socket : PackageRef
  pub stands : IsFound packages into socket
  pub written : Plugs name plugs socket source

-- A text is composed as a manifest of plugging: it says one, whose components are added to a workspace without packages, in
-- order, and the text that plugs those of its keys is composed.
pub record PlugsManifest (source : List ℕ) (before after : Outside) : Type 0 where
  pub manifest : PlugManifest
  pub said : says_plugging source ≡ Some (plugging_view manifest)
  pub added : Held
  pub last : Held
  pub adds : AddsComponents before.files manifest.components.items unused added
  pub plugging : List ℕ
  pub plugs : PlugsFound added.packages (string_bytes manifest.name) manifest.plugs.items manifest.socket plugging
  pub puts : Puts true (option_map string_bytes manifest.out) plugging added last before after

-- how a document is printed over its source
abbrev pub printed_over : Document → (source : List ℕ) → List ℕ
printed_over d source = text.document d (record { source = source; space = codes "    " })

-- what the rule reads of the source is printed so
abbrev pub IsPrintOf : {T X : Type 0} → (T → X) → Rule X → (T → List ℕ → List ℕ) → (source printed : List ℕ) → Type 0
IsPrintOf {T = T} view rule print source printed = (d : T) × (read_source rule source ≡ Ok (view d)) × (printed ≡ print d source)

-- the text is a document's, and is printed so
abbrev pub IsFormatted : (source printed : List ℕ) → Type 0
IsFormatted source printed = (d : Document) × IsDocument source d × (printed ≡ printed_over d source)

-- that print is written behind what was printed
abbrev pub FormatsTo : (source : List ℕ) → (before after : Option (List ℕ)) → Type 0
FormatsTo source before after = (print : List ℕ) × IsFormatted source print × Appends before after print

-- so it is, and no file changes
pub record Formats (source : List ℕ) (before after : Outside) : Type 0 where
  pub prints : FormatsTo source before.printed after.printed
  pub files : after.files ≡ before.files
  pub fine : NoneFails before after

-- what a command does with a text
abbrev pub Does : (word : Name) → (source : List ℕ) → (before after : Outside) → Type 0
Does word source before after =
    ((word ≡ codes "compose") × ComposesManifest source before after)
    ⊎ ((word ≡ codes "format") × Formats source before after)
    ⊎ ((word ≡ codes "plug") × PlugsManifest source before after)

-- with the text that stands at a path
abbrev pub DoesAt : (word : Name) → (had left : Option (List ℕ)) → (path : Name) → (before after : Outside) → Type 0
DoesAt word had left path before after =
    (source : List ℕ) × IsTextAt had left before.files path source × Does word source before after

-- What a run does that ends well: its words are a command and a path, and the command does what it does with the text that
-- stands there.
pub record Runs (words : List Name) (had left : Option (List ℕ)) (before after : Outside) : Type 0 where
  pub word : Name
  pub path : Name
  pub asked : words ≡ word ∷ path ∷ []
  pub done : DoesAt word had left path before after
