-- What entries mean that are finished.
use Rattle.std.specs.Prelude.{◌≡◌, ℕ, Bool, true, false, List, [], map, None, Result, IfOk, IfErr}
use Rattle.std.specs.declared.alloc.Global.{Global}
use Rattle.std.specs.declared.vec.Vec.{Vec}
use Rattle.std.specs.List.{AllByRecursion}
use Rattle.wac_types_base.specs.Entries.{Name, names_of, value_at}
use Rattle.wac_types_base.specs.Collection.{IsAcyclic}
use Rattle.wac_types_base.specs.Tree.{Tree}
use Rattle.wac_graph_bytes.specs.declared.entry.Entry.{Entry as CodeEntry}
use Rattle.wac_graph_bytes.specs.Entries.{Entry, Section, entries_of}
use Rattle.wac_graph_bytes.specs.Sizes.{section_fits}
use Rattle.wac_graph_bytes.specs.Spelling.{component_bytes}
use Rattle.wac_graph_bytes.specs.Typing.{Worlds}
use Rattle.wac_graph_bytes.specs.Meaning.{wiring_of}
use Rattle.wac_graph_bytes.specs.Wirings.{Wiring, Same}
use Rattle.wac_graph_core.specs.declared.ids.PackageId.{PackageId}
use Rattle.wac_graph_core.specs.Graph.{Graph, IsGraph}
use Rattle.wac_graph_asks.specs.declared.asks.Asked.{Asked}
use Rattle.wac_graph_asks.specs.declared.asks.Definition.{Definition}
use Rattle.wac_graph_asks.specs.declared.outers.Outers.{Outers}
use Rattle.wac_graph_asks.specs.Graphs.{composition_of}
use Rattle.wac_graph_asks.specs.Asked.{package_ids, with_ids, placed_in}
use Rattle.wac_graph_asks.specs.Outers.{IsOuters}
use Rattle.wac_graph_asks.specs.Wirings.{IsGraphWiring, asked_trees}
use Rattle.wac_graph_causes.specs.declared.error.Refusal.{Refusal}
use Rattle.wac_graph_causes.specs.Unwritable.{alias_cause}
use Rattle.wac_graph_encode.specs.declared.error.BytesError.{BytesError}
use Rattle.wac_graph_encode.specs.declared.options.EncodeOptions.{EncodeOptions}
use Rattle.wac_graph_encode.specs.declared.instances.Wired.{Wired}
use Rattle.wac_graph_encode.specs.declared.root.Writing.{Writing}
use Rattle.wac_graph_encode.specs.Standing.{IsFinished}
use Rattle.wac_graph_encode.specs.Defining.{AreToWrite}
use Rattle.wac_graph_encode.specs.Encoding.{nested_in, HasUnfit, MeansGraph, StateGraph, IsComposed}
use Rattle.wac_graph_encode.specs.Formed.{AreCopied}
use Rattle.wac_graph_encode.specs.Refused.{FitsProcessor, HasNoneAlike, HasNoneFound, IsRefusedFor, waiting_cause}
use Rattle.wac_graph_encode.specs.Worlds.{AreAllDefined, IsToHandOut}
use Rattle.wac_graph_encode.specs.Beginning.{AreTold, IsBare, IsToBegin, nested_bytes}
use Rattle.wac_graph_encode.specs.Importing.{AreToImport, AreWorldsOf}

-- Entries that are finished over the outer imports that the graph asks, with the packages nested, state each wiring of the
-- graph.
abbrev pub FinishedIsWired : Type 0
FinishedIsWired = (g : Graph) (worlds : Worlds) (asked : List (Name × Tree)) (es : List CodeEntry) (W : Wiring ℕ) → IsGraph g
    → ((n : Name) → value_at asked n ≡ asked_trees g n)
    → (done : IsFinished g worlds true asked es) → IsGraphWiring g W → Same W (wiring_of done.state.listed)

-- ---- the bytes of entries

-- a spelling of sections of these entries, whose numbers have 32 bits
pub record AreSpelled (es : List Entry) (bytes : List ℕ) : Type 0 where
  pub sections : List Section
  pub entries : entries_of sections ≡ es
  pub spelled : bytes ≡ component_bytes sections
  pub fits : AllByRecursion (λ s. section_fits s ≡ true) sections

-- these are the packages that are instantiated, each once
abbrev pub AreInstantiated : Graph → List PackageId → Type 0
AreInstantiated g ids = ids ≡ with_ids [] (package_ids g)

-- these are the packages and the definitions of the graph, and no alias in it is a value
pub record HasAllOf (g : Graph) (ids : List PackageId) (xs : List Definition) : Type 0 where
  pub packages : AreInstantiated g ids
  pub definitions : AreAllDefined g xs
  pub aliases : alias_cause g ≡ None

-- Where this holds and the packages can be nested or imported, so it is in each world that is told of them.
abbrev pub MeansSo : {E : Type 0} → (define : Bool) → Graph → List PackageId → (P : Type 0) → Result (Vec ℕ Global) E → Type 0
MeansSo define g ids P r = P → AreInstantiated g ids → AreToImport define g ids → (w : Worlds) → AreTold define g w ids
    → IfOk r (λ bytes. MeansGraph define g w bytes.items)

-- where nothing of the graph is written yet
abbrev pub MeansWired : {E : Type 0} → Writing → Wired → Result (Vec ℕ Global) E → Type 0
MeansWired x old r = old.graph.now ≡ x.graph.now → IsBare old.root
    → MeansSo x.options.now.define_components x.graph.now (names_of x.worlds.now.entries) (IsToBegin x) r

-- the bytes nest the packages of these ids, in order and unchanged, or none, and nothing else
pub record NestsBytes (define : Bool) (g : Graph) (ids : List PackageId) (bytes : List ℕ) : Type 0 where
  pub sections : List Section
  pub spelled : bytes ≡ component_bytes sections
  pub nested : nested_in (entries_of sections) ≡ nested_bytes define g ids

abbrev pub NestsSo : {E : Type 0} → (define : Bool) → Graph → List PackageId → Result (Vec ℕ Global) E → Type 0
NestsSo define g ids r = IfOk r (λ bytes. NestsBytes define g ids bytes.items)

-- where nothing is written yet
abbrev pub NestsWired : {E : Type 0} → Writing → Wired → Result (Vec ℕ Global) E → Type 0
NestsWired x old r = IsBare old.root → NestsSo x.options.now.define_components x.graph.now (names_of x.worlds.now.entries) r

-- ---- entries that do not fit

-- where it is for size, this holds
abbrev pub IfOfSize : Type 0 → BytesError → Type 0
IfOfSize P BytesError.TypeNotWritten = Unit {0}
IfOfSize P BytesError.TooLarge = P
IfOfSize P BytesError.Memory = Unit {0}

-- The entries of the component do not fit: with the packages of these ids, they state the graph's wiring in all worlds that are
-- told of them.
pub record IsUnfit (define : Bool) (g : Graph) (ids : List PackageId) : Type 0 where
  pub entries : List Entry
  pub nested : nested_in entries ≡ nested_bytes define g ids
  pub state : (w : Worlds) → AreTold define g w ids → StateGraph define g w entries
  pub unfit : HasUnfit entries

-- So it is where it is refused for size, if what is said to have written the component fits.
abbrev pub UnfitSo : {A : Type 0} → EncodeOptions → Graph → List PackageId → (P : Type 0) → Result A BytesError → Type 0
UnfitSo options g ids P r = FitsProcessor options → P → AreInstantiated g ids → AreToImport options.define_components g ids
    → IfErr r (IfOfSize (IsUnfit options.define_components g ids))

abbrev pub UnfitWired : {A : Type 0} → Writing → Wired → Result A BytesError → Type 0
UnfitWired x old r = old.graph.now ≡ x.graph.now → IsBare old.root
    → UnfitSo x.options.now x.graph.now (names_of x.worlds.now.entries) (IsToBegin x) r

-- ---- what is asked

-- all of it is there: the graph's outer imports, the worlds of its packages, its definitions as they are written
abbrev pub IsThere : Graph → Asked → Outers → List Definition → Type 0
IsThere g asked outers xs = IsOuters g asked.types outers.world outers.places × AreWorldsOf g asked.types asked.packages.entries
    × AreToWrite g asked.types xs

abbrev pub UnfitAsked : {A : Type 0} → Graph → Asked → Outers → List Definition → EncodeOptions → Result A BytesError → Type 0
UnfitAsked g asked outers xs options r =
    UnfitSo options g (names_of asked.packages.entries) (IsThere g asked outers xs) r

-- of the graph's outer imports, with its definitions in the forms in which they are written
abbrev pub MeansAsked : {E : Type 0} → Graph → Asked → Outers → List Definition → EncodeOptions → Result (Vec ℕ Global) E
    → Type 0
MeansAsked g asked outers xs options r =
    MeansSo options.define_components g (names_of asked.packages.entries) (IsThere g asked outers xs) r

-- ---- once all is asked

-- All that the graph asks has outer imports, and its definitions have copies, in one collection.
pub record IsPrepared (g : Graph) (a : Asked) (o : Outers) : Type 0 where
  pub acyclic : IsAcyclic a.types
  pub packages : AreInstantiated g (names_of a.packages.entries)
  pub worlds : AreWorldsOf g a.types a.packages.entries
  pub definitions : map (placed_in g.types) a.definitions.items ≡ (composition_of g).definitions
  pub copies : AreCopied g.types a.types a.definitions.items
  pub outers : IsOuters g a.types o.world o.places

abbrev pub MeansNested : Graph → EncodeOptions → List ℕ → Type 0
MeansNested g options bytes = options.define_components ≡ true → IsComposed true g bytes

-- where their names are those of dependencies
abbrev pub MeansImported : Graph → EncodeOptions → List ℕ → Type 0
MeansImported g options bytes = options.define_components ≡ false → IsComposed false g bytes

-- once it is prepared
abbrev pub PreparedMeans : Graph → Asked → Outers → EncodeOptions → List ℕ → Type 0
PreparedMeans g a o options bytes = IsPrepared g a o → MeansNested g options bytes

-- and no names are alike
abbrev pub PreparedImports : Graph → Asked → Outers → EncodeOptions → List ℕ → Type 0
PreparedImports g a o options bytes = IsPrepared g a o → HasNoneAlike options g → MeansImported g options bytes

-- no interface waits for another that it needs
abbrev pub PreparedWaits : Graph → Asked → Outers → EncodeOptions → Type 0
PreparedWaits g a o options = IsPrepared g a o → waiting_cause options g ≡ None

-- and no cause was found before
abbrev pub RefusesPrepared : Graph → Asked → Outers → EncodeOptions → Refusal → Type 0
RefusesPrepared g a o options e = IsPrepared g a o → HasNoneFound options g → IsRefusedFor options g e

-- and all is there of which the world is made
abbrev pub PreparedHands : Graph → (old new : Asked) → Outers → List Definition → Type 0
PreparedHands g old new o xs = IsPrepared g old o → IsToHandOut g new.types o xs
