-- A document over the packages of a workspace: it has a graph, or a first cause.
use Rattle.std.specs.Prelude.{◌⊎◌, List, [], ◌∷◌, Bool, true, Option, Some, None, Ok, Err}
use Rattle.wac_types_base.specs.declared.ids.WorldId.{WorldId}
use Rattle.wac_types_base.specs.Record.{Collection}
use Rattle.wac_types_fit.specs.Targets.{Report}
use Rattle.wac_types_base.specs.Stated.{Stated, stated_world}
use Rattle.indexmap.specs.IndexMap.{IndexMap}
use Rattle.wac_types_names.specs.declared.package.BorrowedPackageKey.{BorrowedPackageKey}
use Rattle.wac_types_names.specs.Keys.{Key}
use Rattle.wac_graph_core.specs.Graph.{Graph}
use Rattle.wac_parser_tree.specs.Trees.{Document}
use Rattle.wac_parser_refusals.specs.declared.error.Error.{Error}
use Rattle.wac_parser_refusals.specs.Causes.{Answer}
use Rattle.wac_parser_refusals.specs.Outcomes.{IsHeld, IsMemory, Tells}
use Rattle.wac_parser_refusals.specs.Views.{cause_of}
use Rattle.wac_parser_declare.specs.Packages.{Content}
use Rattle.wac_parser_resolve.specs.Ascribed.{ascribed}
use Rattle.wac_parser_resolve.specs.Ascribing.{State}
use Rattle.wac_parser_resolve.specs.InDocuments.{IsBuilt, IsErrorOf}
use Rattle.wac_parser_resolve.specs.declared.packages.PackageRef.{PackageRef}
use Rattle.wac_parser_resolve.specs.Knowing.{content_of, handed_list}
use Rattle.wac_parser_resolve.specs.Meeting.{resolved}
use Rattle.wac_parser_resolve.specs.Resolved.{Places}
use Rattle.wac_parser_encode.specs.Meaning.{IsWorldOf}
use Rattle.wac_graph_encode.specs.declared.options.EncodeOptions.{EncodeOptions}
use Rattle.wac_parser_encode.specs.Refused.{HasNoCause, TellsCause, TellsSource}
use Rattle.wac_workspace.specs.declared.entries.Entry.{Entry}
use Rattle.wac_workspace.specs.declared.error.ComposeError.{ComposeError}
use Rattle.wac_workspace.specs.declared.error.ComposeError.TheVariants as error
use Rattle.wac_workspace.specs.Packages.{key_of}
use Rattle.wac_workspace.specs.Targets.{Meets, MeetsIf, Reports}

-- packages as a document sees them: each key with its world and its bytes, in order
abbrev pub Handed : Type 0
Handed = List (Key × Content)

abbrev pub content : Entry → Content
content e = content_of e.types e.package

abbrev pub handed : List Entry → Handed
handed [] = []
handed (e ∷ es) = (key_of e, content e) ∷ handed es

-- what a document says and targets, or its first cause
abbrev pub Resolves : Type 0
Resolves = Answer (State × Option Stated)

-- so a document over packages that are lent
abbrev pub says : {S : Type 0} → Document → IndexMap BorrowedPackageKey PackageRef S → Resolves
says d ps = resolved d (handed_list ps)

-- the graph holds what is said, wherever that stands
abbrev pub IsGraphOf : Resolves → Graph → Type 0
IsGraphOf q g = IsHeld (λ (s : State × Option Stated) (g : Graph). (at : Places) × IsBuilt g at s.0) q g

-- no cause stands against the document
abbrev pub IsAccepted : {A : Type 0} → Answer A → Type 0
IsAccepted (Ok x) = Unit {0}
IsAccepted (Err c) = ⊥

-- nor against encoding what it says over packages that are lent, with components defined or not
abbrev pub Accepts : {S : Type 0} → (define : Bool) → Document → IndexMap BorrowedPackageKey PackageRef S → Type 0
Accepts define d ps = IsAccepted (ascribed define d (handed_list ps))

-- a graph holds what is said, and where its imports do not merge the source of the error tells how they are apart
pub record HasSource (s : State) (e : Error) : Type 0 where
  pub graph : Graph
  pub at : Places
  pub built : IsBuilt graph at s
  pub tells : TellsSource graph e

-- The error names the first cause that stands against the document; where none does, the first one that stands against encoding
-- what it says in this way, with names tested, and its source. Want of memory may always be answered.
abbrev pub NamesFirst : EncodeOptions → Resolves → Error → Type 0
NamesFirst options (Ok s) e =
    IsMemory (cause_of e) ⊎ (TellsCause (record options { validate = true }) s.0 (cause_of e) × HasSource s.0 e)
NamesFirst options (Err c) e = Tells (cause_of e) c

-- each ask of what is said is met; the world states what it asks of the outside and what it exports, and meets the target that
-- is named
unfoldable pub IsComposition : Resolves → Collection → WorldId → Type 0
IsComposition (Ok s) types world = IsWorldOf s.0 types world × MeetsIf s.1 (stated_world types world)
IsComposition (Err c) types world = ⊥

-- No cause stands against encoding what is said, and a world that states it does not meet the target, as the report tells.
pub record FailsTarget (define : Bool) (r : Report) (s : State) (target : Stated) : Type 0 where
  pub free : HasNoCause define true s
  pub types : Collection
  pub world : WorldId
  pub states : IsWorldOf s types world
  pub unmet : Meets target (stated_world types world) → ⊥
  pub reports : Reports target (stated_world types world) r

abbrev pub FailsIf : (define : Bool) → Report → State → Option Stated → Type 0
FailsIf define r s None = ⊥
FailsIf define r s (Some t) = FailsTarget define r s t

-- so it is of a document that no cause stands against
unfoldable pub IsTargetUnmet : (define : Bool) → Report → Resolves → Type 0
IsTargetUnmet define r (Ok s) = FailsIf define r s.0 s.1
IsTargetUnmet define r (Err c) = ⊥

-- why a document has no graph: its first cause, or want of memory
abbrev pub IsOfResolving : Resolves → ComposeError → Type 0
IsOfResolving q (error.Resolution f) = IsErrorOf q f
IsOfResolving q error.Memory = Unit {0}
IsOfResolving q e = ⊥

-- why a document has no component that meets its target: its first cause, or that of encoding it; or its target is not met; or
-- want of memory
abbrev pub IsLate : EncodeOptions → Resolves → ComposeError → Type 0
IsLate options q (error.Resolution f) = NamesFirst options q f
IsLate options q (error.Target r) = IsTargetUnmet options.define_components r q
IsLate options q error.Memory = Unit {0}
IsLate options q e = ⊥
