-- Why a resolved document is not encoded: the first cause that stands against what it says, with its places. And against one
-- that is encoded none stands.
use Rattle.std.specs.Prelude.{◌≡◌, ◌⊎◌, Bool, List, Option, Some, None, Ok, option_map, string_bytes}
use Rattle.wac_types_base.specs.Stated.{Stated}
use Rattle.wac_types_names.specs.Keys.{Key, owned_key}
use Rattle.wac_graph_core.specs.Graph.{Graph}
use Rattle.wac_composition.specs.Conflicts.{first_cause, name_cause}
use Rattle.wac_graph_asks.specs.Takes.{TellsConflictIn}
use Rattle.wac_graph_causes.specs.declared.error.EncodeError.{EncodeError}
use Rattle.wac_graph_encode.specs.declared.options.EncodeOptions.{EncodeOptions}
use Rattle.wac_graph_encode.specs.Refused.{HasLargeProcessor}
use Rattle.wac_parser_tree.specs.Trees as t
use Rattle.wac_parser_refusals.specs.declared.error.Error.{Error}
use Rattle.wac_parser_refusals.specs.declared.error.Error.TheVariants as error
use Rattle.wac_parser_refusals.specs.Causes.{Cause, Fault}
use Rattle.wac_parser_refusals.specs.Views.{alike_fault, anywhere, at_place, cause_of}
use Rattle.wac_parser_declare.specs.Packages.{Content}
use Rattle.wac_parser_resolve.specs.Ascribed.{cause_said, composition}
use Rattle.wac_parser_resolve.specs.Ascribing.{State}
use Rattle.wac_parser_resolve.specs.InDocuments.{IsBuilt}
use Rattle.wac_parser_resolve.specs.Meeting.{resolved}
use Rattle.wac_parser_resolve.specs.Resolved.{Places, asker_place, import_place}
use Rattle.wac_parser_encode.specs.Sizes.{IsPastSize}

-- ---- the fault that is told

-- a refusal of a graph, where its nodes stand at these places; no graph has a cycle
abbrev pub fault_in : Places → EncodeError → Option Cause
fault_in at (EncodeError.ImplicitImportConflict import instantiation key n) =
    at_place (Fault.ImportConflict (string_bytes n) (owned_key key) (asker_place at instantiation)) (import_place at import)
fault_in at (EncodeError.ExplicitImportConflict n first second) =
    at_place (Fault.ExplicitImportConflict (string_bytes n) (import_place at first)) (import_place at second)
fault_in at (EncodeError.ImportTypeMergeConflict n first second source) =
    at_place (Fault.InstantiationArgMergeFailure (string_bytes n) (asker_place at first)) (asker_place at second)
fault_in at (EncodeError.TypeCannotBeWritten n) = anywhere (Fault.TypeCannotBeWritten (string_bytes n))
fault_in at EncodeError.TypeNotWritten = anywhere Fault.TypeNotWritten
fault_in at EncodeError.TooLarge = anywhere Fault.TooLarge
fault_in at (EncodeError.ValidationFailure fault) = anywhere (alike_fault fault)
fault_in at (EncodeError.GraphContainsCycle node) = None
fault_in at EncodeError.Memory = None

-- ---- what it says

module _ (define : Bool) (s : State) where
  -- no cause stands against what is said
  abbrev pub HasNoFirst : Type 0
  HasNoFirst = first_cause define (composition s) ≡ None

  -- this is the first cause that stands against it
  abbrev pub IsFirst : Cause → Type 0
  IsFirst c = option_map cause_said (first_cause define (composition s)) ≡ Some c

-- It passes 32 bits: what is said, or what is said to have written the component. That has no place.
abbrev pub IsOfSize : EncodeOptions → State → Cause → Type 0
IsOfSize options s c = (HasLargeProcessor options ⊎ IsPastSize options s) × (c.span ≡ None)

module _ (options : EncodeOptions) (s : State) where
  -- these are the first names that are alike
  abbrev pub AreFirstAlike : Cause → Type 0
  AreFirstAlike c = option_map cause_said (name_cause options.define_components options.validate (composition s)) ≡ Some c

  abbrev pub IsToldFault : Fault → Cause → Type 0
  IsToldFault (Fault.ValidationFailure kind m n) c = HasNoFirst options.define_components s × AreFirstAlike c
  IsToldFault Fault.TypeNotWritten c = HasNoFirst options.define_components s
  IsToldFault Fault.TooLarge c = HasNoFirst options.define_components s × IsOfSize options s c
  IsToldFault f c = IsFirst options.define_components s c

  -- it is the first cause, with its fields and its place; where none stands, a type that was not written, the size, or names that
  -- are alike; want of memory may always be answered
  abbrev pub TellsCause : Option Cause → Type 0
  TellsCause None = Unit {0}
  TellsCause (Some c) = IsToldFault c.fault c

-- so it is of what each document says that the graph holds, where that stands at these places
abbrev pub OfEach : Graph → Places → (State → Type 0) → Type 0
OfEach g at P =
    (d : t.Document) (ps : List (Key × Content)) (r : State × Option Stated) → resolved d ps ≡ Ok r → IsBuilt g at r.0 → P r.0

-- Where the graph holds what a document says, which stands at these places, the error is the document's first cause.
unfoldable pub TellsFirst : Graph → EncodeOptions → Places → Option Cause → Type 0
TellsFirst g options at o = OfEach g at (λ s. TellsCause options s o)

-- so it is of a refusal of the graph, wherever its nodes stand
abbrev pub TellsAnywhere : Graph → EncodeOptions → EncodeError → Type 0
TellsAnywhere g options e = (at : Places) → TellsFirst g options at (fault_in at e)

abbrev pub RefusesResolved : Graph → Places → EncodeOptions → Error → Type 0
RefusesResolved g at options e = TellsFirst g options at (cause_of e)

-- where imports of a graph do not merge, the source of its refusal tells how they are apart
abbrev pub HasSource : Graph → EncodeError → Type 0
HasSource g (EncodeError.ImportTypeMergeConflict n first second source) = TellsConflictIn g source
HasSource g e = Unit {0}

-- and so does that of the document's
abbrev pub TellsSource : Graph → Error → Type 0
TellsSource g (error.InstantiationArgMergeFailure name span instantiation source) = TellsConflictIn g source
TellsSource g e = Unit {0}

-- ---- where nothing is refused

-- no cause stands against encoding what is said, and no names are alike
pub record HasNoCause (define validate : Bool) (s : State) : Type 0 where
  pub cause : HasNoFirst define s
  pub alike : name_cause define validate (composition s) ≡ None

-- so it is of what each document says that the graph holds
unfoldable pub CanBeEncoded : Graph → EncodeOptions → Type 0
CanBeEncoded g options = (at : Places) → OfEach g at (HasNoCause options.define_components options.validate)
