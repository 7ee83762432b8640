-- Why a graph is refused, and what does not stand against one that is encoded.
use Rattle.std.specs.Prelude.{◌≡◌, ◌⊎◌, ℕ, true, false, Option, Some, None, option_map, string_bytes}
use Rattle.wac_graph_bytes.specs.Views.{processor_view}
use Rattle.wac_graph_bytes.specs.Writing.{producers_if_fit}
use Rattle.wac_graph_core.specs.Graph.{Graph}
use Rattle.wac_composition.specs.Asks.{asks_of}
use Rattle.wac_composition.specs.Classes.{spelling}
use Rattle.wac_composition.specs.Conflicts.{Cause, ImplicitImport, ExplicitImport, ImportTypes, Unwritable, circle_cause, first_cause}
use Rattle.wac_graph_asks.specs.Graphs.{composition_of}
use Rattle.wac_graph_asks.specs.Takes.{conflict_in, TellsConflictIn}
use Rattle.wac_graph_causes.specs.declared.error.EncodeError.{EncodeError}
use Rattle.wac_graph_causes.specs.declared.error.Refusal.{Refusal}
use Rattle.wac_graph_causes.specs.Refusals.{refusal_shown}
use Rattle.wac_graph_causes.specs.Implicit.{IsKeyOf, implicit_cause}
use Rattle.wac_graph_causes.specs.Alike.{names_told, alike_cause}
use Rattle.wac_graph_causes.specs.Unwritable.{outers_of, unwritten_cause}
use Rattle.wac_graph_encode.specs.declared.options.EncodeOptions.{EncodeOptions}
use Rattle.wac_graph_encode.specs.Encoding.{IsOversized}

module _ (options : EncodeOptions) (g : Graph) where
  -- the first cause that stands against the composition
  abbrev pub cause_in : Option (Cause ℕ)
  cause_in = first_cause options.define_components (composition_of g)

  -- each type of the composition can be written by itself
  abbrev pub HasNoneUnwritten : Type 0
  HasNoneUnwritten = unwritten_cause options.define_components g ≡ None

  -- the first interface that could be written but for those that wait for it
  abbrev pub waiting_cause : Option (Cause ℕ)
  waiting_cause = circle_cause options.define_components (composition_of g) (spelling (asks_of (composition_of g))) (outers_of g)

  abbrev pub HasNoneAlike : Type 0
  HasNoneAlike = alike_cause options.define_components options.validate g ≡ None

  abbrev pub HasNoCause : Type 0
  HasNoCause = cause_in ≡ None

-- no import is asked by its name and by an instance, and none conflict
pub record HasNoneClashing (g : Graph) : Type 0 where
  pub implicit : implicit_cause g ≡ None
  pub conflict : conflict_in g ≡ None

-- and each type can be written by itself
pub record HasNoneFound (options : EncodeOptions) (g : Graph) : Type 0 where
  pub clashing : HasNoneClashing g
  pub written : HasNoneUnwritten options g

-- no cause stands against the composition, and no names are alike
pub record IsFree (options : EncodeOptions) (g : Graph) : Type 0 where
  pub cause : HasNoCause options g
  pub alike : HasNoneAlike options g

-- ---- sizes

-- what is said to have written the component does not fit in 32 bits
abbrev pub HasLargeProcessor : EncodeOptions → Type 0
HasLargeProcessor options = producers_if_fit (option_map processor_view options.processor) ≡ false

abbrev pub FitsProcessor : EncodeOptions → Type 0
FitsProcessor options = producers_if_fit (option_map processor_view options.processor) ≡ true

-- the entries of the component do not fit
pub record IsPastSize (options : EncodeOptions) (g : Graph) : Type 0 where
  pub nested : options.define_components ≡ true → IsOversized true g
  pub imported : options.define_components ≡ false → HasNoneAlike options g → IsOversized false g

-- ---- refusals

-- The error tells the first cause, and by its source how imports are apart that do not merge; where none stands, that a type
-- was not written, that the component passes 32 bits, or the first names that are alike. Of want of memory nothing is said.
abbrev pub IsErrorFor : EncodeOptions → Graph → EncodeError → Type 0
IsErrorFor options g (EncodeError.ImplicitImportConflict import instantiation key n) =
    (cause_in options g ≡ Some (ImplicitImport (string_bytes n) import instantiation)) × IsKeyOf g instantiation key
IsErrorFor options g (EncodeError.ExplicitImportConflict n first second) =
    cause_in options g ≡ Some (ExplicitImport (string_bytes n) first second)
IsErrorFor options g (EncodeError.ImportTypeMergeConflict n first second source) =
    (cause_in options g ≡ Some (ImportTypes (string_bytes n) first second)) × TellsConflictIn g source
IsErrorFor options g (EncodeError.TypeCannotBeWritten n) = cause_in options g ≡ Some (Unwritable (string_bytes n))
IsErrorFor options g EncodeError.TypeNotWritten = HasNoCause options g
IsErrorFor options g EncodeError.TooLarge = HasNoCause options g × (HasLargeProcessor options ⊎ IsPastSize options g)
IsErrorFor options g (EncodeError.ValidationFailure fault) =
    HasNoCause options g × (alike_cause options.define_components options.validate g ≡ Some (names_told fault))
IsErrorFor options g (EncodeError.GraphContainsCycle node) = ⊥
IsErrorFor options g EncodeError.Memory = Unit {0}

abbrev pub IsRefusedFor : EncodeOptions → Graph → Refusal → Type 0
IsRefusedFor options g e = IsErrorFor options g (refusal_shown e)
