-- What is told of a fault, and the lines of refusals.
use Rattle.std.specs.Prelude.{◌≡◌, ◌≢◌, ◌⊎◌, ℕ, List, ◌∷◌, ◌++◌, Option, Some, None, Result, Ok, Err, codes, string_bytes}
use Rattle.std.specs.declared.alloc.Global.{Global}
use Rattle.std.specs.declared.string.String.{String}
use Rattle.std.specs.Fmt.{decimal}
use Rattle.std.specs.Io.KnownBytes.{Appends}
use Rattle.wac_streams.specs.Calls.{AppendsPrefix, Calls, FailedOnce, NoneFailed}
use Rattle.wac_parser_lexer.specs.declared.span.SourceSpan.{SourceSpan}
use Rattle.wac_parser_grammar.specs.declared.error.Error.{Error}
use Rattle.wac_parser_grammar.specs.declared.error.Error.TheVariants as e
use Rattle.wac_parser_refusals.specs.declared.error.Error.{Error as Unresolved}
use Rattle.wac_parser_refusals.specs.declared.error.Error.TheVariants as resolving
use Rattle.wac_parser_refusals.specs.Causes.{span_of}
use Rattle.wac_parser_refusals.specs.Views.{cause_of}
use Rattle.wac_workspace.specs.declared.error.ComposeError.{ComposeError}
use Rattle.wac_workspace.specs.declared.error.ComposeError.TheVariants as composing
use Rattle.wac_parser_tree.specs.Trees.{Document}
use Rattle.wac_workspace.specs.Composing.{IsDocument, directive_key}
use Rattle.wac_workspace.specs.Words.{composing_words}
use Rattle.wac.specs.declared.stop.Stop.{Stop}
use Rattle.wac.specs.Texts.{Says, SaysIf, Told, taken_text}

-- where a fault of parsing stands
abbrev pub place_in_source : Error → Option SourceSpan
place_in_source (e.Lexer error span) = Some span
place_in_source (e.Expected token found span) = Some span
place_in_source (e.ExpectedEither first second found span) = Some span
place_in_source (e.ExpectedMultiple tokens count found span) = Some span
place_in_source (e.EmptyType ty kind span) = Some span
place_in_source (e.InvalidVersion version span) = Some span
place_in_source (e.NestedTooDeep span) = Some span
place_in_source e.Memory = None

-- a fault of parsing is told where it stands, and one of resolving; want of memory is not told
abbrev pub TellsParsing : Error → Told → Type 0
TellsParsing fault told = (fault ≢ e.Memory) × (told.place ≡ place_in_source fault)

abbrev pub TellsResolving : Unresolved → Told → Type 0
TellsResolving fault told = (fault ≢ resolving.Memory) × (told.place ≡ span_of (cause_of fault))

-- so is a fault of composing, if it has a place; else its words are told
abbrev pub TellsFault : ComposeError → Told → Type 0
TellsFault (composing.Parse fault) told = TellsParsing fault told
TellsFault (composing.Resolution fault) told = TellsResolving fault told
TellsFault composing.Memory told = ⊥
TellsFault fault told = SaysIf (composing_words fault) told

-- the same of composing this text, where a key that is there is named
abbrev pub TellsIn : (source : List ℕ) → ComposeError → Told → Type 0
TellsIn source composing.KeyTaken told = (d : Document) → IsDocument source d → Says (taken_text (directive_key d)) told
TellsIn source fault told = TellsFault fault told

-- ---- lines

-- a refusal with its place
abbrev pub placed_text : List ℕ → SourceSpan → List ℕ
placed_text text span = codes "error: " ++ text ++ codes " at " ++ (decimal span.offset ++ 43 ∷ decimal span.length) ++ codes "\n"

abbrev pub refused_text : List ℕ → Option SourceSpan → List ℕ
refused_text text None = codes "error: " ++ text ++ codes "\n"
refused_text text (Some span) = placed_text text span

abbrev pub short_text : List ℕ
short_text = codes "error: out of memory\n"

-- what is known of the errors: what was written to them, and their calls
pub record Errors : Type 0 where
  pub written : Option (List ℕ)
  pub calls : Option Calls

abbrev pub errors : (written : Option (List ℕ)) → (calls : Option Calls) → Errors
errors written calls = record { written = written; calls = calls }

-- a line is written whole, or a front of it where a call failed
abbrev pub Writes : List ℕ → (before after : Errors) → Type 0
Writes line before after =
    (Appends before.written after.written line × NoneFailed before.calls after.calls)
    ⊎ (AppendsPrefix before.written after.written line × FailedOnce before.calls after.calls)

-- the line, if there is one, or else that memory was short, is written
abbrev pub TellsLine : {E : Type 0} → Result (String Global) E → (before after : Errors) → Type 0
TellsLine (Ok line) before after = Writes (string_bytes line) before after
TellsLine (Err e) before after = Writes short_text before after

-- a refusal is told by its line, or else want of memory is; where a writer failed, nothing is
abbrev pub Tells : Stop → (before after : Errors) → Type 0
Tells (Stop.Refused text span) before after =
    Writes (refused_text (string_bytes text) span) before after ⊎ Writes short_text before after
Tells Stop.Unwritten before after = after ≡ before
Tells Stop.Memory before after = Writes short_text before after
