-- What a function that parses ensures.
use Rattle.std.specs.Prelude.{◌≡◌, ◌≢◌, ℕ, List, Option, Some, None, Result, Ok, Err}
use Rattle.wac_parser_lexer.specs.Items.{Input, input_of}
use Rattle.wac_parser_lexer.specs.Refused.{first_refused}
use Rattle.wac_parser_lexer.specs.declared.span.SourceSpan.{SourceSpan}
use Rattle.wac_parser_lexer.specs.declared.error.Error as lexer_error
use Rattle.wac_parser_grammar.specs.declared.error.Error.{Error}
use Rattle.wac_parser_grammar.specs.declared.error.Error.TheVariants.{Memory}
use Rattle.wac_parser_grammar.specs.Faults.{Fault, fault_of, lexer}
use Rattle.wac_parser_grammar.specs.Rules.{Rule}

-- The value, or the fault, that stands at the first place; want of memory says nothing of it.
abbrev pub Gives : {T : Type 0} → (T → Input → Input → Type 0) → (Input → Fault → Type 0) → Input → Result T Error → Input
    → Type 0
Gives Spells Refuses old (Ok x) new = Spells x old new
Gives Spells Refuses old (Err e) new = e ≢ Memory → Refuses old (fault_of e)

-- The rule reads the value, seen by the view, up to the second place.
abbrev pub Spells : {T X : Type 0} → (T → X) → Rule X → T → Input → Input → Type 0
Spells view p x s r = p.read s ≡ Ok (view x, r)

-- The rule meets the fault.
abbrev pub Refuses : {X : Type 0} → Rule X → Input → Fault → Type 0
Refuses p s fault = p.read s ≡ Err fault

-- what the rule reads, value and fault
abbrev pub Reads : {T X : Type 0} → (T → X) → Rule X → Input → Result T Error → Input → Type 0
Reads view p old result new = Gives (Spells view p) (Refuses p) old result new

-- ---- whole sources

abbrev pub by_refusal : {X : Type 0} → Option (lexer_error.Error × SourceSpan) → Result (X × Input) Fault → Result X Fault
by_refusal (Some e) r = Err (lexer e.0 e.1)
by_refusal None (Ok p) = Ok p.0
by_refusal None (Err fault) = Err fault

-- what the rule reads of a source, where no character of it is refused
abbrev pub read_source : {X : Type 0} → Rule X → List ℕ → Result X Fault
read_source p source = by_refusal (first_refused source) (p.read (input_of source))

abbrev pub ReadsSource : {T X : Type 0} → (T → X) → Rule X → List ℕ → Result T Error → Type 0
ReadsSource view p source (Ok x) = read_source p source ≡ Ok (view x)
ReadsSource view p source (Err e) = e ≢ Memory → read_source p source ≡ Err (fault_of e)
