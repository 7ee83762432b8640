-- When a refusal tells a cause, and when an answer of the code is what is stated.
use Rattle.std.specs.Prelude.{◌≡◌, Option, Some, None, Result, Ok, Err}
use Rattle.wac_parser_lexer.specs.declared.span.SourceSpan.{SourceSpan as Span}
use Rattle.wac_parser_refusals.specs.declared.refusal.Refusal.{Refusal}
use Rattle.wac_parser_refusals.specs.Causes.{Answer, Cause, Fault, plainly}
use Rattle.wac_parser_refusals.specs.Sources.{Source, TellsBetween, between}
use Rattle.wac_parser_refusals.specs.Views.{cause_in}

-- the named cause is none: memory was refused
abbrev pub IsMemory : Option Cause → Type 0
IsMemory None = Unit {0}
IsMemory (Some c) = ⊥

-- the first is the cause that an error names; behind the second stands this: of two that disagree the error tells
abbrev pub IsNamedBy : Cause → Source → Cause → Type 0
IsNamedBy d (between way given asked) c = (d.fault ≡ c.fault) × (d.span ≡ c.span) × TellsBetween way given asked d.source
IsNamedBy d s c = d ≡ c

-- the cause that is named is this one; want of memory may always be answered
abbrev pub Tells : Option Cause → Cause → Type 0
Tells None c = Unit {0}
Tells (Some d) c = IsNamedBy d c.source c

abbrev pub Refuses : Refusal → Fault → Span → Type 0
Refuses e f s = Tells (cause_in e) (plainly f (Some s))

abbrev pub IsHeld : {A B : Type 0} → (A → B → Type 0) → Answer A → B → Type 0
IsHeld holds (Ok a) b = holds a b
IsHeld holds (Err c) b = ⊥

abbrev pub IsRefusal : {A : Type 0} → Answer A → Refusal → Type 0
IsRefusal (Ok a) e = IsMemory (cause_in e)
IsRefusal (Err c) e = Tells (cause_in e) c

-- what is answered is what is stated, or an error that names its cause
abbrev pub IsOutcome : {A B : Type 0} → (A → B → Type 0) → Answer A → Result B Refusal → Type 0
IsOutcome holds q (Ok b) = IsHeld holds q b
IsOutcome holds q (Err e) = IsRefusal q e
