-- The refusals that faults below are, and the errors that refusals are.
use Rattle.wac_graph_asks.specs.declared.error.OuterError.{OuterError}
use Rattle.wac_graph_causes.specs.declared.error.Refusal.{Refusal}
use Rattle.wac_graph_causes.specs.declared.error.Unwritten.{Unwritten}
use Rattle.wac_graph_causes.specs.declared.error.EncodeError.{EncodeError}

abbrev pub outer_refusal : OuterError → Refusal
outer_refusal (OuterError.ExplicitImportConflict name first second) = Refusal.ExplicitImportConflict name first second
outer_refusal (OuterError.ImportTypeMergeConflict name first second source) =
    Refusal.ImportTypeMergeConflict name first second source
outer_refusal OuterError.Memory = Refusal.Memory

abbrev pub unwritten_refusal : Unwritten → Refusal
unwritten_refusal (Unwritten.TypeCannotBeWritten name) = Refusal.TypeCannotBeWritten name
unwritten_refusal Unwritten.Memory = Refusal.Memory

abbrev pub refusal_shown : Refusal → EncodeError
refusal_shown (Refusal.ImplicitImportConflict import instantiation key name) =
    EncodeError.ImplicitImportConflict import instantiation key name
refusal_shown (Refusal.ExplicitImportConflict name first second) = EncodeError.ExplicitImportConflict name first second
refusal_shown (Refusal.ImportTypeMergeConflict name first second source) =
    EncodeError.ImportTypeMergeConflict name first second source
refusal_shown (Refusal.TypeCannotBeWritten name) = EncodeError.TypeCannotBeWritten name
refusal_shown Refusal.TypeNotWritten = EncodeError.TypeNotWritten
refusal_shown Refusal.TooLarge = EncodeError.TooLarge
refusal_shown (Refusal.ValidationFailure source) = EncodeError.ValidationFailure source
refusal_shown Refusal.Memory = EncodeError.Memory
