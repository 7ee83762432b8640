-- What an error says, without where its texts lie in memory.
use Rattle.std.specs.Prelude.{◌≡◌, Option, Some, None, is_some, option_map, string_bytes}
use Rattle.wac_names.specs.declared.error.ValidationFault.{ValidationFault}
use Rattle.wac_types_base.specs.declared.item.ExternKind.{ExternKind}
use Rattle.wac_types_fit.specs.declared.error.SubtypeError.{SubtypeError}
use Rattle.wac_types_fit.specs.Errors.{words_of}
use Rattle.wac_types_names.specs.Keys.{owned_key}
use Rattle.wac_parser_lexer.specs.declared.span.SourceSpan.{SourceSpan as Span}
use Rattle.wac_parser_refusals.specs.Causes.{Cause, Fault, plainly}
use Rattle.wac_parser_refusals.specs.Sources.{reported}
use Rattle.wac_parser_refusals.specs.declared.error.Error.{Error}
use Rattle.wac_parser_refusals.specs.declared.error.Error.TheVariants as error
use Rattle.wac_parser_refusals.specs.declared.refusal.Refusal.{Refusal}

abbrev pub at_place : Fault → Span → Option Cause
at_place f s = Some (plainly f (Some s))

abbrev pub maybe_at : Fault → Option Span → Option Cause
maybe_at f s = Some (plainly f s)

abbrev pub anywhere : Fault → Option Cause
anywhere f = Some (plainly f None)

-- what the checker says stands behind it
abbrev pub checked_at : Fault → Option Span → SubtypeError → Option Cause
checked_at f s e = Some (record { fault = f; span = s; source = reported (words_of e) })

-- two names that are too alike
abbrev pub alike_fault : ValidationFault → Fault
alike_fault (ValidationFault.ImportNames m n) = Fault.ValidationFailure ExternKind.Import (string_bytes m) (string_bytes n)
alike_fault (ValidationFault.ExportNames m n) = Fault.ValidationFailure ExternKind.Export (string_bytes m) (string_bytes n)

-- the cause that an error names; want of memory names none
abbrev pub cause_of : Error → Option Cause
cause_of (error.UndefinedName name span) = at_place (Fault.UndefinedName (string_bytes name)) span
cause_of (error.DuplicateName name span previous) = at_place (Fault.DuplicateName (string_bytes name) previous) span
cause_of (error.UnknownPackage name span) = at_place (Fault.UnknownPackage (string_bytes name)) span
cause_of (error.PackageMissingExport package_ export kind path span) =
    at_place (Fault.PackageMissingExport (string_bytes package_) (string_bytes export) (option_map (λ k. k.now) kind)
    (string_bytes path)) span
cause_of (error.PackagePathMissingExport name kind export span) =
    at_place (Fault.PackagePathMissingExport (string_bytes name) kind.now (string_bytes export)) span
cause_of (error.MissingComponentImport package_ import_ span) =
    at_place (Fault.MissingComponentImport (string_bytes package_) (string_bytes import_)) span
cause_of (error.MismatchedInstantiationArg name span source) =
    checked_at (Fault.MismatchedInstantiationArg (string_bytes name)) (Some span) source
cause_of (error.DuplicateInstantiationArg name span) = at_place (Fault.DuplicateInstantiationArg (string_bytes name)) span
cause_of (error.MissingInstantiationArg name package_ span) =
    at_place (Fault.MissingInstantiationArg (string_bytes name) (string_bytes package_)) span
cause_of (error.ImportConflict name package_ instantiation import_) =
    at_place (Fault.ImportConflict (string_bytes name) (owned_key package_) instantiation) import_
cause_of (error.ExplicitImportConflict name span previous) =
    at_place (Fault.ExplicitImportConflict (string_bytes name) previous) span
cause_of (error.InstantiationArgMergeFailure name span instantiation source) =
    at_place (Fault.InstantiationArgMergeFailure (string_bytes name) instantiation) span
cause_of (error.NotAnInstance kind operation span) = at_place (Fault.NotAnInstance kind.now operation) span
cause_of (error.MissingInstanceExport name span) = at_place (Fault.MissingInstanceExport (string_bytes name)) span
cause_of (error.ExportRequiresAs span) = at_place Fault.ExportRequiresAs span
cause_of (error.DeclarationConflict name span export) = at_place (Fault.DeclarationConflict (string_bytes name) export) span
cause_of (error.ExportConflict name kind span definition help) =
    at_place (Fault.ExportConflict (string_bytes name) kind.now definition (is_some help)) span
cause_of (error.DuplicateExternName name kind span previous help) =
    at_place (Fault.DuplicateExternName (string_bytes name) kind previous (is_some help)) span
cause_of (error.InvalidExternName name kind span source) = at_place (Fault.InvalidExternName (string_bytes name) kind) span
cause_of (error.UseConflict name kind span help) = at_place (Fault.UseConflict (string_bytes name) kind (is_some help)) span
cause_of (error.FillArgumentNotLast span) = at_place Fault.FillArgumentNotLast span
cause_of (error.SpreadInstantiationNoMatch span) = at_place Fault.SpreadInstantiationNoMatch span
cause_of (error.SpreadExportNoEffect span) = at_place Fault.SpreadExportNoEffect span
cause_of (error.ImportNotInTarget name world span) =
    maybe_at (Fault.ImportNotInTarget (string_bytes name) (string_bytes world)) span
cause_of (error.MissingTargetExport name kind world span) =
    at_place (Fault.MissingTargetExport (string_bytes name) kind.now (string_bytes world)) span
cause_of (error.TargetMismatch kind name world span source) =
    checked_at (Fault.TargetMismatch kind (string_bytes name) (string_bytes world)) span source
cause_of (error.ValidationFailure source) = anywhere (alike_fault source)
cause_of (error.TypeCannotBeWritten name) = anywhere (Fault.TypeCannotBeWritten (string_bytes name))
cause_of error.TypeNotWritten = anywhere Fault.TypeNotWritten
cause_of error.TooLarge = anywhere Fault.TooLarge
cause_of (error.NotFuncOrInterface name kind span) = at_place (Fault.NotFuncOrInterface (string_bytes name) kind.now) span
cause_of (error.NotInterface name kind span) = at_place (Fault.NotInterface (string_bytes name) kind.now) span
cause_of (error.NotWorld name kind span) = at_place (Fault.NotWorld (string_bytes name) kind.now) span
cause_of (error.NotFuncType name kind span) = at_place (Fault.NotFuncType (string_bytes name) kind.now) span
cause_of (error.NotResourceType name kind span) = at_place (Fault.NotResourceType (string_bytes name) kind.now) span
cause_of (error.NotValueType name kind span) = at_place (Fault.NotValueType (string_bytes name) kind.now) span
cause_of (error.InvalidAliasType name kind span) = at_place (Fault.InvalidAliasType (string_bytes name) kind.now) span
cause_of (error.UndefinedInterfaceType name interface_name span) =
    at_place (Fault.UndefinedInterfaceType (string_bytes name) (string_bytes interface_name)) span
cause_of (error.NotInterfaceValueType name kind interface_name span) =
    at_place (Fault.NotInterfaceValueType (string_bytes name) kind.now (string_bytes interface_name)) span
cause_of (error.DuplicateInterfaceExport name interface_name span) =
    at_place (Fault.DuplicateInterfaceExport (string_bytes name) (option_map string_bytes interface_name)) span
cause_of (error.DuplicateWorldItem kind name world span) =
    at_place (Fault.DuplicateWorldItem kind (string_bytes name) (string_bytes world)) span
cause_of (error.DuplicateWorldIncludeName name span) = at_place (Fault.DuplicateWorldIncludeName (string_bytes name)) span
cause_of (error.MissingWorldInclude world name span) =
    at_place (Fault.MissingWorldInclude (string_bytes world) (string_bytes name)) span
cause_of (error.WorldIncludeConflict kind name from to span help) =
    at_place (Fault.WorldIncludeConflict kind (string_bytes name) (string_bytes from) (string_bytes to) (is_some help)) span
cause_of (error.DuplicateResourceConstructor resource span) =
    at_place (Fault.DuplicateResourceConstructor (string_bytes resource)) span
cause_of (error.DuplicateResourceMethod name resource span) =
    at_place (Fault.DuplicateResourceMethod (string_bytes name) (string_bytes resource)) span
cause_of (error.DuplicateVariantCase case name span) =
    at_place (Fault.DuplicateVariantCase (string_bytes case) (string_bytes name)) span
cause_of (error.DuplicateRecordField field name span) =
    at_place (Fault.DuplicateRecordField (string_bytes field) (string_bytes name)) span
cause_of (error.DuplicateEnumCase case name span) =
    at_place (Fault.DuplicateEnumCase (string_bytes case) (string_bytes name)) span
cause_of (error.DuplicateFlag flag name span) = at_place (Fault.DuplicateFlag (string_bytes flag) (string_bytes name)) span
cause_of (error.DuplicateParameter name kind span) = at_place (Fault.DuplicateParameter (string_bytes name) kind) span
cause_of (error.DuplicateResult name kind span) = at_place (Fault.DuplicateResult (string_bytes name) kind) span
cause_of (error.BorrowInResult span) = at_place Fault.BorrowInResult span
cause_of error.Memory = None

-- the cause that a refusal names
abbrev pub cause_in : Refusal → Option Cause
cause_in (Refusal.Named e) = cause_of e.value
cause_in Refusal.Memory = None

-- the cause that is named is this one; want of memory may always be answered
abbrev pub Names : Refusal → Option Cause → Type 0
Names (Refusal.Named e) c = cause_of e.value ≡ c
Names Refusal.Memory c = Unit {0}
