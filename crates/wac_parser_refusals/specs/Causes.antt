-- The causes for which a document is refused, with their fields and their primary span, and answers that may be one.
use Rattle.std.specs.Prelude.{Bool, true, false, List, [], ◌∷◌, Option, Some, None, Result, Ok, Err, ⊤}
use Rattle.wac_types_base.specs.declared.item.FuncKind.{FuncKind}
use Rattle.wac_types_base.specs.declared.item.ExternKind.{ExternKind}
use Rattle.wac_types_base.specs.Entries.{Name}
use Rattle.wac_types_names.specs.Keys.{Key}
use Rattle.wac_parser_lexer.specs.declared.span.SourceSpan.{SourceSpan as Span}
use Rattle.wac_parser_refusals.specs.declared.error.InstanceOperation.{InstanceOperation}
use Rattle.wac_parser_refusals.specs.Sources.{Source, nothing}

-- in each, the fields are those of the error; a `help` is whether there is one
pub data Fault : Type 0 where
  UndefinedName : Name → Fault
  -- the name, where it was defined before
  DuplicateName : Name → Span → Fault
  UnknownPackage : Name → Fault
  -- the package, the export, the kind of what lacks it, the path to that
  PackageMissingExport : Name → Name → Option Name → Name → Fault
  -- the name, its kind, the export
  PackagePathMissingExport : Name → Name → Name → Fault
  -- the package, the import
  MissingComponentImport : Name → Name → Fault
  MismatchedInstantiationArg : Name → Fault
  DuplicateInstantiationArg : Name → Fault
  -- the name, the package
  MissingInstantiationArg : Name → Name → Fault
  -- the name, the package, where the instantiation stands
  ImportConflict : Name → Key → Span → Fault
  -- the name, where the earlier import stands
  ExplicitImportConflict : Name → Span → Fault
  -- the name, where the earlier asker stands
  InstantiationArgMergeFailure : Name → Span → Fault
  -- the kind
  NotAnInstance : Name → InstanceOperation → Fault
  MissingInstanceExport : Name → Fault
  ExportRequiresAs : Fault
  -- the name, where the export stands
  DeclarationConflict : Name → Span → Fault
  -- the name, the kind, where the definition stands, the help
  ExportConflict : Name → Name → Span → Bool → Fault
  -- the name, what it is, where the earlier one stands, the help
  DuplicateExternName : Name → ExternKind → Span → Bool → Fault
  InvalidExternName : Name → ExternKind → Fault
  -- the name, what has it already, the help
  UseConflict : Name → ExternKind → Bool → Fault
  FillArgumentNotLast : Fault
  SpreadInstantiationNoMatch : Fault
  SpreadExportNoEffect : Fault
  -- the name, the world
  ImportNotInTarget : Name → Name → Fault
  -- the name, the kind, the world
  MissingTargetExport : Name → Name → Name → Fault
  -- what it is, the name, the world
  TargetMismatch : ExternKind → Name → Name → Fault
  -- what the two names are of
  ValidationFailure : ExternKind → Name → Name → Fault
  TypeCannotBeWritten : Name → Fault
  TypeNotWritten : Fault
  TooLarge : Fault
  -- the name, its kind
  NotFuncOrInterface : Name → Name → Fault
  NotInterface : Name → Name → Fault
  NotWorld : Name → Name → Fault
  NotFuncType : Name → Name → Fault
  NotResourceType : Name → Name → Fault
  NotValueType : Name → Name → Fault
  InvalidAliasType : Name → Name → Fault
  -- the name, the interface
  UndefinedInterfaceType : Name → Name → Fault
  -- the name, its kind, the interface
  NotInterfaceValueType : Name → Name → Name → Fault
  -- the name, the interface
  DuplicateInterfaceExport : Name → Option Name → Fault
  -- what it is, the name, the world
  DuplicateWorldItem : ExternKind → Name → Name → Fault
  DuplicateWorldIncludeName : Name → Fault
  -- the world, the name
  MissingWorldInclude : Name → Name → Fault
  -- what it is, the name, the world that is included, the world that includes it, the help
  WorldIncludeConflict : ExternKind → Name → Name → Name → Bool → Fault
  -- the resource
  DuplicateResourceConstructor : Name → Fault
  -- the name, the resource
  DuplicateResourceMethod : Name → Name → Fault
  -- the member, the type
  DuplicateVariantCase : Name → Name → Fault
  DuplicateRecordField : Name → Name → Fault
  DuplicateEnumCase : Name → Name → Fault
  DuplicateFlag : Name → Name → Fault
  -- the name, the kind of the function
  DuplicateParameter : Name → FuncKind → Fault
  DuplicateResult : Name → FuncKind → Fault
  BorrowInResult : Fault

-- a fault, where it stands if it has a place, and what stands behind it
pub record Cause : Type 0 where
  pub fault : Fault
  pub span : Option Span
  pub source : Source

-- with nothing behind it
abbrev pub plainly : Fault → Option Span → Cause
plainly f s = record { fault = f; span = s; source = nothing }

abbrev pub Answer : Type 0 → Type 0
Answer A = Result A Cause

infixl 10 ◌>>=◌
abbrev pub ◌>>=◌ : {A B : Type 0} → Answer A → (A → Answer B) → Answer B
(Ok a) >>= f = f a
(Err c) >>= f = Err c

infixl 10 ◌>>◌
abbrev pub ◌>>◌ : {A B : Type 0} → Answer A → Answer B → Answer B
(Ok a) >> q = q
(Err c) >> q = Err c

abbrev pub pure : {A : Type 0} → A → Answer A
pure a = Ok a

abbrev pub refuse : {A : Type 0} → Fault → Span → Answer A
refuse f s = Err (plainly f (Some s))

-- refused where this is so
abbrev pub unless_clear : Bool → Fault → Span → Answer ⊤
unless_clear true f s = refuse f s
unless_clear false f s = Ok tt

-- refused where this is not so
abbrev pub needs : Bool → Cause → Answer ⊤
needs true c = Ok tt
needs false c = Err c

abbrev pub present : {A : Type 0} → Option A → Fault → Span → Answer A
present None f s = refuse f s
present (Some a) f s = Ok a

-- in order, each over what the ones before left
abbrev pub each : {A S : Type 0} → (S → A → Answer S) → S → List A → Answer S
each f s [] = Ok s
each f s (x ∷ xs) = f s x >>= λ t. each f t xs

-- where a cause stands, if one is named and has a place
abbrev pub span_of : Option Cause → Option Span
span_of None = None
span_of (Some c) = c.span
