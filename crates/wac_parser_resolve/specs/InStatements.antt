-- What is answered of statements and their parts: what is said then, over what was said, or the cause.
use Rattle.std.specs.Prelude.{◌≡◌, ◌∷◌, ◌++◌, [], ℕ, List, Bool, Option, Some, None, map, Result, ⊤, string_bytes, unwrap_or}
use Rattle.wac_types_base.specs.declared.item.ExternKind.{ExternKind}
use Rattle.wac_types_base.specs.declared.item.ItemKind.{ItemKind}
use Rattle.wac_types_base.specs.declared.item.«Type».{«Type» as TypeKind}
use Rattle.wac_types_base.specs.Record.{Collection}
use Rattle.wac_types_base.specs.Entries.{Name, names_of, value_at}
use Rattle.wac_types_base.specs.Stated.{Stated, kind_of, stated_of}
use Rattle.wac_graph_core.specs.declared.error.DefineTypeError.{DefineTypeError}
use Rattle.wac_graph_core.specs.declared.error.ImportError.{ImportError}
use Rattle.wac_graph_core.specs.Graph.{Graph}
use Rattle.wac_parser_tree.specs.Trees as t
use Rattle.wac_parser_tree.specs.Trees.{Span}
use Rattle.wac_parser_tree.specs.declared.text.Ident.{Ident}
use Rattle.wac_parser_tree.specs.declared.document.Statement.{Statement}
use Rattle.wac_parser_tree.specs.declared.document.TypeStatement.{TypeStatement}
use Rattle.wac_parser_tree.specs.declared.import.ImportStatement.{ImportStatement}
use Rattle.wac_parser_tree.specs.declared.import.ImportType.{ImportType}
use Rattle.wac_parser_tree.specs.declared.value_type.FuncType.{FuncType}
use Rattle.wac_parser_tree.specs.declared.interface.InlineInterface.{InlineInterface}
use Rattle.wac_parser_tree.specs.declared.import.PackageName.{PackageName}
use Rattle.wac_parser_tree.specs.declared.import.PackagePath.{PackagePath}
use Rattle.wac_parser_tree.specs.Views.{view_func_type, view_ident, view_import_statement, view_import_type}
use Rattle.wac_parser_tree.specs.Views.{view_inline_interface, view_package_name, view_package_path, view_statement, view_type_statement}
use Rattle.wac_parser_refusals.specs.declared.refusal.Refusal.{Refusal}
use Rattle.wac_parser_refusals.specs.Causes.{Answer, Cause, each, pure, DeclarationConflict, DuplicateExternName, InvalidExternName}
use Rattle.wac_parser_refusals.specs.Outcomes.{IsOutcome}
use Rattle.wac_parser_refusals.specs.Views.{at_place}
use Rattle.wac_parser_declare.specs.Functions.{Names}
use Rattle.wac_parser_declare.specs.Holding.{Holds, IsType, scope_of}
use Rattle.wac_parser_declare.specs.Declarations.{free}
use Rattle.wac_parser_declare.specs.Interfaces.{inline_interface}
use Rattle.wac_parser_declare.specs.Scope.{named, path_item}
use Rattle.wac_parser_declare.specs.Worlds as declared
use Rattle.wac_parser_resolve.specs.declared.state.State.{State as Held}
use Rattle.wac_parser_resolve.specs.declared.statements.ImportName.{ImportName}
use Rattle.wac_parser_resolve.specs.Ascribing.{Denoted, State, bound, context, root_scope}
use Rattle.wac_parser_resolve.specs.Holding.{Denotes}
use Rattle.wac_parser_resolve.specs.Said.{IsSaid, last_noted}
use Rattle.wac_parser_resolve.specs.Saying.{add_import, asked, identified, import_name, statement}

-- ---- states of the code

-- the node is what is denoted
abbrev pub DenotesOn : Held → Denoted → ℕ → Type 0
DenotesOn b d k = Denotes b.board.types.graph (names_of b.board.instances.noted.items) d k

-- what is said then, of what is answered over what was said
abbrev pub SaysNext : Held → Held → (State → Answer State) → Result ⊤ Refusal → t.PackageName → Type 0
SaysNext old new f r own = (s : State) → IsSaid own old s → IsOutcome (λ q u. IsSaid own new q) (f s) r

-- what was said is said still
abbrev pub StaysSaid : Held → Held → Type 0
StaysSaid old new = (own : t.PackageName) (s : State) → IsSaid own old s → IsSaid own new s

-- the item of what is answered over what was said
abbrev pub IsItemSaid : Held → Held → (State → Answer Stated) → Result ItemKind Refusal → t.PackageName → Type 0
IsItemSaid old new f r own = (s : State) → IsSaid own old s → IsOutcome (Holds new.board.types.graph.types) (f s) r

-- ---- names

-- a name for what a node denotes
abbrev pub IsBinding : Ident → ℕ → Held → Held → Result ⊤ Refusal → Type 0
IsBinding i k old new r =
    (own : t.PackageName) (d : Denoted) → DenotesOn old d k → SaysNext old new (λ s. bound s (view_ident i) d) r own

-- the identifier of an instance or a component
abbrev pub identifier_of : Collection → ItemKind → Option Name
identifier_of c k = identified (kind_of (stated_of c k)) (stated_of c k)

-- the item of a name
abbrev pub IsItemNamed : Ident → Collection → Names → Result ItemKind Refusal → Type 0
IsItemNamed i c ns r = IsOutcome (Holds c) (named (scope_of c ns) (view_ident i)) r

-- the name of an import
abbrev pub IsNamedSo : t.Ident → ImportName → Type 0
IsNamedSo i n = (string_bytes n.text ≡ i.string) × (n.span ≡ i.span)

abbrev pub IsText : Name → Span → Result ImportName Refusal → Type 0
IsText text at r = IsOutcome IsNamedSo (pure (record { string = text; span = at })) r

abbrev pub IsImportName : ImportStatement → Collection → Names → Result ImportName Refusal → Type 0
IsImportName x c ns r =
    (s : State) → scope_of c ns ≡ root_scope s → IsOutcome IsNamedSo (import_name s (view_import_statement x)) r

-- ---- items that are asked

abbrev pub IsItemAt : PackagePath → PackageName → Held → Held → Result ItemKind Refusal → Type 0
IsItemAt p own old new r = IsItemSaid old new (λ s. path_item (context s) (view_package_path p)) r (view_package_name own)

abbrev pub IsInterfaceSaid : InlineInterface → PackageName → Held → Held → Result ItemKind Refusal → Type 0
IsInterfaceSaid i own old new r =
    IsItemSaid old new (λ s. inline_interface (context s) (view_inline_interface i)) r (view_package_name own)

abbrev pub IsFuncSaid : FuncType → Held → Held → Result ItemKind Refusal → Type 0
IsFuncSaid f old new r = (own : t.PackageName) → IsItemSaid old new (λ s. free (root_scope s) (view_func_type f)) r own

abbrev pub IsAskedFor : ImportType → PackageName → Held → Held → Result ItemKind Refusal → Type 0
IsAskedFor x own old new r = IsItemSaid old new (λ s. asked s (view_import_type x)) r (view_package_name own)

-- ---- imports

-- why there is no such import, where the node of the earlier one is noted
abbrev pub import_cause : List (ℕ × Span) → Span → Bool → ImportError → Option Cause
import_cause noted s helped (ImportError.ImportAlreadyExists m k) =
    at_place (DuplicateExternName (string_bytes m) ExternKind.Import (unwrap_or (last_noted noted k) s) helped) s
import_cause noted s helped (ImportError.InvalidImportName m e) =
    at_place (InvalidExternName (string_bytes m) ExternKind.Import) s
import_cause noted s helped ImportError.Memory = None

-- the node is noted as an import, and where its identifier stands
pub record NotesImport (old new : Held) (k : ℕ) (at id_at : Span) : Type 0 where
  pub rest : new ≡ record old { imports = new.imports; ids = new.ids }
  pub imports : new.imports.noted.items ≡ old.imports.noted.items ++ (k, at) ∷ []
  pub ids : new.ids.noted.items ≡ old.ids.noted.items ++ (k, id_at) ∷ []

-- the name of an import, over what is said once it is noted
abbrev pub IsImportNamed : Ident → ℕ → Span → Held → Held → Result ⊤ Refusal → Type 0
IsImportNamed i k at old new r =
    (own : t.PackageName) (s : State) (d : Denoted) → ((b : Held) → NotesImport old b k at i.span → IsSaid own b s)
    → DenotesOn old d k → IsOutcome (λ q u. IsSaid own new q) (bound s (view_ident i) d) r

abbrev pub AddsImport : ImportStatement → Name → Span → ItemKind → Held → Held → Result ⊤ Refusal → Type 0
AddsImport x n at k old new r = (own : t.PackageName) (item : Stated) → Holds old.board.types.graph.types item k
    → SaysNext old new (λ s. add_import s (view_import_statement x) (record { string = n; span = at }) item) r own

-- ---- declarations

-- where the node of an export of this name is noted
abbrev pub noted_export : List (ℕ × Span) → Span → Option ℕ → Span
noted_export noted s None = s
noted_export noted s (Some k) = unwrap_or (last_noted noted k) s

-- it is a fault of the name, or want of memory: what is declared is new and no resource
abbrev pub IsOfName : DefineTypeError → Type 0
IsOfName DefineTypeError.TypeAlreadyDefined = ⊥
IsOfName DefineTypeError.CannotDefineResource = ⊥
IsOfName (DefineTypeError.InvalidExternName m e) = Unit {0}
IsOfName (DefineTypeError.ExportConflict m) = Unit {0}
IsOfName DefineTypeError.Memory = Unit {0}

-- why there is no such definition
abbrev pub definition_cause : Graph → List (ℕ × Span) → t.Ident → DefineTypeError → Option Cause
definition_cause g noted i (DefineTypeError.ExportConflict m) =
    at_place (DeclarationConflict (string_bytes m) (noted_export noted i.span (value_at g.exports i.string))) i.span
definition_cause g noted i (DefineTypeError.InvalidExternName m e) =
    at_place (InvalidExternName (string_bytes m) ExternKind.Export) i.span
definition_cause g noted i DefineTypeError.TypeAlreadyDefined = None
definition_cause g noted i DefineTypeError.CannotDefineResource = None
definition_cause g noted i DefineTypeError.Memory = None

-- the node is noted as an export, and where its identifier stands
pub record NotesExport (old new : Held) (k : ℕ) (at : Span) : Type 0 where
  pub rest : new ≡ record old { exports = new.exports; ids = new.ids }
  pub exports : new.exports.noted.items ≡ old.exports.noted.items ++ (k, at) ∷ []
  pub ids : new.ids.noted.items ≡ old.ids.noted.items ++ (k, at) ∷ []

abbrev pub IsDefinitionNamed : Ident → ℕ → Held → Held → Result ⊤ Refusal → Type 0
IsDefinitionNamed i k old new r =
    (own : t.PackageName) (s : State) (d : Denoted) → ((b : Held) → NotesExport old b k i.span → IsSaid own b s)
    → DenotesOn old d k → IsOutcome (λ q u. IsSaid own new q) (bound s (view_ident i) d) r

-- the type that a statement declares
abbrev pub IsTypeSaid : TypeStatement → PackageName → Held → Held → Result TypeKind Refusal → Type 0
IsTypeSaid x own old new r = (s : State) → IsSaid (view_package_name own) old s
    → IsOutcome (IsType new.board.types.graph.types) (declared.type_statement (context s) (view_type_statement x)) r

-- ---- statements

abbrev pub IsStatement : t.Statement → PackageName → Held → Held → Result ⊤ Refusal → Type 0
IsStatement x own old new r = SaysNext old new (λ s. statement s x) r (view_package_name own)

abbrev pub AreStatements : List Statement → PackageName → Held → Held → Result ⊤ Refusal → Type 0
AreStatements xs own old new r = SaysNext old new (λ s. each statement s (map view_statement xs)) r (view_package_name own)
