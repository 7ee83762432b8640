-- What each statement adds to what the ones before said, or its cause.
use Rattle.std.specs.Prelude.{ℕ, Bool, true, false, not, List, [], ◌∷◌, ◌++◌, Option, Some, None, is_some, is_none, filter, find, ⊤, bytes_eq, unwrap_or, if◌then◌else◌}
use Rattle.wac_types_base.specs.declared.item.ExternKind.{ExternKind}
use Rattle.wac_types_base.specs.Entries.{Name, value_at, names_of}
use Rattle.wac_types_base.specs.Stated.{Stated, Kind, IsInstance, IsComponent, kind_of, desc, promote, exports_of, identifier_of}
use Rattle.wac_types_names.specs.Keys.{Key}
use Rattle.wac_types_names.specs.InterfaceNames.{is_exportable, is_extern_name}
use Rattle.wac_composition.specs.Composition.{Origin, imported, defined}
use Rattle.wac_parser_tree.specs.Trees as t
use Rattle.wac_parser_tree.specs.Trees.{Span}
use Rattle.wac_parser_refusals.specs.declared.error.InstanceOperation.{InstanceOperation}
use Rattle.wac_parser_refusals.specs.Causes.{Answer, ◌>>=◌, ◌>>◌, pure, refuse, unless_clear, present, each}
use Rattle.wac_parser_refusals.specs.Causes.{DuplicateExternName, InvalidExternName, DeclarationConflict, ExportRequiresAs, ExportConflict, SpreadExportNoEffect}
use Rattle.wac_parser_declare.specs.Packages.{Content}
use Rattle.wac_parser_declare.specs.Scope.{named, path_item}
use Rattle.wac_parser_declare.specs.Declarations.{free}
use Rattle.wac_parser_declare.specs.Interfaces.{inline_interface}
use Rattle.wac_parser_declare.specs.Worlds.{type_statement}
use Rattle.wac_parser_resolve.specs.Ascribing.{Denoted, Import, Bound, State, start, root_scope, context, bound, own_name, same_origin, speak_of, is_own_definition}
use Rattle.std.specs.Option.{option_or}
use Rattle.wac_parser_resolve.specs.Denoting.{denote, export_named, instance_identifier, needs_instance}

-- ---- import statements

-- the item that an import statement asks
abbrev pub asked : State → t.ImportType → Answer Stated
asked g (t.ImportType.package_path p) = path_item (context g) p
asked g (t.ImportType.func f) = free (root_scope g) f
asked g (t.ImportType.interface i) = inline_interface (context g) i
asked g (t.ImportType.ident i) = named (root_scope g) i

abbrev pub identified : Kind → Stated → Option Name
identified IsInstance x = identifier_of x
identified IsComponent x = identifier_of x
identified k x = None

abbrev pub written_name : t.ExternName → t.Ident
written_name (t.ExternName.ident i) = i
written_name (t.ExternName.string x) = record { string = x.value; span = x.span }

-- the path, else the identifier of the instance or component that an ident names, else its ident
abbrev pub told_name : State → t.Ident → t.ImportType → Answer t.Ident
told_name g i (t.ImportType.package_path p) = pure (record { string = p.string; span = p.span })
told_name g i (t.ImportType.ident j) =
    named (root_scope g) j >>= λ x. pure (record { string = unwrap_or (identified (kind_of x) x) i.string; span = i.span })
told_name g i (t.ImportType.func f) = pure i
told_name g i (t.ImportType.interface x) = pure i

-- by `as`, if it is there
abbrev pub import_name : State → t.ImportStatement → Answer t.Ident
import_name g x = by_name x.name
  where
    by_name : Option t.ExternName → Answer t.Ident
    by_name (Some n) = pure (written_name n)
    by_name None = told_name g x.id x.ty

abbrev pub import_called : List Import → Name → Option Import
import_called is n = find (λ (i : Import). bytes_eq n i.name) is

abbrev pub not_imported : Option Import → t.Ident → Bool → Answer ⊤
not_imported None n helped = pure tt
not_imported (Some i) n helped = refuse (DuplicateExternName n.string ExternKind.Import i.span helped) n.span

abbrev pub with_import : State → Import → State
with_import g i = record g { imports = g.imports ++ i ∷ [] }

-- an import of this name and item
abbrev pub add_import : State → t.ImportStatement → t.Ident → Stated → Answer State
add_import g x n item = do
  not_imported (import_called g.imports n.string) n (is_none x.name)
  unless_clear (not (is_extern_name n.string)) (InvalidExternName n.string ExternKind.Import) n.span
  bound (with_import g (record { name = n.string; item = item; span = n.span; id_span = x.id.span })) x.id
      (record { origin = imported n.string; item = item })

abbrev pub import_statement : State → t.ImportStatement → Answer State
import_statement g x = do
  n ← import_name g x
  item ← asked g x.ty
  add_import g x n (promote item)

-- ---- where exports stand: one place is kept of each thing, that of its last name

abbrev pub last_span : Span → Origin ℕ → List (Name × Bound) → Span
last_span s o [] = s
last_span s o (e ∷ es) = last_span (if same_origin o e.1.denoted.origin then e.1.span else s) o es

abbrev pub export_span : State → Bound → Span
export_span g e = last_span e.span e.denoted.origin g.exports

-- ---- declarations

abbrev pub not_exported : State → Option Bound → t.Ident → Answer ⊤
not_exported g None i = pure tt
not_exported g (Some e) i = refuse (DeclarationConflict i.string (export_span g e)) i.span

abbrev pub with_definition : State → t.Ident → Stated → State
with_definition g i x = record g {
  definitions = g.definitions ++ (i.string, x) ∷ [];
  exports = g.exports ++ (i.string, record { denoted = record { origin = defined i.string x; item = x }; span = i.span }) ∷ [];
}

-- a name that the grammar reads is one of an export; others are refused
abbrev pub declaration : State → t.Ident → Stated → Answer State
declaration g i x = do
  unless_clear (not (is_extern_name i.string)) (InvalidExternName i.string ExternKind.Export) i.span
  not_exported g (value_at g.exports i.string) i
  bound (with_definition g i x) i (record { origin = defined i.string x; item = x })

abbrev pub type_id : t.TypeDecl → t.Ident
type_id (t.TypeDecl.variant d) = d.id
type_id (t.TypeDecl.record_ d) = d.id
type_id (t.TypeDecl.flags d) = d.id
type_id (t.TypeDecl.enum d) = d.id
type_id (t.TypeDecl.alias d) = d.id

abbrev pub declared_id : t.TypeStatement → t.Ident
declared_id (t.TypeStatement.interface d) = d.id
declared_id (t.TypeStatement.world d) = d.id
declared_id (t.TypeStatement.ty d) = type_id d

-- ---- exports

abbrev pub no_definition : t.Ident → Bool → Option Bound → Answer ⊤
no_definition n helped None = pure tt
no_definition n helped (Some b) =
    unless_clear (is_own_definition b.denoted.origin) (ExportConflict n.string (desc b.denoted.item) b.span helped) n.span

abbrev pub new_export : State → t.Ident → Bool → Option Bound → Answer ⊤
new_export g n helped None = pure tt
new_export g n helped (Some e) = refuse (DuplicateExternName n.string ExternKind.Export (export_span g e) helped) n.span

-- something is exported under a name that denotes no definition
abbrev pub exported : Denoted → Bool → State → t.Ident → Answer State
exported d helped g n = do
  no_definition n helped (value_at g.root n.string)
  new_export g n helped (value_at g.exports n.string)
  unless_clear (not (is_exportable n.string)) (InvalidExternName n.string ExternKind.Export) n.span
  pure (record (speak_of g d) { exports = g.exports ++ (n.string, record { denoted = d; span = n.span }) ∷ [] })

-- an instance's identifier, else the import's or the alias's name
abbrev pub export_name : Denoted → Option Name
export_name d = option_or (instance_identifier (kind_of d.item) d.item) (own_name d.origin)

abbrev pub export_one : Span → Denoted → State → Name → Answer State
export_one dots d g n = export_named d n dots >>= λ e. exported e false g (record { string = n; span = dots })

abbrev pub export_left : State → Span → Span → Denoted → List Name → Answer State
export_left g s dots d [] = refuse SpreadExportNoEffect s
export_left g s dots d (n ∷ ns) = each (export_one dots d) g (n ∷ ns)

abbrev pub export_as : State → Span → Denoted → t.ExportOptions → Answer State
export_as g s d t.ExportOptions.none =
    present (export_name d) ExportRequiresAs s >>= λ n. exported d true g (record { string = n; span = s })
export_as g s d (t.ExportOptions.spread dots) = needs_instance d InstanceOperation.Spread s
    >> export_left g s dots d (filter (λ n. not (is_some (value_at g.exports n))) (names_of (exports_of d.item)))
export_as g s d (t.ExportOptions.rename n) = exported d false g (written_name n)

abbrev pub expr_span : t.Expr → Span
expr_span (t.expr s p ps) = s

-- ---- all

abbrev pub statement : State → t.Statement → Answer State
statement g (t.Statement.import x) = import_statement g x
statement g (t.Statement.ty x) = type_statement (context g) x >>= λ item. declaration g (declared_id x) item
statement g (t.Statement.let_ x) = denote g x.expr >>= λ r. bound r.0 x.id r.1
statement g (t.Statement.export x) = denote g x.expr >>= λ r. export_as r.0 (expr_span x.expr) r.1 x.options

-- what a document's statements say, in order
abbrev pub statements : t.Document → List (Key × Content) → Answer State
statements d ps = each statement (start d ps) d.statements
