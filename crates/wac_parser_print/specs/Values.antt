-- The JSON value of each form, as the original serializes it: an object for each record, by the names of its fields; a variant
-- as an object with its name, or its name alone.
use Rattle.std.specs.Prelude.{ℕ, List, [], ◌∷◌, Option, Some, None, codes, map}
use Rattle.serde_json.specs.Data.{Data, null, boolean, string, array, Items, no_items, item}
use Rattle.serde_json.specs.View.{items_of}
use Rattle.wac_parser_tree.specs.Trees as t
use Rattle.wac_parser_tree.specs.Views.{view_doc_comment}
use Rattle.wac_parser_tree.specs.declared.text.DocComment.{DocComment}
use Rattle.wac_parser_print.specs.Objects.{object_of, variant, array_of, or_null, span, version}

-- ---- names and doc comments

unfoldable pub ident : t.Ident → Data
ident x = object_of ((codes "string", string x.string) ∷ (codes "span", span x.span) ∷ [])

unfoldable pub string_literal : t.StringLiteral → Data
string_literal x = object_of ((codes "value", string x.value) ∷ (codes "span", span x.span) ∷ [])

unfoldable pub doc_comment : t.DocComment → Data
doc_comment x = object_of ((codes "comment", string x.comment) ∷ (codes "span", span x.span) ∷ [])

abbrev pub docs : List t.DocComment → Data
docs xs = array_of doc_comment xs

abbrev pub docs_of : List DocComment → List t.DocComment
docs_of cs = map view_doc_comment cs

-- doc comments, the identifier that is declared, then the member of a form
abbrev pub documented : List t.DocComment → List ℕ → Data → Data
documented cs name x = object_of ((codes "docs", docs cs) ∷ (name, x) ∷ [])

abbrev pub decl : List t.DocComment → t.Ident → List ℕ → Data → Data
decl cs i name x = object_of ((codes "docs", docs cs) ∷ (codes "id", ident i) ∷ (name, x) ∷ [])

abbrev pub identified : t.Ident → List ℕ → Data → Data
identified i name x = object_of ((codes "id", ident i) ∷ (name, x) ∷ [])

unfoldable pub package_name : t.PackageName → Data
package_name x =
    object_of ((codes "string", string x.string) ∷ (codes "name", string x.name) ∷ (codes "version", version x.version)
    ∷ (codes "span", span x.span) ∷ [])

unfoldable pub package_path : t.PackagePath → Data
package_path x =
    object_of ((codes "span", span x.span) ∷ (codes "string", string x.string) ∷ (codes "name", string x.name)
    ∷ (codes "segments", string x.segments) ∷ (codes "version", version x.version) ∷ [])

unfoldable pub extern_name : t.ExternName → Data
extern_name (t.ExternName.ident x) = variant (codes "ident") (ident x)
extern_name (t.ExternName.string x) = variant (codes "string") (string_literal x)

-- ---- types

-- a result of what it gives, and of its error
abbrev pub result_of : t.Span → Data → Data → Data
result_of at ok err = variant (codes "result") (object_of ((codes "ok", ok) ∷ (codes "err", err) ∷ (codes "span", span at) ∷ []))

-- a type, and where it stands
abbrev pub with_span : Data → t.Span → Data
with_span contents at = array (item contents (item (span at) no_items))

unfoldable mutual
  pub ty : t.Ty → Data
  ty (t.Ty.u8 at) = variant (codes "u8") (span at)
  ty (t.Ty.s8 at) = variant (codes "s8") (span at)
  ty (t.Ty.u16 at) = variant (codes "u16") (span at)
  ty (t.Ty.s16 at) = variant (codes "s16") (span at)
  ty (t.Ty.u32 at) = variant (codes "u32") (span at)
  ty (t.Ty.s32 at) = variant (codes "s32") (span at)
  ty (t.Ty.u64 at) = variant (codes "u64") (span at)
  ty (t.Ty.s64 at) = variant (codes "s64") (span at)
  ty (t.Ty.f32 at) = variant (codes "f32") (span at)
  ty (t.Ty.f64 at) = variant (codes "f64") (span at)
  ty (t.Ty.char at) = variant (codes "char") (span at)
  ty (t.Ty.bool at) = variant (codes "bool") (span at)
  ty (t.Ty.string at) = variant (codes "string") (span at)
  ty (t.Ty.tuple xs at) = variant (codes "tuple") (with_span (array (tys xs)) at)
  ty (t.Ty.list x at) = variant (codes "list") (with_span (ty x) at)
  ty (t.Ty.option x at) = variant (codes "option") (with_span (ty x) at)
  ty (t.Ty.result x y at) =
      variant (codes "result") (object_of ((codes "ok", maybe_ty x) ∷ (codes "err", maybe_ty y) ∷ (codes "span", span at) ∷ []))
  ty (t.Ty.borrow id at) = variant (codes "borrow") (with_span (ident id) at)
  ty (t.Ty.stream x at) = variant (codes "stream") (with_span (maybe_ty x) at)
  ty (t.Ty.future x at) = variant (codes "future") (with_span (maybe_ty x) at)
  ty (t.Ty.error_context at) = variant (codes "errorContext") (span at)
  ty (t.Ty.ident id) = variant (codes "ident") (ident id)

  pub tys : t.Tys → Items
  tys t.no_more = no_items
  tys (t.more x xs) = item (ty x) (tys xs)

  pub maybe_ty : t.MaybeTy → Data
  maybe_ty t.no_ty = null
  maybe_ty (t.some_ty x) = ty x

unfoldable pub named_type : t.NamedType → Data
named_type x = object_of ((codes "id", ident x.id) ∷ (codes "ty", ty x.ty) ∷ [])

unfoldable pub result_list : t.ResultList → Data
result_list t.ResultList.empty = string (codes "empty")
result_list (t.ResultList.scalar x) = variant (codes "scalar") (ty x)

unfoldable pub func_type : t.FuncType → Data
func_type x =
    object_of ((codes "isAsync", boolean x.is_async) ∷ (codes "params", array_of named_type x.params)
    ∷ (codes "results", result_list x.results) ∷ [])

unfoldable pub func_type_ref : t.FuncTypeRef → Data
func_type_ref (t.FuncTypeRef.func x) = variant (codes "func") (func_type x)
func_type_ref (t.FuncTypeRef.ident x) = variant (codes "ident") (ident x)

-- ---- declarations

unfoldable pub variant_case : t.VariantCase → Data
variant_case x = object_of ((codes "docs", docs x.docs) ∷ (codes "id", ident x.id) ∷ (codes "ty", or_null ty x.ty) ∷ [])

unfoldable pub variant_decl : t.VariantDecl → Data
variant_decl x =
    object_of ((codes "docs", docs x.docs) ∷ (codes "id", ident x.id) ∷ (codes "cases", array_of variant_case x.cases) ∷ [])

unfoldable pub field : t.Field → Data
field x = object_of ((codes "docs", docs x.docs) ∷ (codes "id", ident x.id) ∷ (codes "ty", ty x.ty) ∷ [])

unfoldable pub record_decl : t.RecordDecl → Data
record_decl x =
    object_of ((codes "docs", docs x.docs) ∷ (codes "id", ident x.id) ∷ (codes "fields", array_of field x.fields) ∷ [])

unfoldable pub flag : t.Flag → Data
flag x = object_of ((codes "docs", docs x.docs) ∷ (codes "id", ident x.id) ∷ [])

unfoldable pub flags_decl : t.FlagsDecl → Data
flags_decl x = object_of ((codes "docs", docs x.docs) ∷ (codes "id", ident x.id) ∷ (codes "flags", array_of flag x.flags) ∷ [])

unfoldable pub enum_case : t.EnumCase → Data
enum_case x = object_of ((codes "docs", docs x.docs) ∷ (codes "id", ident x.id) ∷ [])

unfoldable pub enum_decl : t.EnumDecl → Data
enum_decl x =
    object_of ((codes "docs", docs x.docs) ∷ (codes "id", ident x.id) ∷ (codes "cases", array_of enum_case x.cases) ∷ [])

unfoldable pub type_alias_kind : t.TypeAliasKind → Data
type_alias_kind (t.TypeAliasKind.func x) = variant (codes "func") (func_type x)
type_alias_kind (t.TypeAliasKind.ty x) = variant (codes "type") (ty x)

unfoldable pub type_alias : t.TypeAlias → Data
type_alias x = object_of ((codes "docs", docs x.docs) ∷ (codes "id", ident x.id) ∷ (codes "kind", type_alias_kind x.kind) ∷ [])

unfoldable pub constructor : t.Constructor → Data
constructor x =
    object_of ((codes "docs", docs x.docs) ∷ (codes "span", span x.span) ∷ (codes "params", array_of named_type x.params) ∷ [])

unfoldable pub method : t.Method → Data
method x =
    object_of ((codes "docs", docs x.docs) ∷ (codes "id", ident x.id) ∷ (codes "isStatic", boolean x.is_static)
    ∷ (codes "ty", func_type x.ty) ∷ [])

unfoldable pub resource_method : t.ResourceMethod → Data
resource_method (t.ResourceMethod.constructor x) = variant (codes "constructor") (constructor x)
resource_method (t.ResourceMethod.method x) = variant (codes "method") (method x)

unfoldable pub resource_decl : t.ResourceDecl → Data
resource_decl x =
    object_of ((codes "docs", docs x.docs) ∷ (codes "id", ident x.id) ∷ (codes "methods", array_of resource_method x.methods)
    ∷ [])

unfoldable pub type_decl : t.TypeDecl → Data
type_decl (t.TypeDecl.variant x) = variant (codes "variant") (variant_decl x)
type_decl (t.TypeDecl.record_ x) = variant (codes "record") (record_decl x)
type_decl (t.TypeDecl.flags x) = variant (codes "flags") (flags_decl x)
type_decl (t.TypeDecl.enum x) = variant (codes "enum") (enum_decl x)
type_decl (t.TypeDecl.alias x) = variant (codes "alias") (type_alias x)

unfoldable pub item_type_decl : t.ItemTypeDecl → Data
item_type_decl (t.ItemTypeDecl.resource x) = variant (codes "resource") (resource_decl x)
item_type_decl (t.ItemTypeDecl.variant x) = variant (codes "variant") (variant_decl x)
item_type_decl (t.ItemTypeDecl.record_ x) = variant (codes "record") (record_decl x)
item_type_decl (t.ItemTypeDecl.flags x) = variant (codes "flags") (flags_decl x)
item_type_decl (t.ItemTypeDecl.enum x) = variant (codes "enum") (enum_decl x)
item_type_decl (t.ItemTypeDecl.alias x) = variant (codes "alias") (type_alias x)

-- ---- interfaces

unfoldable pub use_path : t.UsePath → Data
use_path (t.UsePath.package_path x) = variant (codes "package") (package_path x)
use_path (t.UsePath.ident x) = variant (codes "ident") (ident x)

unfoldable pub use_item : t.UseItem → Data
use_item x = object_of ((codes "id", ident x.id) ∷ (codes "asId", or_null ident x.as_id) ∷ [])

unfoldable pub use_type : t.Use → Data
use_type x =
    object_of ((codes "docs", docs x.docs) ∷ (codes "path", use_path x.path) ∷ (codes "items", array_of use_item x.items) ∷ [])

unfoldable pub interface_export : t.InterfaceExport → Data
interface_export x = object_of ((codes "docs", docs x.docs) ∷ (codes "id", ident x.id) ∷ (codes "ty", func_type_ref x.ty) ∷ [])

unfoldable pub interface_item : t.InterfaceItem → Data
interface_item (t.InterfaceItem.use_ x) = variant (codes "use") (use_type x)
interface_item (t.InterfaceItem.ty x) = variant (codes "type") (item_type_decl x)
interface_item (t.InterfaceItem.export x) = variant (codes "export") (interface_export x)

unfoldable pub inline_interface : t.InlineInterface → Data
inline_interface x = object_of ((codes "items", array_of interface_item x.items) ∷ [])

unfoldable pub interface_decl : t.InterfaceDecl → Data
interface_decl x =
    object_of ((codes "docs", docs x.docs) ∷ (codes "id", ident x.id) ∷ (codes "items", array_of interface_item x.items) ∷ [])

-- ---- worlds

unfoldable pub extern_type : t.ExternType → Data
extern_type (t.ExternType.ident x) = variant (codes "ident") (ident x)
extern_type (t.ExternType.func x) = variant (codes "func") (func_type x)
extern_type (t.ExternType.interface x) = variant (codes "interface") (inline_interface x)

unfoldable pub named_world_item : t.NamedWorldItem → Data
named_world_item x = object_of ((codes "id", ident x.id) ∷ (codes "ty", extern_type x.ty) ∷ [])

unfoldable pub world_item_path : t.WorldItemPath → Data
world_item_path (t.WorldItemPath.named x) = variant (codes "named") (named_world_item x)
world_item_path (t.WorldItemPath.package_path x) = variant (codes "package") (package_path x)
world_item_path (t.WorldItemPath.ident x) = variant (codes "ident") (ident x)

unfoldable pub world_import : t.WorldImport → Data
world_import x = object_of ((codes "docs", docs x.docs) ∷ (codes "path", world_item_path x.path) ∷ [])

unfoldable pub world_export : t.WorldExport → Data
world_export x = object_of ((codes "docs", docs x.docs) ∷ (codes "path", world_item_path x.path) ∷ [])

unfoldable pub world_ref : t.WorldRef → Data
world_ref (t.WorldRef.ident x) = variant (codes "ident") (ident x)
world_ref (t.WorldRef.package_path x) = variant (codes "package") (package_path x)

unfoldable pub world_include_item : t.WorldIncludeItem → Data
world_include_item x = object_of ((codes "from", ident x.from) ∷ (codes "to", ident x.to) ∷ [])

unfoldable pub world_include : t.WorldInclude → Data
world_include x =
    object_of ((codes "docs", docs x.docs) ∷ (codes "world", world_ref x.world)
    ∷ (codes "with", array_of world_include_item x.with) ∷ [])

unfoldable pub world_item : t.WorldItem → Data
world_item (t.WorldItem.use_ x) = variant (codes "use") (use_type x)
world_item (t.WorldItem.ty x) = variant (codes "type") (item_type_decl x)
world_item (t.WorldItem.import x) = variant (codes "import") (world_import x)
world_item (t.WorldItem.export x) = variant (codes "export") (world_export x)
world_item (t.WorldItem.include x) = variant (codes "include") (world_include x)

unfoldable pub world_decl : t.WorldDecl → Data
world_decl x =
    object_of ((codes "docs", docs x.docs) ∷ (codes "id", ident x.id) ∷ (codes "items", array_of world_item x.items) ∷ [])

-- ---- expressions

unfoldable pub access_expr : t.AccessExpr → Data
access_expr x = object_of ((codes "span", span x.span) ∷ (codes "id", ident x.id) ∷ [])

unfoldable pub named_access_expr : t.NamedAccessExpr → Data
named_access_expr x = object_of ((codes "span", span x.span) ∷ (codes "string", string_literal x.string) ∷ [])

unfoldable pub postfix_expr : t.PostfixExpr → Data
postfix_expr (t.PostfixExpr.access x) = variant (codes "access") (access_expr x)
postfix_expr (t.PostfixExpr.named_access x) = variant (codes "namedAccess") (named_access_expr x)

unfoldable pub argument_name : t.InstantiationArgumentName → Data
argument_name (t.InstantiationArgumentName.ident x) = variant (codes "ident") (ident x)
argument_name (t.InstantiationArgumentName.string x) = variant (codes "string") (string_literal x)

unfoldable mutual
  pub expr : t.Expr → Data
  expr (t.expr at x accesses) =
      object_of ((codes "span", span at) ∷ (codes "primary", primary_expr x) ∷ (codes "postfix", array_of postfix_expr accesses)
      ∷ [])

  pub primary_expr : t.PrimaryExpr → Data
  primary_expr (t.PrimaryExpr.new x) = variant (codes "new") (new_expr x)
  primary_expr (t.PrimaryExpr.nested x) = variant (codes "nested") (nested_expr x)
  primary_expr (t.PrimaryExpr.ident x) = variant (codes "ident") (ident x)

  pub nested_expr : t.NestedExpr → Data
  nested_expr (t.nested_expr at x) = object_of ((codes "span", span at) ∷ (codes "inner", expr x) ∷ [])

  pub new_expr : t.NewExpr → Data
  new_expr (t.new_expr at name track xs) =
      object_of ((codes "span", span at) ∷ (codes "package", package_name name) ∷ (codes "track", or_null string track)
      ∷ (codes "arguments", array (arguments xs)) ∷ [])

  pub arguments : t.Arguments → Items
  arguments t.no_arguments = no_items
  arguments (t.argument x xs) = item (argument x) (arguments xs)

  pub argument : t.InstantiationArgument → Data
  argument (t.InstantiationArgument.inferred x) = variant (codes "inferred") (ident x)
  argument (t.InstantiationArgument.spread x) = variant (codes "spread") (ident x)
  argument (t.InstantiationArgument.named x) = variant (codes "named") (named_argument x)
  argument (t.InstantiationArgument.fill at) = variant (codes "fill") (span at)

  pub named_argument : t.NamedInstantiationArgument → Data
  named_argument (t.named_argument name x) = object_of ((codes "name", argument_name name) ∷ (codes "expr", expr x) ∷ [])

-- ---- statements

unfoldable pub import_type : t.ImportType → Data
import_type (t.ImportType.package_path x) = variant (codes "package") (package_path x)
import_type (t.ImportType.func x) = variant (codes "func") (func_type x)
import_type (t.ImportType.interface x) = variant (codes "interface") (inline_interface x)
import_type (t.ImportType.ident x) = variant (codes "ident") (ident x)

unfoldable pub import_statement : t.ImportStatement → Data
import_statement x =
    object_of ((codes "docs", docs x.docs) ∷ (codes "id", ident x.id) ∷ (codes "name", or_null extern_name x.name)
    ∷ (codes "ty", import_type x.ty) ∷ [])

unfoldable pub let_statement : t.LetStatement → Data
let_statement x = object_of ((codes "docs", docs x.docs) ∷ (codes "id", ident x.id) ∷ (codes "expr", expr x.expr) ∷ [])

unfoldable pub export_options : t.ExportOptions → Data
export_options t.ExportOptions.none = string (codes "none")
export_options (t.ExportOptions.spread at) = variant (codes "spread") (span at)
export_options (t.ExportOptions.rename x) = variant (codes "rename") (extern_name x)

unfoldable pub export_statement : t.ExportStatement → Data
export_statement x =
    object_of ((codes "docs", docs x.docs) ∷ (codes "expr", expr x.expr) ∷ (codes "options", export_options x.options) ∷ [])

unfoldable pub type_statement : t.TypeStatement → Data
type_statement (t.TypeStatement.interface x) = variant (codes "interface") (interface_decl x)
type_statement (t.TypeStatement.world x) = variant (codes "world") (world_decl x)
type_statement (t.TypeStatement.ty x) = variant (codes "type") (type_decl x)

unfoldable pub statement : t.Statement → Data
statement (t.Statement.import x) = variant (codes "Import") (import_statement x)
statement (t.Statement.ty x) = variant (codes "Type") (type_statement x)
statement (t.Statement.let_ x) = variant (codes "Let") (let_statement x)
statement (t.Statement.export x) = variant (codes "Export") (export_statement x)

-- ---- documents

-- an absent target is left out
abbrev pub directive_of : t.PackageName → Option t.PackagePath → Data
directive_of name None = object_of ((codes "package", package_name name) ∷ [])
directive_of name (Some path) = object_of ((codes "package", package_name name) ∷ (codes "targets", package_path path) ∷ [])

unfoldable pub package_directive : t.PackageDirective → Data
package_directive x = directive_of x.«package» x.targets

unfoldable pub document : t.Document → Data
document x =
    object_of ((codes "docs", docs x.docs) ∷ (codes "directive", package_directive x.directive)
    ∷ (codes "statements", array_of statement x.statements) ∷ [])
