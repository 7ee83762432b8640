-- The printed text of each form, as the original prints it (docs/DIFFERENCES.md names what differs). The lines of a form are
-- indented by a level; at level 0 they begin at the left edge. Names, paths and strings are what the source has at their places.
use Rattle.std.specs.Prelude.{ℕ, Bool, true, false, if◌then◌else◌, List, [], ◌∷◌, Option, Some, None, codes}
use Rattle.std.specs.Str.{trim}
use Rattle.std.specs.Str.Lines.{lines}
use Rattle.wac_parser_tree.specs.Trees as t
use Rattle.wac_parser_print.specs.Texts.{Layout, Text, nothing, word, slice, ◌>>◌, line_end, indent, deeper, each, joined, paragraphs, body_of_entries, body_of_items, enclosed, own_line, result_of}

-- ---- doc comments and names

-- one line of a doc comment
unfoldable pub doc_line : ℕ → List ℕ → Text
doc_line level line = indent level >> word (codes "/// ") >> word (trim line) >> line_end

unfoldable pub doc : ℕ → t.DocComment → Text
doc level x = each (doc_line level) (lines x.comment)

unfoldable pub docs : ℕ → List t.DocComment → Text
docs level xs = each (doc level) xs

-- doc comments, and the indentation of the line behind them
unfoldable pub begin : ℕ → List t.DocComment → Text
begin level xs = docs level xs >> indent level

abbrev pub ident : t.Ident → Text
ident x = slice x.span

abbrev pub package_name : t.PackageName → Text
package_name x = slice x.span

abbrev pub package_path : t.PackagePath → Text
package_path x = slice x.span

unfoldable pub extern_name : t.ExternName → Text
extern_name (t.ExternName.ident x) = slice x.span
extern_name (t.ExternName.string x) = slice x.span

-- ---- types

unfoldable mutual
  pub ty : t.Ty → Text
  ty (t.Ty.u8 span) = word (codes "u8")
  ty (t.Ty.s8 span) = word (codes "s8")
  ty (t.Ty.u16 span) = word (codes "u16")
  ty (t.Ty.s16 span) = word (codes "s16")
  ty (t.Ty.u32 span) = word (codes "u32")
  ty (t.Ty.s32 span) = word (codes "s32")
  ty (t.Ty.u64 span) = word (codes "u64")
  ty (t.Ty.s64 span) = word (codes "s64")
  ty (t.Ty.f32 span) = word (codes "f32")
  ty (t.Ty.f64 span) = word (codes "f64")
  ty (t.Ty.char span) = word (codes "char")
  ty (t.Ty.bool span) = word (codes "bool")
  ty (t.Ty.string span) = word (codes "string")
  ty (t.Ty.tuple xs span) = enclosed (codes "tuple<") (tys xs)
  ty (t.Ty.list x span) = enclosed (codes "list<") (ty x)
  ty (t.Ty.option x span) = enclosed (codes "option<") (ty x)
  ty (t.Ty.result x y span) = result_of (payload x) (payload y)
  ty (t.Ty.borrow id span) = enclosed (codes "borrow<") (slice id.span)
  ty (t.Ty.stream t.no_ty span) = word (codes "stream")
  ty (t.Ty.stream (t.some_ty x) span) = enclosed (codes "stream<") (ty x)
  ty (t.Ty.future t.no_ty span) = word (codes "future")
  ty (t.Ty.future (t.some_ty x) span) = enclosed (codes "future<") (ty x)
  ty (t.Ty.error_context span) = word (codes "error-context")
  ty (t.Ty.ident id) = slice id.span

  pub payload : t.MaybeTy → Option Text
  payload t.no_ty = None
  payload (t.some_ty x) = Some (ty x)

  pub tys : t.Tys → Text
  tys t.no_more = nothing
  tys (t.more x xs) = ty x >> other_tys xs

  pub other_tys : t.Tys → Text
  other_tys t.no_more = nothing
  other_tys (t.more x xs) = (word (codes ", ") >> ty x) >> other_tys xs

unfoldable pub named_type : t.NamedType → Text
named_type x = ident x.id >> word (codes ": ") >> ty x.ty

unfoldable pub named_types : List t.NamedType → Text
named_types xs = joined (codes ", ") named_type xs

unfoldable pub result_list : t.ResultList → Text
result_list t.ResultList.empty = nothing
result_list (t.ResultList.scalar x) = word (codes " -> ") >> ty x

abbrev pub keyword_if : List ℕ → Bool → Text
keyword_if keyword stands = if stands then word keyword else nothing

unfoldable pub func_type : t.FuncType → Text
func_type x = keyword_if (codes "async ") x.is_async >> word (codes "func(") >> named_types x.params >> word (codes ")")
    >> result_list x.results

unfoldable pub func_type_ref : t.FuncTypeRef → Text
func_type_ref (t.FuncTypeRef.func x) = func_type x
func_type_ref (t.FuncTypeRef.ident x) = slice x.span

-- ---- declarations

unfoldable pub case_type : Option t.Ty → Text
case_type None = nothing
case_type (Some x) = word (codes "(") >> ty x >> word (codes ")")

unfoldable pub variant_case : ℕ → t.VariantCase → Text
variant_case level x = begin level x.docs >> ident x.id >> case_type x.ty

unfoldable pub variant_decl : ℕ → t.VariantDecl → Text
variant_decl level x = begin level x.docs >> word (codes "variant ") >> ident x.id >> body_of_entries variant_case level x.cases

unfoldable pub field : ℕ → t.Field → Text
field level x = begin level x.docs >> ident x.id >> word (codes ": ") >> ty x.ty

unfoldable pub record_decl : ℕ → t.RecordDecl → Text
record_decl level x = begin level x.docs >> word (codes "record ") >> ident x.id >> body_of_entries field level x.fields

unfoldable pub flag : ℕ → t.Flag → Text
flag level x = begin level x.docs >> ident x.id

unfoldable pub flags_decl : ℕ → t.FlagsDecl → Text
flags_decl level x = begin level x.docs >> word (codes "flags ") >> ident x.id >> body_of_entries flag level x.flags

unfoldable pub enum_case : ℕ → t.EnumCase → Text
enum_case level x = begin level x.docs >> ident x.id

unfoldable pub enum_decl : ℕ → t.EnumDecl → Text
enum_decl level x = begin level x.docs >> word (codes "enum ") >> ident x.id >> body_of_entries enum_case level x.cases

unfoldable pub type_alias_kind : t.TypeAliasKind → Text
type_alias_kind (t.TypeAliasKind.func x) = func_type x
type_alias_kind (t.TypeAliasKind.ty x) = ty x

unfoldable pub type_alias : ℕ → t.TypeAlias → Text
type_alias level x =
    begin level x.docs >> word (codes "type ") >> ident x.id >> word (codes " = ") >> type_alias_kind x.kind >> word (codes ";")

unfoldable pub constructor : ℕ → t.Constructor → Text
constructor level x = begin level x.docs >> word (codes "constructor(") >> named_types x.params >> word (codes ");")

unfoldable pub method : ℕ → t.Method → Text
method level x = begin level x.docs >> ident x.id >> word (codes ": ") >> keyword_if (codes "static ") x.is_static
    >> func_type x.ty >> word (codes ";")

unfoldable pub resource_method : ℕ → t.ResourceMethod → Text
resource_method level (t.ResourceMethod.constructor x) = constructor level x
resource_method level (t.ResourceMethod.method x) = method level x

unfoldable pub resource_decl : ℕ → t.ResourceDecl → Text
resource_decl level x =
    begin level x.docs >> word (codes "resource ") >> ident x.id >> body_of_items resource_method level x.methods

unfoldable pub type_decl : ℕ → t.TypeDecl → Text
type_decl level (t.TypeDecl.variant x) = variant_decl level x
type_decl level (t.TypeDecl.record_ x) = record_decl level x
type_decl level (t.TypeDecl.flags x) = flags_decl level x
type_decl level (t.TypeDecl.enum x) = enum_decl level x
type_decl level (t.TypeDecl.alias x) = type_alias level x

unfoldable pub item_type_decl : ℕ → t.ItemTypeDecl → Text
item_type_decl level (t.ItemTypeDecl.resource x) = resource_decl level x
item_type_decl level (t.ItemTypeDecl.variant x) = variant_decl level x
item_type_decl level (t.ItemTypeDecl.record_ x) = record_decl level x
item_type_decl level (t.ItemTypeDecl.flags x) = flags_decl level x
item_type_decl level (t.ItemTypeDecl.enum x) = enum_decl level x
item_type_decl level (t.ItemTypeDecl.alias x) = type_alias level x

-- ---- interfaces

unfoldable pub use_path : t.UsePath → Text
use_path (t.UsePath.package_path x) = slice x.span
use_path (t.UsePath.ident x) = slice x.span

unfoldable pub new_name : Option t.Ident → Text
new_name None = nothing
new_name (Some x) = word (codes " as ") >> ident x

unfoldable pub use_item : t.UseItem → Text
use_item x = ident x.id >> new_name x.as_id

unfoldable pub use_type : ℕ → t.Use → Text
use_type level x = begin level x.docs >> word (codes "use ") >> use_path x.path >> word (codes ".{ ")
    >> joined (codes ", ") use_item x.items >> word (codes " };")

unfoldable pub interface_export : ℕ → t.InterfaceExport → Text
interface_export level x = begin level x.docs >> ident x.id >> word (codes ": ") >> func_type_ref x.ty >> word (codes ";")

unfoldable pub interface_item : ℕ → t.InterfaceItem → Text
interface_item level (t.InterfaceItem.use_ x) = use_type level x
interface_item level (t.InterfaceItem.ty x) = item_type_decl level x
interface_item level (t.InterfaceItem.export x) = interface_export level x

unfoldable pub interface_items : ℕ → List t.InterfaceItem → Text
interface_items level xs = body_of_items interface_item level xs

unfoldable pub inline_interface : ℕ → t.InlineInterface → Text
inline_interface level x = word (codes "interface") >> interface_items level x.items

unfoldable pub interface_decl : ℕ → t.InterfaceDecl → Text
interface_decl level x = begin level x.docs >> word (codes "interface ") >> ident x.id >> interface_items level x.items

-- ---- worlds

unfoldable pub extern_type : ℕ → t.ExternType → Text
extern_type level (t.ExternType.ident x) = slice x.span
extern_type level (t.ExternType.func x) = func_type x
extern_type level (t.ExternType.interface x) = inline_interface level x

unfoldable pub named_world_item : ℕ → t.NamedWorldItem → Text
named_world_item level x = ident x.id >> word (codes ": ") >> extern_type level x.ty

unfoldable pub world_item_path : ℕ → t.WorldItemPath → Text
world_item_path level (t.WorldItemPath.named x) = named_world_item level x
world_item_path level (t.WorldItemPath.package_path x) = slice x.span
world_item_path level (t.WorldItemPath.ident x) = slice x.span

unfoldable pub world_import : ℕ → t.WorldImport → Text
world_import level x = begin level x.docs >> word (codes "import ") >> world_item_path level x.path >> word (codes ";")

unfoldable pub world_export : ℕ → t.WorldExport → Text
world_export level x = begin level x.docs >> word (codes "export ") >> world_item_path level x.path >> word (codes ";")

unfoldable pub world_ref : t.WorldRef → Text
world_ref (t.WorldRef.ident x) = slice x.span
world_ref (t.WorldRef.package_path x) = slice x.span

unfoldable pub world_include_item : ℕ → t.WorldIncludeItem → Text
world_include_item level x = indent level >> ident x.from >> word (codes " as ") >> ident x.to

-- the names that change, where there are any
unfoldable pub with_items : ℕ → List t.WorldIncludeItem → Text
with_items level [] = nothing
with_items level (x ∷ xs) = word (codes " with") >> body_of_entries world_include_item level (x ∷ xs)

unfoldable pub world_include : ℕ → t.WorldInclude → Text
world_include level x =
    begin level x.docs >> word (codes "include ") >> world_ref x.world >> with_items level x.with >> word (codes ";")

unfoldable pub world_item : ℕ → t.WorldItem → Text
world_item level (t.WorldItem.use_ x) = use_type level x
world_item level (t.WorldItem.ty x) = item_type_decl level x
world_item level (t.WorldItem.import x) = world_import level x
world_item level (t.WorldItem.export x) = world_export level x
world_item level (t.WorldItem.include x) = world_include level x

unfoldable pub world_decl : ℕ → t.WorldDecl → Text
world_decl level x = begin level x.docs >> word (codes "world ") >> ident x.id >> body_of_items world_item level x.items

-- ---- expressions

unfoldable pub access_expr : t.AccessExpr → Text
access_expr x = word (codes ".") >> ident x.id

unfoldable pub named_access_expr : t.NamedAccessExpr → Text
named_access_expr x = word (codes "[") >> slice x.string.span >> word (codes "]")

unfoldable pub postfix_expr : t.PostfixExpr → Text
postfix_expr (t.PostfixExpr.access x) = access_expr x
postfix_expr (t.PostfixExpr.named_access x) = named_access_expr x

unfoldable pub argument_name : t.InstantiationArgumentName → Text
argument_name (t.InstantiationArgumentName.ident x) = slice x.span
argument_name (t.InstantiationArgumentName.string x) = slice x.span

abbrev pub is_fill : t.InstantiationArgument → Bool
is_fill (t.InstantiationArgument.inferred x) = false
is_fill (t.InstantiationArgument.spread x) = false
is_fill (t.InstantiationArgument.named x) = false
is_fill (t.InstantiationArgument.fill span) = true

-- the only argument is `...`
abbrev pub is_fill_alone : t.Arguments → Bool
is_fill_alone t.no_arguments = false
is_fill_alone (t.argument x t.no_arguments) = is_fill x
is_fill_alone (t.argument x (t.argument y xs)) = false

unfoldable mutual
  pub expr : ℕ → t.Expr → Text
  expr level (t.expr span x accesses) = primary_expr level x >> each postfix_expr accesses

  pub primary_expr : ℕ → t.PrimaryExpr → Text
  primary_expr level (t.PrimaryExpr.new x) = new_expr level x
  primary_expr level (t.PrimaryExpr.nested x) = nested_expr level x
  primary_expr level (t.PrimaryExpr.ident x) = slice x.span

  pub nested_expr : ℕ → t.NestedExpr → Text
  nested_expr level (t.nested_expr span x) = word (codes "(") >> expr level x >> word (codes ")")

  pub new_expr : ℕ → t.NewExpr → Text
  new_expr level (t.new_expr span name track xs) =
      word (codes "new ") >> slice name.span >> word (codes " {") >> arguments level xs >> word (codes "}")

  -- nothing, the fill alone, or a line for each
  pub arguments : ℕ → t.Arguments → Text
  arguments level t.no_arguments = nothing
  arguments level (t.argument x xs) =
      if is_fill_alone (t.argument x xs) then word (codes " ... ")
      else (line_end >> (own_line (deeper level) (argument (deeper level) x) >> argument_lines (deeper level) xs)
      >> indent level)

  pub argument_lines : ℕ → t.Arguments → Text
  argument_lines level t.no_arguments = nothing
  argument_lines level (t.argument x xs) = own_line level (argument level x) >> argument_lines level xs

  pub argument : ℕ → t.InstantiationArgument → Text
  argument level (t.InstantiationArgument.inferred x) = slice x.span >> word (codes ",")
  argument level (t.InstantiationArgument.spread x) = word (codes "...") >> slice x.span >> word (codes ",")
  argument level (t.InstantiationArgument.named x) = named_argument level x >> word (codes ",")
  argument level (t.InstantiationArgument.fill span) = word (codes "...")

  pub named_argument : ℕ → t.NamedInstantiationArgument → Text
  named_argument level (t.named_argument name x) = argument_name name >> word (codes ": ") >> expr level x

-- ---- statements

unfoldable pub import_type : ℕ → t.ImportType → Text
import_type level (t.ImportType.package_path x) = slice x.span
import_type level (t.ImportType.func x) = func_type x
import_type level (t.ImportType.interface x) = inline_interface level x
import_type level (t.ImportType.ident x) = slice x.span

unfoldable pub import_name : Option t.ExternName → Text
import_name None = nothing
import_name (Some x) = word (codes " as ") >> extern_name x

unfoldable pub import_statement : ℕ → t.ImportStatement → Text
import_statement level x = begin level x.docs >> word (codes "import ") >> ident x.id >> import_name x.name >> word (codes ": ")
    >> import_type level x.ty >> word (codes ";")

unfoldable pub let_statement : ℕ → t.LetStatement → Text
let_statement level x =
    begin level x.docs >> word (codes "let ") >> ident x.id >> word (codes " = ") >> expr level x.expr >> word (codes ";")

unfoldable pub export_options : t.ExportOptions → Text
export_options t.ExportOptions.none = nothing
export_options (t.ExportOptions.spread span) = word (codes "...")
export_options (t.ExportOptions.rename x) = word (codes " as ") >> extern_name x

unfoldable pub export_statement : ℕ → t.ExportStatement → Text
export_statement level x =
    begin level x.docs >> word (codes "export ") >> expr level x.expr >> export_options x.options >> word (codes ";")

unfoldable pub type_statement : ℕ → t.TypeStatement → Text
type_statement level (t.TypeStatement.interface x) = interface_decl level x
type_statement level (t.TypeStatement.world x) = world_decl level x
type_statement level (t.TypeStatement.ty x) = type_decl level x

unfoldable pub statement : ℕ → t.Statement → Text
statement level (t.Statement.import x) = import_statement level x
statement level (t.Statement.ty x) = type_statement level x
statement level (t.Statement.let_ x) = let_statement level x
statement level (t.Statement.export x) = export_statement level x

-- ---- documents

unfoldable pub target : Option t.PackagePath → Text
target None = nothing
target (Some x) = word (codes " targets ") >> package_path x

unfoldable pub package_directive : ℕ → t.PackageDirective → Text
package_directive level x =
    indent level >> word (codes "package ") >> package_name x.«package» >> target x.targets
    >> word (codes ";") >> line_end >> line_end

unfoldable pub document : t.Document → Text
document x = docs 0 x.docs >> package_directive 0 x.directive >> paragraphs (statement 0) x.statements

-- the printed text of a document over its source, indented by a unit
abbrev pub printed_document : List ℕ → List ℕ → t.Document → List ℕ
printed_document space source x = document x (record { source = source; space = space })
