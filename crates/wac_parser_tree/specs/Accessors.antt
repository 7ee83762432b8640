-- What the accessors of trees answer.
use Rattle.std.specs.Prelude.{ℕ, List}
use Rattle.wac_parser_tree.specs.Trees as t
use Rattle.wac_parser_tree.specs.Trees.{Span}

abbrev pub extern_name_span : t.ExternName → Span
extern_name_span (t.ExternName.ident x) = x.span
extern_name_span (t.ExternName.string x) = x.span

-- the text of a name, without quotes
abbrev pub extern_name_text : t.ExternName → List ℕ
extern_name_text (t.ExternName.ident x) = x.string
extern_name_text (t.ExternName.string x) = x.value

abbrev pub argument_name_span : t.InstantiationArgumentName → Span
argument_name_span (t.InstantiationArgumentName.ident x) = x.span
argument_name_span (t.InstantiationArgumentName.string x) = x.span

-- the text of a name, without quotes
abbrev pub argument_name_text : t.InstantiationArgumentName → List ℕ
argument_name_text (t.InstantiationArgumentName.ident x) = x.string
argument_name_text (t.InstantiationArgumentName.string x) = x.value

abbrev pub expr_span : t.Expr → Span
expr_span (t.expr span _ _) = span

abbrev pub new_expr_span : t.NewExpr → Span
new_expr_span (t.new_expr span _ _ _) = span

abbrev pub nested_expr_span : t.NestedExpr → Span
nested_expr_span (t.nested_expr span _) = span

abbrev pub primary_expr_span : t.PrimaryExpr → Span
primary_expr_span (t.PrimaryExpr.new x) = new_expr_span x
primary_expr_span (t.PrimaryExpr.nested x) = nested_expr_span x
primary_expr_span (t.PrimaryExpr.ident x) = x.span

abbrev pub postfix_expr_span : t.PostfixExpr → Span
postfix_expr_span (t.PostfixExpr.access x) = x.span
postfix_expr_span (t.PostfixExpr.named_access x) = x.span

abbrev pub ty_span : t.Ty → Span
ty_span (t.Ty.u8 span) = span
ty_span (t.Ty.s8 span) = span
ty_span (t.Ty.u16 span) = span
ty_span (t.Ty.s16 span) = span
ty_span (t.Ty.u32 span) = span
ty_span (t.Ty.s32 span) = span
ty_span (t.Ty.u64 span) = span
ty_span (t.Ty.s64 span) = span
ty_span (t.Ty.f32 span) = span
ty_span (t.Ty.f64 span) = span
ty_span (t.Ty.char span) = span
ty_span (t.Ty.bool span) = span
ty_span (t.Ty.string span) = span
ty_span (t.Ty.tuple types span) = span
ty_span (t.Ty.list x span) = span
ty_span (t.Ty.option x span) = span
ty_span (t.Ty.result ok err span) = span
ty_span (t.Ty.borrow id span) = span
ty_span (t.Ty.stream x span) = span
ty_span (t.Ty.future x span) = span
ty_span (t.Ty.error_context span) = span
ty_span (t.Ty.ident x) = x.span

abbrev pub type_decl_id : t.TypeDecl → t.Ident
type_decl_id (t.TypeDecl.variant x) = x.id
type_decl_id (t.TypeDecl.record_ x) = x.id
type_decl_id (t.TypeDecl.flags x) = x.id
type_decl_id (t.TypeDecl.enum x) = x.id
type_decl_id (t.TypeDecl.alias x) = x.id

abbrev pub item_type_decl_id : t.ItemTypeDecl → t.Ident
item_type_decl_id (t.ItemTypeDecl.resource x) = x.id
item_type_decl_id (t.ItemTypeDecl.variant x) = x.id
item_type_decl_id (t.ItemTypeDecl.record_ x) = x.id
item_type_decl_id (t.ItemTypeDecl.flags x) = x.id
item_type_decl_id (t.ItemTypeDecl.enum x) = x.id
item_type_decl_id (t.ItemTypeDecl.alias x) = x.id

abbrev pub world_ref_span : t.WorldRef → Span
world_ref_span (t.WorldRef.ident x) = x.span
world_ref_span (t.WorldRef.package_path x) = x.span

-- the identifier, or the whole path
abbrev pub world_ref_name : t.WorldRef → List ℕ
world_ref_name (t.WorldRef.ident x) = x.string
world_ref_name (t.WorldRef.package_path x) = x.string
