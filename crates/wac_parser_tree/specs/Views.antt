-- What a tree of the code says, without where it lies in memory.
use Rattle.std.specs.Prelude.{map, Option, Some, None}
use Rattle.std.specs.Option.{option_map}
use Rattle.std.specs.declared.alloc.Global.{Global}
use Rattle.std.specs.declared.boxed.Box.{Box}
use Rattle.semver.specs.Identifiers.{parts_of}
use Rattle.wac_parser_tree.specs.Trees as t
use Rattle.wac_parser_tree.specs.declared.text.Ident.{Ident}
use Rattle.wac_parser_tree.specs.declared.text.String.{String}
use Rattle.wac_parser_tree.specs.declared.text.DocComment.{DocComment}
use Rattle.wac_parser_tree.specs.declared.import.PackageName.{PackageName}
use Rattle.wac_parser_tree.specs.declared.import.PackagePath.{PackagePath}
use Rattle.wac_parser_tree.specs.declared.import.ExternName.{ExternName}
use Rattle.wac_parser_tree.specs.declared.import.ExternName.TheVariants as extern_name
use Rattle.wac_parser_tree.specs.declared.value_type.«Type».{«Type»}
use Rattle.wac_parser_tree.specs.declared.value_type.«Type».TheOpen.{Type-F}
use Rattle.wac_parser_tree.specs.declared.value_type.«Type».TheFolds.{fold-Type}
use Rattle.wac_parser_tree.specs.declared.value_type.NamedType.{NamedType}
use Rattle.wac_parser_tree.specs.declared.value_type.ResultList.{ResultList}
use Rattle.wac_parser_tree.specs.declared.value_type.ResultList.TheVariants as result_list
use Rattle.wac_parser_tree.specs.declared.value_type.FuncType.{FuncType}
use Rattle.wac_parser_tree.specs.declared.value_type.FuncTypeRef.{FuncTypeRef}
use Rattle.wac_parser_tree.specs.declared.value_type.FuncTypeRef.TheVariants as func_type_ref
use Rattle.wac_parser_tree.specs.declared.declaration.VariantCase.{VariantCase}
use Rattle.wac_parser_tree.specs.declared.declaration.VariantDecl.{VariantDecl}
use Rattle.wac_parser_tree.specs.declared.declaration.Field.{Field}
use Rattle.wac_parser_tree.specs.declared.declaration.RecordDecl.{RecordDecl}
use Rattle.wac_parser_tree.specs.declared.declaration.Flag.{Flag}
use Rattle.wac_parser_tree.specs.declared.declaration.FlagsDecl.{FlagsDecl}
use Rattle.wac_parser_tree.specs.declared.declaration.EnumCase.{EnumCase}
use Rattle.wac_parser_tree.specs.declared.declaration.EnumDecl.{EnumDecl}
use Rattle.wac_parser_tree.specs.declared.declaration.TypeAliasKind.{TypeAliasKind}
use Rattle.wac_parser_tree.specs.declared.declaration.TypeAliasKind.TheVariants as type_alias_kind
use Rattle.wac_parser_tree.specs.declared.declaration.TypeAlias.{TypeAlias}
use Rattle.wac_parser_tree.specs.declared.declaration.Constructor.{Constructor}
use Rattle.wac_parser_tree.specs.declared.declaration.Method.{Method}
use Rattle.wac_parser_tree.specs.declared.declaration.ResourceMethod.{ResourceMethod}
use Rattle.wac_parser_tree.specs.declared.declaration.ResourceMethod.TheVariants as resource_method
use Rattle.wac_parser_tree.specs.declared.declaration.ResourceDecl.{ResourceDecl}
use Rattle.wac_parser_tree.specs.declared.declaration.TypeDecl.{TypeDecl}
use Rattle.wac_parser_tree.specs.declared.declaration.TypeDecl.TheVariants as type_decl
use Rattle.wac_parser_tree.specs.declared.declaration.ItemTypeDecl.{ItemTypeDecl}
use Rattle.wac_parser_tree.specs.declared.declaration.ItemTypeDecl.TheVariants as item_type_decl
use Rattle.wac_parser_tree.specs.declared.interface.UsePath.{UsePath}
use Rattle.wac_parser_tree.specs.declared.interface.UsePath.TheVariants as use_path
use Rattle.wac_parser_tree.specs.declared.interface.UseItem.{UseItem}
use Rattle.wac_parser_tree.specs.declared.interface.Use.{Use}
use Rattle.wac_parser_tree.specs.declared.interface.InterfaceExport.{InterfaceExport}
use Rattle.wac_parser_tree.specs.declared.interface.InterfaceItem.{InterfaceItem}
use Rattle.wac_parser_tree.specs.declared.interface.InterfaceItem.TheVariants as interface_item
use Rattle.wac_parser_tree.specs.declared.interface.InterfaceDecl.{InterfaceDecl}
use Rattle.wac_parser_tree.specs.declared.interface.InlineInterface.{InlineInterface}
use Rattle.wac_parser_tree.specs.declared.world.ExternType.{ExternType}
use Rattle.wac_parser_tree.specs.declared.world.ExternType.TheVariants as extern_type
use Rattle.wac_parser_tree.specs.declared.world.NamedWorldItem.{NamedWorldItem}
use Rattle.wac_parser_tree.specs.declared.world.WorldItemPath.{WorldItemPath}
use Rattle.wac_parser_tree.specs.declared.world.WorldItemPath.TheVariants as world_item_path
use Rattle.wac_parser_tree.specs.declared.world.WorldImport.{WorldImport}
use Rattle.wac_parser_tree.specs.declared.world.WorldExport.{WorldExport}
use Rattle.wac_parser_tree.specs.declared.world.WorldRef.{WorldRef}
use Rattle.wac_parser_tree.specs.declared.world.WorldRef.TheVariants as world_ref
use Rattle.wac_parser_tree.specs.declared.world.WorldIncludeItem.{WorldIncludeItem}
use Rattle.wac_parser_tree.specs.declared.world.WorldInclude.{WorldInclude}
use Rattle.wac_parser_tree.specs.declared.world.WorldItem.{WorldItem}
use Rattle.wac_parser_tree.specs.declared.world.WorldItem.TheVariants as world_item
use Rattle.wac_parser_tree.specs.declared.world.WorldDecl.{WorldDecl}
use Rattle.wac_parser_tree.specs.declared.expr.InstantiationArgumentName.{InstantiationArgumentName}
use Rattle.wac_parser_tree.specs.declared.expr.AccessExpr.{AccessExpr}
use Rattle.wac_parser_tree.specs.declared.expr.NamedAccessExpr.{NamedAccessExpr}
use Rattle.wac_parser_tree.specs.declared.expr.PostfixExpr.{PostfixExpr}
use Rattle.wac_parser_tree.specs.declared.expr.InstantiationArgumentName.TheVariants as instantiation_argument_name
use Rattle.wac_parser_tree.specs.declared.expr.PostfixExpr.TheVariants as postfix_expr
use Rattle.wac_parser_tree.specs.declared.expr.Expr.{Expr, fold-Expr}
use Rattle.wac_parser_tree.specs.declared.expr.PrimaryExpr.{PrimaryExpr, fold-PrimaryExpr}
use Rattle.wac_parser_tree.specs.declared.expr.NewExpr.{NewExpr, fold-NewExpr}
use Rattle.wac_parser_tree.specs.declared.expr.NestedExpr.{NestedExpr, fold-NestedExpr}
use Rattle.wac_parser_tree.specs.declared.expr.InstantiationArgument.{InstantiationArgument, fold-InstantiationArgument}
use Rattle.wac_parser_tree.specs.declared.expr.NamedInstantiationArgument.{NamedInstantiationArgument, fold-NamedInstantiationArgument}
use Rattle.wac_parser_tree.specs.declared.expr.InstantiationArgument.TheOpen.{InstantiationArgument-F, PrimaryExpr-F, Expr-F, NamedInstantiationArgument-F, NestedExpr-F, NewExpr-F}
use Rattle.wac_parser_tree.specs.declared.import.ImportType.{ImportType}
use Rattle.wac_parser_tree.specs.declared.import.ImportType.TheVariants as import_type
use Rattle.wac_parser_tree.specs.declared.import.ImportStatement.{ImportStatement}
use Rattle.wac_parser_tree.specs.declared.let_statement.LetStatement.{LetStatement}
use Rattle.wac_parser_tree.specs.declared.export.ExportOptions.{ExportOptions}
use Rattle.wac_parser_tree.specs.declared.export.ExportOptions.TheVariants as export_options
use Rattle.wac_parser_tree.specs.declared.export.ExportStatement.{ExportStatement}
use Rattle.wac_parser_tree.specs.declared.document.TypeStatement.{TypeStatement}
use Rattle.wac_parser_tree.specs.declared.document.TypeStatement.TheVariants as type_statement
use Rattle.wac_parser_tree.specs.declared.document.Statement.{Statement}
use Rattle.wac_parser_tree.specs.declared.document.Statement.TheVariants as statement
use Rattle.wac_parser_tree.specs.declared.document.PackageDirective.{PackageDirective}
use Rattle.wac_parser_tree.specs.declared.document.Document.{Document}

abbrev pub view_ident : Ident → t.Ident
view_ident x = record { string = x.string.now; span = x.span }

abbrev pub view_string : String → t.StringLiteral
view_string x = record { value = x.value.now; span = x.span }

abbrev pub view_doc_comment : DocComment → t.DocComment
view_doc_comment x = record { comment = x.comment.now; span = x.span }

abbrev pub view_package_name : PackageName → t.PackageName
view_package_name x = record {
  string = x.string.now;
  name = x.name.now;
  version = option_map parts_of x.version;
  span = x.span;
}

abbrev pub view_package_path : PackagePath → t.PackagePath
view_package_path x = record {
  span = x.span;
  string = x.string.now;
  name = x.name.now;
  segments = x.segments.now;
  version = option_map parts_of x.version;
}

abbrev pub view_extern_name : ExternName → t.ExternName
view_extern_name (extern_name.Ident x) = t.ExternName.ident (view_ident x)
view_extern_name (extern_name.String x) = t.ExternName.string (view_string x)

abbrev pub maybe_boxed : Option (Box t.Ty Global) → t.MaybeTy
maybe_boxed None = t.no_ty
maybe_boxed (Some b) = t.some_ty b.value

-- one level of a type, over the views of the types in it
abbrev pub ty_step : Type-F t.Ty → t.Ty
ty_step (Type-F.U8 span) = t.Ty.u8 span
ty_step (Type-F.S8 span) = t.Ty.s8 span
ty_step (Type-F.U16 span) = t.Ty.u16 span
ty_step (Type-F.S16 span) = t.Ty.s16 span
ty_step (Type-F.U32 span) = t.Ty.u32 span
ty_step (Type-F.S32 span) = t.Ty.s32 span
ty_step (Type-F.U64 span) = t.Ty.u64 span
ty_step (Type-F.S64 span) = t.Ty.s64 span
ty_step (Type-F.F32 span) = t.Ty.f32 span
ty_step (Type-F.F64 span) = t.Ty.f64 span
ty_step (Type-F.Char span) = t.Ty.char span
ty_step (Type-F.Bool span) = t.Ty.bool span
ty_step (Type-F.String span) = t.Ty.string span
ty_step (Type-F.Tuple types span) = t.Ty.tuple (t.tys types.items) span
ty_step (Type-F.List b span) = t.Ty.list b.value span
ty_step (Type-F.Option b span) = t.Ty.option b.value span
ty_step (Type-F.Result ok err span) = t.Ty.result (maybe_boxed ok) (maybe_boxed err) span
ty_step (Type-F.Borrow id span) = t.Ty.borrow (view_ident id) span
ty_step (Type-F.Stream b span) = t.Ty.stream (maybe_boxed b) span
ty_step (Type-F.Future b span) = t.Ty.future (maybe_boxed b) span
ty_step (Type-F.ErrorContext span) = t.Ty.error_context span
ty_step (Type-F.Ident id) = t.Ty.ident (view_ident id)

abbrev pub view_ty : «Type» → t.Ty
view_ty = fold-Type t.Ty ty_step

abbrev pub view_boxed_ty : Box «Type» Global → t.Ty
view_boxed_ty b = view_ty b.value

abbrev pub view_named_type : NamedType → t.NamedType
view_named_type x = record { id = view_ident x.id; ty = view_ty x.ty }

abbrev pub view_result_list : ResultList → t.ResultList
view_result_list result_list.Empty = t.ResultList.empty
view_result_list (result_list.Scalar x) = t.ResultList.scalar (view_ty x)

abbrev pub view_func_type : FuncType → t.FuncType
view_func_type x = record {
  is_async = x.is_async;
  params = map view_named_type x.params.items;
  results = view_result_list x.results;
}

abbrev pub view_func_type_ref : FuncTypeRef → t.FuncTypeRef
view_func_type_ref (func_type_ref.Func x) = t.FuncTypeRef.func (view_func_type x)
view_func_type_ref (func_type_ref.Ident x) = t.FuncTypeRef.ident (view_ident x)

abbrev pub view_variant_case : VariantCase → t.VariantCase
view_variant_case x = record {
  docs = map view_doc_comment x.docs.items;
  id = view_ident x.id;
  ty = option_map view_ty x.ty;
}

abbrev pub view_variant_decl : VariantDecl → t.VariantDecl
view_variant_decl x = record {
  docs = map view_doc_comment x.docs.items;
  id = view_ident x.id;
  cases = map view_variant_case x.cases.items;
}

abbrev pub view_field : Field → t.Field
view_field x = record { docs = map view_doc_comment x.docs.items; id = view_ident x.id; ty = view_ty x.ty }

abbrev pub view_record_decl : RecordDecl → t.RecordDecl
view_record_decl x = record {
  docs = map view_doc_comment x.docs.items;
  id = view_ident x.id;
  fields = map view_field x.fields.items;
}

abbrev pub view_flag : Flag → t.Flag
view_flag x = record { docs = map view_doc_comment x.docs.items; id = view_ident x.id }

abbrev pub view_flags_decl : FlagsDecl → t.FlagsDecl
view_flags_decl x = record {
  docs = map view_doc_comment x.docs.items;
  id = view_ident x.id;
  flags = map view_flag x.flags.items;
}

abbrev pub view_enum_case : EnumCase → t.EnumCase
view_enum_case x = record { docs = map view_doc_comment x.docs.items; id = view_ident x.id }

abbrev pub view_enum_decl : EnumDecl → t.EnumDecl
view_enum_decl x = record {
  docs = map view_doc_comment x.docs.items;
  id = view_ident x.id;
  cases = map view_enum_case x.cases.items;
}

abbrev pub view_type_alias_kind : TypeAliasKind → t.TypeAliasKind
view_type_alias_kind (type_alias_kind.Func x) = t.TypeAliasKind.func (view_func_type x)
view_type_alias_kind (type_alias_kind.Ty x) = t.TypeAliasKind.ty (view_ty x)

abbrev pub view_type_alias : TypeAlias → t.TypeAlias
view_type_alias x = record {
  docs = map view_doc_comment x.docs.items;
  id = view_ident x.id;
  kind = view_type_alias_kind x.kind;
}

abbrev pub view_constructor : Constructor → t.Constructor
view_constructor x = record {
  docs = map view_doc_comment x.docs.items;
  span = x.span;
  params = map view_named_type x.params.items;
}

abbrev pub view_method : Method → t.Method
view_method x = record {
  docs = map view_doc_comment x.docs.items;
  id = view_ident x.id;
  is_static = x.is_static;
  ty = view_func_type x.ty;
}

abbrev pub view_resource_method : ResourceMethod → t.ResourceMethod
view_resource_method (resource_method.Constructor x) = t.ResourceMethod.constructor (view_constructor x)
view_resource_method (resource_method.Method x) = t.ResourceMethod.method (view_method x)

abbrev pub view_resource_decl : ResourceDecl → t.ResourceDecl
view_resource_decl x = record {
  docs = map view_doc_comment x.docs.items;
  id = view_ident x.id;
  methods = map view_resource_method x.methods.items;
}

abbrev pub view_type_decl : TypeDecl → t.TypeDecl
view_type_decl (type_decl.Variant x) = t.TypeDecl.variant (view_variant_decl x)
view_type_decl (type_decl.Record x) = t.TypeDecl.record_ (view_record_decl x)
view_type_decl (type_decl.Flags x) = t.TypeDecl.flags (view_flags_decl x)
view_type_decl (type_decl.Enum x) = t.TypeDecl.enum (view_enum_decl x)
view_type_decl (type_decl.Alias x) = t.TypeDecl.alias (view_type_alias x)

abbrev pub view_item_type_decl : ItemTypeDecl → t.ItemTypeDecl
view_item_type_decl (item_type_decl.Resource x) = t.ItemTypeDecl.resource (view_resource_decl x)
view_item_type_decl (item_type_decl.Variant x) = t.ItemTypeDecl.variant (view_variant_decl x)
view_item_type_decl (item_type_decl.Record x) = t.ItemTypeDecl.record_ (view_record_decl x)
view_item_type_decl (item_type_decl.Flags x) = t.ItemTypeDecl.flags (view_flags_decl x)
view_item_type_decl (item_type_decl.Enum x) = t.ItemTypeDecl.enum (view_enum_decl x)
view_item_type_decl (item_type_decl.Alias x) = t.ItemTypeDecl.alias (view_type_alias x)

abbrev pub view_use_path : UsePath → t.UsePath
view_use_path (use_path.Package x) = t.UsePath.package_path (view_package_path x)
view_use_path (use_path.Ident x) = t.UsePath.ident (view_ident x)

abbrev pub view_use_item : UseItem → t.UseItem
view_use_item x = record { id = view_ident x.id; as_id = option_map view_ident x.as_id }

abbrev pub view_use : Use → t.Use
view_use x = record {
  docs = map view_doc_comment x.docs.items;
  path = view_use_path x.path;
  items = map view_use_item x.items.items;
}

abbrev pub view_interface_export : InterfaceExport → t.InterfaceExport
view_interface_export x = record {
  docs = map view_doc_comment x.docs.items;
  id = view_ident x.id;
  ty = view_func_type_ref x.ty;
}

abbrev pub view_interface_item : InterfaceItem → t.InterfaceItem
view_interface_item (interface_item.Use x) = t.InterfaceItem.use_ (view_use x.value)
view_interface_item (interface_item.Ty x) = t.InterfaceItem.ty (view_item_type_decl x)
view_interface_item (interface_item.Export x) = t.InterfaceItem.export (view_interface_export x)

abbrev pub view_interface_decl : InterfaceDecl → t.InterfaceDecl
view_interface_decl x = record {
  docs = map view_doc_comment x.docs.items;
  id = view_ident x.id;
  items = map view_interface_item x.items.items;
}

abbrev pub view_inline_interface : InlineInterface → t.InlineInterface
view_inline_interface x = record { items = map view_interface_item x.items.items }

abbrev pub view_extern_type : ExternType → t.ExternType
view_extern_type (extern_type.Ident x) = t.ExternType.ident (view_ident x)
view_extern_type (extern_type.Func x) = t.ExternType.func (view_func_type x)
view_extern_type (extern_type.Interface x) = t.ExternType.interface (view_inline_interface x)

abbrev pub view_named_world_item : NamedWorldItem → t.NamedWorldItem
view_named_world_item x = record { id = view_ident x.id; ty = view_extern_type x.ty }

abbrev pub view_world_item_path : WorldItemPath → t.WorldItemPath
view_world_item_path (world_item_path.Named x) = t.WorldItemPath.named (view_named_world_item x)
view_world_item_path (world_item_path.Package x) = t.WorldItemPath.package_path (view_package_path x)
view_world_item_path (world_item_path.Ident x) = t.WorldItemPath.ident (view_ident x)

abbrev pub view_world_import : WorldImport → t.WorldImport
view_world_import x = record { docs = map view_doc_comment x.docs.items; path = view_world_item_path x.path }

abbrev pub view_world_export : WorldExport → t.WorldExport
view_world_export x = record { docs = map view_doc_comment x.docs.items; path = view_world_item_path x.path }

abbrev pub view_world_ref : WorldRef → t.WorldRef
view_world_ref (world_ref.Ident x) = t.WorldRef.ident (view_ident x)
view_world_ref (world_ref.Package x) = t.WorldRef.package_path (view_package_path x)

abbrev pub view_world_include_item : WorldIncludeItem → t.WorldIncludeItem
view_world_include_item x = record { from = view_ident x.from; to = view_ident x.to }

abbrev pub view_world_include : WorldInclude → t.WorldInclude
view_world_include x = record {
  docs = map view_doc_comment x.docs.items;
  world = view_world_ref x.world;
  with = map view_world_include_item x.with.items;
}

abbrev pub view_world_item : WorldItem → t.WorldItem
view_world_item (world_item.Use x) = t.WorldItem.use_ (view_use x)
view_world_item (world_item.Ty x) = t.WorldItem.ty (view_item_type_decl x)
view_world_item (world_item.Import x) = t.WorldItem.import (view_world_import x)
view_world_item (world_item.Export x) = t.WorldItem.export (view_world_export x)
view_world_item (world_item.Include x) = t.WorldItem.include (view_world_include x)

abbrev pub view_world_decl : WorldDecl → t.WorldDecl
view_world_decl x = record {
  docs = map view_doc_comment x.docs.items;
  id = view_ident x.id;
  items = map view_world_item x.items.items;
}

abbrev pub view_instantiation_argument_name : InstantiationArgumentName → t.InstantiationArgumentName
view_instantiation_argument_name (instantiation_argument_name.Ident x) = t.InstantiationArgumentName.ident (view_ident x)
view_instantiation_argument_name (instantiation_argument_name.String x) = t.InstantiationArgumentName.string (view_string x)

abbrev pub view_access_expr : AccessExpr → t.AccessExpr
view_access_expr x = record { span = x.span; id = view_ident x.id }

abbrev pub view_named_access_expr : NamedAccessExpr → t.NamedAccessExpr
view_named_access_expr x = record { span = x.span; string = view_string x.string }

abbrev pub view_postfix_expr : PostfixExpr → t.PostfixExpr
view_postfix_expr (postfix_expr.Access x) = t.PostfixExpr.access (view_access_expr x)
view_postfix_expr (postfix_expr.NamedAccess x) = t.PostfixExpr.named_access (view_named_access_expr x)

-- one level of each of the types of an expression, over the views of what they hold
abbrev Layer : (Type 0 → Type 0 → Type 0 → Type 0 → Type 0 → Type 0 → Type 0) → Type 0
Layer F = F t.InstantiationArgument t.PrimaryExpr t.Expr t.NamedInstantiationArgument t.NestedExpr t.NewExpr

abbrev argument_step : Layer InstantiationArgument-F → t.InstantiationArgument
argument_step (InstantiationArgument-F.Inferred id) = t.InstantiationArgument.inferred (view_ident id)
argument_step (InstantiationArgument-F.Spread id) = t.InstantiationArgument.spread (view_ident id)
argument_step (InstantiationArgument-F.Named x) = t.InstantiationArgument.named x
argument_step (InstantiationArgument-F.Fill span) = t.InstantiationArgument.fill span

abbrev primary_step : Layer PrimaryExpr-F → t.PrimaryExpr
primary_step (PrimaryExpr-F.New x) = t.PrimaryExpr.new x
primary_step (PrimaryExpr-F.Nested x) = t.PrimaryExpr.nested x
primary_step (PrimaryExpr-F.Ident id) = t.PrimaryExpr.ident (view_ident id)

abbrev expr_step : Layer Expr-F → t.Expr
expr_step x = t.expr x.span x.primary (map view_postfix_expr x.postfix.items)

abbrev named_step : Layer NamedInstantiationArgument-F → t.NamedInstantiationArgument
named_step x = t.named_argument (view_instantiation_argument_name x.name) x.expr

abbrev nested_step : Layer NestedExpr-F → t.NestedExpr
nested_step x = t.nested_expr x.span x.inner.value

abbrev new_step : Layer NewExpr-F → t.NewExpr
new_step x = t.new_expr x.span (view_package_name x.«package») (option_map (λ t. t.now) x.track) (t.arguments x.arguments.items)

abbrev pub view_expr : Expr → t.Expr
view_expr =
    fold-Expr t.InstantiationArgument t.PrimaryExpr t.Expr t.NamedInstantiationArgument t.NestedExpr t.NewExpr argument_step
    primary_step expr_step named_step nested_step new_step

abbrev pub view_primary_expr : PrimaryExpr → t.PrimaryExpr
view_primary_expr =
    fold-PrimaryExpr t.InstantiationArgument t.PrimaryExpr t.Expr t.NamedInstantiationArgument t.NestedExpr t.NewExpr
    argument_step primary_step expr_step named_step nested_step new_step

abbrev pub view_new_expr : NewExpr → t.NewExpr
view_new_expr =
    fold-NewExpr t.InstantiationArgument t.PrimaryExpr t.Expr t.NamedInstantiationArgument t.NestedExpr t.NewExpr argument_step
    primary_step expr_step named_step nested_step new_step

abbrev pub view_nested_expr : NestedExpr → t.NestedExpr
view_nested_expr =
    fold-NestedExpr t.InstantiationArgument t.PrimaryExpr t.Expr t.NamedInstantiationArgument t.NestedExpr t.NewExpr
    argument_step primary_step expr_step named_step nested_step new_step

abbrev pub view_instantiation_argument : InstantiationArgument → t.InstantiationArgument
view_instantiation_argument =
    fold-InstantiationArgument t.InstantiationArgument t.PrimaryExpr t.Expr t.NamedInstantiationArgument t.NestedExpr t.NewExpr
    argument_step primary_step expr_step named_step nested_step new_step

abbrev pub view_named_instantiation_argument : NamedInstantiationArgument → t.NamedInstantiationArgument
view_named_instantiation_argument =
    fold-NamedInstantiationArgument t.InstantiationArgument t.PrimaryExpr t.Expr t.NamedInstantiationArgument t.NestedExpr
    t.NewExpr argument_step primary_step expr_step named_step nested_step new_step

abbrev pub view_import_type : ImportType → t.ImportType
view_import_type (import_type.Package x) = t.ImportType.package_path (view_package_path x)
view_import_type (import_type.Func x) = t.ImportType.func (view_func_type x)
view_import_type (import_type.Interface x) = t.ImportType.interface (view_inline_interface x)
view_import_type (import_type.Ident x) = t.ImportType.ident (view_ident x)

abbrev pub view_import_statement : ImportStatement → t.ImportStatement
view_import_statement x = record {
  docs = map view_doc_comment x.docs.items;
  id = view_ident x.id;
  name = option_map view_extern_name x.name;
  ty = view_import_type x.ty;
}

abbrev pub view_let_statement : LetStatement → t.LetStatement
view_let_statement x = record {
  docs = map view_doc_comment x.docs.items;
  id = view_ident x.id;
  expr = view_expr x.expr;
}

abbrev pub view_export_options : ExportOptions → t.ExportOptions
view_export_options export_options.None = t.ExportOptions.none
view_export_options (export_options.Spread x) = t.ExportOptions.spread x
view_export_options (export_options.Rename x) = t.ExportOptions.rename (view_extern_name x)

abbrev pub view_export_statement : ExportStatement → t.ExportStatement
view_export_statement x = record {
  docs = map view_doc_comment x.docs.items;
  expr = view_expr x.expr;
  options = view_export_options x.options;
}

abbrev pub view_type_statement : TypeStatement → t.TypeStatement
view_type_statement (type_statement.Interface x) = t.TypeStatement.interface (view_interface_decl x)
view_type_statement (type_statement.World x) = t.TypeStatement.world (view_world_decl x)
view_type_statement (type_statement.Ty x) = t.TypeStatement.ty (view_type_decl x)

abbrev pub view_statement : Statement → t.Statement
view_statement (statement.Import x) = t.Statement.import (view_import_statement x)
view_statement (statement.Ty x) = t.Statement.ty (view_type_statement x)
view_statement (statement.Let x) = t.Statement.let_ (view_let_statement x)
view_statement (statement.Export x) = t.Statement.export (view_export_statement x)

abbrev pub view_package_directive : PackageDirective → t.PackageDirective
view_package_directive x = record {
  «package» = view_package_name x.«package»;
  targets = option_map view_package_path x.targets;
}

abbrev pub view_document : Document → t.Document
view_document x = record {
  docs = map view_doc_comment x.docs.items;
  directive = view_package_directive x.directive;
  statements = map view_statement x.statements.items;
}
