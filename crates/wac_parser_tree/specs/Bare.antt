-- The tree without spans and doc comments: no comment stands, and each span is the start of the source.
use Rattle.std.specs.Prelude.{[], map, option_map}
use Rattle.wac_parser_tree.specs.Trees as t
use Rattle.wac_parser_tree.specs.Trees.{Span}

abbrev pub nowhere : Span
nowhere = record { offset = 0; length = 0 }

-- ---- names

abbrev pub bare_ident : t.Ident → t.Ident
bare_ident i = record { string = i.string; span = nowhere }

abbrev pub bare_string : t.StringLiteral → t.StringLiteral
bare_string x = record { value = x.value; span = nowhere }

abbrev pub bare_package_name : t.PackageName → t.PackageName
bare_package_name p = record { string = p.string; name = p.name; version = p.version; span = nowhere }

abbrev pub bare_package_path : t.PackagePath → t.PackagePath
bare_package_path p =
    record { span = nowhere; string = p.string; name = p.name; segments = p.segments; version = p.version }

abbrev pub bare_extern_name : t.ExternName → t.ExternName
bare_extern_name (t.ExternName.ident i) = t.ExternName.ident (bare_ident i)
bare_extern_name (t.ExternName.string x) = t.ExternName.string (bare_string x)

-- ---- types of values and functions

abbrev mutual
  pub bare_ty : t.Ty → t.Ty
  bare_ty (t.Ty.u8 s) = t.Ty.u8 nowhere
  bare_ty (t.Ty.s8 s) = t.Ty.s8 nowhere
  bare_ty (t.Ty.u16 s) = t.Ty.u16 nowhere
  bare_ty (t.Ty.s16 s) = t.Ty.s16 nowhere
  bare_ty (t.Ty.u32 s) = t.Ty.u32 nowhere
  bare_ty (t.Ty.s32 s) = t.Ty.s32 nowhere
  bare_ty (t.Ty.u64 s) = t.Ty.u64 nowhere
  bare_ty (t.Ty.s64 s) = t.Ty.s64 nowhere
  bare_ty (t.Ty.f32 s) = t.Ty.f32 nowhere
  bare_ty (t.Ty.f64 s) = t.Ty.f64 nowhere
  bare_ty (t.Ty.char s) = t.Ty.char nowhere
  bare_ty (t.Ty.bool s) = t.Ty.bool nowhere
  bare_ty (t.Ty.string s) = t.Ty.string nowhere
  bare_ty (t.Ty.tuple xs s) = t.Ty.tuple (bare_tys xs) nowhere
  bare_ty (t.Ty.list x s) = t.Ty.list (bare_ty x) nowhere
  bare_ty (t.Ty.option x s) = t.Ty.option (bare_ty x) nowhere
  bare_ty (t.Ty.result x y s) = t.Ty.result (bare_maybe_ty x) (bare_maybe_ty y) nowhere
  bare_ty (t.Ty.borrow i s) = t.Ty.borrow (bare_ident i) nowhere
  bare_ty (t.Ty.stream x s) = t.Ty.stream (bare_maybe_ty x) nowhere
  bare_ty (t.Ty.future x s) = t.Ty.future (bare_maybe_ty x) nowhere
  bare_ty (t.Ty.error_context s) = t.Ty.error_context nowhere
  bare_ty (t.Ty.ident i) = t.Ty.ident (bare_ident i)

  pub bare_tys : t.Tys → t.Tys
  bare_tys t.Tys.no_more = t.Tys.no_more
  bare_tys (t.Tys.more x xs) = t.Tys.more (bare_ty x) (bare_tys xs)

  pub bare_maybe_ty : t.MaybeTy → t.MaybeTy
  bare_maybe_ty t.MaybeTy.no_ty = t.MaybeTy.no_ty
  bare_maybe_ty (t.MaybeTy.some_ty x) = t.MaybeTy.some_ty (bare_ty x)

abbrev pub bare_named_type : t.NamedType → t.NamedType
bare_named_type x = record { id = bare_ident x.id; ty = bare_ty x.ty }

abbrev pub bare_results : t.ResultList → t.ResultList
bare_results t.ResultList.empty = t.ResultList.empty
bare_results (t.ResultList.scalar x) = t.ResultList.scalar (bare_ty x)

abbrev pub bare_func : t.FuncType → t.FuncType
bare_func f = record { is_async = f.is_async; params = map bare_named_type f.params; results = bare_results f.results }

abbrev pub bare_func_ref : t.FuncTypeRef → t.FuncTypeRef
bare_func_ref (t.FuncTypeRef.func f) = t.FuncTypeRef.func (bare_func f)
bare_func_ref (t.FuncTypeRef.ident i) = t.FuncTypeRef.ident (bare_ident i)

-- ---- declarations

abbrev pub bare_variant_case : t.VariantCase → t.VariantCase
bare_variant_case x = record { docs = []; id = bare_ident x.id; ty = option_map bare_ty x.ty }

abbrev pub bare_variant : t.VariantDecl → t.VariantDecl
bare_variant x = record { docs = []; id = bare_ident x.id; cases = map bare_variant_case x.cases }

abbrev pub bare_field : t.Field → t.Field
bare_field x = record { docs = []; id = bare_ident x.id; ty = bare_ty x.ty }

abbrev pub bare_record : t.RecordDecl → t.RecordDecl
bare_record x = record { docs = []; id = bare_ident x.id; fields = map bare_field x.fields }

abbrev pub bare_flag : t.Flag → t.Flag
bare_flag x = record { docs = []; id = bare_ident x.id }

abbrev pub bare_flags : t.FlagsDecl → t.FlagsDecl
bare_flags x = record { docs = []; id = bare_ident x.id; flags = map bare_flag x.flags }

abbrev pub bare_enum_case : t.EnumCase → t.EnumCase
bare_enum_case x = record { docs = []; id = bare_ident x.id }

abbrev pub bare_enum : t.EnumDecl → t.EnumDecl
bare_enum x = record { docs = []; id = bare_ident x.id; cases = map bare_enum_case x.cases }

abbrev pub bare_alias_kind : t.TypeAliasKind → t.TypeAliasKind
bare_alias_kind (t.TypeAliasKind.func f) = t.TypeAliasKind.func (bare_func f)
bare_alias_kind (t.TypeAliasKind.ty x) = t.TypeAliasKind.ty (bare_ty x)

abbrev pub bare_alias : t.TypeAlias → t.TypeAlias
bare_alias x = record { docs = []; id = bare_ident x.id; kind = bare_alias_kind x.kind }

abbrev pub bare_constructor : t.Constructor → t.Constructor
bare_constructor x = record { docs = []; span = nowhere; params = map bare_named_type x.params }

abbrev pub bare_method : t.Method → t.Method
bare_method x = record { docs = []; id = bare_ident x.id; is_static = x.is_static; ty = bare_func x.ty }

abbrev pub bare_resource_method : t.ResourceMethod → t.ResourceMethod
bare_resource_method (t.ResourceMethod.constructor x) = t.ResourceMethod.constructor (bare_constructor x)
bare_resource_method (t.ResourceMethod.method x) = t.ResourceMethod.method (bare_method x)

abbrev pub bare_resource : t.ResourceDecl → t.ResourceDecl
bare_resource x = record { docs = []; id = bare_ident x.id; methods = map bare_resource_method x.methods }

abbrev pub bare_type_decl : t.TypeDecl → t.TypeDecl
bare_type_decl (t.TypeDecl.variant x) = t.TypeDecl.variant (bare_variant x)
bare_type_decl (t.TypeDecl.record_ x) = t.TypeDecl.record_ (bare_record x)
bare_type_decl (t.TypeDecl.flags x) = t.TypeDecl.flags (bare_flags x)
bare_type_decl (t.TypeDecl.enum x) = t.TypeDecl.enum (bare_enum x)
bare_type_decl (t.TypeDecl.alias x) = t.TypeDecl.alias (bare_alias x)

abbrev pub bare_item_type : t.ItemTypeDecl → t.ItemTypeDecl
bare_item_type (t.ItemTypeDecl.resource x) = t.ItemTypeDecl.resource (bare_resource x)
bare_item_type (t.ItemTypeDecl.variant x) = t.ItemTypeDecl.variant (bare_variant x)
bare_item_type (t.ItemTypeDecl.record_ x) = t.ItemTypeDecl.record_ (bare_record x)
bare_item_type (t.ItemTypeDecl.flags x) = t.ItemTypeDecl.flags (bare_flags x)
bare_item_type (t.ItemTypeDecl.enum x) = t.ItemTypeDecl.enum (bare_enum x)
bare_item_type (t.ItemTypeDecl.alias x) = t.ItemTypeDecl.alias (bare_alias x)

-- ---- interfaces

abbrev pub bare_use_path : t.UsePath → t.UsePath
bare_use_path (t.UsePath.package_path p) = t.UsePath.package_path (bare_package_path p)
bare_use_path (t.UsePath.ident i) = t.UsePath.ident (bare_ident i)

abbrev pub bare_use_item : t.UseItem → t.UseItem
bare_use_item x = record { id = bare_ident x.id; as_id = option_map bare_ident x.as_id }

abbrev pub bare_use : t.Use → t.Use
bare_use x = record { docs = []; path = bare_use_path x.path; items = map bare_use_item x.items }

abbrev pub bare_interface_export : t.InterfaceExport → t.InterfaceExport
bare_interface_export x = record { docs = []; id = bare_ident x.id; ty = bare_func_ref x.ty }

abbrev pub bare_interface_item : t.InterfaceItem → t.InterfaceItem
bare_interface_item (t.InterfaceItem.use_ x) = t.InterfaceItem.use_ (bare_use x)
bare_interface_item (t.InterfaceItem.ty x) = t.InterfaceItem.ty (bare_item_type x)
bare_interface_item (t.InterfaceItem.export x) = t.InterfaceItem.export (bare_interface_export x)

abbrev pub bare_interface : t.InterfaceDecl → t.InterfaceDecl
bare_interface x = record { docs = []; id = bare_ident x.id; items = map bare_interface_item x.items }

abbrev pub bare_inline_interface : t.InlineInterface → t.InlineInterface
bare_inline_interface x = record { items = map bare_interface_item x.items }

-- ---- worlds

abbrev pub bare_extern_type : t.ExternType → t.ExternType
bare_extern_type (t.ExternType.ident i) = t.ExternType.ident (bare_ident i)
bare_extern_type (t.ExternType.func f) = t.ExternType.func (bare_func f)
bare_extern_type (t.ExternType.interface x) = t.ExternType.interface (bare_inline_interface x)

abbrev pub bare_named_item : t.NamedWorldItem → t.NamedWorldItem
bare_named_item x = record { id = bare_ident x.id; ty = bare_extern_type x.ty }

abbrev pub bare_item_path : t.WorldItemPath → t.WorldItemPath
bare_item_path (t.WorldItemPath.named x) = t.WorldItemPath.named (bare_named_item x)
bare_item_path (t.WorldItemPath.package_path p) = t.WorldItemPath.package_path (bare_package_path p)
bare_item_path (t.WorldItemPath.ident i) = t.WorldItemPath.ident (bare_ident i)

abbrev pub bare_world_import : t.WorldImport → t.WorldImport
bare_world_import x = record { docs = []; path = bare_item_path x.path }

abbrev pub bare_world_export : t.WorldExport → t.WorldExport
bare_world_export x = record { docs = []; path = bare_item_path x.path }

abbrev pub bare_world_ref : t.WorldRef → t.WorldRef
bare_world_ref (t.WorldRef.ident i) = t.WorldRef.ident (bare_ident i)
bare_world_ref (t.WorldRef.package_path p) = t.WorldRef.package_path (bare_package_path p)

abbrev pub bare_include_item : t.WorldIncludeItem → t.WorldIncludeItem
bare_include_item x = record { from = bare_ident x.from; to = bare_ident x.to }

abbrev pub bare_include : t.WorldInclude → t.WorldInclude
bare_include x = record { docs = []; world = bare_world_ref x.world; with = map bare_include_item x.with }

abbrev pub bare_world_item : t.WorldItem → t.WorldItem
bare_world_item (t.WorldItem.use_ x) = t.WorldItem.use_ (bare_use x)
bare_world_item (t.WorldItem.ty x) = t.WorldItem.ty (bare_item_type x)
bare_world_item (t.WorldItem.import x) = t.WorldItem.import (bare_world_import x)
bare_world_item (t.WorldItem.export x) = t.WorldItem.export (bare_world_export x)
bare_world_item (t.WorldItem.include x) = t.WorldItem.include (bare_include x)

abbrev pub bare_world : t.WorldDecl → t.WorldDecl
bare_world x = record { docs = []; id = bare_ident x.id; items = map bare_world_item x.items }

-- ---- expressions

abbrev pub bare_argument_name : t.InstantiationArgumentName → t.InstantiationArgumentName
bare_argument_name (t.InstantiationArgumentName.ident i) = t.InstantiationArgumentName.ident (bare_ident i)
bare_argument_name (t.InstantiationArgumentName.string x) = t.InstantiationArgumentName.string (bare_string x)

abbrev pub bare_postfix : t.PostfixExpr → t.PostfixExpr
bare_postfix (t.PostfixExpr.access x) = t.PostfixExpr.access (record { span = nowhere; id = bare_ident x.id })
bare_postfix (t.PostfixExpr.named_access x) =
    t.PostfixExpr.named_access (record { span = nowhere; string = bare_string x.string })

abbrev mutual
  pub bare_expr : t.Expr → t.Expr
  bare_expr (t.expr s p ps) = t.expr nowhere (bare_primary p) (map bare_postfix ps)

  pub bare_primary : t.PrimaryExpr → t.PrimaryExpr
  bare_primary (t.PrimaryExpr.new x) = t.PrimaryExpr.new (bare_new x)
  bare_primary (t.PrimaryExpr.nested x) = t.PrimaryExpr.nested (bare_nested x)
  bare_primary (t.PrimaryExpr.ident i) = t.PrimaryExpr.ident (bare_ident i)

  pub bare_new : t.NewExpr → t.NewExpr
  bare_new (t.new_expr s p track as_) = t.new_expr nowhere (bare_package_name p) track (bare_arguments as_)

  pub bare_nested : t.NestedExpr → t.NestedExpr
  bare_nested (t.nested_expr s e) = t.nested_expr nowhere (bare_expr e)

  pub bare_arguments : t.Arguments → t.Arguments
  bare_arguments t.no_arguments = t.no_arguments
  bare_arguments (t.argument a as_) = t.argument (bare_argument a) (bare_arguments as_)

  pub bare_argument : t.InstantiationArgument → t.InstantiationArgument
  bare_argument (t.InstantiationArgument.inferred i) = t.InstantiationArgument.inferred (bare_ident i)
  bare_argument (t.InstantiationArgument.spread i) = t.InstantiationArgument.spread (bare_ident i)
  bare_argument (t.InstantiationArgument.named a) = t.InstantiationArgument.named (bare_named_argument a)
  bare_argument (t.InstantiationArgument.fill s) = t.InstantiationArgument.fill nowhere

  pub bare_named_argument : t.NamedInstantiationArgument → t.NamedInstantiationArgument
  bare_named_argument (t.named_argument n e) = t.named_argument (bare_argument_name n) (bare_expr e)

-- ---- statements

abbrev pub bare_import_type : t.ImportType → t.ImportType
bare_import_type (t.ImportType.package_path p) = t.ImportType.package_path (bare_package_path p)
bare_import_type (t.ImportType.func f) = t.ImportType.func (bare_func f)
bare_import_type (t.ImportType.interface x) = t.ImportType.interface (bare_inline_interface x)
bare_import_type (t.ImportType.ident i) = t.ImportType.ident (bare_ident i)

abbrev pub bare_import : t.ImportStatement → t.ImportStatement
bare_import x =
    record { docs = []; id = bare_ident x.id; name = option_map bare_extern_name x.name; ty = bare_import_type x.ty }

abbrev pub bare_let : t.LetStatement → t.LetStatement
bare_let x = record { docs = []; id = bare_ident x.id; expr = bare_expr x.expr }

abbrev pub bare_options : t.ExportOptions → t.ExportOptions
bare_options t.ExportOptions.none = t.ExportOptions.none
bare_options (t.ExportOptions.spread s) = t.ExportOptions.spread nowhere
bare_options (t.ExportOptions.rename n) = t.ExportOptions.rename (bare_extern_name n)

abbrev pub bare_export : t.ExportStatement → t.ExportStatement
bare_export x = record { docs = []; expr = bare_expr x.expr; options = bare_options x.options }

abbrev pub bare_type_statement : t.TypeStatement → t.TypeStatement
bare_type_statement (t.TypeStatement.interface x) = t.TypeStatement.interface (bare_interface x)
bare_type_statement (t.TypeStatement.world x) = t.TypeStatement.world (bare_world x)
bare_type_statement (t.TypeStatement.ty x) = t.TypeStatement.ty (bare_type_decl x)

abbrev pub bare_statement : t.Statement → t.Statement
bare_statement (t.Statement.import x) = t.Statement.import (bare_import x)
bare_statement (t.Statement.ty x) = t.Statement.ty (bare_type_statement x)
bare_statement (t.Statement.let_ x) = t.Statement.let_ (bare_let x)
bare_statement (t.Statement.export x) = t.Statement.export (bare_export x)

-- ---- documents

abbrev pub bare_directive : t.PackageDirective → t.PackageDirective
bare_directive x =
    record { «package» = bare_package_name x.«package»; targets = option_map bare_package_path x.targets }

abbrev pub bare : t.Document → t.Document
bare d = record { docs = []; directive = bare_directive d.directive; statements = map bare_statement d.statements }
