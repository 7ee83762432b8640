-- Each name and path of a package in what is read stands in the source.
use Rattle.std.proofs.Common.{ℕ, zero, suc, true, false, List, [], ◌∷◌, Option}
use Rattle.std.specs.Prelude.{IfSome}
use Rattle.std.specs.List.{All}
use Rattle.std.proofs.lemmas.List.Elements.{All-head, All-tail}
use Rattle.wac_parser_lexer.specs.declared.token.Token.TheVariants as k
use Rattle.wac_parser_tree.specs.Trees as t
use Rattle.wac_parser_tree.specs.Segments.{IsPathIn}
use Rattle.wac_parser_grammar.specs.Rules.{Rule}
use Rattle.wac_parser_grammar.specs.Names.{docs, ident, string, package_name, new_package, package_path}
use Rattle.wac_parser_grammar.specs.ValueTypes.{func_first, func_type}
use Rattle.wac_parser_grammar.specs.Expressions.{expr_first, postfix_first, argument_first, spread_or_fill, nested_expr, argument_value, ident_argument, string_argument, instantiation_argument, new_expr, primary_expr, expr_level, expr, expression}
use Rattle.wac_parser_grammar.specs.Declarations.{type_decl_first, item_type_decl_first}
use Rattle.wac_parser_grammar.specs.Worlds.{interface_item_first, world_item_first, use_path, use_types, interface_item, interface_items, interface_decl, inline_interface, extern_type, item_type, ident_path, world_item_path, world_import, world_export, world_ref, world_include, world_item, world_items, world_decl}
use Rattle.wac_parser_grammar.specs.Documents.{type_statement_first, import_type, import_statement, let_statement, export_statement, type_statement, statement, targets, package_directive, document}
use Rattle.wac_parser_grammar.specs.Paths.{IsNameIn, IsNewIn}
use Rattle.wac_parser_grammar.specs.PathsOfTrees.{EachInExpr, EachInPrimary, EachInNew, EachInArgument, EachInNamed, EachInNested, EachInArguments, EachInUsePath, EachInInterfaceItem, EachInExternType, EachInItemPath, EachInWorldRef, EachInWorldItem, EachInImportType, EachInTypeStatement, EachInStatement, EachInDirective, EachInDocument}
use Rattle.wac_parser_grammar.proofs.ExactLists.{while_exact}
use Rattle.wac_parser_grammar.proofs.FaithfulLists.{while_faithful}
use Rattle.wac_parser_grammar.proofs.NameLaws.{docs_exact, ident_exact, string_exact, package_name_exact, new_package_exact, package_path_exact}
use Rattle.wac_parser_grammar.proofs.NameFaults.{docs_faithful, ident_faithful, string_faithful, package_name_faithful, new_package_faithful, package_path_faithful}
use Rattle.wac_parser_grammar.proofs.TypeLaws.{func_type_exact}
use Rattle.wac_parser_grammar.proofs.TypeFaults.{func_type_faithful}
use Rattle.wac_parser_grammar.proofs.ExprLaws.{postfix_expr_exact, postfix_expr_takes}
use Rattle.wac_parser_grammar.proofs.ExprFaults.{postfix_expr_faithful}
use Rattle.wac_parser_grammar.proofs.DeclLaws.{type_decl_exact, item_type_decl_exact}
use Rattle.wac_parser_grammar.proofs.DeclFaults.{type_decl_faithful, item_type_decl_faithful}
use Rattle.wac_parser_grammar.proofs.WorldLaws.{use_items_exact, interface_export_exact, include_with_exact}
use Rattle.wac_parser_grammar.proofs.WorldFaults.{use_items_faithful, interface_export_faithful, include_with_faithful}
use Rattle.wac_parser_grammar.proofs.DocumentLaws.{import_name_exact, export_options_exact}
use Rattle.wac_parser_grammar.proofs.DocumentFaults.{import_name_faithful, export_options_faithful}
use Rattle.wac_parser_grammar.proofs.PathLaws.{name_stands, new_stands, path_stands}
use Rattle.wac_parser_grammar.proofs.Bringing.{Brings, Free, plain, bind_brings, pure_brings, refuse_brings, begin_brings, begin_any_brings, token_brings, optional_of_brings, list_brings, body_brings, all_brings}

arguments_each : (P : t.PackageName → Option (List ℕ) → Type 0) (xs : List t.InstantiationArgument) → All (EachInArgument P) xs → EachInArguments P (t.arguments xs)
arguments_each P [] all = tt
arguments_each P (x ∷ xs) all = (All-head (EachInArgument P) x xs all, arguments_each P xs (All-tail (EachInArgument P) x xs all))

module _ (source : List ℕ) where
  abbrev Name : t.PackageName → Option (List ℕ) → Type 0
  Name = IsNewIn source

  abbrev Path : t.PackagePath → Type 0
  Path = IsPathIn source

  name_brings : Brings source (IsNameIn source) package_name
  name_brings = record {
    goes = λ s x r c h. (plain source package_name_exact package_name_faithful).goes s x r c h;
    brings = λ s x r c h. name_stands source s c x r h;
  }

  new_package_brings : Brings source (λ p. Name p.0 p.1) new_package
  new_package_brings = record {
    goes = λ s x r c h. (plain source new_package_exact (new_package_faithful (λ text h. tt))).goes s x r c h;
    brings = λ s x r c h. new_stands source s c x r h;
  }

  path_brings : Brings source Path package_path
  path_brings = record {
    goes = λ s x r c h. (plain source package_path_exact package_path_faithful).goes s x r c h;
    brings = λ s x r c h. path_stands source s c x r h;
  }

  docs_brings : Brings source Free docs
  docs_brings = plain source docs_exact docs_faithful

  ident_brings : Brings source Free ident
  ident_brings = plain source ident_exact ident_faithful

  string_brings : Brings source Free string
  string_brings = plain source string_exact string_faithful

  spread_brings : Brings source (EachInArgument Name) spread_or_fill
  unfolding spread_or_fill
  spread_brings =
      bind_brings source _ _ (token_brings source k.Ellipsis) (λ v0 _. begin_any_brings source (k.Comma ∷ k.CloseBrace ∷ []) _ _ (pure_brings source _ tt) (bind_brings source _ _ ident_brings (λ v1 _. pure_brings source _ tt)))

  -- ---- expressions

  module _ (inner : Rule t.Expr) (brings : Brings source (EachInExpr Name) inner) where
    nested_brings : Brings source (EachInNested Name) (nested_expr inner)
    unfolding nested_expr
    nested_brings =
        bind_brings source _ _ (token_brings source k.OpenParen) (λ v0 _. bind_brings source _ _ brings (λ v1 e. bind_brings source _ _ (token_brings source k.CloseParen) (λ v2 _. pure_brings source _ e)))

    value_brings : (name : t.InstantiationArgumentName) → Brings source (EachInNamed Name) (argument_value inner name)
    unfolding argument_value
    value_brings name = bind_brings source _ _ (token_brings source k.Colon) (λ v0 _. bind_brings source _ _ brings (λ v1 e. pure_brings source _ e))

    ident_argument_brings : Brings source (EachInArgument Name) (ident_argument inner)
    unfolding ident_argument
    ident_argument_brings =
        bind_brings source _ _ ident_brings (λ v0 _. begin_brings source k.Colon _ _ (bind_brings source _ _ (value_brings _) (λ v1 e. pure_brings source _ e)) (pure_brings source _ tt))

    string_argument_brings : Brings source (EachInArgument Name) (string_argument inner)
    unfolding string_argument
    string_argument_brings =
        bind_brings source _ _ string_brings (λ v0 _. begin_brings source k.Colon _ _ (bind_brings source _ _ (value_brings _) (λ v1 e. pure_brings source _ e)) (refuse_brings source _))

    argument_brings : Brings source (EachInArgument Name) (instantiation_argument inner)
    unfolding instantiation_argument
    argument_brings = begin_brings source k.Ellipsis _ _ spread_brings (begin_brings source k.Ident _ _ ident_argument_brings (begin_brings source k.String _ _ string_argument_brings (refuse_brings source _)))

    new_brings : Brings source (EachInNew Name) (new_expr inner)
    unfolding new_expr
    new_brings =
        bind_brings source _ _ (token_brings source k.NewKeyword) (λ v0 _. bind_brings source _ _ new_package_brings (λ v1 name. bind_brings source _ _ (token_brings source k.OpenBrace) (λ v2 _.
        bind_brings source _ _ (list_brings source (EachInArgument Name) (instantiation_argument inner) argument_brings argument_first k.CloseBrace true) (λ v3 all.
        bind_brings source _ _ (token_brings source k.CloseBrace) (λ v4 _. pure_brings source _ (name, arguments_each Name v3 all))))))

    primary_brings : Brings source (EachInPrimary Name) (primary_expr inner)
    unfolding primary_expr
    primary_brings =
        begin_brings source k.NewKeyword _ _ (bind_brings source _ _ new_brings (λ v0 e. pure_brings source _ e))
        (begin_brings source k.OpenParen _ _ (bind_brings source _ _ nested_brings (λ v0 e. pure_brings source _ e))
        (begin_brings source k.Ident _ _ (bind_brings source _ _ ident_brings (λ v0 _. pure_brings source _ tt)) (refuse_brings source _)))

    level_brings : Brings source (EachInExpr Name) (expr_level inner)
    unfolding expr_level
    level_brings =
        bind_brings source _ _ primary_brings (λ v0 e. bind_brings source _ _
        (plain source (while_exact _ postfix_first postfix_expr_exact postfix_expr_takes) (while_faithful _ postfix_first postfix_expr_exact postfix_expr_takes postfix_expr_faithful)) (λ v1 _. pure_brings source _ e))

  expr_brings : (n : ℕ) → Brings source (EachInExpr Name) (expr n)
  unfolding expr
  expr_brings zero = begin_any_brings source expr_first _ _ (refuse_brings source _) (refuse_brings source _)
  expr_brings (suc n) = level_brings (expr n) (expr_brings n)

  expression_brings : Brings source (EachInExpr Name) expression
  unfolding expression
  expression_brings = expr_brings 128

  -- ---- interfaces

  use_path_brings : Brings source (EachInUsePath Path) use_path
  unfolding use_path
  use_path_brings =
      begin_brings source k.PackagePath _ _ (bind_brings source _ _ path_brings (λ v0 p. pure_brings source _ p))
      (begin_brings source k.Ident _ _ (bind_brings source _ _ ident_brings (λ v0 _. pure_brings source _ tt)) (refuse_brings source _))

  abbrev InUse : t.Use → Type 0
  InUse x = EachInUsePath Path x.path

  use_brings : Brings source InUse use_types
  unfolding use_types
  use_brings =
      bind_brings source _ _ docs_brings (λ v0 _. bind_brings source _ _ (token_brings source k.UseKeyword) (λ v1 _. bind_brings source _ _ use_path_brings (λ v2 p. bind_brings source _ _ (token_brings source k.Dot) (λ v3 _.
      bind_brings source _ _ (plain source use_items_exact use_items_faithful) (λ v4 _. bind_brings source _ _ (token_brings source k.Semicolon) (λ v5 _. pure_brings source _ p))))))

  interface_item_brings : Brings source (EachInInterfaceItem Path) interface_item
  unfolding interface_item
  interface_item_brings =
      begin_brings source k.UseKeyword _ _ (bind_brings source _ _ use_brings (λ v0 p. pure_brings source _ p))
      (begin_brings source k.Ident _ _ (bind_brings source _ _ (plain source interface_export_exact interface_export_faithful) (λ v0 _. pure_brings source _ tt))
      (begin_any_brings source item_type_decl_first _ _ (bind_brings source _ _ (plain source item_type_decl_exact item_type_decl_faithful) (λ v0 _. pure_brings source _ tt)) (refuse_brings source _)))

  interface_items_brings : Brings source (All (EachInInterfaceItem Path)) interface_items
  unfolding interface_items
  interface_items_brings = body_brings source (EachInInterfaceItem Path) interface_item interface_item_brings interface_item_first false

  abbrev InInterface : t.InterfaceDecl → Type 0
  InInterface x = All (EachInInterfaceItem Path) x.items

  interface_decl_brings : Brings source InInterface interface_decl
  unfolding interface_decl
  interface_decl_brings =
      bind_brings source _ _ docs_brings (λ v0 _. bind_brings source _ _ (token_brings source k.InterfaceKeyword) (λ v1 _. bind_brings source _ _ ident_brings (λ v2 _. bind_brings source _ _ interface_items_brings (λ v3 all. pure_brings source _ all))))

  abbrev InInline : t.InlineInterface → Type 0
  InInline x = All (EachInInterfaceItem Path) x.items

  inline_brings : Brings source InInline inline_interface
  unfolding inline_interface
  inline_brings = bind_brings source _ _ (token_brings source k.InterfaceKeyword) (λ v0 _. bind_brings source _ _ interface_items_brings (λ v1 all. pure_brings source _ all))

  -- ---- worlds

  func_brings : Brings source Free func_type
  func_brings = plain source func_type_exact func_type_faithful

  extern_type_brings : Brings source (EachInExternType Path) extern_type
  unfolding extern_type
  extern_type_brings =
      begin_brings source k.Ident _ _ (bind_brings source _ _ ident_brings (λ v0 _. pure_brings source _ tt))
      (begin_any_brings source func_first _ _ (bind_brings source _ _ func_brings (λ v0 _. pure_brings source _ tt))
      (begin_brings source k.InterfaceKeyword _ _ (bind_brings source _ _ inline_brings (λ v0 all. pure_brings source _ all)) (refuse_brings source _)))

  abbrev InNamed : t.NamedWorldItem → Type 0
  InNamed x = EachInExternType Path x.ty

  item_type_brings : (id : t.Ident) → Brings source InNamed (item_type id)
  unfolding item_type
  item_type_brings id = bind_brings source _ _ (token_brings source k.Colon) (λ v0 _. bind_brings source _ _ extern_type_brings (λ v1 e. pure_brings source _ e))

  ident_path_brings : Brings source (EachInItemPath Path) ident_path
  unfolding ident_path
  ident_path_brings =
      bind_brings source _ _ ident_brings (λ v0 _. begin_brings source k.Colon _ _ (bind_brings source _ _ (item_type_brings v0) (λ v1 e. pure_brings source _ e)) (pure_brings source _ tt))

  item_path_brings : Brings source (EachInItemPath Path) world_item_path
  unfolding world_item_path
  item_path_brings =
      begin_brings source k.PackagePath _ _ (bind_brings source _ _ path_brings (λ v0 p. pure_brings source _ p))
      (begin_brings source k.Ident _ _ ident_path_brings (refuse_brings source _))

  abbrev InImport : t.WorldImport → Type 0
  InImport x = EachInItemPath Path x.path

  world_import_brings : Brings source InImport world_import
  unfolding world_import
  world_import_brings =
      bind_brings source _ _ docs_brings (λ v0 _. bind_brings source _ _ (token_brings source k.ImportKeyword) (λ v1 _. bind_brings source _ _ item_path_brings (λ v2 p. bind_brings source _ _ (token_brings source k.Semicolon) (λ v3 _. pure_brings source _ p))))

  abbrev InExport : t.WorldExport → Type 0
  InExport x = EachInItemPath Path x.path

  world_export_brings : Brings source InExport world_export
  unfolding world_export
  world_export_brings =
      bind_brings source _ _ docs_brings (λ v0 _. bind_brings source _ _ (token_brings source k.ExportKeyword) (λ v1 _. bind_brings source _ _ item_path_brings (λ v2 p. bind_brings source _ _ (token_brings source k.Semicolon) (λ v3 _. pure_brings source _ p))))

  world_ref_brings : Brings source (EachInWorldRef Path) world_ref
  unfolding world_ref
  world_ref_brings =
      begin_brings source k.PackagePath _ _ (bind_brings source _ _ path_brings (λ v0 p. pure_brings source _ p))
      (begin_brings source k.Ident _ _ (bind_brings source _ _ ident_brings (λ v0 _. pure_brings source _ tt)) (refuse_brings source _))

  abbrev InInclude : t.WorldInclude → Type 0
  InInclude x = EachInWorldRef Path x.world

  world_include_brings : Brings source InInclude world_include
  unfolding world_include
  world_include_brings =
      bind_brings source _ _ docs_brings (λ v0 _. bind_brings source _ _ (token_brings source k.IncludeKeyword) (λ v1 _. bind_brings source _ _ world_ref_brings (λ v2 p.
      bind_brings source _ _ (plain source include_with_exact include_with_faithful) (λ v3 _. bind_brings source _ _ (token_brings source k.Semicolon) (λ v4 _. pure_brings source _ p)))))

  world_item_brings : Brings source (EachInWorldItem Path) world_item
  unfolding world_item
  world_item_brings =
      begin_brings source k.UseKeyword _ _ (bind_brings source _ _ use_brings (λ v0 p. pure_brings source _ p))
      (begin_brings source k.ImportKeyword _ _ (bind_brings source _ _ world_import_brings (λ v0 p. pure_brings source _ p))
      (begin_brings source k.ExportKeyword _ _ (bind_brings source _ _ world_export_brings (λ v0 p. pure_brings source _ p))
      (begin_brings source k.IncludeKeyword _ _ (bind_brings source _ _ world_include_brings (λ v0 p. pure_brings source _ p))
      (begin_any_brings source item_type_decl_first _ _ (bind_brings source _ _ (plain source item_type_decl_exact item_type_decl_faithful) (λ v0 _. pure_brings source _ tt)) (refuse_brings source _)))))

  world_items_brings : Brings source (All (EachInWorldItem Path)) world_items
  unfolding world_items
  world_items_brings = body_brings source (EachInWorldItem Path) world_item world_item_brings world_item_first false

  abbrev InWorld : t.WorldDecl → Type 0
  InWorld x = All (EachInWorldItem Path) x.items

  world_decl_brings : Brings source InWorld world_decl
  unfolding world_decl
  world_decl_brings =
      bind_brings source _ _ docs_brings (λ v0 _. bind_brings source _ _ (token_brings source k.WorldKeyword) (λ v1 _. bind_brings source _ _ ident_brings (λ v2 _. bind_brings source _ _ world_items_brings (λ v3 all. pure_brings source _ all))))

  -- ---- statements

  import_type_brings : Brings source (EachInImportType Path) import_type
  unfolding import_type
  import_type_brings =
      begin_any_brings source func_first _ _ (bind_brings source _ _ func_brings (λ v0 _. pure_brings source _ tt))
      (begin_brings source k.InterfaceKeyword _ _ (bind_brings source _ _ inline_brings (λ v0 all. pure_brings source _ all))
      (begin_brings source k.PackagePath _ _ (bind_brings source _ _ path_brings (λ v0 p. pure_brings source _ p))
      (begin_brings source k.Ident _ _ (bind_brings source _ _ ident_brings (λ v0 _. pure_brings source _ tt)) (refuse_brings source _))))

  abbrev InImportStatement : t.ImportStatement → Type 0
  InImportStatement x = EachInImportType Path x.ty

  import_brings : Brings source InImportStatement import_statement
  unfolding import_statement
  import_brings =
      bind_brings source _ _ docs_brings (λ v0 _. bind_brings source _ _ (token_brings source k.ImportKeyword) (λ v1 _. bind_brings source _ _ ident_brings (λ v2 _.
      bind_brings source _ _ (plain source import_name_exact import_name_faithful) (λ v3 _. bind_brings source _ _ (token_brings source k.Colon) (λ v4 _. bind_brings source _ _ import_type_brings (λ v5 e.
      bind_brings source _ _ (token_brings source k.Semicolon) (λ v6 _. pure_brings source _ e)))))))

  abbrev InLet : t.LetStatement → Type 0
  InLet x = EachInExpr Name x.expr

  let_brings : Brings source InLet let_statement
  unfolding let_statement
  let_brings =
      bind_brings source _ _ docs_brings (λ v0 _. bind_brings source _ _ (token_brings source k.LetKeyword) (λ v1 _. bind_brings source _ _ ident_brings (λ v2 _. bind_brings source _ _ (token_brings source k.Equals) (λ v3 _.
      bind_brings source _ _ expression_brings (λ v4 e. bind_brings source _ _ (token_brings source k.Semicolon) (λ v5 _. pure_brings source _ e))))))

  abbrev InExportStatement : t.ExportStatement → Type 0
  InExportStatement x = EachInExpr Name x.expr

  export_brings : Brings source InExportStatement export_statement
  unfolding export_statement
  export_brings =
      bind_brings source _ _ docs_brings (λ v0 _. bind_brings source _ _ (token_brings source k.ExportKeyword) (λ v1 _. bind_brings source _ _ expression_brings (λ v2 e.
      bind_brings source _ _ (plain source export_options_exact export_options_faithful) (λ v3 _. bind_brings source _ _ (token_brings source k.Semicolon) (λ v4 _. pure_brings source _ e)))))

  type_statement_brings : Brings source (EachInTypeStatement Path) type_statement
  unfolding type_statement
  type_statement_brings =
      begin_brings source k.InterfaceKeyword _ _ (bind_brings source _ _ interface_decl_brings (λ v0 all. pure_brings source _ all))
      (begin_brings source k.WorldKeyword _ _ (bind_brings source _ _ world_decl_brings (λ v0 all. pure_brings source _ all))
      (begin_any_brings source type_decl_first _ _ (bind_brings source _ _ (plain source type_decl_exact type_decl_faithful) (λ v0 _. pure_brings source _ tt)) (refuse_brings source _)))

  statement_brings : Brings source (EachInStatement Name Path) statement
  unfolding statement
  statement_brings =
      begin_brings source k.ImportKeyword _ _ (bind_brings source _ _ import_brings (λ v0 e. pure_brings source _ e))
      (begin_brings source k.LetKeyword _ _ (bind_brings source _ _ let_brings (λ v0 e. pure_brings source _ e))
      (begin_brings source k.ExportKeyword _ _ (bind_brings source _ _ export_brings (λ v0 e. pure_brings source _ e))
      (begin_any_brings source type_statement_first _ _ (bind_brings source _ _ type_statement_brings (λ v0 e. pure_brings source _ e)) (refuse_brings source _))))

  abbrev InTargets : Option t.PackagePath → Type 0
  InTargets o = IfSome o Path

  targets_brings : Brings source InTargets targets
  unfolding targets
  targets_brings = optional_of_brings source k.TargetsKeyword package_path path_brings

  directive_brings : Brings source (EachInDirective Name Path) package_directive
  unfolding package_directive
  directive_brings =
      bind_brings source _ _ (token_brings source k.PackageKeyword) (λ v0 _. bind_brings source _ _ name_brings (λ v1 name. bind_brings source _ _ targets_brings (λ v2 path.
      bind_brings source _ _ (token_brings source k.Semicolon) (λ v3 _. pure_brings source _ (name, path)))))

  pub document_brings : Brings source (EachInDocument Name Path) document
  unfolding document
  document_brings =
      bind_brings source _ _ docs_brings (λ v0 _. bind_brings source _ _ directive_brings (λ v1 d. bind_brings source _ _ (all_brings source (EachInStatement Name Path) statement statement_brings) (λ v2 all.
      pure_brings source _ (d, all))))
