-- How deep types and expressions are nested, which trees the rules have room for, and what ends each.
use Rattle.std.specs.Prelude.{◌≡◌, ◌↔◌, ℕ, suc, ◌≤◌, max, true, false, List, [], ◌∷◌, Option, Some, None, Ok}
use Rattle.wac_parser_lexer.specs.declared.token.Token.{Token}
use Rattle.wac_parser_lexer.specs.declared.token.Token.TheVariants as k
use Rattle.wac_parser_lexer.specs.Items.{Input}
use Rattle.wac_parser_tree.specs.Trees as t
use Rattle.wac_parser_grammar.specs.Ahead.{sees, sees_any}
use Rattle.wac_parser_grammar.specs.Rules.{Rule, fault_ahead}
use Rattle.wac_parser_grammar.specs.Reads.{read_source}
use Rattle.wac_parser_grammar.specs.Names as n
use Rattle.wac_parser_grammar.specs.ValueTypes as v
use Rattle.wac_parser_grammar.specs.Expressions as e
use Rattle.wac_parser_grammar.specs.Declarations as d
use Rattle.wac_parser_grammar.specs.Worlds as w
use Rattle.wac_parser_grammar.specs.Documents as s
use Rattle.wac_parser_grammar.specs.Forms as f
use Rattle.wac_parser_grammar.specs.FormsOfDeclarations as g

-- ---- levels

-- the levels of a type: one, and those of what stands inside
abbrev mutual
  pub levels : t.Ty → ℕ
  levels (t.Ty.tuple tys span) = suc (levels_of tys)
  levels (t.Ty.list ty span) = suc (levels ty)
  levels (t.Ty.option ty span) = suc (levels ty)
  levels (t.Ty.result ok err span) = suc (max (levels_in ok) (levels_in err))
  levels (t.Ty.stream ty span) = suc (levels_in ty)
  levels (t.Ty.future ty span) = suc (levels_in ty)
  levels _ = 1

  pub levels_of : t.Tys → ℕ
  levels_of t.Tys.no_more = 0
  levels_of (t.Tys.more ty tys) = max (levels ty) (levels_of tys)

  pub levels_in : t.MaybeTy → ℕ
  levels_in t.MaybeTy.no_ty = 0
  levels_in (t.MaybeTy.some_ty ty) = levels ty

-- the levels of an expression: one, and those of what stands inside
abbrev mutual
  pub expression_levels : t.Expr → ℕ
  expression_levels (t.Expr.expr span first accesses) = suc (primary_levels first)

  pub primary_levels : t.PrimaryExpr → ℕ
  primary_levels (t.PrimaryExpr.new x) = new_levels x
  primary_levels (t.PrimaryExpr.nested x) = nested_levels x
  primary_levels (t.PrimaryExpr.ident id) = 0

  pub new_levels : t.NewExpr → ℕ
  new_levels (t.NewExpr.new_expr span name track arguments) = levels_of_arguments arguments

  pub argument_levels : t.InstantiationArgument → ℕ
  argument_levels (t.InstantiationArgument.inferred id) = 0
  argument_levels (t.InstantiationArgument.spread id) = 0
  argument_levels (t.InstantiationArgument.named x) = named_levels x
  argument_levels (t.InstantiationArgument.fill span) = 0

  pub named_levels : t.NamedInstantiationArgument → ℕ
  named_levels (t.NamedInstantiationArgument.named_argument name value) = expression_levels value

  pub nested_levels : t.NestedExpr → ℕ
  nested_levels (t.NestedExpr.nested_expr span inner) = expression_levels inner

  pub levels_of_arguments : t.Arguments → ℕ
  levels_of_arguments t.Arguments.no_arguments = 0
  levels_of_arguments (t.Arguments.argument x xs) = max (argument_levels x) (levels_of_arguments xs)

-- ---- what a rule has room for, and what ends it

-- neither the token nor a faulty item comes next
abbrev pub Ends : Token → Input → Type 0
Ends k s = (fault_ahead s ≡ None) × (sees k s ≡ false)

-- what has the form, before what can't go on with it, is spelled as the rule says
pub record IsTaken {X : Type 0} (p : Rule X) (F : X → f.Part) (Fits : X → Type 0) (Stops : Input → Type 0) : Type 0 where
  pub taken : (s : Input) (x : X) (r : Input) → Fits x → F x s r → Stops r → p.Is x s r

-- what the rule takes fits
pub record IsFitting {X : Type 0} (p : Rule X) (Fits : X → Type 0) : Type 0 where
  pub fits : (s : Input) (x : X) (r : Input) → p.Is x s r → Fits x

abbrev pub Always : {X : Type 0} → X → Type 0
Always x = Unit {0}

-- each value of the list
abbrev pub AllFit : {X : Type 0} → (X → Type 0) → List X → Type 0
AllFit Fits [] = Unit {0}
AllFit Fits (x ∷ xs) = Fits x × AllFit Fits xs

-- ---- types and functions

abbrev pub NamedFits : t.NamedType → Type 0
NamedFits x = levels x.ty ≤ 128

abbrev pub ResultsFit : t.ResultList → Type 0
ResultsFit t.ResultList.empty = Unit {0}
ResultsFit (t.ResultList.scalar ty) = levels ty ≤ 128

abbrev pub FuncFits : t.FuncType → Type 0
FuncFits x = AllFit NamedFits x.params × ResultsFit x.results

abbrev pub RefFits : t.FuncTypeRef → Type 0
RefFits (t.FuncTypeRef.func x) = FuncFits x
RefFits (t.FuncTypeRef.ident id) = Unit {0}

-- nothing comes next with which a type of a function could go on
abbrev pub FuncEnds : Input → Type 0
FuncEnds s = Ends k.OpenAngle s × (sees k.Arrow s ≡ false) × (sees_any v.type_first s ≡ false)

-- ---- declarations

abbrev pub PayloadFits : Option t.Ty → Type 0
PayloadFits None = Unit {0}
PayloadFits (Some ty) = levels ty ≤ 128

abbrev pub CaseFits : t.VariantCase → Type 0
CaseFits x = PayloadFits x.ty

abbrev pub FieldFits : t.Field → Type 0
FieldFits x = levels x.ty ≤ 128

abbrev pub KindFits : t.TypeAliasKind → Type 0
KindFits (t.TypeAliasKind.func x) = FuncFits x
KindFits (t.TypeAliasKind.ty ty) = levels ty ≤ 128

abbrev pub MethodFits : t.ResourceMethod → Type 0
MethodFits (t.ResourceMethod.constructor x) = AllFit NamedFits x.params
MethodFits (t.ResourceMethod.method x) = FuncFits x.ty

abbrev pub TypeDeclFits : t.TypeDecl → Type 0
TypeDeclFits (t.TypeDecl.variant x) = AllFit CaseFits x.cases
TypeDeclFits (t.TypeDecl.record_ x) = AllFit FieldFits x.fields
TypeDeclFits (t.TypeDecl.flags x) = Unit {0}
TypeDeclFits (t.TypeDecl.enum x) = Unit {0}
TypeDeclFits (t.TypeDecl.alias x) = KindFits x.kind

abbrev pub ItemTypeDeclFits : t.ItemTypeDecl → Type 0
ItemTypeDeclFits (t.ItemTypeDecl.resource x) = AllFit MethodFits x.methods
ItemTypeDeclFits (t.ItemTypeDecl.variant x) = AllFit CaseFits x.cases
ItemTypeDeclFits (t.ItemTypeDecl.record_ x) = AllFit FieldFits x.fields
ItemTypeDeclFits (t.ItemTypeDecl.flags x) = Unit {0}
ItemTypeDeclFits (t.ItemTypeDecl.enum x) = Unit {0}
ItemTypeDeclFits (t.ItemTypeDecl.alias x) = KindFits x.kind

-- ---- interfaces and worlds

abbrev pub InterfaceItemFits : t.InterfaceItem → Type 0
InterfaceItemFits (t.InterfaceItem.use_ x) = Unit {0}
InterfaceItemFits (t.InterfaceItem.ty x) = ItemTypeDeclFits x
InterfaceItemFits (t.InterfaceItem.export x) = RefFits x.ty

abbrev pub ExternTypeFits : t.ExternType → Type 0
ExternTypeFits (t.ExternType.ident id) = Unit {0}
ExternTypeFits (t.ExternType.func x) = FuncFits x
ExternTypeFits (t.ExternType.interface x) = AllFit InterfaceItemFits x.items

abbrev pub WorldItemPathFits : t.WorldItemPath → Type 0
WorldItemPathFits (t.WorldItemPath.named x) = ExternTypeFits x.ty
WorldItemPathFits (t.WorldItemPath.package_path x) = Unit {0}
WorldItemPathFits (t.WorldItemPath.ident id) = Unit {0}

-- an identifier without a colon behind it is no name
abbrev pub PathEnds : Input → Type 0
PathEnds s = FuncEnds s × (sees k.Colon s ≡ false)

abbrev pub WorldItemFits : t.WorldItem → Type 0
WorldItemFits (t.WorldItem.use_ x) = Unit {0}
WorldItemFits (t.WorldItem.ty x) = ItemTypeDeclFits x
WorldItemFits (t.WorldItem.import x) = WorldItemPathFits x.path
WorldItemFits (t.WorldItem.export x) = WorldItemPathFits x.path
WorldItemFits (t.WorldItem.include x) = Unit {0}

-- ---- expressions

-- no access comes next
abbrev pub ExpressionEnds : Input → Type 0
ExpressionEnds s = sees_any e.postfix_first s ≡ false

-- a comma or the closing brace comes next
abbrev pub ArgumentEnds : Input → Type 0
ArgumentEnds s = sees_any (k.Comma ∷ k.CloseBrace ∷ []) s ≡ true

-- ---- statements and documents

abbrev pub ImportTypeFits : t.ImportType → Type 0
ImportTypeFits (t.ImportType.package_path path) = Unit {0}
ImportTypeFits (t.ImportType.func x) = FuncFits x
ImportTypeFits (t.ImportType.interface x) = AllFit InterfaceItemFits x.items
ImportTypeFits (t.ImportType.ident id) = Unit {0}

-- no option of an export comes next
abbrev pub OptionsEnd : Input → Type 0
OptionsEnd s = (sees k.Ellipsis s ≡ false) × (sees k.AsKeyword s ≡ false)

abbrev pub TypeStatementFits : t.TypeStatement → Type 0
TypeStatementFits (t.TypeStatement.interface x) = AllFit InterfaceItemFits x.items
TypeStatementFits (t.TypeStatement.world x) = AllFit WorldItemFits x.items
TypeStatementFits (t.TypeStatement.ty x) = TypeDeclFits x

abbrev pub StatementFits : t.Statement → Type 0
StatementFits (t.Statement.import x) = ImportTypeFits x.ty
StatementFits (t.Statement.ty x) = TypeStatementFits x
StatementFits (t.Statement.let_ x) = expression_levels x.expr ≤ 128
StatementFits (t.Statement.export x) = expression_levels x.expr ≤ 128

-- each type and each expression of the document is nested in at most 128 levels
abbrev pub DocumentFits : t.Document → Type 0
DocumentFits x = AllFit StatementFits x.statements

-- no item is left
abbrev pub AtEnd : Input → Type 0
AtEnd s = s.items ≡ []

-- ---- laws

-- The forms of all trees, with types and expressions nested in at most 128 levels, before what can't go on with them.
pub record FormsAreTaken : Type 0 where
  pub docs : IsTaken n.docs f.Docs Always Always
  pub ident : IsTaken n.ident f.Ident Always Always
  pub string : IsTaken n.string f.Quoted Always Always
  pub package_name : IsTaken n.package_name f.PackageName Always Always
  pub new_package : IsTaken n.new_package f.NewPackage Always Always
  pub package_path : IsTaken n.package_path f.PackagePath Always Always
  pub value_type : IsTaken v.value_type f.Ty (λ x. levels x ≤ 128) (Ends k.OpenAngle)
  pub named_type : IsTaken v.named_type f.NamedType NamedFits (Ends k.OpenAngle)
  pub func_type : IsTaken v.func_type f.FuncType FuncFits FuncEnds
  pub func_type_ref : IsTaken v.func_type_ref f.FuncTypeRef RefFits FuncEnds
  pub variant_case : IsTaken d.variant_case g.VariantCase CaseFits (Ends k.OpenParen)
  pub variant_decl : IsTaken d.variant_decl g.VariantDecl (λ x. AllFit CaseFits x.cases) Always
  pub field : IsTaken d.field g.Field FieldFits (Ends k.OpenAngle)
  pub record_decl : IsTaken d.record_decl g.RecordDecl (λ x. AllFit FieldFits x.fields) Always
  pub flag : IsTaken d.flag g.Flag Always Always
  pub flags_decl : IsTaken d.flags_decl g.FlagsDecl Always Always
  pub enum_case : IsTaken d.enum_case g.EnumCase Always Always
  pub enum_decl : IsTaken d.enum_decl g.EnumDecl Always Always
  pub type_alias_kind : IsTaken d.type_alias_kind g.TypeAliasKind KindFits FuncEnds
  pub type_alias : IsTaken d.type_alias g.TypeAlias (λ x. KindFits x.kind) Always
  pub constructor : IsTaken d.constructor g.Constructor (λ x. AllFit NamedFits x.params) Always
  pub method : IsTaken d.method g.Method (λ x. FuncFits x.ty) Always
  pub resource_method : IsTaken d.resource_method g.ResourceMethod MethodFits Always
  pub resource_decl : IsTaken d.resource_decl g.ResourceDecl (λ x. AllFit MethodFits x.methods) Always
  pub type_decl : IsTaken d.type_decl g.TypeDecl TypeDeclFits Always
  pub item_type_decl : IsTaken d.item_type_decl g.ItemTypeDecl ItemTypeDeclFits Always
  pub use_path : IsTaken w.use_path g.UsePath Always Always
  pub use_item : IsTaken w.use_item g.UseItem Always (Ends k.AsKeyword)
  pub use_types : IsTaken w.use_types g.Use Always Always
  pub interface_export : IsTaken w.interface_export g.InterfaceExport (λ x. RefFits x.ty) Always
  pub interface_item : IsTaken w.interface_item g.InterfaceItem InterfaceItemFits Always
  pub interface_decl : IsTaken w.interface_decl g.InterfaceDecl (λ x. AllFit InterfaceItemFits x.items) Always
  pub inline_interface : IsTaken w.inline_interface g.InlineInterface (λ x. AllFit InterfaceItemFits x.items) Always
  pub extern_type : IsTaken w.extern_type g.ExternType ExternTypeFits FuncEnds
  pub named_world_item : IsTaken w.named_world_item g.NamedWorldItem (λ x. ExternTypeFits x.ty) FuncEnds
  pub world_item_path : IsTaken w.world_item_path g.WorldItemPath WorldItemPathFits PathEnds
  pub world_import : IsTaken w.world_import g.WorldImport (λ x. WorldItemPathFits x.path) Always
  pub world_export : IsTaken w.world_export g.WorldExport (λ x. WorldItemPathFits x.path) Always
  pub world_ref : IsTaken w.world_ref g.WorldRef Always Always
  pub world_include_item : IsTaken w.world_include_item g.IncludeItem Always Always
  pub world_include : IsTaken w.world_include g.WorldInclude Always Always
  pub world_item : IsTaken w.world_item g.WorldItem WorldItemFits Always
  pub world_decl : IsTaken w.world_decl g.WorldDecl (λ x. AllFit WorldItemFits x.items) Always
  pub argument_name : IsTaken e.argument_name f.ArgumentName Always Always
  pub access_expr : IsTaken e.access_expr f.Access Always Always
  pub named_access_expr : IsTaken e.named_access_expr f.NamedAccess Always Always
  pub postfix_expr : IsTaken e.postfix_expr f.Postfix Always Always
  pub expression : IsTaken e.expression f.Expr (λ x. expression_levels x ≤ 128) ExpressionEnds
  pub new_expr : (depth : ℕ) → IsTaken (e.new_expr (e.expr depth)) f.New (λ x. new_levels x ≤ depth) Always
  pub nested_expr : (depth : ℕ) → IsTaken (e.nested_expr (e.expr depth)) f.Nested (λ x. nested_levels x ≤ depth) Always
  pub primary_expr : (depth : ℕ) → IsTaken (e.primary_expr (e.expr depth)) f.Primary (λ x. primary_levels x ≤ depth) Always
  pub named_argument : (depth : ℕ)
      → IsTaken (e.named_argument (e.expr depth)) f.NamedArgument (λ x. named_levels x ≤ depth) ExpressionEnds
  pub instantiation_argument : (depth : ℕ)
      → IsTaken (e.instantiation_argument (e.expr depth)) f.Argument (λ x. argument_levels x ≤ depth) ArgumentEnds
  pub extern_name : IsTaken s.extern_name g.ExternName Always Always
  pub import_type : IsTaken s.import_type g.ImportType ImportTypeFits FuncEnds
  pub import_statement : IsTaken s.import_statement g.ImportStatement (λ x. ImportTypeFits x.ty) Always
  pub let_statement : IsTaken s.let_statement g.LetStatement (λ x. expression_levels x.expr ≤ 128) Always
  pub export_options : IsTaken s.export_options g.ExportOptions Always OptionsEnd
  pub export_statement : IsTaken s.export_statement g.ExportStatement (λ x. expression_levels x.expr ≤ 128) Always
  pub type_statement : IsTaken s.type_statement g.TypeStatement TypeStatementFits Always
  pub statement : IsTaken s.statement g.Statement StatementFits Always
  pub package_directive : IsTaken s.package_directive g.PackageDirective Always Always
  pub document : IsTaken s.document g.Document DocumentFits AtEnd

-- The rules of all trees that hold a type or an expression: what they take is nested in at most 128 levels.
pub record RulesTakeWhatFits : Type 0 where
  pub value_type : IsFitting v.value_type (λ x. levels x ≤ 128)
  pub named_type : IsFitting v.named_type NamedFits
  pub func_type : IsFitting v.func_type FuncFits
  pub func_type_ref : IsFitting v.func_type_ref RefFits
  pub variant_case : IsFitting d.variant_case CaseFits
  pub variant_decl : IsFitting d.variant_decl (λ x. AllFit CaseFits x.cases)
  pub field : IsFitting d.field FieldFits
  pub record_decl : IsFitting d.record_decl (λ x. AllFit FieldFits x.fields)
  pub type_alias_kind : IsFitting d.type_alias_kind KindFits
  pub type_alias : IsFitting d.type_alias (λ x. KindFits x.kind)
  pub constructor : IsFitting d.constructor (λ x. AllFit NamedFits x.params)
  pub method : IsFitting d.method (λ x. FuncFits x.ty)
  pub resource_method : IsFitting d.resource_method MethodFits
  pub resource_decl : IsFitting d.resource_decl (λ x. AllFit MethodFits x.methods)
  pub type_decl : IsFitting d.type_decl TypeDeclFits
  pub item_type_decl : IsFitting d.item_type_decl ItemTypeDeclFits
  pub interface_export : IsFitting w.interface_export (λ x. RefFits x.ty)
  pub interface_item : IsFitting w.interface_item InterfaceItemFits
  pub interface_decl : IsFitting w.interface_decl (λ x. AllFit InterfaceItemFits x.items)
  pub inline_interface : IsFitting w.inline_interface (λ x. AllFit InterfaceItemFits x.items)
  pub extern_type : IsFitting w.extern_type ExternTypeFits
  pub named_world_item : IsFitting w.named_world_item (λ x. ExternTypeFits x.ty)
  pub world_item_path : IsFitting w.world_item_path WorldItemPathFits
  pub world_import : IsFitting w.world_import (λ x. WorldItemPathFits x.path)
  pub world_export : IsFitting w.world_export (λ x. WorldItemPathFits x.path)
  pub world_item : IsFitting w.world_item WorldItemFits
  pub world_decl : IsFitting w.world_decl (λ x. AllFit WorldItemFits x.items)
  pub expression : IsFitting e.expression (λ x. expression_levels x ≤ 128)
  pub new_expr : (depth : ℕ) → IsFitting (e.new_expr (e.expr depth)) (λ x. new_levels x ≤ depth)
  pub nested_expr : (depth : ℕ) → IsFitting (e.nested_expr (e.expr depth)) (λ x. nested_levels x ≤ depth)
  pub primary_expr : (depth : ℕ) → IsFitting (e.primary_expr (e.expr depth)) (λ x. primary_levels x ≤ depth)
  pub named_argument : (depth : ℕ) → IsFitting (e.named_argument (e.expr depth)) (λ x. named_levels x ≤ depth)
  pub instantiation_argument : (depth : ℕ) → IsFitting (e.instantiation_argument (e.expr depth)) (λ x. argument_levels x ≤ depth)
  pub import_type : IsFitting s.import_type ImportTypeFits
  pub import_statement : IsFitting s.import_statement (λ x. ImportTypeFits x.ty)
  pub let_statement : IsFitting s.let_statement (λ x. expression_levels x.expr ≤ 128)
  pub export_statement : IsFitting s.export_statement (λ x. expression_levels x.expr ≤ 128)
  pub type_statement : IsFitting s.type_statement TypeStatementFits
  pub statement : IsFitting s.statement StatementFits
  pub document : IsFitting s.document DocumentFits

-- a source is read as a document exactly where the document fits and the source is that document by the forms
abbrev pub DocumentsAreTheirForms : Type 0
DocumentsAreTheirForms =
    (source : List ℕ) (x : t.Document) → (read_source s.document source ≡ Ok x) ↔ (DocumentFits x × g.IsDocumentOf x source)
