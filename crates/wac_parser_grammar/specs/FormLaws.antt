-- What holds of the forms, for those who reason by them.
use Rattle.std.specs.Prelude.{ℕ, List}
use Rattle.wac_parser_lexer.specs.Items.{Input}
use Rattle.wac_parser_tree.specs.Trees as t
use Rattle.wac_parser_grammar.specs.Rules.{Rule}
use Rattle.wac_parser_grammar.specs.Laws.{IsDocument}
use Rattle.wac_parser_grammar.specs.Names as n
use Rattle.wac_parser_grammar.specs.ValueTypes as v
use Rattle.wac_parser_grammar.specs.Expressions as e
use Rattle.wac_parser_grammar.specs.Declarations as d
use Rattle.wac_parser_grammar.specs.Worlds as w
use Rattle.wac_parser_grammar.specs.Documents as s
use Rattle.wac_parser_grammar.specs.Forms as f
use Rattle.wac_parser_grammar.specs.FormsOfDeclarations as g

-- Where the rule says that a value is spelled, up to a place, the form says so too.
pub record HasForm {X : Type 0} (p : Rule X) (F : X → f.Part) : Type 0 where
  pub form : (s : Input) (x : X) (r : Input) → p.Is x s r → F x s r

-- the rules of all trees
pub record RulesHaveForms : Type 0 where
  pub docs : HasForm n.docs f.Docs
  pub ident : HasForm n.ident f.Ident
  pub string : HasForm n.string f.Quoted
  pub package_name : HasForm n.package_name f.PackageName
  pub new_package : HasForm n.new_package f.NewPackage
  pub package_path : HasForm n.package_path f.PackagePath
  pub value_type : HasForm v.value_type f.Ty
  pub named_type : HasForm v.named_type f.NamedType
  pub func_type : HasForm v.func_type f.FuncType
  pub func_type_ref : HasForm v.func_type_ref f.FuncTypeRef
  pub argument_name : HasForm e.argument_name f.ArgumentName
  pub access_expr : HasForm e.access_expr f.Access
  pub named_access_expr : HasForm e.named_access_expr f.NamedAccess
  pub postfix_expr : HasForm e.postfix_expr f.Postfix
  pub expression : HasForm e.expression f.Expr
  pub variant_case : HasForm d.variant_case g.VariantCase
  pub variant_decl : HasForm d.variant_decl g.VariantDecl
  pub field : HasForm d.field g.Field
  pub record_decl : HasForm d.record_decl g.RecordDecl
  pub flag : HasForm d.flag g.Flag
  pub flags_decl : HasForm d.flags_decl g.FlagsDecl
  pub enum_case : HasForm d.enum_case g.EnumCase
  pub enum_decl : HasForm d.enum_decl g.EnumDecl
  pub type_alias_kind : HasForm d.type_alias_kind g.TypeAliasKind
  pub type_alias : HasForm d.type_alias g.TypeAlias
  pub constructor : HasForm d.constructor g.Constructor
  pub method : HasForm d.method g.Method
  pub resource_method : HasForm d.resource_method g.ResourceMethod
  pub resource_decl : HasForm d.resource_decl g.ResourceDecl
  pub type_decl : HasForm d.type_decl g.TypeDecl
  pub item_type_decl : HasForm d.item_type_decl g.ItemTypeDecl
  pub use_path : HasForm w.use_path g.UsePath
  pub use_item : HasForm w.use_item g.UseItem
  pub use_types : HasForm w.use_types g.Use
  pub interface_export : HasForm w.interface_export g.InterfaceExport
  pub interface_item : HasForm w.interface_item g.InterfaceItem
  pub interface_decl : HasForm w.interface_decl g.InterfaceDecl
  pub inline_interface : HasForm w.inline_interface g.InlineInterface
  pub extern_type : HasForm w.extern_type g.ExternType
  pub named_world_item : HasForm w.named_world_item g.NamedWorldItem
  pub world_item_path : HasForm w.world_item_path g.WorldItemPath
  pub world_import : HasForm w.world_import g.WorldImport
  pub world_export : HasForm w.world_export g.WorldExport
  pub world_ref : HasForm w.world_ref g.WorldRef
  pub world_include_item : HasForm w.world_include_item g.IncludeItem
  pub world_include : HasForm w.world_include g.WorldInclude
  pub world_item : HasForm w.world_item g.WorldItem
  pub world_decl : HasForm w.world_decl g.WorldDecl
  pub extern_name : HasForm s.extern_name g.ExternName
  pub import_type : HasForm s.import_type g.ImportType
  pub import_statement : HasForm s.import_statement g.ImportStatement
  pub let_statement : HasForm s.let_statement g.LetStatement
  pub export_options : HasForm s.export_options g.ExportOptions
  pub export_statement : HasForm s.export_statement g.ExportStatement
  pub type_statement : HasForm s.type_statement g.TypeStatement
  pub statement : HasForm s.statement g.Statement
  pub package_directive : HasForm s.package_directive g.PackageDirective
  pub document : HasForm s.document g.Document
  pub new_expr : (depth : ℕ) → HasForm (e.new_expr (e.expr depth)) f.New
  pub nested_expr : (depth : ℕ) → HasForm (e.nested_expr (e.expr depth)) f.Nested
  pub primary_expr : (depth : ℕ) → HasForm (e.primary_expr (e.expr depth)) f.Primary
  pub named_argument : (depth : ℕ) → HasForm (e.named_argument (e.expr depth)) f.NamedArgument
  pub instantiation_argument : (depth : ℕ) → HasForm (e.instantiation_argument (e.expr depth)) f.Argument

-- a source that the rules take as a document is that document by the forms
abbrev pub DocumentsHaveForms : Type 0
DocumentsHaveForms = (d : t.Document) (source : List ℕ) → IsDocument d source → g.IsDocumentOf d source
