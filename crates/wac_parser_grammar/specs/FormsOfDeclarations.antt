-- The forms of declarations, statements and documents.
use Rattle.std.specs.Prelude.{◌≡◌, ℕ, List, [], ◌∷◌, Option, Some, None}
use Rattle.wac_parser_lexer.specs.declared.token.Token.TheVariants as k
use Rattle.wac_parser_lexer.specs.Items.{Input, input_of}
use Rattle.wac_parser_lexer.specs.Refused.{first_refused}
use Rattle.wac_parser_tree.specs.Trees as t
use Rattle.wac_parser_grammar.specs.Forms.{Part, Nothing, Never, ◌or◌, At, Word, ◌⨾◌, Marked, Row, OneOrMore, Separated, Braces, Behind, Docs, Ident, Quoted, PackageName, PackagePath, Ty, Parameters, FuncType, FuncTypeRef, Expr}

-- ---- resources

abbrev pub Constructor : t.Constructor → Part
Constructor x = Docs x.docs ⨾ At k.ConstructorKeyword x.span ⨾ Parameters x.params ⨾ Word k.Semicolon

abbrev pub Method : t.Method → Part
Method x = Docs x.docs ⨾ Ident x.id ⨾ Word k.Colon ⨾ Marked k.StaticKeyword x.is_static ⨾ FuncType x.ty ⨾ Word k.Semicolon

abbrev pub ResourceMethod : t.ResourceMethod → Part
ResourceMethod (t.ResourceMethod.constructor x) = Constructor x
ResourceMethod (t.ResourceMethod.method x) = Method x

abbrev pub Bodiless : List t.ResourceMethod → Part
Bodiless [] = Word k.Semicolon
Bodiless (x ∷ xs) = Never

-- a semicolon stands for no methods
abbrev pub Methods : List t.ResourceMethod → Part
Methods methods = Bodiless methods or Braces (Row ResourceMethod methods)

abbrev pub ResourceDecl : t.ResourceDecl → Part
ResourceDecl x = Docs x.docs ⨾ Word k.ResourceKeyword ⨾ Ident x.id ⨾ Methods x.methods

-- ---- declarations of types

abbrev pub Case : Option t.Ty → Part
Case None = Nothing
Case (Some ty) = Word k.OpenParen ⨾ Ty ty ⨾ Word k.CloseParen

abbrev pub VariantCase : t.VariantCase → Part
VariantCase x = Docs x.docs ⨾ Ident x.id ⨾ Case x.ty

abbrev pub VariantDecl : t.VariantDecl → Part
VariantDecl x = Docs x.docs ⨾ Word k.VariantKeyword ⨾ Ident x.id ⨾ Braces (OneOrMore VariantCase x.cases)

abbrev pub Field : t.Field → Part
Field x = Docs x.docs ⨾ Ident x.id ⨾ Word k.Colon ⨾ Ty x.ty

abbrev pub RecordDecl : t.RecordDecl → Part
RecordDecl x = Docs x.docs ⨾ Word k.RecordKeyword ⨾ Ident x.id ⨾ Braces (OneOrMore Field x.fields)

abbrev pub Flag : t.Flag → Part
Flag x = Docs x.docs ⨾ Ident x.id

abbrev pub FlagsDecl : t.FlagsDecl → Part
FlagsDecl x = Docs x.docs ⨾ Word k.FlagsKeyword ⨾ Ident x.id ⨾ Braces (OneOrMore Flag x.flags)

abbrev pub EnumCase : t.EnumCase → Part
EnumCase x = Docs x.docs ⨾ Ident x.id

abbrev pub EnumDecl : t.EnumDecl → Part
EnumDecl x = Docs x.docs ⨾ Word k.EnumKeyword ⨾ Ident x.id ⨾ Braces (OneOrMore EnumCase x.cases)

abbrev pub TypeAliasKind : t.TypeAliasKind → Part
TypeAliasKind (t.TypeAliasKind.func x) = FuncType x
TypeAliasKind (t.TypeAliasKind.ty x) = Ty x

abbrev pub TypeAlias : t.TypeAlias → Part
TypeAlias x = Docs x.docs ⨾ Word k.TypeKeyword ⨾ Ident x.id ⨾ Word k.Equals ⨾ TypeAliasKind x.kind ⨾ Word k.Semicolon

abbrev pub TypeDecl : t.TypeDecl → Part
TypeDecl (t.TypeDecl.variant x) = VariantDecl x
TypeDecl (t.TypeDecl.record_ x) = RecordDecl x
TypeDecl (t.TypeDecl.flags x) = FlagsDecl x
TypeDecl (t.TypeDecl.enum x) = EnumDecl x
TypeDecl (t.TypeDecl.alias x) = TypeAlias x

abbrev pub ItemTypeDecl : t.ItemTypeDecl → Part
ItemTypeDecl (t.ItemTypeDecl.resource x) = ResourceDecl x
ItemTypeDecl (t.ItemTypeDecl.variant x) = VariantDecl x
ItemTypeDecl (t.ItemTypeDecl.record_ x) = RecordDecl x
ItemTypeDecl (t.ItemTypeDecl.flags x) = FlagsDecl x
ItemTypeDecl (t.ItemTypeDecl.enum x) = EnumDecl x
ItemTypeDecl (t.ItemTypeDecl.alias x) = TypeAlias x

-- ---- interfaces

abbrev pub UsePath : t.UsePath → Part
UsePath (t.UsePath.package_path x) = PackagePath x
UsePath (t.UsePath.ident id) = Ident id

abbrev pub UseItem : t.UseItem → Part
UseItem x = Ident x.id ⨾ Behind k.AsKeyword Ident x.as_id

abbrev pub Use : t.Use → Part
Use x = Docs x.docs ⨾ Word k.UseKeyword ⨾ UsePath x.path ⨾ Word k.Dot ⨾ Braces (Separated UseItem x.items) ⨾ Word k.Semicolon

abbrev pub InterfaceExport : t.InterfaceExport → Part
InterfaceExport x = Docs x.docs ⨾ Ident x.id ⨾ Word k.Colon ⨾ FuncTypeRef x.ty ⨾ Word k.Semicolon

abbrev pub InterfaceItem : t.InterfaceItem → Part
InterfaceItem (t.InterfaceItem.use_ x) = Use x
InterfaceItem (t.InterfaceItem.ty x) = ItemTypeDecl x
InterfaceItem (t.InterfaceItem.export x) = InterfaceExport x

abbrev pub InterfaceDecl : t.InterfaceDecl → Part
InterfaceDecl x = Docs x.docs ⨾ Word k.InterfaceKeyword ⨾ Ident x.id ⨾ Braces (Row InterfaceItem x.items)

abbrev pub InlineInterface : t.InlineInterface → Part
InlineInterface x = Word k.InterfaceKeyword ⨾ Braces (Row InterfaceItem x.items)

-- ---- worlds

abbrev pub ExternType : t.ExternType → Part
ExternType (t.ExternType.ident id) = Ident id
ExternType (t.ExternType.func x) = FuncType x
ExternType (t.ExternType.interface x) = InlineInterface x

abbrev pub NamedWorldItem : t.NamedWorldItem → Part
NamedWorldItem x = Ident x.id ⨾ Word k.Colon ⨾ ExternType x.ty

abbrev pub WorldItemPath : t.WorldItemPath → Part
WorldItemPath (t.WorldItemPath.named x) = NamedWorldItem x
WorldItemPath (t.WorldItemPath.package_path x) = PackagePath x
WorldItemPath (t.WorldItemPath.ident id) = Ident id

abbrev pub WorldImport : t.WorldImport → Part
WorldImport x = Docs x.docs ⨾ Word k.ImportKeyword ⨾ WorldItemPath x.path ⨾ Word k.Semicolon

abbrev pub WorldExport : t.WorldExport → Part
WorldExport x = Docs x.docs ⨾ Word k.ExportKeyword ⨾ WorldItemPath x.path ⨾ Word k.Semicolon

abbrev pub WorldRef : t.WorldRef → Part
WorldRef (t.WorldRef.ident id) = Ident id
WorldRef (t.WorldRef.package_path x) = PackagePath x

abbrev pub IncludeItem : t.WorldIncludeItem → Part
IncludeItem x = Ident x.from ⨾ Word k.AsKeyword ⨾ Ident x.to

abbrev pub Unnamed : List t.WorldIncludeItem → Part
Unnamed [] = Nothing
Unnamed (x ∷ xs) = Never

-- without names the braces may be left out
abbrev pub With : List t.WorldIncludeItem → Part
With items = Unnamed items or Word k.WithKeyword ⨾ Braces (Separated IncludeItem items)

abbrev pub WorldInclude : t.WorldInclude → Part
WorldInclude x = Docs x.docs ⨾ Word k.IncludeKeyword ⨾ WorldRef x.world ⨾ With x.with ⨾ Word k.Semicolon

abbrev pub WorldItem : t.WorldItem → Part
WorldItem (t.WorldItem.use_ x) = Use x
WorldItem (t.WorldItem.ty x) = ItemTypeDecl x
WorldItem (t.WorldItem.import x) = WorldImport x
WorldItem (t.WorldItem.export x) = WorldExport x
WorldItem (t.WorldItem.include x) = WorldInclude x

abbrev pub WorldDecl : t.WorldDecl → Part
WorldDecl x = Docs x.docs ⨾ Word k.WorldKeyword ⨾ Ident x.id ⨾ Braces (Row WorldItem x.items)

-- ---- documents

abbrev pub ExternName : t.ExternName → Part
ExternName (t.ExternName.ident id) = Ident id
ExternName (t.ExternName.string x) = Quoted x

abbrev pub ImportType : t.ImportType → Part
ImportType (t.ImportType.package_path path) = PackagePath path
ImportType (t.ImportType.func x) = FuncType x
ImportType (t.ImportType.interface x) = InlineInterface x
ImportType (t.ImportType.ident id) = Ident id

abbrev pub ImportStatement : t.ImportStatement → Part
ImportStatement x = Docs x.docs ⨾ Word k.ImportKeyword ⨾ Ident x.id ⨾ Behind k.AsKeyword ExternName x.name ⨾ Word k.Colon
    ⨾ ImportType x.ty ⨾ Word k.Semicolon

abbrev pub LetStatement : t.LetStatement → Part
LetStatement x = Docs x.docs ⨾ Word k.LetKeyword ⨾ Ident x.id ⨾ Word k.Equals ⨾ Expr x.expr ⨾ Word k.Semicolon

abbrev pub ExportOptions : t.ExportOptions → Part
ExportOptions t.ExportOptions.none = Nothing
ExportOptions (t.ExportOptions.spread span) = At k.Ellipsis span
ExportOptions (t.ExportOptions.rename name) = Word k.AsKeyword ⨾ ExternName name

abbrev pub ExportStatement : t.ExportStatement → Part
ExportStatement x = Docs x.docs ⨾ Word k.ExportKeyword ⨾ Expr x.expr ⨾ ExportOptions x.options ⨾ Word k.Semicolon

abbrev pub TypeStatement : t.TypeStatement → Part
TypeStatement (t.TypeStatement.interface x) = InterfaceDecl x
TypeStatement (t.TypeStatement.world x) = WorldDecl x
TypeStatement (t.TypeStatement.ty x) = TypeDecl x

abbrev pub Statement : t.Statement → Part
Statement (t.Statement.import x) = ImportStatement x
Statement (t.Statement.ty x) = TypeStatement x
Statement (t.Statement.let_ x) = LetStatement x
Statement (t.Statement.export x) = ExportStatement x

abbrev pub PackageDirective : t.PackageDirective → Part
PackageDirective x =
    Word k.PackageKeyword ⨾ PackageName x.«package» ⨾ Behind k.TargetsKeyword PackagePath x.targets ⨾ Word k.Semicolon

abbrev pub Document : t.Document → Part
Document x = Docs x.docs ⨾ PackageDirective x.directive ⨾ Row Statement x.statements

-- The source is the document: no character of it is refused, and its items are those of the document, up to the end.
abbrev pub IsDocumentOf : t.Document → List ℕ → Type 0
IsDocumentOf x source = (first_refused source ≡ None) × (end : Input) × (end.items ≡ []) × Document x (input_of source) end
