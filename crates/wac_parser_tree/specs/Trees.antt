-- A document as plain data, with no place in memory: texts are lists of bytes, spans stand as they are.
use Rattle.std.specs.Prelude.{ℕ, List, [], ◌∷◌, Option, Some, None, Bool}
use Rattle.wac_parser_lexer.specs.declared.span.SourceSpan.{SourceSpan}

abbrev pub Span : Type 0
Span = SourceSpan

-- major, minor and patch number, pre-release and build metadata
abbrev pub Version : Type 0
Version = ℕ × ℕ × ℕ × List ℕ × List ℕ

-- a name without its `%`
pub record Ident : Type 0 where
  pub string : List ℕ
  pub span : Span

-- the text between the quotes
pub record StringLiteral : Type 0 where
  pub value : List ℕ
  pub span : Span

-- the trimmed text, and where the whole comment stands
pub record DocComment : Type 0 where
  pub comment : List ℕ
  pub span : Span

-- the whole name, the name without its version, and the version
pub record PackageName : Type 0 where
  pub string : List ℕ
  pub name : List ℕ
  pub version : Option Version
  pub span : Span

-- the whole path, the name of its package, the segments behind, and the version
pub record PackagePath : Type 0 where
  pub span : Span
  pub string : List ℕ
  pub name : List ℕ
  pub segments : List ℕ
  pub version : Option Version

-- the outer name of an import or an export
pub data ExternName : Type 0 where
  ident : Ident → ExternName
  string : StringLiteral → ExternName

-- the type of a value
mutual
  pub data Ty : Type 0 where
    u8 : Span → Ty
    s8 : Span → Ty
    u16 : Span → Ty
    s16 : Span → Ty
    u32 : Span → Ty
    s32 : Span → Ty
    u64 : Span → Ty
    s64 : Span → Ty
    f32 : Span → Ty
    f64 : Span → Ty
    char : Span → Ty
    bool : Span → Ty
    string : Span → Ty
    tuple : Tys → Span → Ty
    list : Ty → Span → Ty
    option : Ty → Span → Ty
    -- of a success, and of a failure
    result : MaybeTy → MaybeTy → Span → Ty
    borrow : Ident → Span → Ty
    stream : MaybeTy → Span → Ty
    future : MaybeTy → Span → Ty
    error_context : Span → Ty
    ident : Ident → Ty

  pub data Tys : Type 0 where
    no_more : Tys
    more : Ty → Tys → Tys

  pub data MaybeTy : Type 0 where
    no_ty : MaybeTy
    some_ty : Ty → MaybeTy

abbrev pub tys : List Ty → Tys
tys [] = no_more
tys (x ∷ xs) = more x (tys xs)

abbrev pub maybe_ty : Option Ty → MaybeTy
maybe_ty None = no_ty
maybe_ty (Some x) = some_ty x

pub record NamedType : Type 0 where
  pub id : Ident
  pub ty : Ty

-- what a function returns
pub data ResultList : Type 0 where
  empty : ResultList
  scalar : Ty → ResultList

pub record FuncType : Type 0 where
  pub is_async : Bool
  pub params : List NamedType
  pub results : ResultList

pub data FuncTypeRef : Type 0 where
  func : FuncType → FuncTypeRef
  ident : Ident → FuncTypeRef

pub record VariantCase : Type 0 where
  pub docs : List DocComment
  pub id : Ident
  pub ty : Option Ty

pub record VariantDecl : Type 0 where
  pub docs : List DocComment
  pub id : Ident
  pub cases : List VariantCase

pub record Field : Type 0 where
  pub docs : List DocComment
  pub id : Ident
  pub ty : Ty

pub record RecordDecl : Type 0 where
  pub docs : List DocComment
  pub id : Ident
  pub fields : List Field

pub record Flag : Type 0 where
  pub docs : List DocComment
  pub id : Ident

pub record FlagsDecl : Type 0 where
  pub docs : List DocComment
  pub id : Ident
  pub flags : List Flag

pub record EnumCase : Type 0 where
  pub docs : List DocComment
  pub id : Ident

pub record EnumDecl : Type 0 where
  pub docs : List DocComment
  pub id : Ident
  pub cases : List EnumCase

pub data TypeAliasKind : Type 0 where
  func : FuncType → TypeAliasKind
  ty : Ty → TypeAliasKind

pub record TypeAlias : Type 0 where
  pub docs : List DocComment
  pub id : Ident
  pub kind : TypeAliasKind

-- the span is the word's
pub record Constructor : Type 0 where
  pub docs : List DocComment
  pub span : Span
  pub params : List NamedType

pub record Method : Type 0 where
  pub docs : List DocComment
  pub id : Ident
  pub is_static : Bool
  pub ty : FuncType

pub data ResourceMethod : Type 0 where
  constructor : Constructor → ResourceMethod
  method : Method → ResourceMethod

pub record ResourceDecl : Type 0 where
  pub docs : List DocComment
  pub id : Ident
  pub methods : List ResourceMethod

pub data TypeDecl : Type 0 where
  variant : VariantDecl → TypeDecl
  record_ : RecordDecl → TypeDecl
  flags : FlagsDecl → TypeDecl
  enum : EnumDecl → TypeDecl
  alias : TypeAlias → TypeDecl

pub data ItemTypeDecl : Type 0 where
  resource : ResourceDecl → ItemTypeDecl
  variant : VariantDecl → ItemTypeDecl
  record_ : RecordDecl → ItemTypeDecl
  flags : FlagsDecl → ItemTypeDecl
  enum : EnumDecl → ItemTypeDecl
  alias : TypeAlias → ItemTypeDecl

pub data UsePath : Type 0 where
  package_path : PackagePath → UsePath
  ident : Ident → UsePath

pub record UseItem : Type 0 where
  pub id : Ident
  pub as_id : Option Ident

pub record Use : Type 0 where
  pub docs : List DocComment
  pub path : UsePath
  pub items : List UseItem

pub record InterfaceExport : Type 0 where
  pub docs : List DocComment
  pub id : Ident
  pub ty : FuncTypeRef

pub data InterfaceItem : Type 0 where
  use_ : Use → InterfaceItem
  ty : ItemTypeDecl → InterfaceItem
  export : InterfaceExport → InterfaceItem

pub record InterfaceDecl : Type 0 where
  pub docs : List DocComment
  pub id : Ident
  pub items : List InterfaceItem

pub record InlineInterface : Type 0 where
  pub items : List InterfaceItem

pub data ExternType : Type 0 where
  ident : Ident → ExternType
  func : FuncType → ExternType
  interface : InlineInterface → ExternType

pub record NamedWorldItem : Type 0 where
  pub id : Ident
  pub ty : ExternType

pub data WorldItemPath : Type 0 where
  named : NamedWorldItem → WorldItemPath
  package_path : PackagePath → WorldItemPath
  ident : Ident → WorldItemPath

pub record WorldImport : Type 0 where
  pub docs : List DocComment
  pub path : WorldItemPath

pub record WorldExport : Type 0 where
  pub docs : List DocComment
  pub path : WorldItemPath

pub data WorldRef : Type 0 where
  ident : Ident → WorldRef
  package_path : PackagePath → WorldRef

pub record WorldIncludeItem : Type 0 where
  pub from : Ident
  pub to : Ident

pub record WorldInclude : Type 0 where
  pub docs : List DocComment
  pub world : WorldRef
  pub with : List WorldIncludeItem

pub data WorldItem : Type 0 where
  use_ : Use → WorldItem
  ty : ItemTypeDecl → WorldItem
  import : WorldImport → WorldItem
  export : WorldExport → WorldItem
  include : WorldInclude → WorldItem

pub record WorldDecl : Type 0 where
  pub docs : List DocComment
  pub id : Ident
  pub items : List WorldItem

-- the name of an argument
pub data InstantiationArgumentName : Type 0 where
  ident : Ident → InstantiationArgumentName
  string : StringLiteral → InstantiationArgumentName

pub record AccessExpr : Type 0 where
  pub span : Span
  pub id : Ident

pub record NamedAccessExpr : Type 0 where
  pub span : Span
  pub string : StringLiteral

pub data PostfixExpr : Type 0 where
  access : AccessExpr → PostfixExpr
  named_access : NamedAccessExpr → PostfixExpr

-- an expression, the parts in the order of the fields
mutual
  pub data Expr : Type 0 where
    expr : Span → PrimaryExpr → List PostfixExpr → Expr

  pub data PrimaryExpr : Type 0 where
    new : NewExpr → PrimaryExpr
    nested : NestedExpr → PrimaryExpr
    ident : Ident → PrimaryExpr

  pub data NewExpr : Type 0 where
    new_expr : Span → PackageName → Option (List ℕ) → Arguments → NewExpr

  pub data InstantiationArgument : Type 0 where
    inferred : Ident → InstantiationArgument
    spread : Ident → InstantiationArgument
    named : NamedInstantiationArgument → InstantiationArgument
    fill : Span → InstantiationArgument

  pub data NamedInstantiationArgument : Type 0 where
    named_argument : InstantiationArgumentName → Expr → NamedInstantiationArgument

  pub data NestedExpr : Type 0 where
    nested_expr : Span → Expr → NestedExpr

  pub data Arguments : Type 0 where
    no_arguments : Arguments
    argument : InstantiationArgument → Arguments → Arguments

abbrev pub arguments : List InstantiationArgument → Arguments
arguments [] = no_arguments
arguments (x ∷ xs) = argument x (arguments xs)

pub data ImportType : Type 0 where
  package_path : PackagePath → ImportType
  func : FuncType → ImportType
  interface : InlineInterface → ImportType
  ident : Ident → ImportType

pub record ImportStatement : Type 0 where
  pub docs : List DocComment
  pub id : Ident
  pub name : Option ExternName
  pub ty : ImportType

pub record LetStatement : Type 0 where
  pub docs : List DocComment
  pub id : Ident
  pub expr : Expr

pub data ExportOptions : Type 0 where
  none : ExportOptions
  spread : Span → ExportOptions
  rename : ExternName → ExportOptions

pub record ExportStatement : Type 0 where
  pub docs : List DocComment
  pub expr : Expr
  pub options : ExportOptions

pub data TypeStatement : Type 0 where
  interface : InterfaceDecl → TypeStatement
  world : WorldDecl → TypeStatement
  ty : TypeDecl → TypeStatement

pub data Statement : Type 0 where
  import : ImportStatement → Statement
  ty : TypeStatement → Statement
  let_ : LetStatement → Statement
  export : ExportStatement → Statement

pub record PackageDirective : Type 0 where
  pub «package» : PackageName
  pub targets : Option PackagePath

pub record Document : Type 0 where
  pub docs : List DocComment
  pub directive : PackageDirective
  pub statements : List Statement
