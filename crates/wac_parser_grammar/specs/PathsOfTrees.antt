-- What holds of each name and path of a package that a tree holds, of a name with the version track beside it.
use Rattle.std.specs.Prelude.{ℕ, List, Option, None, IfSome}
use Rattle.std.specs.List.{All}
use Rattle.wac_parser_tree.specs.Trees as t

-- ---- each name

module _ (Holds : t.PackageName → Option (List ℕ) → Type 0) where
  -- of an expression
  abbrev mutual
    pub EachInExpr : t.Expr → Type 0
    EachInExpr (t.Expr.expr span first accesses) = EachInPrimary first

    pub EachInPrimary : t.PrimaryExpr → Type 0
    EachInPrimary (t.PrimaryExpr.new x) = EachInNew x
    EachInPrimary (t.PrimaryExpr.nested x) = EachInNested x
    EachInPrimary (t.PrimaryExpr.ident id) = Unit {0}

    pub EachInNew : t.NewExpr → Type 0
    EachInNew (t.NewExpr.new_expr span name track arguments) = Holds name track × EachInArguments arguments

    pub EachInArgument : t.InstantiationArgument → Type 0
    EachInArgument (t.InstantiationArgument.named x) = EachInNamed x
    EachInArgument (t.InstantiationArgument.inferred id) = Unit {0}
    EachInArgument (t.InstantiationArgument.spread id) = Unit {0}
    EachInArgument (t.InstantiationArgument.fill span) = Unit {0}

    pub EachInNamed : t.NamedInstantiationArgument → Type 0
    EachInNamed (t.NamedInstantiationArgument.named_argument name value) = EachInExpr value

    pub EachInNested : t.NestedExpr → Type 0
    EachInNested (t.NestedExpr.nested_expr span inner) = EachInExpr inner

    pub EachInArguments : t.Arguments → Type 0
    EachInArguments t.Arguments.no_arguments = Unit {0}
    EachInArguments (t.Arguments.argument x xs) = EachInArgument x × EachInArguments xs

-- ---- each path

module _ (Holds : t.PackagePath → Type 0) where
  abbrev pub EachInUsePath : t.UsePath → Type 0
  EachInUsePath (t.UsePath.package_path p) = Holds p
  EachInUsePath (t.UsePath.ident id) = Unit {0}

  abbrev pub EachInInterfaceItem : t.InterfaceItem → Type 0
  EachInInterfaceItem (t.InterfaceItem.use_ x) = EachInUsePath x.path
  EachInInterfaceItem (t.InterfaceItem.ty x) = Unit {0}
  EachInInterfaceItem (t.InterfaceItem.export x) = Unit {0}

  abbrev pub EachInExternType : t.ExternType → Type 0
  EachInExternType (t.ExternType.interface x) = All EachInInterfaceItem x.items
  EachInExternType (t.ExternType.ident id) = Unit {0}
  EachInExternType (t.ExternType.func f) = Unit {0}

  abbrev pub EachInItemPath : t.WorldItemPath → Type 0
  EachInItemPath (t.WorldItemPath.named x) = EachInExternType x.ty
  EachInItemPath (t.WorldItemPath.package_path p) = Holds p
  EachInItemPath (t.WorldItemPath.ident id) = Unit {0}

  abbrev pub EachInWorldRef : t.WorldRef → Type 0
  EachInWorldRef (t.WorldRef.package_path p) = Holds p
  EachInWorldRef (t.WorldRef.ident id) = Unit {0}

  abbrev pub EachInWorldItem : t.WorldItem → Type 0
  EachInWorldItem (t.WorldItem.use_ x) = EachInUsePath x.path
  EachInWorldItem (t.WorldItem.ty x) = Unit {0}
  EachInWorldItem (t.WorldItem.import x) = EachInItemPath x.path
  EachInWorldItem (t.WorldItem.export x) = EachInItemPath x.path
  EachInWorldItem (t.WorldItem.include x) = EachInWorldRef x.world

  abbrev pub EachInImportType : t.ImportType → Type 0
  EachInImportType (t.ImportType.package_path p) = Holds p
  EachInImportType (t.ImportType.interface x) = All EachInInterfaceItem x.items
  EachInImportType (t.ImportType.func f) = Unit {0}
  EachInImportType (t.ImportType.ident id) = Unit {0}

  abbrev pub EachInTypeStatement : t.TypeStatement → Type 0
  EachInTypeStatement (t.TypeStatement.interface x) = All EachInInterfaceItem x.items
  EachInTypeStatement (t.TypeStatement.world x) = All EachInWorldItem x.items
  EachInTypeStatement (t.TypeStatement.ty x) = Unit {0}

-- ---- each of both

module _ (Name : t.PackageName → Option (List ℕ) → Type 0) (Path : t.PackagePath → Type 0) where
  abbrev pub EachInStatement : t.Statement → Type 0
  EachInStatement (t.Statement.import x) = EachInImportType Path x.ty
  EachInStatement (t.Statement.ty x) = EachInTypeStatement Path x
  EachInStatement (t.Statement.let_ x) = EachInExpr Name x.expr
  EachInStatement (t.Statement.export x) = EachInExpr Name x.expr

  abbrev pub EachInDirective : t.PackageDirective → Type 0
  EachInDirective d = Name d.«package» None × IfSome d.targets Path

  abbrev pub EachInDocument : t.Document → Type 0
  EachInDocument d = EachInDirective d.directive × All EachInStatement d.statements
