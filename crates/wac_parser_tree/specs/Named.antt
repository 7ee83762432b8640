-- The packages that a document names, in the order in which it names them: in paths, in each `new`, in the target.
use Rattle.std.specs.Prelude.{ℕ, List, [], ◌∷◌, ◌++◌, Option, Some, None}
use Rattle.std.specs.List.{flat_map}
use Rattle.wac_parser_tree.specs.Trees as t
use Rattle.wac_parser_tree.specs.Trees.{Version}

-- a package's name and version
abbrev pub Named : Type 0
Named = List ℕ × Option Version

abbrev pub in_path : t.PackagePath → List Named
in_path p = (p.name, p.version) ∷ []

-- ---- declarations

abbrev pub in_use_path : t.UsePath → List Named
in_use_path (t.UsePath.package_path p) = in_path p
in_use_path (t.UsePath.ident i) = []

abbrev pub in_interface_item : t.InterfaceItem → List Named
in_interface_item (t.InterfaceItem.use_ u) = in_use_path u.path
in_interface_item (t.InterfaceItem.ty d) = []
in_interface_item (t.InterfaceItem.export e) = []

abbrev pub in_interface : List t.InterfaceItem → List Named
in_interface xs = flat_map in_interface_item xs

abbrev pub in_extern_type : t.ExternType → List Named
in_extern_type (t.ExternType.ident i) = []
in_extern_type (t.ExternType.func f) = []
in_extern_type (t.ExternType.interface d) = in_interface d.items

abbrev pub in_item_path : t.WorldItemPath → List Named
in_item_path (t.WorldItemPath.named i) = in_extern_type i.ty
in_item_path (t.WorldItemPath.package_path p) = in_path p
in_item_path (t.WorldItemPath.ident i) = []

abbrev pub in_world_ref : t.WorldRef → List Named
in_world_ref (t.WorldRef.ident i) = []
in_world_ref (t.WorldRef.package_path p) = in_path p

abbrev pub in_world_item : t.WorldItem → List Named
in_world_item (t.WorldItem.use_ u) = in_use_path u.path
in_world_item (t.WorldItem.ty d) = []
in_world_item (t.WorldItem.import i) = in_item_path i.path
in_world_item (t.WorldItem.export e) = in_item_path e.path
in_world_item (t.WorldItem.include i) = in_world_ref i.world

abbrev pub in_type_statement : t.TypeStatement → List Named
in_type_statement (t.TypeStatement.interface d) = in_interface d.items
in_type_statement (t.TypeStatement.world d) = flat_map in_world_item d.items
in_type_statement (t.TypeStatement.ty d) = []

-- ---- expressions

-- what each `new` gives, by its package and the version track that it may name
module _ {X : Type 0} (named : t.PackageName → Option (List ℕ) → List X) where
  abbrev mutual
    pub from_expr : t.Expr → List X
    from_expr (t.expr s p ps) = from_primary p

    pub from_primary : t.PrimaryExpr → List X
    from_primary (t.PrimaryExpr.new x) = from_new x
    from_primary (t.PrimaryExpr.nested x) = from_nested x
    from_primary (t.PrimaryExpr.ident i) = []

    pub from_new : t.NewExpr → List X
    from_new (t.new_expr s p track as_) = named p track ++ from_arguments as_

    pub from_nested : t.NestedExpr → List X
    from_nested (t.nested_expr s e) = from_expr e

    pub from_arguments : t.Arguments → List X
    from_arguments t.no_arguments = []
    from_arguments (t.argument a as_) = from_argument a ++ from_arguments as_

    pub from_argument : t.InstantiationArgument → List X
    from_argument (t.InstantiationArgument.inferred i) = []
    from_argument (t.InstantiationArgument.spread i) = []
    from_argument (t.InstantiationArgument.named a) = from_named_argument a
    from_argument (t.InstantiationArgument.fill s) = []

    pub from_named_argument : t.NamedInstantiationArgument → List X
    from_named_argument (t.named_argument n e) = from_expr e

-- a `new` that names a track names no version
abbrev pub in_new : t.PackageName → Option (List ℕ) → List Named
in_new p None = (p.name, p.version) ∷ []
in_new p (Some track) = []

abbrev pub in_expr : t.Expr → List Named
in_expr e = from_expr in_new e

-- ---- documents

abbrev pub in_import_type : t.ImportType → List Named
in_import_type (t.ImportType.package_path p) = in_path p
in_import_type (t.ImportType.func f) = []
in_import_type (t.ImportType.interface d) = in_interface d.items
in_import_type (t.ImportType.ident i) = []

abbrev pub in_statement : t.Statement → List Named
in_statement (t.Statement.import x) = in_import_type x.ty
in_statement (t.Statement.ty x) = in_type_statement x
in_statement (t.Statement.let_ x) = in_expr x.expr
in_statement (t.Statement.export x) = in_expr x.expr

abbrev pub in_target : Option t.PackagePath → List Named
in_target None = []
in_target (Some p) = in_path p

abbrev pub packages_named : t.Document → List Named
packages_named d = flat_map in_statement d.statements ++ in_target d.directive.targets

-- ---- version tracks

-- a package's name and a track of its versions
abbrev pub Tracked : Type 0
Tracked = List ℕ × List ℕ

abbrev pub track_in_new : t.PackageName → Option (List ℕ) → List Tracked
track_in_new p None = []
track_in_new p (Some track) = (p.name, track) ∷ []

abbrev pub tracks_in_statement : t.Statement → List Tracked
tracks_in_statement (t.Statement.import x) = []
tracks_in_statement (t.Statement.ty x) = []
tracks_in_statement (t.Statement.let_ x) = from_expr track_in_new x.expr
tracks_in_statement (t.Statement.export x) = from_expr track_in_new x.expr

-- the tracks that a document names, in the order in which it does
abbrev pub tracks_named : t.Document → List Tracked
tracks_named d = flat_map tracks_in_statement d.statements
