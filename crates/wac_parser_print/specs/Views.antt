-- What lists of types and of arguments say, and what a type says that may be absent.
use Rattle.std.specs.Prelude.{List, map, Option}
use Rattle.std.specs.Option.{option_map}
use Rattle.std.specs.declared.alloc.Global.{Global}
use Rattle.std.specs.declared.boxed.Box.{Box}
use Rattle.wac_parser_tree.specs.Trees as t
use Rattle.wac_parser_tree.specs.Views.{view_boxed_ty, view_instantiation_argument, view_ty}
use Rattle.wac_parser_tree.specs.declared.expr.InstantiationArgument.{InstantiationArgument}
use Rattle.wac_parser_tree.specs.declared.value_type.«Type».{«Type»}

abbrev pub view_tys : List «Type» → t.Tys
view_tys xs = t.tys (map view_ty xs)

abbrev pub view_maybe_ty : Option (Box «Type» Global) → t.MaybeTy
view_maybe_ty x = t.maybe_ty (option_map view_boxed_ty x)

abbrev pub view_arguments : List InstantiationArgument → t.Arguments
view_arguments xs = t.arguments (map view_instantiation_argument xs)
