-- Which arguments are taken when.
use Rattle.wac_parser_tree.specs.declared.expr.InstantiationArgument.{InstantiationArgument}

-- a spread is taken behind all others, and `...` passes nothing
abbrev pub IsTakenLater : InstantiationArgument → Type 0
IsTakenLater (InstantiationArgument.Spread id) = Unit {0}
IsTakenLater (InstantiationArgument.Fill span) = Unit {0}
IsTakenLater argument = ⊥
