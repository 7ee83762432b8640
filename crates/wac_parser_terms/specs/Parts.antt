-- Rules for the parts of types, functions and expressions, and what the depth refuses.
use Rattle.std.specs.Prelude.{ℕ, true, if◌then◌else◌, List, [], ◌∷◌}
use Rattle.wac_parser_lexer.specs.declared.span.SourceSpan.{SourceSpan}
use Rattle.wac_parser_lexer.specs.declared.token.Token.{Token}
use Rattle.wac_parser_lexer.specs.declared.token.Token.TheVariants as k
use Rattle.wac_parser_lexer.specs.Items.{Input}
use Rattle.wac_parser_tree.specs.declared.expr.InstantiationArgumentName.{InstantiationArgumentName}
use Rattle.wac_parser_tree.specs.Trees as t
use Rattle.wac_parser_tree.specs.Views.{view_instantiation_argument_name}
use Rattle.wac_parser_grammar.specs.Ahead.{none_of, sees_any}
use Rattle.wac_parser_grammar.specs.Expressions.{argument_first, argument_value, expr, instantiation_argument, postfix_expr, postfix_first}
use Rattle.wac_parser_grammar.specs.Faults.{Fault, nested_too_deep}
use Rattle.wac_parser_grammar.specs.Rules.{Rule, list_of, span_of_items, while_of}
use Rattle.wac_parser_grammar.specs.ValueTypes.{named_type, payload, ty, type_first, value_type}

-- the fault where nothing may begin, since the depth is spent
abbrev pub too_deep : List Token → Input → Fault
too_deep first s = if sees_any first s then nested_too_deep (span_of_items s.items) else none_of first s

-- ---- types

-- those of a tuple, each nested no deeper than the number
abbrev pub types : ℕ → Rule (List t.Ty)
types inside = list_of (ty inside) type_first k.CloseAngle true

-- the payload of a type whose keyword is the next item
abbrev pub payload_at : Input → Rule (t.MaybeTy × SourceSpan)
payload_at s = payload value_type (span_of_items s.items)

abbrev pub params : Rule (List t.NamedType)
params = list_of named_type (k.Ident ∷ []) k.CloseParen true

-- ---- expressions, each nested no deeper than the number

abbrev pub argument : ℕ → Rule t.InstantiationArgument
argument inside = instantiation_argument (expr inside)

abbrev pub arguments : ℕ → Rule (List t.InstantiationArgument)
arguments inside = list_of (argument inside) argument_first k.CloseBrace true

-- the colon and the expression behind the name of an argument
abbrev pub value_behind : InstantiationArgumentName → ℕ → Rule t.NamedInstantiationArgument
value_behind name inside = argument_value (expr inside) (view_instantiation_argument_name name)

abbrev pub accesses : Rule (List t.PostfixExpr)
accesses = while_of postfix_expr postfix_first
