-- What the expressions of the code's trees are as plain data, form by form.
use Rattle.std.proofs.Common.{◌≡◌, map, rules}
use Rattle.wac_parser_tree.specs.declared.text.Ident.{Ident}
use Rattle.wac_parser_tree.specs.declared.expr.Expr.{Expr}
use Rattle.wac_parser_tree.specs.declared.expr.NewExpr.{NewExpr}
use Rattle.wac_parser_tree.specs.declared.expr.NestedExpr.{NestedExpr, out-NestedExpr}
use Rattle.wac_parser_tree.specs.declared.expr.NamedInstantiationArgument.{NamedInstantiationArgument}
use Rattle.wac_parser_tree.specs.declared.expr.PrimaryExpr.{New, Nested, Ident as IdentExpr}
use Rattle.wac_parser_tree.specs.declared.expr.InstantiationArgument.{Inferred, Spread, Named, Fill, the_lemmas}
use Rattle.wac_parser_tree.specs.Trees as t
use Rattle.wac_parser_tree.specs.Trees.{Span}
use Rattle.wac_parser_resolve.specs.InInstances.{track_of}
use Rattle.wac_parser_tree.specs.Views.{view_expr, view_ident, view_instantiation_argument, view_instantiation_argument_name, view_named_instantiation_argument, view_nested_expr, view_new_expr, view_package_name, view_postfix_expr, view_primary_expr}

pub of_expr : (e : Expr) → view_expr e ≡ t.expr e.span (view_primary_expr e.primary) (map view_postfix_expr e.postfix.items)
of_expr e = search (rules, the_lemmas)

pub of_new : (n : NewExpr) → view_new_expr n ≡ t.new_expr n.span (view_package_name n.«package») (track_of n) (t.arguments (map view_instantiation_argument n.arguments.items))
of_new n = search (rules, the_lemmas)

pub of_nested : (n : NestedExpr) → view_nested_expr n ≡ t.nested_expr (out-NestedExpr n).span (view_expr (out-NestedExpr n).inner.value)
of_nested n = search (rules, the_lemmas)

pub of_named : (n : NamedInstantiationArgument) → view_named_instantiation_argument n ≡ t.named_argument (view_instantiation_argument_name n.name) (view_expr n.expr)
of_named n = search (rules, the_lemmas)

pub primary_new : (n : NewExpr) → view_primary_expr (New n) ≡ t.PrimaryExpr.new (view_new_expr n)
primary_new n = search (rules, the_lemmas)

pub primary_nested : (n : NestedExpr) → view_primary_expr (Nested n) ≡ t.PrimaryExpr.nested (view_nested_expr n)
primary_nested n = search (rules, the_lemmas)

pub primary_ident : (i : Ident) → view_primary_expr (IdentExpr i) ≡ t.PrimaryExpr.ident (view_ident i)
primary_ident i = search (rules, the_lemmas)

pub argument_inferred : (i : Ident) → view_instantiation_argument (Inferred i) ≡ t.InstantiationArgument.inferred (view_ident i)
argument_inferred i = search (rules, the_lemmas)

pub argument_spread : (i : Ident) → view_instantiation_argument (Spread i) ≡ t.InstantiationArgument.spread (view_ident i)
argument_spread i = search (rules, the_lemmas)

pub argument_named : (n : NamedInstantiationArgument) → view_instantiation_argument (Named n) ≡ t.InstantiationArgument.named (view_named_instantiation_argument n)
argument_named n = search (rules, the_lemmas)

pub argument_fill : (s : Span) → view_instantiation_argument (Fill s) ≡ t.InstantiationArgument.fill s
argument_fill s = search (rules, the_lemmas)
