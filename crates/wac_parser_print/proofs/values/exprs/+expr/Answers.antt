use Rattle.std.proofs.Common.{◌≡◌, map, option_map, arith, rules}
use Rattle.std.proofs.lemmas.Grind.{common_steps}
use Rattle.wac_parser_tree.specs.declared.expr.InstantiationArgument.{the_lemmas}
use Rattle.wac_parser_tree.specs.Trees as tree
use Rattle.wac_parser_tree.specs.Views.{view_expr, view_primary_expr, view_new_expr, view_instantiation_argument, view_named_instantiation_argument, view_postfix_expr, view_package_name, view_instantiation_argument_name}
use Rattle.wac_parser_print.specs.Values.{expr, new_expr, named_argument}
use Rattle.wac_parser_print.proofs.ValueLaws.{arguments_items}
use Rattle.wac_parser_print.proofs.values.exprs.+expr.Goals as goal

pub expr-returns : goal.expr-returns
unfolding expr
expr-returns t c =
    let e : view_expr c.args.expr.now ≡ tree.expr c.args.expr.now.span (view_primary_expr c.args.expr.now.primary) (map view_postfix_expr c.args.expr.now.postfix.items) = search (rules, the_lemmas) in
    rw e (c.into_value.ensures _ (c.with-3.ensures _ _ (c.with-2.ensures _ _ (c.with.ensures _ _ c.new.ensures c.span-at.ensures) c.primary_expr-primary.ensures) c.array-postfix.ensures))

pub new_expr-returns : goal.new_expr-returns
unfolding new_expr
new_expr-returns t c =
    let e : view_new_expr c.args.made.now ≡ tree.new_expr c.args.made.now.span (view_package_name c.args.made.now.«package») (option_map (λ t. t.now) c.args.made.now.track) (tree.arguments (map view_instantiation_argument c.args.made.now.arguments.items)) = search (rules, the_lemmas) in
    rw e (c.into_value.ensures _ (c.with-4.ensures _ _ (c.with-3.ensures _ _ (c.with-2.ensures _ _ (c.with.ensures _ _ c.new.ensures c.span-at.ensures) c.package_name-package.ensures) c.track-track.ensures) c.arguments-arguments.ensures))

pub named_argument-returns : goal.named_argument-returns
unfolding named_argument
named_argument-returns t c =
    let e : view_named_instantiation_argument c.args.argument.now ≡ tree.named_argument (view_instantiation_argument_name c.args.argument.now.name) (view_expr c.args.argument.now.expr) = search (rules, the_lemmas) in
    rw e (c.pair.ensures _ _ c.argument_name-name.ensures c.expr-expr.ensures)

pub arguments-returns : goal.arguments-returns
arguments-returns t c = rw arguments_items (first_of (search rules, grind (arith, common_steps)))
