use Rattle.std.proofs.Common.{◌≡◌, ◌<◌, map, option_map, length, ap, sym, ◌∙◌, arith, rules}
use Rattle.std.proofs.lemmas.Bool.Decides.{nat_tests}
use Rattle.std.proofs.lemmas.List.{length-map}
use Rattle.wac_parser_tree.specs.declared.expr.InstantiationArgument.{the_lemmas}
use Rattle.wac_parser_tree.specs.declared.expr.InstantiationArgument.TheViews.{out-NestedExpr}
use Rattle.wac_parser_tree.specs.Trees as tree
use Rattle.wac_parser_tree.specs.Views.{view_expr, view_primary_expr, view_new_expr, view_nested_expr, view_instantiation_argument, view_named_instantiation_argument, view_postfix_expr, view_ident, view_package_name, view_instantiation_argument_name}
use Rattle.wac_parser_print.specs.Texts.{own_line}
use Rattle.wac_parser_print.specs.Printing as text
use Rattle.wac_parser_print.specs.Printing.{expr, primary_expr, nested_expr, new_expr, argument, named_argument}
use Rattle.wac_parser_print.proofs.Adding.{and_then, of_view, equal_text, adds_nothing, each_start, each_step, each_end}
use Rattle.wac_parser_print.proofs.FormLaws.{lines_each, no_arguments, fill_alone, line_for_each}
use Rattle.wac_parser_print.proofs.printer.DocumentPrinter.+expr.Goals as goal

pub add_expr-returns : goal.add_expr-returns
unfolding expr
add_expr-returns g t c =
    let e : view_expr c.args.expr.now ≡ tree.expr c.args.expr.now.span (view_primary_expr c.args.expr.now.primary) (map view_postfix_expr c.args.expr.now.postfix.items) = search (rules, the_lemmas) in
    of_view (expr c.args.level) e (and_then c.add_primary_expr.ensures c.add_postfix_exprs.ensures)

pub add_primary_expr-returns-in-New : goal.add_primary_expr-returns-in-New
unfolding primary_expr
add_primary_expr-returns-in-New g t c =
    let e : view_primary_expr c.args.expr.now ≡ tree.PrimaryExpr.new (view_new_expr c.in-New.expr) = search (rules, the_lemmas) in
    of_view (primary_expr c.args.level) e (c.add_new_expr.ensures)

pub add_primary_expr-returns-in-Nested : goal.add_primary_expr-returns-in-Nested
unfolding primary_expr nested_expr
add_primary_expr-returns-in-Nested g t c =
    let e : view_primary_expr c.args.expr.now ≡ tree.PrimaryExpr.nested (tree.nested_expr (out-NestedExpr c.in-Nested.nested).span (view_expr (out-NestedExpr c.in-Nested.nested).inner.value)) = search (rules, the_lemmas) in
    of_view (primary_expr c.args.level) e (and_then c.word.ensures (and_then (rw c.deref.ensures at c.add_expr.ensures) c.word-in-Nested.ensures))

pub add_primary_expr-returns-in-Ident : goal.add_primary_expr-returns-in-Ident
unfolding primary_expr
add_primary_expr-returns-in-Ident g t c =
    let e : view_primary_expr c.args.expr.now ≡ tree.PrimaryExpr.ident (view_ident c.in-Ident.id) = search (rules, the_lemmas) in
    of_view (primary_expr c.args.level) e (c.slice.ensures)

pub add_new_expr-returns : goal.add_new_expr-returns
unfolding new_expr
add_new_expr-returns g t c =
    let e : view_new_expr c.args.expr.now ≡ tree.new_expr c.args.expr.now.span (view_package_name c.args.expr.now.«package») (option_map (λ t. t.now) c.args.expr.now.track) (tree.arguments (map view_instantiation_argument c.args.expr.now.arguments.items)) = search (rules, the_lemmas) in
    of_view (new_expr c.args.level) e (and_then c.word.ensures (and_then c.slice.ensures (and_then c.word-2.ensures (and_then c.add_arguments.ensures c.word-3.ensures))))

pub add_arguments-returns-then-is_empty : goal.add_arguments-returns-then-is_empty
add_arguments-returns-then-is_empty g t c =
    let none : length c.args.arguments.now.items ≡ 0 = grind (arith, nat_tests) in
    equal_text _ _ (sym (no_arguments c.args.level (map view_instantiation_argument c.args.arguments.now.items) (length-map c.args.arguments.now.items view_instantiation_argument ∙ none))) (adds_nothing _)

pub add_arguments-returns-then-is_fill_alone : goal.add_arguments-returns-then-is_fill_alone
add_arguments-returns-then-is_fill_alone g t c =
    equal_text _ _ (sym (fill_alone c.args.level (map view_instantiation_argument c.args.arguments.now.items) (sym c.is_fill_alone.ensures ∙ c.if-is_fill_alone.true))) c.word.ensures

pub add_arguments-returns : goal.add_arguments-returns
add_arguments-returns g t c =
    let some : 0 < length c.args.arguments.now.items = grind (arith, nat_tests) in
    let many : 0 < length (map view_instantiation_argument c.args.arguments.now.items) = omega (arith, some, length-map c.args.arguments.now.items view_instantiation_argument) in
    equal_text _ _ (sym (line_for_each c.args.level (map view_instantiation_argument c.args.arguments.now.items) many (sym c.is_fill_alone.ensures ∙ c.if-is_fill_alone.false)))
    (rw (← c.saturating_add.ensures) (and_then c.line_end.ensures (and_then c.add_argument_lines.ensures c.indent.ensures)))

pub add_argument_lines-loop-argument-init : goal.add_argument_lines-loop-argument-init
add_argument_lines-loop-argument-init g t c = each_start view_instantiation_argument (λ y. own_line c.args.level (text.argument c.args.level y)) _

pub add_argument_lines-loop-argument-preserved : goal.add_argument_lines-loop-argument-preserved
add_argument_lines-loop-argument-preserved g t c = each_step view_instantiation_argument (λ y. own_line c.args.level (text.argument c.args.level y)) c.deref-argument-items.result.now c.loop-argument.argument-index c.argument-item.result c.loop-argument-test.true c.argument-item.is c.loop-argument.invariant (and_then c.indent.ensures (and_then c.add_argument.ensures c.line_end.ensures))

pub add_argument_lines-returns : goal.add_argument_lines-returns
add_argument_lines-returns g t c =
    let all = each_end view_instantiation_argument (λ y. own_line c.args.level (text.argument c.args.level y)) c.deref-argument-items.result.now c.loop-argument.argument-index c.loop-argument-test.false c.loop-argument.invariant in
    rw (← c.deref-argument-items.ensures.value) (equal_text _ _ (sym (lines_each c.args.level (map view_instantiation_argument c.deref-argument-items.result.now))) all)

pub add_argument-returns-in-Inferred : goal.add_argument-returns-in-Inferred
unfolding argument
add_argument-returns-in-Inferred g t c =
    let e : view_instantiation_argument c.args.argument.now ≡ tree.InstantiationArgument.inferred (view_ident c.in-Inferred.id) = search (rules, the_lemmas) in
    of_view (argument c.args.level) e (and_then c.slice.ensures c.word.ensures)

pub add_argument-returns-in-Spread : goal.add_argument-returns-in-Spread
unfolding argument
add_argument-returns-in-Spread g t c =
    let e : view_instantiation_argument c.args.argument.now ≡ tree.InstantiationArgument.spread (view_ident c.in-Spread.id) = search (rules, the_lemmas) in
    of_view (argument c.args.level) e (and_then c.word-in-Spread.ensures (and_then c.slice-in-Spread.ensures c.word-in-Spread-2.ensures))

pub add_argument-returns-in-Named : goal.add_argument-returns-in-Named
unfolding argument named_argument
add_argument-returns-in-Named g t c =
    let e : view_instantiation_argument c.args.argument.now ≡ tree.InstantiationArgument.named (tree.named_argument (view_instantiation_argument_name c.in-Named.argument.name) (view_expr c.in-Named.argument.expr)) = search (rules, the_lemmas) in
    of_view (argument c.args.level) e (and_then (and_then c.add_argument_name.ensures (and_then c.word-in-Named.ensures c.add_expr.ensures)) c.word-in-Named-2.ensures)

pub add_argument-returns-in-Fill : goal.add_argument-returns-in-Fill
unfolding argument
add_argument-returns-in-Fill g t c =
    let e : view_instantiation_argument c.args.argument.now ≡ tree.InstantiationArgument.fill c.in-Fill.field-0 = search (rules, the_lemmas) in
    of_view (argument c.args.level) e (c.word-in-Fill.ensures)
