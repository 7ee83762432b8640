use Rattle.std.proofs.Common.{◌≡◌, codes, map, option_map, refl, ◌∙◌, rules}
use Rattle.json.specs.Print.{escape_byte}
use Rattle.serde_json.specs.Data.{array}
use Rattle.serde_json.specs.Written.{compact_text}
use Rattle.wac_parser_tree.specs.declared.expr.InstantiationArgument.{the_lemmas}
use Rattle.wac_parser_tree.specs.declared.expr.InstantiationArgument.TheViews.{out-NestedExpr}
use Rattle.wac_parser_tree.specs.Trees as tree
use Rattle.wac_parser_tree.specs.Views.{view_expr, view_ident, view_instantiation_argument, view_instantiation_argument_name, view_named_instantiation_argument, view_nested_expr, view_new_expr, view_package_name, view_postfix_expr, view_primary_expr}
use Rattle.wac_parser_print.specs.Texts.{word}
use Rattle.wac_parser_print.specs.Values as values
use Rattle.wac_parser_print.specs.Values.{expr, primary_expr, nested_expr, new_expr, argument, named_argument}
use Rattle.wac_parser_print.proofs.Adding.{joined_start, joined_step, joined_end, gap_more}
use Rattle.wac_parser_print.proofs.ValueLaws.{arguments_items}
use Rattle.wac_parser_json.proofs.Writing.{then, of_tree, whole_array}
use Rattle.wac_parser_json.proofs.exprs.+expr.Goals as goal

pub expr-returns : goal.expr-returns
unfolding expr escape_byte
expr-returns g t c =
    let e : view_expr c.args.expr.now ≡ tree.expr c.args.expr.now.span (view_primary_expr c.args.expr.now.primary) (map view_postfix_expr c.args.expr.now.postfix.items) = search (rules, the_lemmas) in
    of_tree expr e (then c.word.ensures (then c.array.ensures (then c.word-2.ensures (then c.primary_expr.ensures (then c.word-3.ensures (then c.span.ensures c.word-4.ensures))))))

pub primary_expr-returns-in-New : goal.primary_expr-returns-in-New
unfolding primary_expr escape_byte
primary_expr-returns-in-New g t c =
    let e : view_primary_expr c.args.expr.now ≡ tree.PrimaryExpr.new (view_new_expr c.in-New.x) = search (rules, the_lemmas) in
    of_tree primary_expr e (then c.word.ensures (then c.new_expr.ensures c.word-in-New.ensures))

pub primary_expr-returns-in-Nested : goal.primary_expr-returns-in-Nested
unfolding primary_expr escape_byte
primary_expr-returns-in-Nested g t c =
    let e : view_primary_expr c.args.expr.now ≡ tree.PrimaryExpr.nested (view_nested_expr c.in-Nested.x) = search (rules, the_lemmas) in
    of_tree primary_expr e (then c.word-in-Nested.ensures (then c.nested_expr.ensures c.word-in-Nested-2.ensures))

pub primary_expr-returns-in-Ident : goal.primary_expr-returns-in-Ident
unfolding primary_expr escape_byte
primary_expr-returns-in-Ident g t c =
    let e : view_primary_expr c.args.expr.now ≡ tree.PrimaryExpr.ident (view_ident c.in-Ident.x) = search (rules, the_lemmas) in
    of_tree primary_expr e (then c.word-in-Ident.ensures (then c.ident.ensures c.word-in-Ident-2.ensures))

pub nested_expr-returns : goal.nested_expr-returns
unfolding nested_expr escape_byte
nested_expr-returns g t c =
    let e : view_nested_expr c.args.nested.now ≡ tree.nested_expr (out-NestedExpr c.args.nested.now).span (view_expr (out-NestedExpr c.args.nested.now).inner.value) = search (rules, the_lemmas) in
    of_tree nested_expr e (then c.word.ensures (then (rw c.deref.ensures at c.expr.ensures) (then c.word-2.ensures (then c.span.ensures c.word-3.ensures))))

pub new_expr-returns : goal.new_expr-returns
unfolding new_expr escape_byte
new_expr-returns g t c =
    let e : view_new_expr c.args.made.now ≡ tree.new_expr c.args.made.now.span (view_package_name c.args.made.now.«package») (option_map (λ t. t.now) c.args.made.now.track) (tree.arguments (map view_instantiation_argument c.args.made.now.arguments.items)) = search (rules, the_lemmas) in
    of_tree new_expr e (then c.word.ensures (then c.arguments.ensures (then c.word-2.ensures (then c.package_name.ensures (then c.word-3.ensures (then c.span.ensures (then c.word-4.ensures (then c.track.ensures c.word-5.ensures))))))))

pub argument-returns-in-Inferred : goal.argument-returns-in-Inferred
unfolding argument escape_byte
argument-returns-in-Inferred g t c =
    let e : view_instantiation_argument c.args.argument.now ≡ tree.InstantiationArgument.inferred (view_ident c.in-Inferred.x) = search (rules, the_lemmas) in
    of_tree argument e (then c.word.ensures (then c.ident.ensures c.word-in-Inferred.ensures))

pub argument-returns-in-Spread : goal.argument-returns-in-Spread
unfolding argument escape_byte
argument-returns-in-Spread g t c =
    let e : view_instantiation_argument c.args.argument.now ≡ tree.InstantiationArgument.spread (view_ident c.in-Spread.x) = search (rules, the_lemmas) in
    of_tree argument e (then c.word-in-Spread.ensures (then c.ident-in-Spread.ensures c.word-in-Spread-2.ensures))

pub argument-returns-in-Named : goal.argument-returns-in-Named
unfolding argument escape_byte
argument-returns-in-Named g t c =
    let e : view_instantiation_argument c.args.argument.now ≡ tree.InstantiationArgument.named (view_named_instantiation_argument c.in-Named.x) = search (rules, the_lemmas) in
    of_tree argument e (then c.word-in-Named.ensures (then c.named_argument.ensures c.word-in-Named-2.ensures))

pub argument-returns-in-Fill : goal.argument-returns-in-Fill
unfolding argument escape_byte
argument-returns-in-Fill g t c =
    let e : view_instantiation_argument c.args.argument.now ≡ tree.InstantiationArgument.fill c.in-Fill.at = search (rules, the_lemmas) in
    of_tree argument e (then c.word-in-Fill.ensures (then c.span.ensures c.word-in-Fill-2.ensures))

pub named_argument-returns : goal.named_argument-returns
unfolding named_argument escape_byte
named_argument-returns g t c =
    let e : view_named_instantiation_argument c.args.argument.now ≡ tree.named_argument (view_instantiation_argument_name c.args.argument.now.name) (view_expr c.args.argument.now.expr) = search (rules, the_lemmas) in
    of_tree named_argument e (then c.word.ensures (then c.expr.ensures (then c.word-2.ensures (then c.argument_name.ensures c.word-3.ensures))))

pub arguments-loop-one-init : goal.arguments-loop-one-init
arguments-loop-one-init g t c = record { same_sink = refl; between = refl; added = joined_start view_instantiation_argument (codes ",") (λ x. word (compact_text (values.argument x))) _ }

pub arguments-loop-one-preserved : goal.arguments-loop-one-preserved
arguments-loop-one-preserved g t c = record {
  same_sink = c.argument.ensures.same_sink ∙ c.word-in-loop-one.ensures.same_sink ∙ c.loop-one.invariant.same_sink;
  between = gap_more c.loop-one.one-index (codes ",");
  added = joined_step view_instantiation_argument (codes ",") _ (λ x. word (compact_text (values.argument x))) c.deref-one-items.result.now c.loop-one.one-index c.one-item.result c.loop-one-test.true c.one-item.is c.loop-one.invariant.between c.loop-one.invariant.added c.word-in-loop-one.ensures.adds c.argument.ensures.adds;
}

pub arguments-returns : goal.arguments-returns
arguments-returns g t c =
    let items = joined_end view_instantiation_argument (codes ",") (λ x. word (compact_text (values.argument x))) c.deref-one-items.result.now c.loop-one.one-index c.loop-one-test.false c.loop-one.invariant.added in
    rw (← c.deref-one-items.ensures.value) (of_tree array (arguments_items (map view_instantiation_argument c.deref-one-items.result.now)) (whole_array values.argument _ c.word.ensures c.loop-one.invariant.same_sink items c.word-2.ensures))
