use Rattle.std.proofs.Common.{◌≡◌, ◌==◌, ◌+◌, List, [], length, map, Some, Ok, refl, sym, ap, subst, ◌∙◌, arith}
use Rattle.std.specs.Prelude.{⊤, slice_get}
use Rattle.wac_types_base.specs.declared.item.ItemKind.{ItemKind}
use Rattle.wac_types_base.specs.declared.ids.WorldId.{WorldId}
use Rattle.wac_types_base.specs.Record.{Collection}
use Rattle.wac_types_base.specs.Collection.{IsAcyclic, Stands}
use Rattle.wac_types_base.specs.Entries.{Name, names_of}
use Rattle.wac_types_base.specs.Stated.{Stated, imports_of}
use Rattle.wac_types_names.specs.Keys.{Key}
use Rattle.wac_graph_core.specs.declared.ids.PackageId.{PackageId}
use Rattle.wac_parser_tree.specs.Trees as t
use Rattle.wac_parser_tree.specs.Trees.{Span}
use Rattle.wac_parser_tree.specs.Accessors.{argument_name_span as argument_span, primary_expr_span as primary_span}
use Rattle.wac_parser_tree.specs.declared.expr.Expr.{Expr}
use Rattle.wac_parser_tree.specs.Views.{view_expr, view_ident, view_instantiation_argument, view_instantiation_argument_name, view_named_instantiation_argument, view_new_expr, view_package_name, view_postfix_expr, view_primary_expr}
use Rattle.wac_parser_refusals.specs.Causes.{Answer, ◌>>=◌, FillArgumentNotLast, each, pure}
use Rattle.wac_parser_refusals.specs.Outcomes.{IsHeld, IsOutcome, IsRefusal}
use Rattle.wac_parser_refusals.proofs.Outcomes.{after_held, after_outcome, after_refused, refused_outcome, then_refused}
use Rattle.wac_parser_declare.proofs.Members.{told}
use Rattle.wac_parser_declare.proofs.Standing.{ok_of}
use Rattle.wac_parser_resolve.specs.declared.arguments.Given.{Given}
use Rattle.wac_parser_resolve.specs.declared.board.Board.{Board}
use Rattle.wac_parser_resolve.specs.declared.spans.Spans.{Spans}
use Rattle.wac_parser_resolve.specs.Ascribing.{Denoted, State, denoted_by}
use Rattle.wac_parser_resolve.specs.Denoting as stated
use Rattle.wac_parser_resolve.specs.Denoting.{accesses, add_given, denote, finished, is_filled, new_package, one_argument, primary, spread_one, spreads_of}
use Rattle.wac_parser_resolve.specs.Holding.{AreGiven, Denotes, IsGiven}
use Rattle.wac_parser_resolve.specs.InArguments.{SaysGiven, imported_by, inferred_given}
use Rattle.wac_parser_resolve.specs.InExpressions.{SaysThat}
use Rattle.wac_parser_resolve.specs.InInstances.{Denoting, HasGiven, IsOn, IsOneGiven, instances_of, named_given, track_of, HasPackage}
use Rattle.wac_parser_resolve.proofs.Alike.{Alike, alike_accesses, alike_spreads, outcome_with}
use Rattle.wac_parser_resolve.proofs.Boards.{imports_later, on_within}
use Rattle.wac_parser_resolve.proofs.ExprViews.{argument_fill, argument_inferred, argument_named, argument_spread, of_expr, of_named, of_nested, of_new, primary_ident, primary_nested, primary_new}
use Rattle.wac_parser_resolve.proofs.Growing.{Inner-refl, Inner-trans}
use Rattle.wac_parser_resolve.proofs.Inferring.{import_names}
use Rattle.wac_parser_resolve.proofs.Staying.{given_stay}
use Rattle.wac_parser_resolve.proofs.Stepping.{adding, argument_next, argument_stops, arguments_end, fill_held, fill_refused, made_held, made_refused, on_ok_then, package_stays, then_pure}
use Rattle.wac_parser_resolve.proofs.expressions.+expr.Goals as goal

-- ---- arguments

pub arguments-loop-one-init : goal.arguments-loop-one-init
arguments-loop-one-init u c = record {
  given = c.requires.given;
  inner = Inner-refl c.args.board.now.types.graph;
  more = λ i k e. e;
  seen = refl;
  rest = λ q given.
      (q, given, ap (λ xs. stated.arguments q.0 (imported_by c.args.board.now.types.graph.types c.args.world) q.1 (t.arguments (map view_instantiation_argument xs))) (sym c.deref-one-items.ensures.value));
}

pub arguments-loop-one-preserved : goal.arguments-loop-one-preserved
arguments-loop-one-preserved u c = record {
  given = c.in_ok-argument.ensures.given;
  inner = Inner-trans c.args.board.now.types.graph c.loop-one.board.types.graph c.argument.new.board.types.graph c.loop-one.invariant.inner c.in_ok-argument.ensures.inner;
  more = λ i k e. c.in_ok-argument.ensures.more i k (c.loop-one.invariant.more i k e);
  seen = ap (λ k. k + 1) c.loop-one.invariant.seen;
  rest = λ q given.
      let inv = c.loop-one.invariant.rest q given in
      let g = c.args.board.now.types.graph in
      let h = c.loop-one.board.types.graph in
      let x = c.one-item.result in
      let ns = imported_by g.types c.args.world in
      let last = (c.loop-one.seen + 1) == c.len.result in
      let same : last ≡ (c.loop-one.one-index + 1 == length c.deref-one-items.result.now) =
      ap (λ k. (k + 1) == c.len.result) c.loop-one.invariant.seen ∙ ap (λ k. (c.loop-one.one-index + 1) == k) (omega (arith, c.len.ensures, c.deref-one-items.ensures.len)) in
      let H : State × List stated.Given → ⊤ → Type 0 = λ p u. HasGiven c.args.root c.argument.new.board c.argument.new.given.items p in
      let later = imports_later g h c.loop-one.invariant.inner.later c.args.world c.requires.world in
      let n = argument_next ns c.deref-one-items.result.now c.loop-one.one-index x c.loop-one-test.true c.one-item.is last same H inv.0 c.in_ok-argument.field-0
      (subst (λ (ks : List Name). IsHeld H (one_argument inv.0.0 ks inv.0.1 (view_instantiation_argument x) last) c.in_ok-argument.field-0) later (c.in_ok-argument.ensures.outcome inv.0 inv.1)) in
      (n.0, n.1, inv.2 ∙ n.2);
}

pub arguments-returns-in_err-argument-clause-outcome : goal.arguments-returns-in_err-argument-clause-outcome
arguments-returns-in_err-argument-clause-outcome u c q given =
    let inv = c.loop-one.invariant.rest q given in
    let g = c.args.board.now.types.graph in
    let h = c.loop-one.board.types.graph in
    let x = c.one-item.result in
    let ns = imported_by g.types c.args.world in
    let last = (c.loop-one.seen + 1) == c.len.result in
    let same : last ≡ (c.loop-one.one-index + 1 == length c.deref-one-items.result.now) =
    ap (λ k. (k + 1) == c.len.result) c.loop-one.invariant.seen ∙ ap (λ k. (c.loop-one.one-index + 1) == k) (omega (arith, c.len.ensures, c.deref-one-items.ensures.len)) in
    let later = imports_later g h c.loop-one.invariant.inner.later c.args.world c.requires.world in
    refused_outcome _ _ _ c.in_err-argument.field-0.0 c.from_residual.ensures.1
    (subst (λ (r : Answer (State × List stated.Given)). IsRefusal r c.in_err-argument.field-0.0) (sym inv.2)
    (argument_stops ns c.deref-one-items.result.now c.loop-one.one-index x c.loop-one-test.true c.one-item.is last same inv.0 c.in_err-argument.field-0.0
    (subst (λ (ks : List Name). IsRefusal (one_argument inv.0.0 ks inv.0.1 (view_instantiation_argument x) last) c.in_err-argument.field-0.0) later (c.in_err-argument.ensures.outcome inv.0 inv.1))))

pub arguments-returns-clause-outcome : goal.arguments-returns-clause-outcome
arguments-returns-clause-outcome u c q given =
    let inv = c.loop-one.invariant.rest q given in
    let ns = imported_by c.args.board.now.types.graph.types c.args.world in
    subst (λ (r : Answer (State × List stated.Given)). IsHeld (λ (p : State × List stated.Given) (u : ⊤). HasGiven c.args.root c.loop-one.board c.loop-one.given.items p) r (tt {0}))
    (sym (inv.2 ∙ arguments_end ns c.deref-one-items.result.now c.loop-one.one-index inv.0 (omega (arith, c.loop-one-test.false)))) inv.1

pub arguments-returns-clause-more : goal.arguments-returns-clause-more
arguments-returns-clause-more u c = c.loop-one.invariant.more

-- ---- one argument

pub argument-returns-in_err-argument-in-Inferred-clause-outcome : goal.argument-returns-in_err-argument-in-Inferred-clause-outcome
argument-returns-in_err-argument-in-Inferred-clause-outcome u c q given =
    let i = view_ident c.in-Inferred.id in
    let ns = imported_by c.args.board.now.types.graph.types c.args.world in
    refused_outcome _ _ _ c.in_err-argument-in-Inferred.field-0.0 c.from_residual.ensures.1
    (subst (λ (a : t.InstantiationArgument). IsRefusal (one_argument q.0 ns q.1 a c.args.is_last) c.in_err-argument-in-Inferred.field-0.0) (sym (ap view_instantiation_argument c.in-Inferred.is ∙ argument_inferred c.in-Inferred.id))
    (made_refused (inferred_given ns i) (λ d. add_given q.1 (inferred_given ns i d) >>= λ hs. pure (q.0, hs)) (denoted_by q.0 i) c.in_err-argument-in-Inferred.field-0.0
    (c.in_err-argument-in-Inferred.ensures.outcome (instances_of c.args.board.now) q.0 given.on.says.root)))

pub argument-returns-in_ok-argument-in-Inferred-clause-outcome : goal.argument-returns-in_ok-argument-in-Inferred-clause-outcome
argument-returns-in_ok-argument-in-Inferred-clause-outcome u c q given =
    let g = c.args.board.now.types.graph in
    let ms = instances_of c.args.board.now in
    let i = view_ident c.in-Inferred.id in
    let ns = imported_by g.types c.args.world in
    let one = c.in_ok-argument-in-Inferred.argument in
    let Q : State × List stated.Given → Type 0 = HasGiven c.args.root c.args.board.now c.give.new.given.items in
    subst (λ (a : t.InstantiationArgument). IsOutcome (λ (p : State × List stated.Given) (u : ⊤). Q p) (one_argument q.0 ns q.1 a c.args.is_last) c.give.result) (sym (ap view_instantiation_argument c.in-Inferred.is ∙ argument_inferred c.in-Inferred.id))
    (adding (λ (d : Denoted). IsGiven g ms (inferred_given ns i d) one) Q (inferred_given ns i) (λ (d : Denoted). q.0) q.1 (denoted_by q.0 i) c.give.result
    (made_held (inferred_given ns i) (IsGiven g ms) (denoted_by q.0 i) one (c.in_ok-argument-in-Inferred.ensures.outcome ms q.0 given.on.says.root))
    (λ d is. outcome_with (λ (hs : List stated.Given) (u : ⊤). AreGiven g ms hs c.give.new.given.items) (λ (hs : List stated.Given) (u : ⊤). Q (q.0, hs)) (add_given q.1 (inferred_given ns i d)) c.give.result
    (λ hs u e x. record { on = given.on; given = x }) (c.give.ensures.outcome g ms q.1 (inferred_given ns i d) given.given is)))

pub argument-returns-in_ok-argument-in-Inferred-clause-more : goal.argument-returns-in_ok-argument-in-Inferred-clause-more
argument-returns-in_ok-argument-in-Inferred-clause-more u c = ok_of c.give.result (λ i k e. e)

pub argument-returns-in_err-argument-in-Named-clause-outcome : goal.argument-returns-in_err-argument-in-Named-clause-outcome
argument-returns-in_err-argument-in-Named-clause-outcome u c q given =
    let ns = imported_by c.args.board.now.types.graph.types c.args.world in
    let a = c.in-Named.one in
    let n = view_instantiation_argument_name a.name in
    let e = c.in_err-argument-in-Named.field-0.0 in
    let made : State × Denoted → State × stated.Given = λ r. (r.0, record { name = stated.argument_name ns n; denoted = r.1; span = argument_span n }) in
    refused_outcome _ _ _ e c.from_residual-in_err-argument-in-Named.ensures.1
    (subst (λ (x : t.InstantiationArgument). IsRefusal (one_argument q.0 ns q.1 x c.args.is_last) e) (sym (ap view_instantiation_argument c.in-Named.is ∙ argument_named a))
    (subst (λ (x : t.NamedInstantiationArgument). IsRefusal (stated.named_argument q.0 ns q.1 x) e) (sym (of_named a))
    (made_refused made (λ (r : State × Denoted). add_given q.1 (made r).1 >>= λ hs. pure (r.0, hs)) (denote q.0 (view_expr a.expr)) e
    (subst (λ (x : t.NamedInstantiationArgument). IsRefusal (named_given q.0 ns x) e) (of_named a) (c.in_err-argument-in-Named.ensures.outcome q.0 given.on)))))

pub argument-returns-in_ok-argument-in-Named-clause-outcome : goal.argument-returns-in_ok-argument-in-Named-clause-outcome
argument-returns-in_ok-argument-in-Named-clause-outcome u c q given =
    let g = c.args.board.now.types.graph in
    let ns = imported_by g.types c.args.world in
    let a = c.in-Named.one in
    let n = view_instantiation_argument_name a.name in
    let new = c.named.new.board in
    let h = new.types.graph in
    let ms = instances_of new in
    let xs = c.args.given.now.items in
    let ok = c.in_ok-argument-in-Named.ensures in
    let one = c.in_ok-argument-in-Named.argument in
    let made : State × Denoted → State × stated.Given = λ r. (r.0, record { name = stated.argument_name ns n; denoted = r.1; span = argument_span n }) in
    let Q : State × List stated.Given → Type 0 = HasGiven c.args.root new c.give-in-Named.new.given.items in
    subst (λ (x : t.InstantiationArgument). IsOutcome (λ (p : State × List stated.Given) (v : ⊤). Q p) (one_argument q.0 ns q.1 x c.args.is_last) c.give-in-Named.result) (sym (ap view_instantiation_argument c.in-Named.is ∙ argument_named a))
    (subst (λ (x : t.NamedInstantiationArgument). IsOutcome (λ (p : State × List stated.Given) (v : ⊤). Q p) (stated.named_argument q.0 ns q.1 x) c.give-in-Named.result) (sym (of_named a))
    (adding (λ (r : State × Denoted). IsOneGiven c.args.root new (made r) one) Q (λ (r : State × Denoted). (made r).1) (λ (r : State × Denoted). r.0) q.1 (denote q.0 (view_expr a.expr)) c.give-in-Named.result
    (made_held made (IsOneGiven c.args.root new) (denote q.0 (view_expr a.expr)) one
    (subst (λ (x : t.NamedInstantiationArgument). IsHeld (IsOneGiven c.args.root new) (named_given q.0 ns x) one) (of_named a) (ok.outcome q.0 given.on)))
    (λ r is. outcome_with (λ (hs : List stated.Given) (v : ⊤). AreGiven h ms hs c.give-in-Named.new.given.items) (λ (hs : List stated.Given) (v : ⊤). Q (r.0, hs)) (add_given q.1 (made r).1) c.give-in-Named.result
    (λ hs v e x. record { on = is.on; given = x })
    (c.give-in-Named.ensures.outcome h ms q.1 (made r).1 (given_stay g h ok.inner.later (instances_of c.args.board.now) ms ok.more q.1 xs given.given) is.given))))

pub argument-returns-in_ok-argument-in-Named-clause-more : goal.argument-returns-in_ok-argument-in-Named-clause-more
argument-returns-in_ok-argument-in-Named-clause-more u c = ok_of c.give-in-Named.result c.in_ok-argument-in-Named.ensures.more

pub argument-returns-in-Spread-clause-outcome : goal.argument-returns-in-Spread-clause-outcome
argument-returns-in-Spread-clause-outcome u c q given =
    let ns = imported_by c.args.board.now.types.graph.types c.args.world in
    subst (λ (a : t.InstantiationArgument). IsHeld (λ (p : State × List stated.Given) (u : ⊤). HasGiven c.args.root c.args.board.now c.args.given.now.items p) (one_argument q.0 ns q.1 a c.args.is_last) (tt {0})) (sym (ap view_instantiation_argument c.in-Spread.is ∙ argument_spread c.in-Spread.field-0)) given

pub argument-returns-in-Spread-clause-more : goal.argument-returns-in-Spread-clause-more
argument-returns-in-Spread-clause-more u c = λ i k e. e

pub argument-returns-then-is_last-clause-outcome : goal.argument-returns-then-is_last-clause-outcome
argument-returns-then-is_last-clause-outcome u c q given =
    let ns = imported_by c.args.board.now.types.graph.types c.args.world in
    let H : State × List stated.Given → ⊤ → Type 0 = λ p u. HasGiven c.args.root c.args.board.now c.args.given.now.items p in
    subst (λ (a : t.InstantiationArgument). IsHeld H (one_argument q.0 ns q.1 a c.args.is_last) (tt {0})) (sym (ap view_instantiation_argument c.in-Fill.is ∙ argument_fill c.in-Fill.span))
    (fill_held H c.args.is_last c.in-Fill.span q (tt {0}) c.if-is_last.true given)

pub argument-returns-then-is_last-clause-more : goal.argument-returns-then-is_last-clause-more
argument-returns-then-is_last-clause-more u c = λ i k e. e

pub argument-returns-else-is_last-clause-outcome : goal.argument-returns-else-is_last-clause-outcome
argument-returns-else-is_last-clause-outcome u c q given =
    let ns = imported_by c.args.board.now.types.graph.types c.args.world in
    subst (λ (a : t.InstantiationArgument). IsRefusal (one_argument q.0 ns q.1 a c.args.is_last) c.named-else-is_last.result) (sym (ap view_instantiation_argument c.in-Fill.is ∙ argument_fill c.in-Fill.span))
    (fill_refused c.args.is_last c.in-Fill.span q c.named-else-is_last.result c.if-is_last.false
    (told c.named-else-is_last.result FillArgumentNotLast (Some c.in-Fill.span) c.named-else-is_last.ensures))

-- ---- an expression

pub expression-returns-in_err-first-clause-outcome : goal.expression-returns-in_err-first-clause-outcome
expression-returns-in_err-first-clause-outcome u c s on =
    let e = c.args.expr.now in
    refused_outcome _ (denote s (view_expr e)) _ c.in_err-first.field-0.0 c.from_residual.ensures.1
    (subst (λ (x : t.Expr). IsRefusal (denote s x) c.in_err-first.field-0.0) (sym (of_expr e))
    (then_refused (λ (r : State × Denoted). accesses (primary_span (view_primary_expr e.primary)) r.0 r.1 (map view_postfix_expr e.postfix.items)) (primary s (view_primary_expr e.primary)) c.in_err-first.field-0.0 (c.in_err-first.ensures.outcome s on)))

pub expression-returns-clause-outcome : goal.expression-returns-clause-outcome
expression-returns-clause-outcome u c s on =
    let e = c.args.expr.now in
    let root = c.args.root in
    let mid = c.primary.new.board in
    let h = c.accesses.new.graph in
    let new : Board = record { types = record { graph = h; packages = mid.types.packages }; instances = mid.instances } in
    let ps = map view_postfix_expr e.postfix.items in
    let at = primary_span (view_primary_expr e.primary) in
    let noted = mid.instances.noted.items in
    let names = root.nodes.now in
    subst (λ (x : t.Expr). IsOutcome (Denoting root new) (denote s x) c.accesses.result) (sym (of_expr e))
    (after_outcome (λ (r : State × Denoted). accesses at r.0 r.1 ps) (Denoting root mid) (Denoting root new) (primary s (view_primary_expr e.primary)) c.in_ok-first.first c.accesses.result (c.in_ok-first.ensures.outcome s on)
    (λ q d. outcome_with (SaysThat h noted names) (Denoting root new) (accesses at q.0 q.1 ps) c.accesses.result
    (λ a k is z. record { on = on_within root mid new c.accesses.ensures.within refl q.0 a.0 d.on (alike_accesses at q.0 q.1 ps a is) z.0; denotes = z.1 })
    (subst (λ (x : Span). IsOutcome (SaysThat h noted names) (accesses x q.0 q.1 ps) c.accesses.result) c.span.ensures (c.accesses.ensures.outcome noted names q.0 q.1 d.on.says d.denotes))))

pub expression-returns-clause-more : goal.expression-returns-clause-more
expression-returns-clause-more u c = ok_of c.accesses.result c.in_ok-first.ensures.more

-- ---- a primary expression

pub primary-returns-in-New-clause-outcome : goal.primary-returns-in-New-clause-outcome
primary-returns-in-New-clause-outcome u c s on =
    subst (λ (e : t.PrimaryExpr). IsOutcome (Denoting c.args.root c.instance.new.board) (primary s e) c.instance.result) (sym (ap view_primary_expr c.in-New.is ∙ primary_new c.in-New.new)) (c.instance.ensures.outcome s on)

pub primary-returns-in-Nested-clause-outcome : goal.primary-returns-in-Nested-clause-outcome
primary-returns-in-Nested-clause-outcome u c s on =
    let D = Denoting c.args.root c.expression.new.board in
    let n = c.in-Nested.nested in
    subst (λ (e : t.PrimaryExpr). IsOutcome D (primary s e) c.expression.result) (sym (ap view_primary_expr c.in-Nested.is ∙ primary_nested n))
    (subst (λ (x : t.NestedExpr). IsOutcome D (stated.nested s x) c.expression.result) (sym (of_nested n))
    (subst (λ (x : Expr). IsOutcome D (denote s (view_expr x)) c.expression.result) c.deref.ensures (c.expression.ensures.outcome s on)))

pub primary-returns-in-Ident-clause-outcome : goal.primary-returns-in-Ident-clause-outcome
primary-returns-in-Ident-clause-outcome u c s on =
    let g = c.args.board.now.types.graph in
    let ms = instances_of c.args.board.now in
    let i = view_ident c.in-Ident.id in
    let D = Denoting c.args.root c.args.board.now in
    subst (λ (e : t.PrimaryExpr). IsOutcome D (primary s e) c.node.result) (sym (ap view_primary_expr c.in-Ident.is ∙ primary_ident c.in-Ident.id))
    (then_pure (Denotes g ms) D (λ (d : Denoted). (s, d)) (λ d k x. record { on = on; denotes = x }) (denoted_by s i) c.node.result (c.node.ensures.outcome ms s on.says.root))

pub primary-returns-in-Ident-clause-more : goal.primary-returns-in-Ident-clause-more
primary-returns-in-Ident-clause-more u c = ok_of c.node.result (λ i k e. e)

-- ---- an argument with its name

pub named-returns-in_err-node-clause-outcome : goal.named-returns-in_err-node-clause-outcome
named-returns-in_err-node-clause-outcome u c s on =
    let ns = imported_by c.args.board.now.types.graph.types c.args.world in
    let n = view_instantiation_argument_name c.args.one.now.name in
    let made : State × Denoted → State × stated.Given = λ r. (r.0, record { name = stated.argument_name ns n; denoted = r.1; span = argument_span n }) in
    refused_outcome _ (named_given s ns (view_named_instantiation_argument c.args.one.now)) _ c.in_err-node.field-0.0 c.from_residual.ensures.1
    (subst (λ (x : t.NamedInstantiationArgument). IsRefusal (named_given s ns x) c.in_err-node.field-0.0) (sym (of_named c.args.one.now))
    (then_refused (λ (r : State × Denoted). pure (made r)) (denote s (view_expr c.args.one.now.expr)) c.in_err-node.field-0.0 (c.in_err-node.ensures.outcome s on)))

pub named-returns-clause-outcome : goal.named-returns-clause-outcome
named-returns-clause-outcome u c s on =
    let g = c.args.board.now.types.graph in
    let new = c.expression.new.board in
    let h = new.types.graph in
    let ns = imported_by g.types c.args.world in
    let n = view_instantiation_argument_name c.args.one.now.name in
    let there = import_names h.types (subst IsAcyclic c.types.ensures c.world.ensures.acyclic) c.args.world c.world.result.now
    (subst (λ (x : Collection). slice_get x.worlds c.args.world.index ≡ Some c.world.result.now) c.types.ensures c.world.ensures.entry)
    (subst (λ (x : Collection). c.args.world.collection ≡ x.number) c.types.ensures c.world.ensures.own) in
    let same : names_of c.world.result.now.imports ≡ ns = sym there ∙ imports_later g h c.in_ok-node.ensures.inner.later c.args.world c.requires in
    let made : State × Denoted → State × stated.Given = λ r. (r.0, record { name = stated.argument_name ns n; denoted = r.1; span = argument_span n }) in
    let one : Given = record { name = c.in_ok-name.name; node = c.in_ok-node.node; span = c.span.result } in
    subst (λ (x : t.NamedInstantiationArgument). IsHeld (IsOneGiven c.args.root new) (named_given s ns x) one) (sym (of_named c.args.one.now))
    (after_held (λ (r : State × Denoted). pure (made r)) (Denoting c.args.root new) (IsOneGiven c.args.root new) (denote s (view_expr c.args.one.now.expr)) c.in_ok-node.node one (c.in_ok-node.ensures.outcome s on)
    (λ r d. record { on = d.on; given = record { name = c.in_ok-name.ensures ∙ ap (λ (ks : List Name). stated.argument_name ks n) same; denotes = d.denotes; span = c.span.ensures } }))

-- ---- a new instance

pub instance-returns-in_err-id-clause-outcome : goal.instance-returns-in_err-id-clause-outcome
instance-returns-in_err-id-clause-outcome u c s on =
    let p = view_package_name c.args.new.now.«package» in
    let track = track_of c.args.new.now in
    let as_ = t.arguments (map view_instantiation_argument c.args.new.now.arguments.items) in
    let after : Key × Stated → Answer (State × Denoted) = λ x. stated.arguments s (names_of (imports_of x.1)) [] as_ >>= λ r. each (spread_one (names_of (imports_of x.1))) r (spreads_of as_) >>= λ q. finished q.0 p x.0 x.1 q.1 (is_filled as_) in
    refused_outcome _ (stated.new_instance s (view_new_expr c.args.new.now)) _ c.in_err-id.field-0.0 c.from_residual.ensures.1
    (subst (λ (x : t.NewExpr). IsRefusal (stated.new_instance s x) c.in_err-id.field-0.0) (sym (of_new c.args.new.now))
    (then_refused after (new_package s p track) c.in_err-id.field-0.0 (c.in_err-id.ensures.outcome s on)))

pub instance-returns-in_err-arguments-clause-outcome : goal.instance-returns-in_err-arguments-clause-outcome
instance-returns-in_err-arguments-clause-outcome u c s on =
    let p = view_package_name c.args.new.now.«package» in
    let track = track_of c.args.new.now in
    let as_ = t.arguments (map view_instantiation_argument c.args.new.now.arguments.items) in
    let root = c.args.root in
    let mid = c.new_package.new.board in
    let D = Denoting root c.arguments.new.board in
    let after : List Name → Key × Stated → Answer (State × Denoted) = λ ns w. stated.arguments s ns [] as_ >>= λ r. each (spread_one ns) r (spreads_of as_) >>= λ q. finished q.0 p w.0 w.1 q.1 (is_filled as_) in
    let H : Key × Stated → PackageId → Type 0 = λ w id. IsOn root mid s × HasPackage mid.types.graph w id in
    let world = c.world_of-world.result in
    let ks = imported_by mid.types.graph.types world in
    let e = c.in_err-arguments.field-0.0 in
    let named : (w : Key × Stated) → H w c.in_ok-id.id → ks ≡ names_of (imports_of w.1) = λ w h.
    ap (λ (x : WorldId). imported_by mid.types.graph.types x) (c.world_of-world.ensures.own h.1.held h.1.there) ∙ ap (λ (x : Stated). names_of (imports_of x)) h.1.world in
    refused_outcome _ (stated.new_instance s (view_new_expr c.args.new.now)) _ e c.from_residual-in_err-arguments.ensures.1
    (subst (λ (x : t.NewExpr). IsRefusal (stated.new_instance s x) e) (sym (of_new c.args.new.now))
    (after_refused (λ (w : Key × Stated). after (names_of (imports_of w.1)) w) H (new_package s p track) c.in_ok-id.id e (c.in_ok-id.ensures.outcome s on)
    (λ w h. subst (λ (ns : List Name). IsRefusal (after ns w) e) (named w h)
    (then_refused (λ (r : State × List stated.Given). each (spread_one ks) r (spreads_of as_) >>= λ q. finished q.0 p w.0 w.1 q.1 (is_filled as_)) (stated.arguments s ks [] as_) e
    (c.in_err-arguments.ensures.outcome (s, []) (record { on = h.0; given = subst (λ (xs : List Given). AreGiven mid.types.graph (instances_of mid) [] xs) (sym c.new-given.ensures.items) (record { are = tt; apart = tt }) }))))))

pub instance-returns-in_err-spreads-clause-outcome : goal.instance-returns-in_err-spreads-clause-outcome
instance-returns-in_err-spreads-clause-outcome u c s on =
    let p = view_package_name c.args.new.now.«package» in
    let track = track_of c.args.new.now in
    let as_ = t.arguments (map view_instantiation_argument c.args.new.now.arguments.items) in
    let root = c.args.root in
    let mid = c.new_package.new.board in
    let b = c.arguments.new.board in
    let g = c.spreads.new.graph in
    let after : List Name → Key × Stated → Answer (State × Denoted) = λ ns w. stated.arguments s ns [] as_ >>= λ r. each (spread_one ns) r (spreads_of as_) >>= λ q. finished q.0 p w.0 w.1 q.1 (is_filled as_) in
    let H : Key × Stated → PackageId → Type 0 = λ w id. IsOn root mid s × HasPackage mid.types.graph w id in
    let world = c.world_of-world.result in
    let ks = imported_by mid.types.graph.types world in
    let named : (w : Key × Stated) → H w c.in_ok-id.id → ks ≡ names_of (imports_of w.1) = λ w h.
    ap (λ (x : WorldId). imported_by mid.types.graph.types x) (c.world_of-world.ensures.own h.1.held h.1.there) ∙ ap (λ (x : Stated). names_of (imports_of x)) h.1.world in
    let noted = b.instances.noted.items in
    let names = root.nodes.now in
    let G : State × List stated.Given → ⊤ → Type 0 = λ q u. HasGiven root b c.arguments.new.given.items q in
    let same : imported_by b.types.graph.types world ≡ ks = imports_later mid.types.graph b.types.graph c.in_ok-arguments.ensures.inner.later world c.world_of-world.ensures.stands in
    let e = c.in_err-spreads.field-0.0 in
    refused_outcome _ (stated.new_instance s (view_new_expr c.args.new.now)) _ e c.from_residual-in_err-spreads.ensures.1
    (subst (λ (x : t.NewExpr). IsRefusal (stated.new_instance s x) e) (sym (of_new c.args.new.now))
    (after_refused (λ (w : Key × Stated). after (names_of (imports_of w.1)) w) H (new_package s p track) c.in_ok-id.id e (c.in_ok-id.ensures.outcome s on)
    (λ w h. subst (λ (ns : List Name). IsRefusal (after ns w) e) (named w h)
    (after_refused (λ (r : State × List stated.Given). each (spread_one ks) r (spreads_of as_) >>= λ q. finished q.0 p w.0 w.1 q.1 (is_filled as_)) G (stated.arguments s ks [] as_) (tt {0}) e
    (c.in_ok-arguments.ensures.outcome (s, []) (record { on = h.0; given = subst (λ (xs : List Given). AreGiven mid.types.graph (instances_of mid) [] xs) (sym c.new-given.ensures.items) (record { are = tt; apart = tt }) }))
    (λ q given. then_refused (λ (r : State × List stated.Given). finished r.0 p w.0 w.1 r.1 (is_filled as_)) (each (spread_one ks) q (spreads_of as_)) e
    (subst (λ (ns : List Name). IsRefusal (each (spread_one ns) q (spreads_of as_)) e) same (c.in_err-spreads.ensures.outcome noted q (given.on.says, given.given))))))))

pub instance-returns-clause-outcome : goal.instance-returns-clause-outcome
instance-returns-clause-outcome u c s on =
    let p = view_package_name c.args.new.now.«package» in
    let track = track_of c.args.new.now in
    let as_ = t.arguments (map view_instantiation_argument c.args.new.now.arguments.items) in
    let root = c.args.root in
    let mid = c.new_package.new.board in
    let b = c.arguments.new.board in
    let g = c.spreads.new.graph in
    let after : List Name → Key × Stated → Answer (State × Denoted) = λ ns w. stated.arguments s ns [] as_ >>= λ r. each (spread_one ns) r (spreads_of as_) >>= λ q. finished q.0 p w.0 w.1 q.1 (is_filled as_) in
    let H : Key × Stated → PackageId → Type 0 = λ w id. IsOn root mid s × HasPackage mid.types.graph w id in
    let world = c.world_of-world.result in
    let ks = imported_by mid.types.graph.types world in
    let named : (w : Key × Stated) → H w c.in_ok-id.id → ks ≡ names_of (imports_of w.1) = λ w h.
    ap (λ (x : WorldId). imported_by mid.types.graph.types x) (c.world_of-world.ensures.own h.1.held h.1.there) ∙ ap (λ (x : Stated). names_of (imports_of x)) h.1.world in
    let noted = b.instances.noted.items in
    let names = root.nodes.now in
    let G : State × List stated.Given → ⊤ → Type 0 = λ q u. HasGiven root b c.arguments.new.given.items q in
    let same : imported_by b.types.graph.types world ≡ ks = imports_later mid.types.graph b.types.graph c.in_ok-arguments.ensures.inner.later world c.world_of-world.ensures.stands in
    let D = Denoting root c.finish.new.board in
    let r = c.finish.result in
    let new : Board = record { types = record { graph = g; packages = b.types.packages }; instances = b.instances } in
    let S : State × List stated.Given → ⊤ → Type 0 = λ x u. SaysGiven g noted names c.spreads.new.given.items x in
    let later = (Inner-trans mid.types.graph b.types.graph g c.in_ok-arguments.ensures.inner c.in_ok-spreads.ensures.inner).later in
    subst (λ (x : t.NewExpr). IsOutcome D (stated.new_instance s x) r) (sym (of_new c.args.new.now))
    (after_outcome (λ (w : Key × Stated). after (names_of (imports_of w.1)) w) H D (new_package s p track) c.in_ok-id.id r (c.in_ok-id.ensures.outcome s on)
    (λ w h. subst (λ (ns : List Name). IsOutcome D (after ns w) r) (named w h)
    (after_outcome (λ (q : State × List stated.Given). each (spread_one ks) q (spreads_of as_) >>= λ x. finished x.0 p w.0 w.1 x.1 (is_filled as_)) G D (stated.arguments s ks [] as_) (tt {0}) r
    (c.in_ok-arguments.ensures.outcome (s, []) (record { on = h.0; given = subst (λ (xs : List Given). AreGiven mid.types.graph (instances_of mid) [] xs) (sym c.new-given.ensures.items) (record { are = tt; apart = tt }) }))
    (λ q given. after_outcome (λ (x : State × List stated.Given). finished x.0 p w.0 w.1 x.1 (is_filled as_)) (λ (x : State × List stated.Given) (u : ⊤). S x u × Alike q.0 x.0) D (each (spread_one ks) q (spreads_of as_)) (tt {0}) r
    (outcome_with S (λ (x : State × List stated.Given) (u : ⊤). S x u × Alike q.0 x.0) (each (spread_one ks) q (spreads_of as_)) (Ok (tt {0})) (λ x u is y. (y, alike_spreads ks (spreads_of as_) q x is))
    (subst (λ (ns : List Name). IsHeld S (each (spread_one ns) q (spreads_of as_)) (tt {0})) same (c.in_ok-spreads.ensures.outcome noted q (given.on.says, given.given))))
    (λ x y. c.finish.ensures.outcome root x.0 w.0 w.1 x.1 (on_within root b new c.in_ok-spreads.ensures.within refl q.0 x.0 given.on y.1 y.0.0)
    (package_stays mid.types.graph g later w.0 w.1 c.in_ok-id.id h.1 (subst (λ (i : WorldId). Stands mid.types.graph.types (ItemKind.Component i)) (c.world_of-world.ensures.own h.1.held h.1.there) c.world_of-world.ensures.stands))
    y.0.1)))))

pub instance-returns-clause-more : goal.instance-returns-clause-more
instance-returns-clause-more u c =
    on_ok_then c.finish.result c.finish.ensures.more
    (λ last i k e. last i k (c.in_ok-arguments.ensures.more i k (ap (λ (x : Spans). slice_get (names_of x.noted.items) i) c.in_ok-id.ensures.noted ∙ e)))

pub instance-returns-in_err-spreads-clause-inner : goal.instance-returns-in_err-spreads-clause-inner
instance-returns-in_err-spreads-clause-inner n c =
    let first = Inner-trans c.args.board.now.types.graph c.new_package.new.board.types.graph c.arguments.new.board.types.graph c.in_ok-id.ensures.inner c.in_ok-arguments.ensures.inner in
    Inner-trans c.args.board.now.types.graph c.arguments.new.board.types.graph c.spreads.new.graph first c.in_err-spreads.ensures.inner

pub instance-returns-clause-inner : goal.instance-returns-clause-inner
instance-returns-clause-inner n c =
    let first = Inner-trans c.args.board.now.types.graph c.new_package.new.board.types.graph c.arguments.new.board.types.graph c.in_ok-id.ensures.inner c.in_ok-arguments.ensures.inner in
    let second = Inner-trans c.args.board.now.types.graph c.arguments.new.board.types.graph c.spreads.new.graph first c.in_ok-spreads.ensures.inner in
    Inner-trans c.args.board.now.types.graph c.spreads.new.graph c.finish.new.board.types.graph second c.finish.ensures.inner
