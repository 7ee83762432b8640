use Rattle.std.proofs.Common.{◌+◌, List, map, drop, ap, sym, subst, ◌∙◌, arith}
use Rattle.wac_parser_tree.specs.Trees.{Span}
use Rattle.wac_parser_tree.specs.declared.expr.PostfixExpr.{PostfixExpr}
use Rattle.wac_parser_tree.specs.Views.{view_postfix_expr}
use Rattle.wac_parser_refusals.specs.Causes.{Answer}
use Rattle.wac_parser_refusals.specs.Outcomes.{IsHeld, IsRefusal}
use Rattle.wac_parser_refusals.proofs.Outcomes.{refused_outcome}
use Rattle.wac_parser_resolve.specs.Ascribing.{Denoted, State}
use Rattle.wac_parser_resolve.specs.Denoting as stated
use Rattle.wac_parser_resolve.specs.InExpressions.{SaysThat}
use Rattle.wac_parser_resolve.proofs.Accesses.{access_next, access_stops, accesses_end}
use Rattle.wac_parser_resolve.proofs.Growing.{Inner-refl, Inner-trans, within_refl, within_trans}
use Rattle.wac_parser_resolve.proofs.expressions.accesses.Goals as goal

pub returns-in_err-node-clause-outcome : goal.returns-in_err-node-clause-outcome
returns-in_err-node-clause-outcome c noted names s d says dn =
    let inv = c.loop-one.invariant.rest noted names s d says dn in
    refused_outcome (SaysThat c.access.new.graph noted names) (stated.accesses c.args.before s d (map view_postfix_expr c.args.list.now.items)) _ _ c.from_residual.ensures.1
    (subst (λ (q : Answer (State × Denoted)). IsRefusal q c.in_err-node.field-0.0) (sym inv.2)
    (access_stops c.deref-one-items.result.now c.loop-one.one-index _ c.loop-one-test.true c.loop-one.span inv.0.0 inv.0.1 c.in_err-node.field-0.0
    (c.in_err-node.ensures.outcome noted names inv.0.0 inv.0.1 inv.1.0 inv.1.1)))

pub returns-in_err-node-clause-inner : goal.returns-in_err-node-clause-inner
returns-in_err-node-clause-inner c = Inner-trans c.args.graph.now c.loop-one.graph c.access.new.graph c.loop-one.invariant.inner c.in_err-node.ensures.inner

pub loop-one-preserved : goal.loop-one-preserved
loop-one-preserved c = record {
  node = c.in_ok-node.ensures.node;
  inner = Inner-trans c.args.graph.now c.loop-one.graph c.access.new.graph c.loop-one.invariant.inner c.in_ok-node.ensures.inner;
  within = within_trans c.args.graph.now c.loop-one.graph c.access.new.graph c.loop-one.invariant.within c.in_ok-node.ensures.within;
  rest = λ noted names s d says dn.
      let inv = c.loop-one.invariant.rest noted names s d says dn in
      let n = access_next c.deref-one-items.result.now c.loop-one.one-index _ c.loop-one-test.true (SaysThat c.access.new.graph noted names)
      c.loop-one.span inv.0.0 inv.0.1 c.in_ok-node.node (c.in_ok-node.ensures.outcome noted names inv.0.0 inv.0.1 inv.1.0 inv.1.1) in
      (n.0, n.1, inv.2 ∙ n.2 ∙ ap (λ (at : Span). stated.accesses at n.0.0 n.0.1 (map view_postfix_expr (drop (c.loop-one.one-index + 1) c.deref-one-items.result.now))) (sym c.span-span.ensures));
}

pub loop-one-init : goal.loop-one-init
loop-one-init c = record {
  node = c.requires;
  inner = Inner-refl c.args.graph.now;
  within = within_refl c.args.graph.now;
  rest = λ noted names s d says dn. ((s, d), (says, dn), ap (λ (ps : List PostfixExpr). stated.accesses c.args.before s d (map view_postfix_expr ps)) (sym c.deref-one-items.ensures.value));
}

pub returns-clause-outcome : goal.returns-clause-outcome
returns-clause-outcome c noted names s d says dn =
    let inv = c.loop-one.invariant.rest noted names s d says dn in
    subst (λ (q : Answer (State × Denoted)). IsHeld (SaysThat c.loop-one.graph noted names) q c.loop-one.node)
    (sym (inv.2 ∙ accesses_end c.deref-one-items.result.now c.loop-one.one-index c.loop-one.span inv.0.0 inv.0.1 (omega (arith, c.loop-one-test.false)))) inv.1
