use Rattle.std.proofs.Common.{sym, ◌∙◌, arith}
use Rattle.wac_types_base.specs.declared.item.ItemKind.{ItemKind}
use Rattle.wac_types_fit.specs.Trees.{tree_in}
use Rattle.wac_graph_scopes.proofs.PlaceLaws.{none_has_tree, differ_next, if_none_some}
use Rattle.wac_graph_scopes.proofs.value.equal_among.Goals as goal

pub loop-at-init : goal.loop-at-init
loop-at-init c n lt = absurd (omega (arith, lt))

pub loop-at-preserved : goal.loop-at-preserved
loop-at-preserved c =
    differ_next c.args.types.now c.args.scope.now.known.all.items (tree_in c.args.types.now (ItemKind.Value c.args.ty)) c.loop-at.at c.in_ok-found.found (sym c.is_some.ensures ∙ c.if-is_some.false) c.loop-at.invariant c.in_ok-found.ensures.none

pub returns-clause-none : goal.returns-clause-none
returns-clause-none c h =
    let types = c.args.types.now in
    let s = c.args.scope.now in
    none_has_tree types s.known (tree_in types (ItemKind.Value c.args.ty)) (λ n lt. c.loop-at.invariant n (omega (arith, lt, c.loop-at-test.false))) h.3.known.places

pub returns-then-is_some-clause-none : goal.returns-then-is_some-clause-none
returns-then-is_some-clause-none c h = if_none_some c.in_ok-found.found _ (sym c.is_some.ensures ∙ c.if-is_some.true)
