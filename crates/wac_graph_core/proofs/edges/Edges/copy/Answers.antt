use Rattle.std.proofs.Common.{ap, sym, ◌∙◌, subst}
use Rattle.wac_graph_core.specs.Ties.{edges_in}
use Rattle.wac_graph_core.proofs.EdgeOps.{AreCopies, copies_begin, copies_next, copies_all, copied_edges, copied_tied, Tied}
use Rattle.wac_graph_core.proofs.edges.Edges.copy.Goals as goal

pub loop-own-init : goal.loop-own-init
loop-own-init c = subst (λ l. AreCopies c.as_slice-own-items.result.now l 0) (sym c.new-ties.ensures.items) (copies_begin c.as_slice-own-items.result.now)

pub loop-own-preserved : goal.loop-own-preserved
loop-own-preserved c = copies_next c.as_slice-own-items.result.now c.loop-own.ties.items c.push.new.self.items c.loop-own.own-index c.own-item.result _ c.loop-own-test.true c.own-item.is c.in_ok-copy.ensures c.in_ok-push.ensures.items c.loop-own.invariant

pub invariant_of-result : goal.invariant_of-result
invariant_of-result c =
    let ts = c.as_slice-own-items.result.now in
    let k = copies_all ts c.loop-own.ties.items c.loop-own.own-index c.loop-own-test.false c.loop-own.auto.own-index-end c.loop-own.invariant in
    copied_tied ts c.loop-own.ties.items k.0 k.1 (subst Tied (sym c.as_slice-own-items.ensures.value) c.self.invariant)

pub returns : goal.returns
returns c =
    let ts = c.as_slice-own-items.result.now in
    let k = copies_all ts c.loop-own.ties.items c.loop-own.own-index c.loop-own-test.false c.loop-own.auto.own-index-end c.loop-own.invariant in
    copied_edges ts c.loop-own.ties.items k.0 k.1 ∙ ap edges_in c.as_slice-own-items.ensures.value ∙ c.self.view_is
