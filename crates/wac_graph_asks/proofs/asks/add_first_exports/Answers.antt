use Rattle.std.proofs.Common.{◌≡◌, length, slice_get, Some, ap, subst, arith}
use Rattle.wac_graph_asks.proofs.FirstNames.{none_named, next_named, all_named}
use Rattle.wac_graph_asks.proofs.asks.add_first_exports.Goals as goal

pub loop-at-init : goal.loop-at-init
loop-at-init c = none_named c.args.names.now.entries c.args.graph.now.exports c.requires

pub loop-at-preserved : goal.loop-at-preserved
loop-at-preserved c =
    next_named c.loop-at.names.entries c.name_first.new.names.entries c.args.graph.now.exports c.loop-at.at c.entry-node.result.0.now c.entry-node.result.1 c.loop-at.invariant
    (subst (λ l. slice_get l c.loop-at.at ≡ Some (c.entry-node.result.0.now, c.entry-node.result.1)) c.exports-listed.ensures c.entry-node.ensures) c.in_ok-name_first.ensures

pub returns : goal.returns
returns c =
    let same = ap (λ l. length l) c.exports-listed.ensures in
    all_named c.loop-at.names.entries c.args.graph.now.exports c.loop-at.at (omega (arith, same, c.len-at-end.ensures.len, c.loop-at-test.false)) c.loop-at.invariant
