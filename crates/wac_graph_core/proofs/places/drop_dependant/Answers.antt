use Rattle.std.proofs.Common.{arith}
use Rattle.wac_graph_core.proofs.Placing.{drops_at, drops_none}
use Rattle.wac_graph_core.proofs.places.drop_dependant.Goals as goal

pub returns-then-index-len : goal.returns-then-index-len
returns-then-index-len c =
    drops_at c.args.ties.now.items c.args.node c.index-then-index-len.result c.args.tie.now c.index_mut.result.now c.take_tie.new.list c.index-then-index-len.ensures (omega (arith, c.if-index-len.true, c.index.ensures, c.len.ensures, c.args.ties.now.ok.0)) c.index_mut.ensures.value c.take_tie.ensures

pub returns-else-index-len : goal.returns-else-index-len
returns-else-index-len c = drops_none c.args.ties.now.items c.args.node c.args.tie.now (omega (arith, c.if-index-len.false, c.index.ensures, c.len.ensures, c.args.ties.now.ok.0))
