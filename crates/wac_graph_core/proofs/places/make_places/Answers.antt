use Rattle.std.proofs.Common.{sym, subst}
use Rattle.wac_graph_core.specs.TieSteps.{IsRoomier}
use Rattle.wac_graph_core.proofs.Placing.{roomier_self, roomier_on, roomier_last}
use Rattle.wac_graph_core.proofs.places.make_places.Goals as goal

pub loop-alloc-init : goal.loop-alloc-init
loop-alloc-init c = roomier_self c.args.ties.now.items

pub loop-alloc-preserved : goal.loop-alloc-preserved
loop-alloc-preserved c =
    subst (IsRoomier c.args.ties.now.items) (sym c.in_ok-push.ensures.items)
    (roomier_on c.args.ties.now.items c.loop-alloc.ties.items _ c.loop-alloc.invariant (roomier_last c.loop-alloc.ties.items c.no_ties.result c.no_ties.ensures.dependants c.no_ties.ensures.arguments c.no_ties.ensures.source))
