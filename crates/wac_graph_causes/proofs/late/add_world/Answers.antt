use Rattle.std.proofs.Common.{ap, ◌∙◌}
use Rattle.std.proofs.lemmas.Result.{on_ok_weaker}
use Rattle.wac_graph_causes.specs.Late.{world_written, written_after}
use Rattle.wac_graph_causes.specs.Standing.{spelled_in}
use Rattle.wac_graph_causes.proofs.LateLaws.{adds_as, interfaces_stand, world_added}
use Rattle.wac_graph_causes.proofs.late.add_world.Goals as goal

pub add_in_order-requires : goal.add_in_order-requires
add_in_order-requires c = interfaces_stand c.args.types.now c.see_acyclic.ensures c.args.world c.in_ok-interfaces.interfaces c.in_ok-interfaces.ensures

pub returns-clause-adds : goal.returns-clause-adds
returns-clause-adds c =
    let d = c.args.types.now in
    on_ok_weaker c.add_in_order.result
    (λ f. adds_as d c.add_in_order.new.types c.args.all.now.items c.add_in_order.new.all.items _ (world_written d (spelled_in c.args.placed) c.args.world)
    (ap (λ ns. written_after d (spelled_in c.args.placed) c.in_ok-interfaces.interfaces ns c.deref.result.now) c.new-names.ensures ∙ world_added d c.see_acyclic.ensures (spelled_in c.args.placed) c.args.world c.in_ok-interfaces.interfaces c.deref.result.now c.in_ok-interfaces.ensures (c.deref.ensures.value ∙ c.in_ok-order.ensures)) f)
    c.add_in_order.ensures.adds
