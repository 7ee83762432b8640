use Rattle.std.proofs.Common.{◌+◌, ◌<◌, length, sym, ap, subst, refl, ◌∙◌, arith}
use Rattle.wac_types_base.specs.declared.item.ItemKind.{ItemKind}
use Rattle.wac_types_base.specs.Collection.{size_of}
use Rattle.wac_types_base.specs.Graph.{Among}
use Rattle.wac_types_base.proofs.Looked.{among-get}
use Rattle.wac_types_base.proofs.Loops.{get-place}
use Rattle.wac_types_merge.proofs.Families.{world_use_inside}
use Rattle.wac_graph_asks.specs.AskedUses.{with_used, all_with_used, used_by_world}
use Rattle.wac_graph_asks.proofs.Using.{component_uses}
use Rattle.wac_graph_asks.proofs.Uses.{adds_none, below_all, all_after, one_more, adds_all}
use Rattle.wac_graph_asks.proofs.asks.ask_world.Goals as goal

pub loop-used-init : goal.loop-used-init
loop-used-init c = adds_none c.args.types.now c.args.all.now c.args.all.now refl refl

pub ask_use-requires : goal.ask_use-requires
ask_use-requires c =
    let us = c.values-uses.result.now in
    let within : c.loop-used.used-index < length us = omega arith in
    let at = get-place us c.loop-used.used-index c.used-item.result within c.used-item.is in
    record {
      stands = (world_use_inside c.args.types.now c.world.ensures.acyclic c.args.id c.world.result.now c.requires.stands c.world.ensures.entry c.world.ensures.own c.used-item.result
          (subst (Among c.used-item.result) c.values-uses.ensures (among-get us c.loop-used.used-index c.used-item.result at))).0;
      below = below_all c.args.types.now c.loop-used.all (size_of c.args.types.now (ItemKind.Instance c.used-item.result.interface) + 1) (all_after c.args.types.now c.args.all.now c.loop-used.all c.requires.seen c.loop-used.invariant);
    }

pub loop-used-preserved : goal.loop-used-preserved
loop-used-preserved c =
    let us = c.values-uses.result.now in
    let within : c.loop-used.used-index < length us = omega arith in
    one_more c.args.types.now (λ u. with_used c.args.types.now u.interface) c.args.by us c.loop-used.used-index c.used-item.result c.args.all.now c.loop-used.all c.ask_use.new.all
    (get-place us c.loop-used.used-index c.used-item.result within c.used-item.is) c.loop-used.invariant c.in_ok-ask_use.ensures

pub returns : goal.returns
returns c =
    let us = c.values-uses.result.now in
    adds_all c.args.types.now (λ u. with_used c.args.types.now u.interface) c.args.by us c.loop-used.used-index (used_by_world c.args.types.now c.args.id) c.args.all.now c.loop-used.all (omega arith)
    (ap (all_with_used c.args.types.now) c.values-uses.ensures ∙ sym (component_uses c.args.types.now c.world.ensures.acyclic c.args.id c.world.result.now c.world.ensures.entry c.world.ensures.own)) c.loop-used.invariant
