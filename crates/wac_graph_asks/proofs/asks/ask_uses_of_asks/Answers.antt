use Rattle.std.proofs.Common.{◌<◌, length, refl, arith}
use Rattle.wac_types_base.specs.Collection.{size_of}
use Rattle.wac_types_base.proofs.Looked.{among-get}
use Rattle.wac_types_base.proofs.Loops.{get-place}
use Rattle.wac_graph_asks.proofs.Uses.{adds_none, uses_as, below_all, all_after, more_uses, all_uses, ask_uses_of, asks_use}
use Rattle.wac_graph_asks.proofs.asks.ask_uses_of_asks.Goals as goal

pub loop-ask-init : goal.loop-ask-init
loop-ask-init c = adds_none c.args.types.now c.args.all.now c.args.all.now refl refl

pub ask_uses-requires : goal.ask_uses-requires
ask_uses-requires c =
    let within : c.loop-ask.ask-index < length c.args.asks.now = omega arith in
    let at = get-place c.args.asks.now c.loop-ask.ask-index c.ask-item.result within c.ask-item.is in
    record {
      stands = c.requires.stand c.ask-item.result (among-get c.args.asks.now c.loop-ask.ask-index c.ask-item.result at);
      below = below_all c.args.types.now c.loop-ask.all (size_of c.args.types.now c.ask-item.result.item) (all_after c.args.types.now c.args.all.now c.loop-ask.all c.requires.seen c.loop-ask.invariant);
    }

pub loop-ask-preserved : goal.loop-ask-preserved
loop-ask-preserved c =
    let within : c.loop-ask.ask-index < length c.args.asks.now = omega arith in
    more_uses c.args.types.now (ask_uses_of c.args.types.now) c.args.asks.now c.loop-ask.ask-index c.ask-item.result c.args.all.now c.loop-ask.all c.ask_uses.new.all
    (get-place c.args.asks.now c.loop-ask.ask-index c.ask-item.result within c.ask-item.is) c.loop-ask.invariant c.in_ok-ask_uses.ensures

pub returns : goal.returns
returns c =
    uses_as c.args.types.now c.args.all.now c.loop-ask.all
    (all_uses c.args.types.now (ask_uses_of c.args.types.now) c.args.asks.now c.loop-ask.ask-index c.args.all.now c.loop-ask.all (omega arith) c.loop-ask.invariant) (asks_use c.args.types.now c.args.asks.now)
