use Rattle.wac_types_base.proofs.Loops.{get-place}
use Rattle.wac_texts.specs.Plugs.{IsReadable}
use Rattle.wac_texts.proofs.Planned.{all_next}
use Rattle.wac_texts.proofs.plugging.test_names.Goals as goal

pub loop-plug-preserved : goal.loop-plug-preserved
loop-plug-preserved c =
    let at = get-place c.args.plugs.now c.loop-plug.plug-index c.plug-item.result c.loop-plug-test.true c.plug-item.is in
    record {
      document = c.loop-plug.invariant.document;
      socket_is = c.loop-plug.invariant.socket_is;
      plugs_are = all_next IsReadable c.args.plugs.now c.loop-plug.plug-index c.plug-item.result at c.loop-plug.invariant.plugs_are (c.is_readable-in-loop-plug.ensures.0 c.if-not-is_readable-2.false);
    }
