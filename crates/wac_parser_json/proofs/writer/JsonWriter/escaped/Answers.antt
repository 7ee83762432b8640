use Rattle.std.proofs.Common.{arith, length-drop}
use Rattle.std.proofs.lemmas.List.{take_rest}
use Rattle.wac_parser_json.proofs.Writing.{nothing, then, of_bytes, escaped_more}
use Rattle.wac_parser_json.proofs.writer.JsonWriter.escaped.Goals as goal

pub loop-at-init : goal.loop-at-init
loop-at-init g c = record { fits = omega arith; text = nothing _ }

pub loop-at-preserved : goal.loop-at-preserved
loop-at-preserved g c =
    let part = rw take_rest at c.escaped_front-at.ensures.text in
    let within = rw take_rest at c.escaped_front-at.ensures.fits in
    record {
      fits = omega (arith, within, length-drop c.loop-at.at c.args.bytes.now);
      text = of_bytes (escaped_more c.args.bytes.now c.loop-at.at c.escaped_front-at.result) (then c.loop-at.invariant.text part);
    }
