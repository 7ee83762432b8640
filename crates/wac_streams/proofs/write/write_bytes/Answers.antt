use Rattle.std.proofs.lemmas.Result.{err_from_is_err_and}
use Rattle.wac_streams.proofs.CallLaws.{front_more, front_stays, within_more, NoneFailed-more}
use Rattle.wac_streams.proofs.write.write_bytes.Goals as goal

pub returns-in_err-written-clause-prefix : goal.returns-in_err-written-clause-prefix
returns-in_err-written-clause-prefix g c =
    let p = err_from_is_err_and c.from_residual.result c.from_residual.ensures.1 in
    rw p.1 (front_stays _ _ _ c.args.bytes.now c.loop-written.written c.loop-written.invariant.appended c.in_err-written.ensures.kept)

pub loop-written-preserved : goal.loop-written-preserved
loop-written-preserved g c = record {
  within = within_more c.args.bytes.now c.loop-written.written c.in_ok-written.field-0 c.loop-written.invariant.within c.in_ok-written.ensures.some.1;
  appended = front_more _ _ _ c.args.bytes.now c.loop-written.written c.in_ok-written.field-0 c.loop-written.invariant.appended c.in_ok-written.ensures.taken;
  none_failed = NoneFailed-more _ _ _ c.loop-written.invariant.none_failed c.in_ok-written.ensures.none_failed;
}
