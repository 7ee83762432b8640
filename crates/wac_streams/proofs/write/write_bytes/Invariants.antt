use Rattle.std.proofs.Common.{◌-◌, ◌≤◌, length, take}
use Rattle.std.specs.Io.KnownBytes.{Appends}
use Rattle.wac_streams.specs.Calls.{NoneFailed}
use Rattle.wac_streams.proofs.write.write_bytes.Given as goal

abbrev pub invariant-loop-written : goal.invariant-loop-written
invariant-loop-written g l = record {
  within : l.written ≤ length l.bytes;
  appended : Appends (g.W.Write.contents l.initial.writer) (g.W.Write.contents l.writer) (take l.written l.bytes);
  none_failed : NoneFailed (g.W.ByteSink.calls l.initial.writer) (g.W.ByteSink.calls l.writer);
}

abbrev pub decreases-loop-written : goal.decreases-loop-written
decreases-loop-written g l = length l.bytes - l.written
