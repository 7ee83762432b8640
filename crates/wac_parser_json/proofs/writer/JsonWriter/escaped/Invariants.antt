use Rattle.std.proofs.Common.{◌-◌, ◌≤◌, length, take}
use Rattle.json.specs.Print.{escape}
use Rattle.wac_parser_json.specs.Writers.{WritesBytes}
use Rattle.wac_parser_json.proofs.writer.JsonWriter.escaped.Given as goal

abbrev pub invariant-loop-at : goal.invariant-loop-at
invariant-loop-at g l = record {
  fits : l.at ≤ length l.bytes;
  text : WritesBytes g.W.Write.contents g.W.ByteSink.calls l.initial.self (escape (take l.at l.bytes)) l.self;
}

abbrev pub decreases-loop-at : goal.decreases-loop-at
decreases-loop-at g l = length l.bytes - l.at
