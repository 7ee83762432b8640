use Rattle.std.proofs.Common.{◌≡◌, ◌+◌, ◌≤◌, drop}
use Rattle.wac_texts.specs.Places.{characters, first_line}
use Rattle.wac_texts.proofs.place.width_of.Given as goal

-- what is counted, with what is left, is the whole line
abbrev pub invariant-loop-byte : goal.invariant-loop-byte
invariant-loop-byte l = record {
  whole : characters (first_line l.text) ≡ l.width + characters (first_line (drop l.byte-index l.text));
  few : l.width ≤ l.byte-index;
}
