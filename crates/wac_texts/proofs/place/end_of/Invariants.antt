use Rattle.std.proofs.Common.{◌≡◌, ◌+◌, ◌≤◌, take}
use Rattle.wac_texts.specs.Places.{newlines, behind_newline}
use Rattle.wac_texts.proofs.place.end_of.Given as goal

-- where the bytes so far end
abbrev pub invariant-loop-byte : goal.invariant-loop-byte
invariant-loop-byte l = record {
  line : l.line ≡ 1 + newlines (take l.byte-index l.text);
  column : l.column ≡ 1 + behind_newline (take l.byte-index l.text);
  few_lines : l.line ≤ 1 + l.byte-index;
  few_columns : l.column ≤ 1 + l.byte-index;
}
