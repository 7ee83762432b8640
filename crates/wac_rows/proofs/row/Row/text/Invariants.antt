use Rattle.std.proofs.Common.{◌≡◌, drop}
use Rattle.wac_rows.specs.Parts.{first_text}
use Rattle.wac_rows.proofs.row.Row.text.Given as goal

abbrev pub invariant-loop-part : goal.invariant-loop-part
invariant-loop-part l = first_text l.kind (drop l.part-index l.part-items) ≡ first_text l.kind l.self.parts.items
