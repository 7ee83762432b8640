use Rattle.std.proofs.Common.{◌≡◌, ◌++◌, take}
use Rattle.std.specs.Prelude.{string_bytes}
use Rattle.wac_texts.specs.Plugs.{plugs_text}
use Rattle.wac_texts.proofs.plugging.write_plugs.Given as goal

-- the plugs so far are written
abbrev pub invariant-loop-number : goal.invariant-loop-number
invariant-loop-number l = string_bytes l.text ≡ string_bytes l.initial.text ++ plugs_text 0 l.plugs (take l.number l.plan.plugs.items)
