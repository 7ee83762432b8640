use Rattle.std.proofs.Common.{◌≡◌, ◌++◌, map, take}
use Rattle.std.specs.Prelude.{string_bytes}
use Rattle.std.specs.List.{concat}
use Rattle.wac_texts.specs.Plugs.{argument_text}
use Rattle.wac_texts.proofs.plugging.write_arguments.Given as goal

-- the arguments so far are written
abbrev pub invariant-loop-argument : goal.invariant-loop-argument
invariant-loop-argument l = string_bytes l.text ≡ string_bytes l.initial.text ++ concat (map argument_text (take l.argument-index l.plan.arguments.items))
