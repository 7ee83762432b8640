use Rattle.std.proofs.Common.{All, take}
use Rattle.wac_texts.specs.Plugs.{IsSpelled}
use Rattle.wac_texts.proofs.plugging.test_arguments.Given as goal

-- those so far can be written
abbrev pub invariant-loop-argument : goal.invariant-loop-argument
invariant-loop-argument l = All IsSpelled (take l.argument-index l.arguments)
