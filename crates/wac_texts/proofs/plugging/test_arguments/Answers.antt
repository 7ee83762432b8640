use Rattle.wac_types_base.proofs.Loops.{get-place}
use Rattle.wac_texts.specs.Plugs.{IsSpelled}
use Rattle.wac_texts.proofs.Planned.{all_next, all_through}
use Rattle.wac_texts.proofs.plugging.test_arguments.Goals as goal

pub loop-argument-preserved : goal.loop-argument-preserved
loop-argument-preserved c =
    let at = get-place c.args.arguments.now c.loop-argument.argument-index c.argument-item.result c.loop-argument-test.true c.argument-item.is in
    all_next IsSpelled c.args.arguments.now c.loop-argument.argument-index c.argument-item.result at c.loop-argument.invariant (c.is_spelled.ensures.0 c.if-not-is_spelled.false)

pub returns-clause-spelled : goal.returns-clause-spelled
returns-clause-spelled c = all_through IsSpelled c.args.arguments.now c.loop-argument.argument-index c.loop-argument-test.false c.loop-argument.invariant
