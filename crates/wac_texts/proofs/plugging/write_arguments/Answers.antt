use Rattle.std.proofs.Common.{◌≡◌, ◌++◌, ◌∙◌, Some, slice_get, ap, subst}
use Rattle.wac_types_base.proofs.Loops.{get-place}
use Rattle.wac_texts.specs.Plugs.{argument_text}
use Rattle.wac_texts.proofs.Written.{arguments_next}
use Rattle.wac_texts.proofs.plugging.write_arguments.Goals as goal

pub loop-argument-preserved : goal.loop-argument-preserved
loop-argument-preserved c =
    let items = c.deref-argument-items.result.now in
    let i = c.loop-argument.argument-index in
    let x = c.argument-item.result in
    let here : slice_get items i ≡ Some x = get-place items i x c.loop-argument-test.true c.argument-item.is in
    arguments_next c.args.plan.now.arguments.items i x _ _ (subst (λ l. slice_get l i ≡ Some x) c.deref-argument-items.ensures.value here)
    (c.in_ok-write_argument.ensures ∙ ap (λ t. t ++ argument_text x) c.loop-argument.invariant)
