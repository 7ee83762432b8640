use Rattle.std.proofs.Common.{◌≡◌, ◌++◌, ◌<◌, ◌∙◌, length, get_or, slice_get, Some, option_map, ap, subst, arith}
use Rattle.wac_types_base.proofs.Used.{place_or}
use Rattle.wac_texts.specs.Plugs.{plug_at}
use Rattle.wac_texts.proofs.Written.{got, plugs_next}
use Rattle.wac_texts.proofs.plugging.write_plugs.Goals as goal

pub loop-number-preserved : goal.loop-number-preserved
loop-number-preserved c =
    let items = c.deref-at-items.result.now in
    let n = c.loop-number.number in
    let x = get_or items n 0 in
    let within : n < length items = omega (arith, c.loop-number-test.true) in
    let here : slice_get items n ≡ Some x = place_or items n 0 within in
    let same = c.deref-at-items.ensures.value in
    plugs_next c.args.plugs.now c.args.plan.now.plugs.items n x _ _ _ (subst (λ l. n < length l) same within) (subst (λ l. slice_get l n ≡ Some x) same here)
    (ap (plug_at n) (got _ c.get.result c.args.plugs.now x c.get.ensures.lookup.1 c.get.ensures.lookup.3)) (c.in_ok-write_plug.ensures ∙ ap (λ t. t ++ plug_at n (option_map (λ p. p.now) c.get.result)) c.loop-number.invariant)
