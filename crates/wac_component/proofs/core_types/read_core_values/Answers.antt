use Rattle.std.proofs.Common.{◌≡◌, ◌++◌, ◌∷◌, [], refl}
use Rattle.std.proofs.lemmas.Result.{err_from_is_err_and}
use Rattle.wac_component.specs.Numbers.{vec}
use Rattle.wac_component.specs.CoreTypes.{core_value}
use Rattle.wac_component.proofs.Loops.{goes_on, ends, is_done}
use Rattle.wac_component.proofs.core_types.read_core_values.Goals as goal

pub returns-in_err-value : goal.returns-in_err-value
returns-in_err-value c =
    let p = err_from_is_err_and c.from_residual-in_err-value.result c.from_residual-in_err-value.ensures.1 in
    rw (p.1, p.2) (ends core_value c.in_err-value.field-0.0 c.loop.values.items c.in_ok-count.count c.loop.counter c.loop.rest.now ((vec core_value).read c.args.bytes.now) c.loop-test.true c.in_err-value.ensures c.loop.invariant)

pub loop-preserved : goal.loop-preserved
loop-preserved c =
    let x = c.in_ok-value.value in
    let e : c.push.new.self.items ≡ c.loop.values.items ++ x ∷ [] = rw c.in_ok-push.ensures.items refl in
    rw e (goes_on core_value c.loop.values.items c.in_ok-count.count c.loop.counter c.loop.rest.now x c.in_ok-value.after.now ((vec core_value).read c.args.bytes.now) c.loop-test.true c.in_ok-value.ensures c.loop.invariant)

pub returns : goal.returns
returns c = is_done core_value c.loop.values.items c.in_ok-count.count c.loop.counter c.loop.rest.now ((vec core_value).read c.args.bytes.now) c.loop-test.false c.loop.invariant
