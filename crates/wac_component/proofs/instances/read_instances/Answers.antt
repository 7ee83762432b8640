use Rattle.std.proofs.Common.{◌≡◌, ◌++◌, ◌∷◌, [], map}
use Rattle.std.proofs.lemmas.Result.{err_from_is_err_and}
use Rattle.std.proofs.lemmas.List.{map_push}
use Rattle.wac_component.specs.Views.{instance_view}
use Rattle.wac_component.specs.Numbers.{vec}
use Rattle.wac_component.specs.Instances.{instance}
use Rattle.wac_component.proofs.Loops.{goes_on, ends, is_done}
use Rattle.wac_component.proofs.instances.read_instances.Goals as goal

pub returns-in_err-value : goal.returns-in_err-value
returns-in_err-value c =
    let p = err_from_is_err_and c.from_residual-in_err-value.result c.from_residual-in_err-value.ensures.1 in
    rw (p.1, p.2) (ends instance c.in_err-value.field-0.0 (map instance_view c.loop.values.items) c.in_ok-count.count c.loop.counter c.loop.rest.now ((vec instance).read c.args.bytes.now) c.loop-test.true c.in_err-value.ensures c.loop.invariant)

pub loop-preserved : goal.loop-preserved
loop-preserved c =
    let x = c.in_ok-value.value in
    let e : map instance_view c.push.new.self.items ≡ map instance_view c.loop.values.items ++ instance_view x ∷ [] = rw c.in_ok-push.ensures.items (map_push _ c.loop.values.items x) in
    rw e (goes_on instance (map instance_view c.loop.values.items) c.in_ok-count.count c.loop.counter c.loop.rest.now (instance_view x) c.in_ok-value.after.now ((vec instance).read c.args.bytes.now) c.loop-test.true c.in_ok-value.ensures c.loop.invariant)

pub returns : goal.returns
returns c = is_done instance (map instance_view c.loop.values.items) c.in_ok-count.count c.loop.counter c.loop.rest.now ((vec instance).read c.args.bytes.now) c.loop-test.false c.loop.invariant
