use Rattle.std.proofs.Common.{◌≡◌, ◌-◌, map}
use Rattle.wac_component.specs.Views.{instance_view}
use Rattle.wac_component.specs.Rules.{times}
use Rattle.wac_component.specs.Numbers.{vec}
use Rattle.wac_component.specs.Instances.{instance}
use Rattle.wac_component.proofs.Loops.{with_front}
use Rattle.wac_component.proofs.instances.read_instances.Given as goal

abbrev pub invariant-loop : goal.invariant-loop
invariant-loop l = with_front (map instance_view l.values.items) ((times (l.count - l.counter) instance).read l.rest) ≡ (vec instance).read l.bytes
