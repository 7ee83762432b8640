use Rattle.std.proofs.Common.{◌≡◌, ◌-◌, map}
use Rattle.wac_component.specs.Views.{core_argument_view}
use Rattle.wac_component.specs.Rules.{times}
use Rattle.wac_component.specs.Numbers.{vec}
use Rattle.wac_component.specs.Instances.{core_argument}
use Rattle.wac_component.proofs.Loops.{with_front}
use Rattle.wac_component.proofs.instances.read_core_arguments.Given as goal

abbrev pub invariant-loop : goal.invariant-loop
invariant-loop l = with_front (map core_argument_view l.values.items) ((times (l.count - l.counter) core_argument).read l.rest) ≡ (vec core_argument).read l.bytes
