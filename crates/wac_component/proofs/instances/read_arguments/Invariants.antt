use Rattle.std.proofs.Common.{◌≡◌, ◌-◌, map}
use Rattle.wac_component.specs.Views.{item_view}
use Rattle.wac_component.specs.Rules.{times}
use Rattle.wac_component.specs.Numbers.{vec}
use Rattle.wac_component.specs.Instances.{argument}
use Rattle.wac_component.proofs.Loops.{with_front}
use Rattle.wac_component.proofs.instances.read_arguments.Given as goal

abbrev pub invariant-loop : goal.invariant-loop
invariant-loop l = with_front (map item_view l.values.items) ((times (l.count - l.counter) argument).read l.rest) ≡ (vec argument).read l.bytes
