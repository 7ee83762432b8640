use Rattle.std.proofs.Common.{◌≡◌, ◌-◌, map}
use Rattle.wac_component.specs.Views.{item_view}
use Rattle.wac_component.specs.Rules.{times}
use Rattle.wac_component.specs.Numbers.{vec}
use Rattle.wac_component.specs.Instances.{item}
use Rattle.wac_component.proofs.Loops.{with_front}
use Rattle.wac_component.proofs.instances.read_items.Given as goal

abbrev pub invariant-loop : goal.invariant-loop
invariant-loop l = with_front (map item_view l.values.items) ((times (l.count - l.counter) item).read l.rest) ≡ (vec item).read l.bytes
