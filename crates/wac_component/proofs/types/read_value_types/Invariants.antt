use Rattle.std.proofs.Common.{◌≡◌, ◌-◌}
use Rattle.wac_component.specs.Rules.{times}
use Rattle.wac_component.specs.Numbers.{vec}
use Rattle.wac_component.specs.Types.{value_type}
use Rattle.wac_component.proofs.Loops.{with_front}
use Rattle.wac_component.proofs.types.read_value_types.Given as goal

abbrev pub invariant-loop : goal.invariant-loop
invariant-loop l = with_front l.values.items ((times (l.count - l.counter) value_type).read l.rest) ≡ (vec value_type).read l.bytes
