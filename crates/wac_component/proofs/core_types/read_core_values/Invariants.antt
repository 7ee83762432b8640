use Rattle.std.proofs.Common.{◌≡◌, ◌-◌}
use Rattle.wac_component.specs.Rules.{times}
use Rattle.wac_component.specs.Numbers.{vec}
use Rattle.wac_component.specs.CoreTypes.{core_value}
use Rattle.wac_component.proofs.Loops.{with_front}
use Rattle.wac_component.proofs.core_types.read_core_values.Given as goal

abbrev pub invariant-loop : goal.invariant-loop
invariant-loop l = with_front l.values.items ((times (l.count - l.counter) core_value).read l.rest) ≡ (vec core_value).read l.bytes
