use Rattle.std.proofs.Common.{◌≡◌, ◌-◌, map}
use Rattle.wac_component.specs.Views.{core_type_view}
use Rattle.wac_component.specs.Rules.{times}
use Rattle.wac_component.specs.Numbers.{vec}
use Rattle.wac_component.specs.CoreTypes.{core_type}
use Rattle.wac_component.proofs.Loops.{with_front}
use Rattle.wac_component.proofs.core_types.read_core_types.Given as goal

abbrev pub invariant-loop : goal.invariant-loop
invariant-loop l = with_front (map core_type_view l.values.items) ((times (l.count - l.counter) core_type).read l.rest) ≡ (vec core_type).read l.bytes
