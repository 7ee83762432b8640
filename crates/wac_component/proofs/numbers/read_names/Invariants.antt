use Rattle.std.proofs.Common.{◌≡◌, ◌-◌, map, string_bytes}
use Rattle.wac_component.specs.Rules.{times}
use Rattle.wac_component.specs.Numbers.{name, vec}
use Rattle.wac_component.proofs.Loops.{with_front}
use Rattle.wac_component.proofs.numbers.read_names.Given as goal

abbrev pub invariant-loop : goal.invariant-loop
invariant-loop l = with_front (map string_bytes l.values.items) ((times (l.count - l.counter) name).read l.rest) ≡ (vec name).read l.bytes
