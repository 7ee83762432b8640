use Rattle.std.proofs.Common.{◌≡◌, ◌-◌}
use Rattle.wac_component.specs.Rules.{times}
use Rattle.wac_component.specs.Numbers.{vec}
use Rattle.wac_component.specs.Numbers.{number}
use Rattle.wac_component.proofs.Loops.{with_front}
use Rattle.wac_component.proofs.sections.read_indexes.Given as goal

abbrev pub invariant-loop : goal.invariant-loop
invariant-loop l = with_front l.values.items ((times (l.count - l.counter) number).read l.rest) ≡ (vec number).read l.bytes
