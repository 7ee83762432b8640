use Rattle.std.proofs.Common.{◌≡◌, ◌-◌}
use Rattle.wac_component.specs.Rules.{times}
use Rattle.wac_component.specs.Numbers.{vec}
use Rattle.wac_component.specs.Canonicals.{canonical_option}
use Rattle.wac_component.proofs.Loops.{with_front}
use Rattle.wac_component.proofs.canonicals.read_options.Given as goal

abbrev pub invariant-loop : goal.invariant-loop
invariant-loop l = with_front l.values.items ((times (l.count - l.counter) canonical_option).read l.rest) ≡ (vec canonical_option).read l.bytes
