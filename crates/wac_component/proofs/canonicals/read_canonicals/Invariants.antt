use Rattle.std.proofs.Common.{◌≡◌, ◌-◌, map}
use Rattle.wac_component.specs.Views.{canonical_view}
use Rattle.wac_component.specs.Rules.{times}
use Rattle.wac_component.specs.Numbers.{vec}
use Rattle.wac_component.specs.Canonicals.{canonical}
use Rattle.wac_component.proofs.Loops.{with_front}
use Rattle.wac_component.proofs.canonicals.read_canonicals.Given as goal

abbrev pub invariant-loop : goal.invariant-loop
invariant-loop l = with_front (map canonical_view l.values.items) ((times (l.count - l.counter) canonical).read l.rest) ≡ (vec canonical).read l.bytes
