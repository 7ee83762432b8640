use Rattle.std.proofs.Common.{◌≡◌, ◌-◌, map}
use Rattle.wac_component.specs.Views.{alias_view}
use Rattle.wac_component.specs.Rules.{times}
use Rattle.wac_component.specs.Numbers.{vec}
use Rattle.wac_component.specs.Sorts.{alias}
use Rattle.wac_component.proofs.Loops.{with_front}
use Rattle.wac_component.proofs.sections.read_aliases.Given as goal

abbrev pub invariant-loop : goal.invariant-loop
invariant-loop l = with_front (map alias_view l.values.items) ((times (l.count - l.counter) alias).read l.rest) ≡ (vec alias).read l.bytes
