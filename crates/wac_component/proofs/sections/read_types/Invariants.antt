use Rattle.std.proofs.Common.{◌≡◌, ◌-◌, map}
use Rattle.wac_component.specs.Views.{type_view}
use Rattle.wac_component.specs.Rules.{times}
use Rattle.wac_component.specs.Numbers.{vec}
use Rattle.wac_component.specs.Declarations.{type_entry}
use Rattle.wac_component.proofs.Loops.{with_front}
use Rattle.wac_component.proofs.sections.read_types.Given as goal

abbrev pub invariant-loop : goal.invariant-loop
invariant-loop l = with_front (map type_view l.values.items) ((times (l.count - l.counter) type_entry).read l.rest) ≡ (vec type_entry).read l.bytes
