use Rattle.std.proofs.Common.{◌≡◌, ◌-◌, map}
use Rattle.wac_component.specs.Views.{export_view}
use Rattle.wac_component.specs.Rules.{times}
use Rattle.wac_component.specs.Numbers.{vec}
use Rattle.wac_component.specs.Sections.{export_entry}
use Rattle.wac_component.proofs.Loops.{with_front}
use Rattle.wac_component.proofs.sections.read_exports.Given as goal

abbrev pub invariant-loop : goal.invariant-loop
invariant-loop l = with_front (map export_view l.values.items) ((times (l.count - l.counter) export_entry).read l.rest) ≡ (vec export_entry).read l.bytes
