use Rattle.std.proofs.Common.{◌≡◌, ◌-◌, map}
use Rattle.wac_component.specs.Views.{import_view}
use Rattle.wac_component.specs.Rules.{times}
use Rattle.wac_component.specs.Numbers.{vec}
use Rattle.wac_component.specs.Sections.{import_entry}
use Rattle.wac_component.proofs.Loops.{with_front}
use Rattle.wac_component.proofs.sections.read_imports.Given as goal

abbrev pub invariant-loop : goal.invariant-loop
invariant-loop l = with_front (map import_view l.values.items) ((times (l.count - l.counter) import_entry).read l.rest) ≡ (vec import_entry).read l.bytes
