use Rattle.std.proofs.Common.{◌≡◌, ◌-◌, map}
use Rattle.wac_graph_bytes.specs.Views.{core_view}
use Rattle.wac_component.specs.Rules.{times}
use Rattle.wac_component.specs.Numbers.{vec}
use Rattle.wac_component.specs.CoreTypes.{core_declaration}
use Rattle.wac_component.proofs.Loops.{with_front}
use Rattle.wac_component.proofs.core_types.read_core_declarations.Given as goal

abbrev pub invariant-loop : goal.invariant-loop
invariant-loop l = with_front (map core_view l.values.items) ((times (l.count - l.counter) core_declaration).read l.rest) ≡ (vec core_declaration).read l.bytes
