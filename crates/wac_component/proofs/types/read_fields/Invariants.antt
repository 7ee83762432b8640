use Rattle.std.proofs.Common.{◌≡◌, ◌-◌, map}
use Rattle.wac_graph_bytes.specs.Views.{param_view}
use Rattle.wac_component.specs.Rules.{times}
use Rattle.wac_component.specs.Numbers.{vec}
use Rattle.wac_component.specs.Types.{field}
use Rattle.wac_component.proofs.Loops.{with_front}
use Rattle.wac_component.proofs.types.read_fields.Given as goal

abbrev pub invariant-loop : goal.invariant-loop
invariant-loop l = with_front (map param_view l.values.items) ((times (l.count - l.counter) field).read l.rest) ≡ (vec field).read l.bytes
