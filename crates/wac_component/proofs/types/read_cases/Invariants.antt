use Rattle.std.proofs.Common.{◌≡◌, ◌-◌, map}
use Rattle.wac_graph_bytes.specs.Views.{case_view}
use Rattle.wac_component.specs.Rules.{times}
use Rattle.wac_component.specs.Numbers.{vec}
use Rattle.wac_component.specs.Types.{case_type}
use Rattle.wac_component.proofs.Loops.{with_front}
use Rattle.wac_component.proofs.types.read_cases.Given as goal

abbrev pub invariant-loop : goal.invariant-loop
invariant-loop l = with_front (map case_view l.values.items) ((times (l.count - l.counter) case_type).read l.rest) ≡ (vec case_type).read l.bytes
