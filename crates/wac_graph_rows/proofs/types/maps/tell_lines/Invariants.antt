use Rattle.std.proofs.Common.{Some, string_bytes}
use Rattle.wac_types_names.specs.NameMaps.{KnowsKeys}
use Rattle.wac_graph_rows.proofs.types.maps.tell_lines.Given as goal

abbrev pub invariant-loop-line : goal.invariant-loop-line
invariant-loop-line l =
    (goal.iterator-loop-line).can_next l.line-iterator ×
    (goal.iterator-loop-line).is_finite l.line-iterator ×
    KnowsKeys (λ k. Some (string_bytes k)) l.map
