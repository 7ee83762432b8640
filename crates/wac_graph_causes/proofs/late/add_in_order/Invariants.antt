use Rattle.std.proofs.Common.{◌≡◌, ◌++◌, take}
use Rattle.wac_types_base.specs.Collection.{Grows}
use Rattle.wac_types_base.specs.Entries.{Name, has_name}
use Rattle.wac_graph_causes.specs.Late.{AddsLate, written_after}
use Rattle.wac_graph_causes.specs.Standing.{spelled_in}
use Rattle.wac_graph_causes.proofs.late.add_in_order.Given as goal

-- those so far are added, and stand
abbrev pub invariant-loop-name : goal.invariant-loop-name
invariant-loop-name l = record {
  grows : Grows l.fn.types l.types;
  adds : AddsLate l.fn.types l.types l.fn.all.items l.all.items (written_after l.fn.types (spelled_in l.placed) l.interfaces l.fn.names (take l.name-index l.order));
  names : (n : Name) → has_name l.names n ≡ has_name (l.fn.names ++ take l.name-index l.order) n;
}
