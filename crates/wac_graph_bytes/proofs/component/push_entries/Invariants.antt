use Rattle.std.proofs.Common.{◌≡◌, ◌++◌, take, true, map}
use Rattle.std.specs.List.{flat_map, list_all}
use Rattle.wac_graph_bytes.specs.Spelling.{section_bytes}
use Rattle.wac_graph_bytes.specs.Views.{view}
use Rattle.wac_graph_bytes.specs.Writing.{section_of, entry_fits}
use Rattle.wac_graph_bytes.proofs.component.push_entries.Given as goal

abbrev pub invariant-loop-e : goal.invariant-loop-e
invariant-loop-e l = record {
  bytes : l.out.items ≡ l.fn.out.items ++ flat_map section_bytes (map section_of (map view (take l.e-index l.entries)));
  all_fit : list_all entry_fits (map view (take l.e-index l.entries)) ≡ true;
}
