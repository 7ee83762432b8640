use Rattle.std.proofs.Common.{map}
use Rattle.std.specs.Option.{option_copied, option_map}
use Rattle.std.proofs.lemmas.Bool.{and_from}
use Rattle.wac_graph_bytes.proofs.Components.{whole_component}
use Rattle.wac_graph_bytes.specs.Views.{view, processor_view, all_names_view}
use Rattle.wac_graph_bytes.specs.Writing.{section_of, debug_if, producers_if}
use Rattle.wac_graph_bytes.proofs.component.push_component.Goals as goal

pub returns : goal.returns
returns c = (
  whole_component c.args.out.now.items c.extend_from_slice.new.self.items c.push_entries.new.out.items c.push_debug_if.new.out.items c.push_producers_if.new.out.items
      (map section_of (map view c.args.entries.now)) (debug_if (all_names_view c.args.names.now)) (producers_if (option_map processor_view (option_copied c.args.processor)))
      c.in_ok-extend_from_slice.ensures.items c.in_ok-push_entries.ensures.0 c.in_ok-push_debug_if.ensures.0 c.in_ok-push_producers_if.ensures.0,
  and_from _ _ c.in_ok-push_entries.ensures.1 (and_from _ _ c.in_ok-push_debug_if.ensures.1 c.in_ok-push_producers_if.ensures.1),
)
