use Rattle.std.proofs.Common.{refl, subst}
use Rattle.wac_types_base.specs.Collection.{IsAcyclic}
use Rattle.wac_graph_bytes.specs.Views.{arguments_view}
use Rattle.wac_graph_bytes.specs.Entries.{Instantiate}
use Rattle.wac_graph_encode.proofs.Nested.{entry_nests_none}
use Rattle.wac_graph_encode.proofs.WritingSteps.{instance_wired}
use Rattle.wac_graph_encode.proofs.instances.Wired.instance.Goals as goal

pub returns-clause-writes : goal.returns-clause-writes
returns-clause-writes c k of are define worlds asked h fresh =
    let w = c.args.self.now in
    instance_wired w c.see_sound.ensures (subst IsAcyclic c.types.ensures c.see_acyclic.ensures) c.add_instance.new.self k c.in_ok-place.place c.args.id c.component-component.result c.args.bound.now (arguments_view c.in_ok-arguments.arguments.items) of
    c.component-component.ensures are c.in_ok-arguments.ensures c.in_ok-place.ensures define worlds asked h fresh

pub returns-clause-same : goal.returns-clause-same
returns-clause-same c = record {
  graph = refl;
  places = refl;
  imports = refl;
  packages = c.in_ok-place.ensures.packages;
  exported = c.in_ok-place.ensures.exported;
  nested = entry_nests_none c.args.self.now.root.entries.items c.add_instance.new.self.entries.items (Instantiate c.component-component.result (arguments_view c.in_ok-arguments.arguments.items)) refl c.in_ok-place.ensures.entry;
}
