use Rattle.std.proofs.Common.{ap, map, ◌∙◌}
use Rattle.std.specs.Prelude.{option_map}
use Rattle.std.specs.FinMap as finite
use Rattle.wac_graph_core.specs.Copying.{node_under}
use Rattle.wac_graph_core.proofs.Copied.{slots_there}
use Rattle.wac_graph_core.proofs.nodes.Nodes.copy_under.Goals as goal

pub returns : goal.returns
returns c k =
    slots_there c.args.number c.self.inside.slots.items c.in_ok-slots.slots.items (c.in_ok-slots.ensures ∙ ap (map (option_map (node_under c.args.number))) c.as_slice.ensures.value) k
    ∙ ap (λ m. option_map (node_under c.args.number) (finite.get m k)) c.self.view_is
