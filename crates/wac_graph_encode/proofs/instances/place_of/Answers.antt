use Rattle.std.specs.Option.{option_copied}
use Rattle.std.proofs.Common.{sym, ap, ◌∙◌}
use Rattle.wac_graph_core.specs.contracts.ids.NodeIdPartialEq.TheImpl as node
use Rattle.wac_graph_encode.proofs.Entries.{found_among, none_among, same_node}
use Rattle.wac_graph_encode.proofs.instances.place_of.Goals as goal

pub returns : goal.returns
returns c = found_among node.eq-value.it same_node c.args.nodes.now.entries c.args.node c.in-Some.place.now (sym c.get.ensures.value ∙ ap option_copied c.in-Some.is)

pub unreachable-requires : goal.unreachable-requires
unreachable-requires c = none_among node.eq-value.it same_node c.args.nodes.now.entries c.args.node (sym c.get.ensures.value ∙ ap option_copied c.in-None.is) c.requires
