use Rattle.std.proofs.Common.{sym, ap, ◌∙◌}
use Rattle.std.proofs.lemmas.Result.{on_ok_weaker}
use Rattle.std.specs.Option.{option_copied}
use Rattle.wac_graph_core.specs.contracts.ids.NodeIdPartialEq.TheImpl as node
use Rattle.wac_graph_encode.proofs.Entries.{same_node, none_among}
use Rattle.wac_graph_encode.proofs.WritingLaws.{export_of_found}
use Rattle.wac_graph_encode.proofs.instances.export_node.Goals as goal

pub unreachable-requires : goal.unreachable-requires
unreachable-requires c = none_among node.eq-value.it same_node c.args.nodes.now.entries c.args.node (sym c.get.ensures.value ∙ ap option_copied c.in-None.is) c.requires

pub returns : goal.returns
returns c =
    on_ok_weaker c.push_export.result
    (export_of_found c.args.nodes.now.entries c.args.name.now c.args.node c.in-Some.place.now c.args.entries.now.items c.push_export.new.entries.items (sym c.get.ensures.value ∙ ap option_copied c.in-Some.is)) c.push_export.ensures
