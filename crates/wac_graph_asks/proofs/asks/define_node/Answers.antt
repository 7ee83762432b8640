use Rattle.std.proofs.Common.{sym, ◌∙◌}
use Rattle.wac_graph_asks.proofs.NodeAsks.{no_node_added}
use Rattle.wac_graph_asks.proofs.asks.define_node.Goals as goal

pub returns-then-not-is_definition : goal.returns-then-not-is_definition
returns-then-not-is_definition c = no_node_added c.args.graph.now c.args.asked.now c.requires.held c.args.node (sym c.is_definition.ensures ∙ c.if-not-is_definition.true)
