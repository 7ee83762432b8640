use Rattle.std.proofs.Common.{sym, ◌∙◌}
use Rattle.wac_parser_tree.specs.Views.{view_ident}
use Rattle.wac_parser_resolve.proofs.Rooted.{node_gone, node_held, node_lacking}
use Rattle.wac_parser_resolve.proofs.root.Root.node.Goals as goal

pub returns-then-contains_node-clause-outcome : goal.returns-then-contains_node-clause-outcome
returns-then-contains_node-clause-outcome c ms s all =
    node_held c.args.graph.now ms s c.args.self.nodes.now (view_ident c.args.id.now) all c.in-Some.node.now (sym c.in-Some.ensures)

pub returns-else-contains_node-clause-outcome : goal.returns-else-contains_node-clause-outcome
returns-else-contains_node-clause-outcome c ms s all =
    node_gone c.args.graph.now ms s c.args.self.nodes.now (view_ident c.args.id.now) all c.in-Some.node.now c.undefined_name.result (sym c.in-Some.ensures) (sym c.contains_node.ensures ∙ c.if-contains_node.false)

pub returns-in-None-clause-outcome : goal.returns-in-None-clause-outcome
returns-in-None-clause-outcome c ms s all =
    node_lacking c.args.graph.now ms s c.args.self.nodes.now (view_ident c.args.id.now) all c.undefined_name-in-None.result (sym c.in-None.ensures) c.undefined_name-in-None.ensures
