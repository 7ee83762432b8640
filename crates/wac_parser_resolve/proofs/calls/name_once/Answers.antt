use Rattle.wac_parser_resolve.proofs.Calling.{call_done}
use Rattle.wac_parser_resolve.proofs.Growing.{Inner-names, Inner-same, within_refl, within_same}
use Rattle.wac_parser_resolve.proofs.Stating.{none_named, none_refl, none_same, within_named}
use Rattle.wac_parser_resolve.proofs.calls.name_once.Goals as goal

pub returns-then-is_some-clause-none : goal.returns-then-is_some-clause-none
returns-then-is_some-clause-none c = none_refl c.args.graph.now

pub returns-then-is_some-clause-within : goal.returns-then-is_some-clause-within
returns-then-is_some-clause-within c = within_refl c.args.graph.now

pub returns-clause-inner : goal.returns-clause-inner
returns-clause-inner c =
    call_done c.set_node_name.result c.set_node_name.ensures.named c.set_node_name.ensures.kept
    (Inner-names c.args.graph.now c.set_node_name.new.self c.args.node c.args.name.now)
    (Inner-same c.args.graph.now c.set_node_name.new.self)

pub returns-clause-none : goal.returns-clause-none
returns-clause-none c =
    call_done c.set_node_name.result c.set_node_name.ensures.named c.set_node_name.ensures.kept
    (none_named c.args.graph.now c.set_node_name.new.self c.args.node c.args.name.now)
    (none_same c.args.graph.now c.set_node_name.new.self)

pub returns-clause-within : goal.returns-clause-within
returns-clause-within c =
    call_done c.set_node_name.result c.set_node_name.ensures.named c.set_node_name.ensures.kept
    (within_named c.args.graph.now c.set_node_name.new.self c.args.node c.args.name.now)
    (within_same c.args.graph.now c.set_node_name.new.self)
