use Rattle.wac_graph_core.proofs.Made.{definition_there}
use Rattle.wac_parser_resolve.proofs.Calling.{call_leaves, call_gives}
use Rattle.wac_parser_resolve.proofs.Growing.{Later-define, Later-same}
use Rattle.wac_parser_resolve.proofs.calls.define.Goals as goal

pub returns-clause-definition : goal.returns-clause-definition
returns-clause-definition c =
    call_gives c.define_type.result c.define_type.ensures.defined
    (λ k step. definition_there c.args.graph.now c.define_type.new.self c.args.name.now c.args.ty k step)

pub returns-clause-later : goal.returns-clause-later
returns-clause-later c =
    call_leaves c.define_type.result c.define_type.ensures.defined c.define_type.ensures.kept
    (λ k step. Later-define c.args.graph.now c.define_type.new.self c.args.name.now c.args.ty k step)
    (Later-same c.args.graph.now c.define_type.new.self)
