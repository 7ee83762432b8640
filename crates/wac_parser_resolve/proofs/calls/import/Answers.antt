use Rattle.wac_graph_core.proofs.Made.{import_there}
use Rattle.wac_parser_resolve.proofs.Calling.{call_leaves, call_gives}
use Rattle.wac_parser_resolve.proofs.Growing.{Later-import, Later-same}
use Rattle.wac_parser_resolve.proofs.calls.import.Goals as goal

pub returns-clause-import : goal.returns-clause-import
returns-clause-import c =
    call_gives c.import.result c.import.ensures.imported
    (λ k step. import_there c.args.graph.now c.import.new.self c.args.name.now c.args.kind k step)

pub returns-clause-later : goal.returns-clause-later
returns-clause-later c =
    call_leaves c.import.result c.import.ensures.imported c.import.ensures.kept
    (λ k step. Later-import c.args.graph.now c.import.new.self c.args.name.now c.args.kind k step)
    (Later-same c.args.graph.now c.import.new.self)
