use Rattle.wac_parser_resolve.proofs.Calling.{call_done}
use Rattle.wac_parser_resolve.proofs.Growing.{Later-export, Later-same}
use Rattle.wac_parser_resolve.proofs.calls.export.Goals as goal

pub returns-clause-later : goal.returns-clause-later
returns-clause-later c =
    call_done c.export.result c.export.ensures.exported c.export.ensures.kept
    (Later-export c.args.graph.now c.export.new.self c.args.node c.args.name.now)
    (Later-same c.args.graph.now c.export.new.self)
