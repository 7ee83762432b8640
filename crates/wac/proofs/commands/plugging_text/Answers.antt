use Rattle.wac.proofs.Refusing.{again_stops, no_plugs, no_socket}
use Rattle.wac.proofs.commands.plugging_text.Goals as goal

pub returns-in_err-plugs-clause-refused : goal.returns-in_err-plugs-clause-refused
returns-in_err-plugs-clause-refused c = again_stops c.from_residual.result c.in_err-plugs.field-0.0 c.from_residual.ensures.1 (no_plugs c.args.workspace.now.packages c.args.name.now c.args.plugs.now c.args.socket.now) c.in_err-plugs.ensures.refused

pub returns-in_err-socket-clause-refused : goal.returns-in_err-socket-clause-refused
returns-in_err-socket-clause-refused c =
    again_stops c.from_residual-in_err-socket.result c.in_err-socket.field-0.0 c.from_residual-in_err-socket.ensures.1 (no_socket c.args.workspace.now.packages c.args.name.now c.args.plugs.now c.args.socket.now) c.in_err-socket.ensures.refused
