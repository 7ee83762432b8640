use Rattle.std.proofs.Common.{refl, sym, subst, arith}
use Rattle.wac_graph_core.specs.TieSteps.{PutsTie, there}
use Rattle.wac_graph_core.proofs.TieKeys.{tie_here, tie_put, no_tie}
use Rattle.wac_graph_core.proofs.ties.put_tie.Goals as goal

pub insert_reserved-requires-clause-room : goal.insert_reserved-requires-clause-room
insert_reserved-requires-clause-room c = let room = c.requires (no_tie c.args.list.now.items c.args.tie _ c.in-Err.ensures.absent) in omega (arith, room)

pub returns-in-Ok-clause-put : goal.returns-in-Ok-clause-put
returns-in-Ok-clause-put c = there _ (tie_here c.args.list.now.items c.args.tie _ c.in-Ok.ensures.found) refl

pub returns-in-Err-clause-put : goal.returns-in-Err-clause-put
returns-in-Err-clause-put c = subst (λ l. PutsTie c.args.list.now.items l c.args.tie c.args.node) (sym c.insert_reserved.ensures.items) (tie_put c.args.list.now.items c.args.tie c.in-Err.place c.args.node)
