use Rattle.std.proofs.Common.{sym, subst}
use Rattle.std.specs.Prelude.{string_bytes}
use Rattle.wac_graph_core.specs.TieSteps.{PutsPassed}
use Rattle.wac_graph_core.proofs.TieKeys.{passed_here, passed_put}
use Rattle.wac_graph_core.proofs.ties.put_passed.Goals as goal

pub unreachable-requires : goal.unreachable-requires
unreachable-requires c = c.requires.none _ (passed_here c.args.list.now.items c.args.name _ c.in-Ok.ensures.found)

pub returns : goal.returns
returns c = subst (λ l. PutsPassed c.args.list.now.items l (string_bytes c.args.name) c.args.node) (sym c.insert_reserved.ensures.items) (passed_put c.args.list.now.items c.args.name c.in-Err.place c.args.node)
