use Rattle.wac_graph_asks.specs.declared.error.OuterError.{OuterError}
use Rattle.wac_graph_asks.specs.Takes.{IsNoConflict}
use Rattle.wac_graph_asks.proofs.Answering.{world_made}
use Rattle.wac_graph_asks.proofs.TakingMore.{again_err}
use Rattle.wac_graph_asks.proofs.outers.outer_world.Goals as goal

pub returns-clause-imports : goal.returns-clause-imports
returns-clause-imports c =
    world_made c.args.asked.now.types c.world_kept.new.asked.types c.add_world.new.types c.args.asked.now.asks.items c.args.classes.now c.args.taken.now.entries c.in_ok-world.world.imports c.in_ok-id.id c.add_world.ensures.grows c.in_ok-id.ensures.imports
    c.in_ok-world.ensures.imports

pub returns-clause-alone : goal.returns-clause-alone
returns-clause-alone c = c.in_ok-id.ensures.alone c.in_ok-world.ensures.alone

pub returns-in_err-world-clause-no_conflict : goal.returns-in_err-world-clause-no_conflict
returns-in_err-world-clause-no_conflict c = again_err c.from_residual.result IsNoConflict OuterError.Memory c.from_residual.ensures.1 tt

pub returns-in_err-id-clause-no_conflict : goal.returns-in_err-id-clause-no_conflict
returns-in_err-id-clause-no_conflict c = again_err c.from_residual-in_err-id.result IsNoConflict OuterError.Memory c.from_residual-in_err-id.ensures.1 tt
