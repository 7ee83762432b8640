use Rattle.wac_graph_asks.specs.declared.error.OuterError.{OuterError}
use Rattle.wac_graph_asks.specs.Takes.{IsNoConflict}
use Rattle.wac_graph_asks.proofs.TakingMore.{again_err}
use Rattle.wac_graph_asks.proofs.outers.outers_kept.Goals as goal

pub returns-in_err-world-clause-no_conflict : goal.returns-in_err-world-clause-no_conflict
returns-in_err-world-clause-no_conflict c = again_err c.from_residual.result IsNoConflict c.in_err-world.field-0.0 c.from_residual.ensures.1 c.in_err-world.ensures.no_conflict

pub returns-in_err-places-clause-no_conflict : goal.returns-in_err-places-clause-no_conflict
returns-in_err-places-clause-no_conflict c = again_err c.from_residual-in_err-places.result IsNoConflict OuterError.Memory c.from_residual-in_err-places.ensures.1 tt
