use Rattle.wac_graph_scopes.proofs.ScopeLaws.{scope_exchanged}
use Rattle.wac_graph_scopes.proofs.scope.TypeScope.exchange.Goals as goal

pub returns-clause-exchanges : goal.returns-clause-exchanges
returns-clause-exchanges c = scope_exchanged c.args.self.now c.args.other.now c.swap.new.x c.swap.new.y c.swap.ensures.x_after c.swap.ensures.y_after
