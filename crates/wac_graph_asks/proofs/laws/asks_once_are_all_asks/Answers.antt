use Rattle.wac_graph_asks.proofs.Once.{asked_once_keeps, asked_once_imports, asked_once_conflicts, asked_once_tells}
use Rattle.wac_graph_asks.proofs.laws.asks_once_are_all_asks.Goals as goal

pub returns-clause-keeps : goal.returns-clause-keeps
returns-clause-keeps c s = asked_once_keeps

pub returns-clause-imports : goal.returns-clause-imports
returns-clause-imports c s = asked_once_imports

pub returns-clause-conflicts : goal.returns-clause-conflicts
returns-clause-conflicts c s = asked_once_conflicts

pub returns-clause-tells : goal.returns-clause-tells
returns-clause-tells c s = asked_once_tells
