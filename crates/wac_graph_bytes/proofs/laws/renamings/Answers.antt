use Rattle.wac_graph_bytes.proofs.SameWirings.{same_trans, same_sym, same_refl, orders_rename}
use Rattle.wac_graph_bytes.proofs.laws.renamings.Goals as goal

pub returns-clause-compose : goal.returns-clause-compose
returns-clause-compose c = same_trans

pub returns-clause-turn : goal.returns-clause-turn
returns-clause-turn c = same_sym

pub returns-clause-itself : goal.returns-clause-itself
returns-clause-itself c = same_refl

pub returns-clause-by_order : goal.returns-clause-by_order
returns-clause-by_order c = orders_rename
