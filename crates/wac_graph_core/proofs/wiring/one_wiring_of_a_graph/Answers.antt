use Rattle.wac_graph_core.proofs.WiringLaws.{has_wiring, one_wiring}
use Rattle.wac_graph_core.proofs.wiring.one_wiring_of_a_graph.Goals as goal

pub returns-clause-there : goal.returns-clause-there
returns-clause-there c = λ spell written g outers sound. has_wiring spell written g sound outers

pub returns-clause-one : goal.returns-clause-one
returns-clause-one c = λ spell written g outers V W sound v w. one_wiring spell written g sound outers V W v w
