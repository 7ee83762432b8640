use Rattle.wac_graph_encode.proofs.root.write_root.Goals as goal

pub returns-clause-begins : goal.returns-clause-begins
returns-clause-begins c = c.write_in-written.ensures.begins

pub returns-clause-nests : goal.returns-clause-nests
returns-clause-nests c = c.write_in-written.ensures.nests

pub returns-clause-holds : goal.returns-clause-holds
returns-clause-holds c = c.write_in-written.ensures.holds
