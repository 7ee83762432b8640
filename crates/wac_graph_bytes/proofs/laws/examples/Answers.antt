use Rattle.wac_graph_bytes.proofs.Exemplified.{passed_means, twice_means_nothing, unspeakable_means_nothing, empty_means, declared_is}
use Rattle.wac_graph_bytes.proofs.laws.examples.Goals as goal

pub returns-clause-passed : goal.returns-clause-passed
returns-clause-passed c = passed_means

pub returns-clause-empty : goal.returns-clause-empty
returns-clause-empty c = empty_means

pub returns-clause-interface : goal.returns-clause-interface
returns-clause-interface c = declared_is

pub returns-clause-twice : goal.returns-clause-twice
returns-clause-twice c = twice_means_nothing

pub returns-clause-unspeakable : goal.returns-clause-unspeakable
returns-clause-unspeakable c = unspeakable_means_nothing
