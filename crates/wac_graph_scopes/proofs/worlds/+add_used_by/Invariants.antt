use Rattle.wac_types_base.specs.Collection.{size_of}
use Rattle.wac_graph_scopes.proofs.worlds.+add_used_by.Given as goal

abbrev pub decreases-add_used_by : goal.decreases-add_used_by
decreases-add_used_by l = size_of l.types.now l.kind
