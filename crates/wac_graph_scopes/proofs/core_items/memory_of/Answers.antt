use Rattle.std.proofs.Common.{refl}
use Rattle.wac_graph_scopes.proofs.CoreRefusals.{never_memory}
use Rattle.wac_graph_scopes.proofs.core_items.memory_of.Goals as goal

pub returns-in-Some-clause-refused : goal.returns-in-Some-clause-refused
returns-in-Some-clause-refused c = (refl, never_memory c.args.limits.wide c.args.shared c.args.limits.minimum c.args.limits.maximum c.args.page_size c.in-Some.is)
