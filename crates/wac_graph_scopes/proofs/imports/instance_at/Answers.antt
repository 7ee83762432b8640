use Rattle.std.proofs.lemmas.Option.{slice_get_past}
use Rattle.wac_graph_scopes.specs.Imports.{all_imports}
use Rattle.wac_graph_scopes.proofs.imports.instance_at.Goals as goal

pub returns-in-None-clause-none : goal.returns-in-None-clause-none
returns-in-None-clause-none c id h = absurd (cc (h.1, slice_get_past (all_imports c.args.all) c.args.at c.in-None.ensures.none))
