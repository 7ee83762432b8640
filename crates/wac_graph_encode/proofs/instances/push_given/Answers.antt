use Rattle.std.proofs.lemmas.Result.{on_ok_weaker}
use Rattle.wac_graph_encode.proofs.instances.push_given.Goals as goal

pub returns : goal.returns
returns c = on_ok_weaker c.push_argument.result (λ added. record { place = c.argument-place.result; given = c.argument-place.ensures; added = added }) c.push_argument.ensures
