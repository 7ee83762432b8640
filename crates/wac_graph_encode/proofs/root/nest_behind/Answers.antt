use Rattle.std.proofs.lemmas.Result.{on_ok_weaker}
use Rattle.wac_graph_encode.proofs.root.nest_behind.Goals as goal

pub returns : goal.returns
returns c = on_ok_weaker c.nest_packages.result (λ h. record { taken = c.take_scope.new.root; takes = c.in_ok-take_scope.ensures.takes; nests = h }) c.nest_packages.ensures
