use Rattle.wac_graph_causes.proofs.CircleLaws.{PackagesAdded}
use Rattle.wac_graph_causes.proofs.circles.add_packages.Given as goal

-- those of the packages so far are added
abbrev pub invariant-loop-id : goal.invariant-loop-id
invariant-loop-id l = PackagesAdded l.graph l.fn.types l.types l.packages.entries l.id-iterator l.fn.all.items l.all.items
