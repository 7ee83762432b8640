use Rattle.wac_graph_causes.specs.Unwritable.{IfPackages}
use Rattle.wac_graph_causes.proofs.PackageCauses.{PackagesLeft}
use Rattle.wac_graph_causes.proofs.writable.check_packages.Given as goal

-- no package so far has a world that cannot be written
abbrev pub invariant-loop-id : goal.invariant-loop-id
invariant-loop-id l = IfPackages l.graph l.asked l.unnamed (PackagesLeft l.graph l.asked l.id-iterator)
