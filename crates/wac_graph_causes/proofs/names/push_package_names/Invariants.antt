use Rattle.std.proofs.Common.{◌≡◌, ◌++◌, map}
use Rattle.wac_graph_causes.specs.Alike.{dependency_of, package_names}
use Rattle.wac_graph_causes.proofs.names.push_package_names.Given as goal

-- with those that are left they are all
abbrev pub invariant-loop-id : goal.invariant-loop-id
invariant-loop-id l = l.names.items ++ map (dependency_of l.graph) l.id-iterator ≡ l.fn.names.items ++ package_names l.graph l.asked
