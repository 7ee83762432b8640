-- What stays while packages come into a graph.
use Rattle.std.specs.Prelude.{◌≡◌, Some}
use Rattle.wac_types_base.specs.Collection.{Grows}
use Rattle.wac_types_names.specs.Packaged.{Packaged}
use Rattle.wac_graph_core.specs.declared.ids.PackageId.{PackageId}
use Rattle.wac_graph_core.specs.Graph.{Graph, package_of}

-- the collection grows, nodes, edges and exports are the same, and no package goes
pub record Keeps (old new : Graph) : Type 0 where
  pub types : Grows old.types new.types
  pub nodes : new.nodes ≡ old.nodes
  pub edges : new.edges ≡ old.edges
  pub exports : new.exports ≡ old.exports
  pub packages : (id : PackageId) (p : Packaged) → package_of old id ≡ Some p → package_of new id ≡ Some p
