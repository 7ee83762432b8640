-- What a graph imports, in order.
use Rattle.std.specs.Prelude.{ℕ, List, [], ◌∷◌, ◌++◌, Option, Some, None, slice_get}
use Rattle.std.specs.FinMap as map
use Rattle.wac_types_base.specs.Parts.{imports_in_world}
use Rattle.wac_types_base.specs.declared.item.ItemKind.{ItemKind}
use Rattle.wac_types_base.specs.Entries.{Name}
use Rattle.wac_types_names.specs.Packaged.{Packaged}
use Rattle.wac_graph_core.specs.declared.edge.Edge.{Edge}
use Rattle.wac_graph_core.specs.Nodes.{NodeData, imported_as}
use Rattle.wac_graph_core.specs.Walking.{first_argument}
use Rattle.wac_graph_core.specs.Graph.{Graph, package_if}

-- a name, the kind of its item, and the node of an explicit import
abbrev pub Import : Type 0
Import = Name × ItemKind × Option ℕ

-- ---- explicit imports

abbrev pub explicit_with : Option Name → ItemKind → ℕ → List Import → List Import
explicit_with None x k rest = rest
explicit_with (Some n) x k rest = (n, x, Some k) ∷ rest

-- the imports among these nodes
abbrev pub explicit_list : List (ℕ × NodeData) → List Import
explicit_list [] = []
explicit_list (e ∷ es) = explicit_with (imported_as e.1.role) e.1.item_kind e.0 (explicit_list es)

-- ---- imports of instances for which there is no argument

abbrev pub unbound_with : Name → ItemKind → Option ℕ → List Import → List Import
unbound_with n x None rest = (n, x, None) ∷ rest
unbound_with n x (Some a) rest = rest

-- of these imports of an instance those to which nothing is passed
abbrev pub unbound_list : List Edge → ℕ → List (Name × ItemKind) → List Import
unbound_list es i [] = []
unbound_list es i (x ∷ xs) = unbound_with x.0 x.1 (first_argument es i x.0) (unbound_list es i xs)

abbrev pub package_imports : Graph → Option Packaged → List (Name × ItemKind)
package_imports g None = []
package_imports g (Some p) = imports_in_world (slice_get g.types.worlds p.ty.index)

-- of an instance of this package, if it is one, in the order of its world
abbrev pub unbound_imports : Graph → ℕ → Option Packaged → List Import
unbound_imports g i p = unbound_list g.edges i (package_imports g p)

-- of each of these nodes
abbrev pub filled_list : Graph → List (ℕ × NodeData) → List Import
filled_list g [] = []
filled_list g (e ∷ es) = unbound_imports g e.0 (package_if g e.1.of) ++ filled_list g es

-- the explicit imports by their ids, and then, by the ids of instances, what is imported for want of an argument
abbrev pub imports_of : Graph → List Import
imports_of g = explicit_list (map.entries g.nodes) ++ filled_list g (map.entries g.nodes)
