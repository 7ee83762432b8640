-- What is read of a node.
use Rattle.std.specs.Prelude.{◌≡◌, ℕ, List, Bool, true, false, Option, Some, None}
use Rattle.wac_types_base.specs.Entries.{Name, value_at}
use Rattle.wac_graph_core.specs.declared.ids.PackageId.{PackageId}
use Rattle.wac_graph_core.specs.Nodes.{NodeData, Role, imported_as}
use Rattle.wac_graph_core.specs.Walking.{first_argument}
use Rattle.wac_graph_core.specs.Graph.{Graph}

-- the name of an import
abbrev pub import_name_of : Option NodeData → Option Name
import_name_of None = None
import_name_of (Some x) = imported_as x.role

-- the package that it is an instance of
abbrev pub package_id_of : Option NodeData → Option PackageId
package_id_of None = None
package_id_of (Some x) = x.of

abbrev pub is_defined : Role → Bool
is_defined Role.Defined = true
is_defined r = false

abbrev pub is_definition : Option NodeData → Bool
is_definition None = false
is_definition (Some x) = is_defined x.role

-- under each name is what is passed to the node as that argument
abbrev pub AreArguments : Graph → ℕ → List (Name × ℕ) → Type 0
AreArguments g k xs = (n : Name) → value_at xs n ≡ first_argument g.edges k n
