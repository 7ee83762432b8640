-- What a node tells: the identifier of its instance, the name of its import or alias.
use Rattle.std.specs.Prelude.{◌≡◌, ℕ, Option, Some, None, slice_get}
use Rattle.wac_types_base.specs.declared.item.ItemKind.{ItemKind}
use Rattle.wac_types_base.specs.Record.{Collection}
use Rattle.wac_types_base.specs.Entries.{Name}
use Rattle.wac_types_base.specs.Parts.{identifier_in}
use Rattle.wac_graph_core.specs.Nodes.{NodeData}
use Rattle.wac_graph_core.specs.Edges.{HasAlias}
use Rattle.wac_graph_core.specs.Graph.{Graph, node_at}
use Rattle.wac_graph_core.specs.Exporting.{import_name_of}

-- the identifier of an instance
abbrev pub identifier_of_item : Collection → ItemKind → Option Name
identifier_of_item c (ItemKind.Instance i) = identifier_in (slice_get c.interfaces i.index)
identifier_of_item c k = None

abbrev pub identifier_of_node : Collection → Option NodeData → Option Name
identifier_of_node c None = None
identifier_of_node c (Some x) = identifier_of_item c x.item_kind

-- the identifier of a node that is an instance
abbrev pub identifier : Graph → ℕ → Option Name
identifier g k = identifier_of_node g.types (node_at g k)

-- the node is an alias of an export of that name
abbrev pub IsAliasOf : Graph → ℕ → Name → Type 0
IsAliasOf g k n = (i : ℕ) × HasAlias g.edges i n k

-- the name under which a node that is no import is an export, if it is one
abbrev pub IsAliasName : Graph → ℕ → Option Name → Type 0
IsAliasName g k None = (n : Name) → IsAliasOf g k n → ⊥
IsAliasName g k (Some n) = IsAliasOf g k n

-- the name of an import, else of an alias
abbrev pub IsOwnName : Graph → ℕ → Option Name → Option Name → Type 0
IsOwnName g k None o = IsAliasName g k o
IsOwnName g k (Some n) o = o ≡ Some n

-- its own name: that of its import, else of its alias
abbrev pub TellsOwnName : Graph → ℕ → Option Name → Type 0
TellsOwnName g k o = IsOwnName g k (import_name_of (node_at g k)) o

-- the name of an export that is written without one: the identifier, else the node's own name
abbrev pub IsInferredBy : Graph → ℕ → Option Name → Option Name → Type 0
IsInferredBy g k None o = TellsOwnName g k o
IsInferredBy g k (Some n) o = o ≡ Some n

abbrev pub IsInferred : Graph → ℕ → Option Name → Type 0
IsInferred g k o = IsInferredBy g k (identifier g k) o
