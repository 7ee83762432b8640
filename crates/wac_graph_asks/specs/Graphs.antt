-- The composition that a graph is: nodes by their ids.
use Rattle.std.specs.Prelude.{◌==◌, ℕ, zero, suc, Bool, true, false, List, [], ◌∷◌, map, length, Option, Some, None, option_map, filter_map, if◌then◌else◌}
use Rattle.std.specs.FinMap as finite
use Rattle.wac_types_base.specs.declared.item.ItemKind.{ItemKind}
use Rattle.wac_types_base.specs.Entries.{Name}
use Rattle.wac_types_base.specs.Stated.{Stated, stated_in, stated_of}
use Rattle.wac_types_names.specs.Packaged.{Packaged}
use Rattle.wac_types_names.specs.Keys.{package_key}
use Rattle.wac_graph_core.specs.declared.edge.Edge.{Edge}
use Rattle.wac_graph_core.specs.declared.edge.Label.{Label}
use Rattle.wac_graph_core.specs.Walking.{first_source}
use Rattle.wac_graph_core.specs.Nodes.{NodeData, Role}
use Rattle.wac_graph_core.specs.Graph.{Graph, node_at, package_if}
use Rattle.wac_composition.specs.Composition.{Origin, imported, instance, projected, defined, Placed, Made, Composition}

-- the nodes in order of their ids
abbrev pub nodes_of : Graph → List (ℕ × NodeData)
nodes_of g = finite.entries g.nodes

-- ---- edges

abbrev pub argument_by : Label → Edge → Option (Name × ℕ)
argument_by (Label.Argument n) e = Some (n, e.from)
argument_by l e = None

abbrev pub if_argument : Bool → Option (Name × ℕ) → Option (Name × ℕ)
if_argument true o = o
if_argument false o = None

-- what is passed to an instance
abbrev pub arguments_to : List Edge → ℕ → List (Name × ℕ)
arguments_to es k = filter_map (λ e. if_argument (e.to == k) (argument_by e.label e)) es

-- the first name that a node is exported under
abbrev pub first_export : List (Name × ℕ) → ℕ → Name
first_export [] k = []
first_export (e ∷ es) k = if e.1 == k then e.0 else first_export es k

-- ---- where a node comes from

-- the export that an alias is; each alias is one of an instance
abbrev pub export_of : (ℕ → Origin ℕ) → ℕ → Option (ℕ × Name) → Origin ℕ
export_of from k (Some e) = projected (from e.0) e.1
export_of from k None = instance k

module _ (g : Graph) where
  abbrev pub item_of : NodeData → Stated
  item_of x = stated_of g.types x.item_kind

  abbrev pub origin_by : (ℕ → Origin ℕ) → ℕ → Role → NodeData → Origin ℕ
  origin_by from k (Role.Imported n) x = imported n
  origin_by from k Role.Instance x = instance k
  origin_by from k Role.Defined x = defined (first_export g.exports k) (item_of x)
  origin_by from k Role.Aliased x = export_of from k (first_source g.edges k)

  abbrev pub origin_at : (ℕ → Origin ℕ) → ℕ → Option NodeData → Origin ℕ
  origin_at from k None = instance k
  origin_at from k (Some x) = origin_by from k x.role x

  -- through so many aliases at most
  abbrev pub origin_within : ℕ → ℕ → Origin ℕ
  origin_within zero k = instance k
  origin_within (suc depth) k = origin_at (origin_within depth) k (node_at g k)

  abbrev pub origin_of : ℕ → Origin ℕ
  origin_of k = origin_within (suc (length g.edges)) k

  -- ---- the lists

  abbrev pub import_by : ℕ → NodeData → Role → Option (Placed ℕ)
  import_by k x (Role.Imported n) = Some (record { by = k; name = n; item = item_of x })
  import_by k x r = None

  abbrev pub made_with : ℕ → Option Packaged → Option (Made ℕ ℕ)
  made_with k None = None
  made_with k (Some p) = Some (record {
    by = k;
    number = k;
    key = package_key p;
    world = stated_of g.types (ItemKind.Component p.ty);
    arguments = map (λ a. (a.0, origin_of a.1)) (arguments_to g.edges k);
  })

  -- a definition is called by the first name that it is exported under
  abbrev pub definition_by : ℕ → NodeData → Role → Option (Placed ℕ)
  definition_by k x Role.Defined = Some (record { by = k; name = first_export g.exports k; item = item_of x })
  definition_by k x r = None

  abbrev pub alias_with : NodeData → Option (ℕ × Name) → Option (Name × Stated)
  alias_with x None = None
  alias_with x (Some e) = Some (e.1, item_of x)

  abbrev pub item_at : ℕ → Stated
  item_at k = stated_in (option_map item_of (node_at g k))

  abbrev pub composition_of : Composition ℕ ℕ
  composition_of = record {
    imports = filter_map (λ e. import_by e.0 e.1 e.1.role) (nodes_of g);
    made = filter_map (λ e. made_with e.0 (package_if g e.1.of)) (nodes_of g);
    definitions = filter_map (λ e. definition_by e.0 e.1 e.1.role) (nodes_of g);
    aliases = filter_map (λ e. alias_with e.1 (first_source g.edges e.0)) (nodes_of g);
    exports = map (λ e. (e.0, origin_of e.1, item_at e.1)) g.exports;
  }
