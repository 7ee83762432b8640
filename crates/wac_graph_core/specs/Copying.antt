-- A graph over a collection under another number: each node, edge, export and package stands under the id that it had.
use Rattle.std.specs.Prelude.{◌≡◌, ℕ, map, option_map}
use Rattle.std.specs.FinMap as finite
use Rattle.wac_types_base.specs.declared.item.ItemKind.{ItemKind}
use Rattle.wac_types_base.specs.Record.{Collection}
use Rattle.wac_types_base.specs.Kept.{keeping}
use Rattle.wac_types_base.specs.Collection.{Stands}
use Rattle.wac_types_base.specs.Copying.{IsCopy}
use Rattle.wac_types_base.specs.Renaming.{kind_under, renumbered}
use Rattle.wac_types_names.specs.Packaged.{packaged_under}
use Rattle.wac_graph_core.specs.declared.package.Place.{Place}
use Rattle.wac_graph_core.specs.Nodes.{NodeData}
use Rattle.wac_graph_core.specs.NodeMaps.{NodeMap}
use Rattle.wac_graph_core.specs.Graph.{Graph}

-- the node, its item's id with this number
abbrev pub node_under : ℕ → NodeData → NodeData
node_under n x = record x { item_kind = kind_under n x.item_kind }

-- index by index
abbrev pub AreUnder : ℕ → NodeMap → NodeMap → Type 0
AreUnder n old new = (k : ℕ) → finite.get new k ≡ option_map (node_under n) (finite.get old k)

-- the place, its package's ids with this number
abbrev pub place_under : ℕ → Place → Place
place_under n p = record p { held = option_map (packaged_under n) p.held }

pub record IsGraphUnder (n : ℕ) (old new : Graph) : Type 0 where
  pub types : new.types ≡ keeping new.types.kept (renumbered n old.types)
  pub nodes : AreUnder n old.nodes new.nodes
  pub edges : new.edges ≡ old.edges
  pub exports : new.exports ≡ old.exports
  pub places : new.places ≡ map (place_under n) old.places

-- each type that stands has its copy, with the same tree, under this number
abbrev pub AreCopied : ℕ → Collection → Collection → Type 0
AreCopied n old new = (k : ItemKind) → Stands old k → IsCopy old new k (kind_under n k)
