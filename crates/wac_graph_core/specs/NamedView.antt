-- What contracts see of `NamedNodes`.
use Rattle.indexmap.specs.IndexMap.{spare}
use Rattle.wac_types_base.specs.Entries.{entries_of}
use Rattle.wac_graph_core.specs.declared.named.NamedNodes.TheInside.{Inside}
use Rattle.wac_graph_core.specs.Named.{Named}

abbrev pub named : Inside → Named
named t = record { items = entries_of t.map.entries; spare = spare t.map }
