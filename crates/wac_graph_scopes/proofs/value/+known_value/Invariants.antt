use Rattle.wac_types_base.specs.declared.item.ItemKind.{ItemKind}
use Rattle.wac_types_base.specs.Collection.{size_of}
use Rattle.wac_graph_scopes.proofs.value.+known_value.Given as goal

abbrev pub decreases-known_value : goal.decreases-known_value
decreases-known_value l = size_of l.types.now (ItemKind.Value l.ty)
