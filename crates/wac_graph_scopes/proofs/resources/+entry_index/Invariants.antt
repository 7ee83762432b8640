use Rattle.wac_types_base.specs.declared.item.ItemKind.{ItemKind}
use Rattle.wac_types_base.specs.declared.item.«Type».{«Type» as TypeKind}
use Rattle.wac_types_base.specs.Collection.{size_of}
use Rattle.wac_graph_scopes.proofs.resources.+entry_index.Given as goal

abbrev pub decreases-entry_index : goal.decreases-entry_index
decreases-entry_index l = size_of l.types.now (ItemKind.Ty (TypeKind.Resource l.id))
