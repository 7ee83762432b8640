use Rattle.wac_types_base.specs.declared.item.ItemKind.{ItemKind}
use Rattle.wac_types_base.specs.declared.item.«Type».{«Type» as TypeKind}
use Rattle.wac_types_base.specs.Collection.{size_of}
use Rattle.wac_types_base.proofs.types.Types.+resolve_resource.Given as goal

abbrev pub decreases-resolve_resource : goal.decreases-resolve_resource
decreases-resolve_resource l = size_of l.self.now (ItemKind.Ty (TypeKind.Resource l.id))
