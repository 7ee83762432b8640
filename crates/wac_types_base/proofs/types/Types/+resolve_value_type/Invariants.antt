use Rattle.wac_types_base.specs.declared.item.ItemKind.{ItemKind}
use Rattle.wac_types_base.specs.Collection.{size_of}
use Rattle.wac_types_base.proofs.types.Types.+resolve_value_type.Given as goal

abbrev pub decreases-resolve_value_type : goal.decreases-resolve_value_type
decreases-resolve_value_type l = size_of l.self.now (ItemKind.Value l.ty)
