use Rattle.wac_types_fit.proofs.Checks.{value_type_stands}
use Rattle.wac_types_merge.proofs.family.owner_of_type.Goals as goal

pub owner_of_value-requires : goal.owner_of_value-requires
owner_of_value-requires c = value_type_stands c.args.types.now c.args.ty c.in-Value.value c.in-Value.is c.requires
