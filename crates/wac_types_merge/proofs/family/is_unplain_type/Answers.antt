use Rattle.wac_types_fit.proofs.Checks.{value_type_stands, interface_type_stands}
use Rattle.wac_types_merge.proofs.family.is_unplain_type.Goals as goal

pub owner_of_value-requires : goal.owner_of_value-requires
owner_of_value-requires c = value_type_stands c.args.types.now c.args.ty c.in-Value.value c.in-Value.is c.requires

pub interface-requires : goal.interface-requires
interface-requires c = interface_type_stands c.args.types.now c.args.ty c.in-Interface.id c.in-Interface.is c.requires
