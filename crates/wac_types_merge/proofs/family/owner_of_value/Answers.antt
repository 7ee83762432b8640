use Rattle.wac_types_merge.proofs.Families.{borrowed_stands, owned_stands}
use Rattle.wac_types_merge.proofs.family.owner_of_value.Goals as goal

pub resource-requires : goal.resource-requires
resource-requires c = borrowed_stands c.args.types.now c.args.ty c.in-Borrow.id c.in-Borrow.is c.requires

pub resource-requires-in-Own : goal.resource-requires-in-Own
resource-requires-in-Own c = owned_stands c.args.types.now c.args.ty c.in-Own.id c.in-Own.is c.requires
