use Rattle.wac_types_fit.proofs.Checks.{interface_type_stands, world_type_stands}
use Rattle.wac_types_merge.proofs.family.type_uses_unnamed.Goals as goal

pub interface_uses_unnamed-requires : goal.interface_uses_unnamed-requires
interface_uses_unnamed-requires c = interface_type_stands c.args.types.now c.args.ty c.in-Interface.id c.in-Interface.is c.requires

pub world_uses_unnamed-requires : goal.world_uses_unnamed-requires
world_uses_unnamed-requires c = world_type_stands c.args.types.now c.args.ty c.in-World.id c.in-World.is c.requires
