use Rattle.std.proofs.Common.{ap}
use Rattle.wac_types_base.specs.declared.item.ItemKind.{ItemKind}
use Rattle.wac_parser_resolve.proofs.Growing.{world_stands}
use Rattle.wac_parser_resolve.proofs.resolver.world_type.Goals as goal

pub returns-in-World-clause-stands : goal.returns-in-World-clause-stands
returns-in-World-clause-stands c = world_stands c.args.types.now (ItemKind.Ty c.args.ty) c.in-World.id (ap ItemKind.Ty c.in-World.is) c.requires
