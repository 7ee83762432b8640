use Rattle.std.proofs.Common.{subst}
use Rattle.wac_types_base.specs.declared.item.ItemKind.{ItemKind}
use Rattle.wac_types_base.specs.Collection.{Stands}
use Rattle.wac_types_names.proofs.Copied.{world_stands}
use Rattle.wac_types_names.proofs.definitions.definition_of_type.Goals as goal

pub definition_of_world-requires : goal.definition_of_world-requires
definition_of_world-requires c = world_stands c.args.types.now c.in-World.id (subst (λ t. Stands c.args.types.now (ItemKind.Ty t)) c.in-World.is c.requires)
