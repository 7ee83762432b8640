use Rattle.std.proofs.Common.{Some, subst, sym}
use Rattle.wac_types_base.specs.declared.item.ItemKind.{ItemKind}
use Rattle.wac_types_base.specs.declared.item.«Type».{«Type» as TypeKind}
use Rattle.wac_parser_declare.specs.InUses.{AreExports}
use Rattle.wac_parser_declare.proofs.Exports.{interface_type_exports, no_type_exports, world_type_exports}
use Rattle.wac_parser_declare.proofs.paths.type_exports.Goals as goal

pub returns-in-Interface-clause-exports : goal.returns-in-Interface-clause-exports
returns-in-Interface-clause-exports c =
    subst (λ (t : TypeKind). AreExports c.args.types.now (ItemKind.Ty t) (Some c.interface.result.now.exports)) (sym c.in-Interface.is)
    (interface_type_exports c.args.types.now c.interface.ensures.acyclic c.in-Interface.id c.interface.result.now c.interface.ensures.entry c.interface.ensures.own)

pub returns-in-World-clause-exports : goal.returns-in-World-clause-exports
returns-in-World-clause-exports c =
    subst (λ (t : TypeKind). AreExports c.args.types.now (ItemKind.Ty t) (Some c.world.result.now.exports)) (sym c.in-World.is)
    (world_type_exports c.args.types.now c.world.ensures.acyclic c.in-World.id c.world.result.now c.world.ensures.entry c.world.ensures.own)

pub returns-in_default-clause-exports : goal.returns-in_default-clause-exports
returns-in_default-clause-exports c = no_type_exports c.args.types.now c.see_acyclic.ensures c.args.ty c.requires c.in_default.not-Interface c.in_default.not-World
