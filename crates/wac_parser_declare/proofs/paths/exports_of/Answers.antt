use Rattle.std.proofs.Common.{Some, subst, sym}
use Rattle.std.specs.Option.{option_copied}
use Rattle.wac_types_base.specs.declared.item.ItemKind.{ItemKind}
use Rattle.wac_parser_declare.specs.InUses.{AreExports}
use Rattle.wac_parser_declare.proofs.Exports.{component_exports, instance_exports, no_exports}
use Rattle.wac_parser_declare.proofs.paths.exports_of.Goals as goal

pub returns-in-Ty-clause-exports : goal.returns-in-Ty-clause-exports
returns-in-Ty-clause-exports c =
    subst (λ (k : ItemKind). AreExports c.args.types.now k (option_copied c.type_exports.result)) (sym c.in-Ty.is) c.type_exports.ensures.exports

pub returns-in-Instance-clause-exports : goal.returns-in-Instance-clause-exports
returns-in-Instance-clause-exports c =
    subst (λ (k : ItemKind). AreExports c.args.types.now k (Some c.interface.result.now.exports)) (sym c.in-Instance.is)
    (instance_exports c.args.types.now c.interface.ensures.acyclic c.in-Instance.id c.interface.result.now c.interface.ensures.entry c.interface.ensures.own)

pub returns-in-Component-clause-exports : goal.returns-in-Component-clause-exports
returns-in-Component-clause-exports c =
    subst (λ (k : ItemKind). AreExports c.args.types.now k (Some c.world.result.now.exports)) (sym c.in-Component.is)
    (component_exports c.args.types.now c.world.ensures.acyclic c.in-Component.id c.world.result.now c.world.ensures.entry c.world.ensures.own)

pub returns-in_default-clause-exports : goal.returns-in_default-clause-exports
returns-in_default-clause-exports c =
    no_exports c.args.types.now c.see_acyclic.ensures c.args.kind c.requires c.in_default.not-Ty c.in_default.not-Instance c.in_default.not-Component
