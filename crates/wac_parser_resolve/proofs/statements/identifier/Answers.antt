use Rattle.std.proofs.Common.{sym, ◌∙◌}
use Rattle.wac_parser_resolve.proofs.Asking.{component_identified, instance_identified, other_identified}
use Rattle.wac_parser_resolve.proofs.statements.identifier.Goals as goal

pub returns-in-Instance : goal.returns-in-Instance
returns-in-Instance c =
    c.as_ref.ensures.value ∙ sym (instance_identified c.args.types.now c.see_acyclic.ensures c.in-Instance.id c.interface.result.now c.interface.ensures.entry c.interface.ensures.own c.args.kind c.requires c.in-Instance.is)

pub returns-in-Component : goal.returns-in-Component
returns-in-Component c =
    c.as_ref-in-Component.ensures.value ∙ sym (component_identified c.args.types.now c.see_acyclic.ensures c.in-Component.id c.world.result.now c.world.ensures.entry c.world.ensures.own c.args.kind c.requires c.in-Component.is)

pub returns-in_default : goal.returns-in_default
returns-in_default c = sym (other_identified c.args.types.now c.see_acyclic.ensures c.args.kind c.requires c.in_default.not-Instance c.in_default.not-Component)
