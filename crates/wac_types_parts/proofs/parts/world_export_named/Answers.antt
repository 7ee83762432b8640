use Rattle.std.proofs.Common.{refl, sym, ap, ◌∙◌}
use Rattle.wac_types_base.specs.Entries.{value_at}
use Rattle.wac_types_parts.proofs.PartLaws.{world_exports_missing, world_exports_there, world_export_stands}
use Rattle.wac_types_parts.proofs.parts.world_export_named.Goals as goal

pub returns-then-not-has-clause-value : goal.returns-then-not-has-clause-value
returns-then-not-has-clause-value c = sym (ap (λ l. value_at l c.args.name.now) (world_exports_missing c.args.types.now c.args.id (λ s. absurd (cc (c.if-not-has.ensures.1 s)))))

pub returns-in-Some-clause-stands : goal.returns-in-Some-clause-stands
returns-in-Some-clause-stands c =
    world_export_stands c.args.types.now c.args.id c.see_acyclic.ensures c.world-world.result.now (c.if-not-has.ensures.0 refl) c.world-world.ensures.entry c.world-world.ensures.own c.args.name.now c.in-Some.kind.now (sym c.in-Some.ensures)

pub returns-in-Some-clause-value : goal.returns-in-Some-clause-value
returns-in-Some-clause-value c =
    c.in-Some.ensures ∙ sym (ap (λ l. value_at l c.args.name.now) (world_exports_there c.args.types.now c.args.id c.world-world.result.now c.world-world.ensures.entry c.world-world.ensures.own))

pub returns-in-None-clause-value : goal.returns-in-None-clause-value
returns-in-None-clause-value c =
    c.in-None.ensures ∙ sym (ap (λ l. value_at l c.args.name.now) (world_exports_there c.args.types.now c.args.id c.world-world.result.now c.world-world.ensures.entry c.world-world.ensures.own))
