use Rattle.std.proofs.Common.{true≢false, sym, ap, subst, ◌∙◌}
use Rattle.wac_types_base.specs.Stated.{Stated, stated_world}
use Rattle.wac_types_base.proofs.Standing.{world_found}
use Rattle.wac_parser_resolve.specs.Meeting.{uses_are_named}
use Rattle.wac_workspace.specs.Targets.{Meets, Reports}
use Rattle.wac_workspace.proofs.Meeting.{met_by, reported_by, target_unnamed, unmet_by}
use Rattle.wac_workspace.proofs.compose.test_target.Goals as goal

pub returns-in-Ok-met-clause-met : goal.returns-in-Ok-met-clause-met
returns-in-Ok-met-clause-met c =
    let p = c.in_ok-pair.pair in
    let h = c.in_ok-pair.ensures in
    let met = met_by p.types c.see_acyclic.ensures p.target p.world h.target h.world c.in-Ok.met c.in-Ok.ensures.report c.in-Ok-met.is in
    subst (λ (t : Stated). Meets t (stated_world c.args.encoded.now.types c.args.encoded.now.world)) h.target_same
    (subst (λ (w : Stated). Meets (stated_world p.types p.target) w) h.world_same met)

pub returns-clause-unmet : goal.returns-clause-unmet
returns-clause-unmet c =
    let p = c.in_ok-pair.pair in
    let h = c.in_ok-pair.ensures in
    let r = c.in-Err.report in
    let reports = reported_by p.types c.see_acyclic.ensures p.target p.world h.target h.world c.in-Ok.met c.in-Ok.ensures.report r c.in-Err.is in (
      λ met. unmet_by p.types c.see_acyclic.ensures p.target p.world h.target h.world c.in-Ok.met c.in-Ok.ensures.report r c.in-Err.is
          (subst (λ (t : Stated). Meets t (stated_world p.types p.world)) (sym h.target_same)
          (subst (λ (w : Stated). Meets (stated_world c.args.types.now c.args.target) w) (sym h.world_same) met)),
      subst (λ (t : Stated). Reports t (stated_world c.args.encoded.now.types c.args.encoded.now.world) r) h.target_same
          (subst (λ (w : Stated). Reports (stated_world p.types p.target) w r) h.world_same reports),
    )

pub returns-in-Err-UsedWithoutIdentifier-clause-unmet :
    goal.returns-in-Err-UsedWithoutIdentifier-clause-unmet
returns-in-Err-UsedWithoutIdentifier-clause-unmet c =
    let p = c.in_ok-pair.pair in
    let h = c.in_ok-pair.ensures in
    let v = world_found p.types p.target h.target in
    let none = c.in-Err-UsedWithoutIdentifier.ensures.unnamed v.value v.at c.in-Err-UsedWithoutIdentifier.field-0-is in
    true≢false (sym c.requires.named ∙ ap uses_are_named (sym h.target_same) ∙ target_unnamed p.types c.see_acyclic.ensures p.target h.target v.value v.at none)
