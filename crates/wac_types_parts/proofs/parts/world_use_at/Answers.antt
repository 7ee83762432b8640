use Rattle.std.proofs.Common.{◌≤◌, length, slice_get, refl, sym, ap, subst, ◌∙◌, arith}
use Rattle.wac_types_base.specs.declared.item.ItemKind.{ItemKind}
use Rattle.wac_types_fit.specs.Trees.{IsInside}
use Rattle.wac_types_parts.proofs.InsideLaws.{world_use_inside}
use Rattle.wac_types_parts.proofs.PartLaws.{world_uses_there, world_uses_missing}
use Rattle.wac_types_parts.proofs.parts.world_use_at.Goals as goal

pub returns-then-at-len-clause-inside : goal.returns-then-at-len-clause-inside
returns-then-at-len-clause-inside c =
    subst (λ j. IsInside c.args.types.now (ItemKind.Instance j) (ItemKind.Component c.args.id)) (sym c.use_of.ensures.interface)
    (world_use_inside c.args.types.now c.world-world.ensures.acyclic c.args.id c.world-world.result.now (c.if-not-has.ensures.0 refl) c.world-world.ensures.entry c.world-world.ensures.own
    c.args.at c.entry.result.0.now c.entry.result.1.now c.entry.ensures)

pub returns-then-at-len-clause-entry : goal.returns-then-at-len-clause-entry
returns-then-at-len-clause-entry c = (
  (c.entry.result.0.now, c.entry.result.1.now),
  ap (λ l. slice_get l c.args.at) (world_uses_there c.args.types.now c.args.id c.world-world.result.now c.world-world.ensures.entry c.world-world.ensures.own) ∙ c.entry.ensures,
  c.use_of.ensures,
)

pub returns-then-not-has-clause-none : goal.returns-then-not-has-clause-none
returns-then-not-has-clause-none c =
    subst (λ l. length l ≤ c.args.at) (sym (world_uses_missing c.args.types.now c.args.id (λ s. absurd (cc (c.if-not-has.ensures.1 s))))) (omega arith)

pub returns-else-at-len-clause-none : goal.returns-else-at-len-clause-none
returns-else-at-len-clause-none c =
    subst (λ l. length l ≤ c.args.at) (sym (world_uses_there c.args.types.now c.args.id c.world-world.result.now c.world-world.ensures.entry c.world-world.ensures.own)) (omega arith)
