use Rattle.std.proofs.Common.{◌≤◌, length, slice_get, refl, sym, ap, subst, ◌∙◌, arith}
use Rattle.wac_types_parts.proofs.InsideLaws.{import_inside}
use Rattle.wac_types_parts.proofs.PartLaws.{imports_there, imports_missing}
use Rattle.wac_types_parts.proofs.parts.import_at.Goals as goal

pub returns-then-at-len-clause-inside : goal.returns-then-at-len-clause-inside
returns-then-at-len-clause-inside c =
    import_inside c.args.types.now c.world-world.ensures.acyclic c.args.id c.world-world.result.now (c.if-not-has.ensures.0 refl) c.world-world.ensures.entry c.world-world.ensures.own
    c.args.at c.entry.result.0.now c.entry.result.1.now c.entry.ensures

pub returns-then-at-len-clause-entry : goal.returns-then-at-len-clause-entry
returns-then-at-len-clause-entry c =
    ap (λ l. slice_get l c.args.at) (imports_there c.args.types.now c.args.id c.world-world.result.now c.world-world.ensures.entry c.world-world.ensures.own) ∙ c.entry.ensures

pub returns-then-not-has-clause-none : goal.returns-then-not-has-clause-none
returns-then-not-has-clause-none c =
    subst (λ l. length l ≤ c.args.at) (sym (imports_missing c.args.types.now c.args.id (λ s. absurd (cc (c.if-not-has.ensures.1 s))))) (omega arith)

pub returns-else-at-len-clause-none : goal.returns-else-at-len-clause-none
returns-else-at-len-clause-none c =
    subst (λ l. length l ≤ c.args.at) (sym (imports_there c.args.types.now c.args.id c.world-world.result.now c.world-world.ensures.entry c.world-world.ensures.own)) (omega arith)
