use Rattle.std.proofs.Common.{◌≤◌, length, slice_get, refl, sym, ap, subst, ◌∙◌, arith}
use Rattle.wac_types_parts.proofs.InsideLaws.{export_inside}
use Rattle.wac_types_parts.proofs.PartLaws.{exports_there, exports_missing}
use Rattle.wac_types_parts.proofs.parts.export_at.Goals as goal

pub returns-then-at-len-clause-inside : goal.returns-then-at-len-clause-inside
returns-then-at-len-clause-inside c =
    export_inside c.args.types.now c.interface-interface.ensures.acyclic c.args.id c.interface-interface.result.now (c.if-not-has.ensures.0 refl) c.interface-interface.ensures.entry c.interface-interface.ensures.own
    c.args.at c.entry.result.0.now c.entry.result.1.now c.entry.ensures

pub returns-then-at-len-clause-entry : goal.returns-then-at-len-clause-entry
returns-then-at-len-clause-entry c =
    ap (λ l. slice_get l c.args.at) (exports_there c.args.types.now c.args.id c.interface-interface.result.now c.interface-interface.ensures.entry c.interface-interface.ensures.own) ∙ c.entry.ensures

pub returns-then-not-has-clause-none : goal.returns-then-not-has-clause-none
returns-then-not-has-clause-none c =
    subst (λ l. length l ≤ c.args.at) (sym (exports_missing c.args.types.now c.args.id (λ s. absurd (cc (c.if-not-has.ensures.1 s))))) (omega arith)

pub returns-else-at-len-clause-none : goal.returns-else-at-len-clause-none
returns-else-at-len-clause-none c =
    subst (λ l. length l ≤ c.args.at) (sym (exports_there c.args.types.now c.args.id c.interface-interface.result.now c.interface-interface.ensures.entry c.interface-interface.ensures.own)) (omega arith)
