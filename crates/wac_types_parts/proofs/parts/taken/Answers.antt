use Rattle.std.proofs.Common.{refl, ap, sym, ◌∙◌}
use Rattle.wac_types_parts.specs.Parts.{used_if}
use Rattle.wac_types_parts.proofs.PartLaws.{used_itself, used_nothing}
use Rattle.wac_types_parts.proofs.parts.taken.Goals as goal

pub returns-then-is_used_kind-clause-value : goal.returns-then-is_used_kind-clause-value
returns-then-is_used_kind-clause-value c = sym (used_itself c.in-Some.kind (c.if-is_used_kind.ensures.0 refl)) ∙ ap used_if c.in-Some.ensures.value

pub returns-else-is_used_kind-clause-value : goal.returns-else-is_used_kind-clause-value
returns-else-is_used_kind-clause-value c = sym (used_nothing c.in-Some.kind (λ u. absurd (cc (c.if-is_used_kind.ensures.1 u)))) ∙ ap used_if c.in-Some.ensures.value

pub returns-in-None-clause-value : goal.returns-in-None-clause-value
returns-in-None-clause-value c = ap used_if c.in-None.ensures.value
