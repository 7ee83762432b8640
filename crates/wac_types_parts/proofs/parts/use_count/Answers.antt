use Rattle.std.proofs.Common.{length, sym, ap, subst}
use Rattle.wac_types_base.specs.Entries.{names_of, AreDistinct}
use Rattle.wac_types_parts.proofs.PartLaws.{uses_missing}
use Rattle.wac_types_parts.proofs.parts.use_count.Goals as goal

pub returns-else-has-clause-len : goal.returns-else-has-clause-len
returns-else-has-clause-len c = sym (ap (λ l. length l) (uses_missing c.args.types.now c.args.id (λ s. absurd (cc (c.if-has.ensures.1 s)))))

pub returns-else-has-clause-distinct : goal.returns-else-has-clause-distinct
returns-else-has-clause-distinct c = subst (λ l. AreDistinct (names_of l)) (sym (uses_missing c.args.types.now c.args.id (λ s. absurd (cc (c.if-has.ensures.1 s))))) tt
