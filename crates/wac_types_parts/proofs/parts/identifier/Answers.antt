use Rattle.std.proofs.Common.{sym}
use Rattle.wac_types_parts.proofs.PartLaws.{identifier_missing}
use Rattle.wac_types_parts.proofs.parts.identifier.Goals as goal

pub returns-then-not-has : goal.returns-then-not-has
returns-then-not-has c = sym (identifier_missing c.args.types.now c.args.id (λ s. absurd (cc (c.if-not-has.ensures.1 s))))
