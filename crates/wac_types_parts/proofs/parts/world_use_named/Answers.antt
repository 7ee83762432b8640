use Rattle.std.proofs.Common.{◌≡◌, None, sym, ap, subst}
use Rattle.std.specs.Prelude.{IfSome, IfNone}
use Rattle.wac_types_base.specs.Entries.{value_at}
use Rattle.wac_types_parts.specs.Parts.{IsUseNamed}
use Rattle.wac_types_parts.proofs.PartLaws.{world_uses_there, world_uses_missing}
use Rattle.wac_types_parts.proofs.parts.world_use_named.Goals as goal

pub returns-then-has-clause-found : goal.returns-then-has-clause-found
returns-then-has-clause-found c =
    subst (λ us. IfSome c.use_named.result (IsUseNamed us c.args.name.now)) (sym (world_uses_there c.args.types.now c.args.id c.world.result.now c.world.ensures.entry c.world.ensures.own)) c.use_named.ensures.found

pub returns-then-has-clause-none : goal.returns-then-has-clause-none
returns-then-has-clause-none c =
    subst (λ us. IfNone c.use_named.result (value_at us c.args.name.now ≡ None)) (sym (world_uses_there c.args.types.now c.args.id c.world.result.now c.world.ensures.entry c.world.ensures.own)) c.use_named.ensures.none

pub returns-else-has-clause-none : goal.returns-else-has-clause-none
returns-else-has-clause-none c = ap (λ us. value_at us c.args.name.now) (world_uses_missing c.args.types.now c.args.id (λ s. absurd (cc (c.if-has.ensures.1 s))))
