use Rattle.std.proofs.Common.{refl, subst}
use Rattle.wac_parser_refusals.specs.declared.error.InstanceOperation.{InstanceOperation}
use Rattle.wac_parser_refusals.specs.Causes.{Answer}
use Rattle.wac_parser_refusals.specs.Outcomes.{IsHeld, IsRefusal}
use Rattle.wac_parser_refusals.proofs.Outcomes.{refused_outcome}
use Rattle.wac_parser_resolve.specs.Ascribing.{Denoted, State}
use Rattle.wac_parser_resolve.specs.Denoting.{export_named, spoken}
use Rattle.wac_parser_resolve.specs.InExpressions.{SaysThat}
use Rattle.wac_parser_resolve.proofs.Spreading.{OneSaid, held_to, needs_same}
use Rattle.wac_parser_resolve.proofs.arguments.given_export.Goals as goal

pub returns-in_err-export-clause-outcome : goal.returns-in_err-export-clause-outcome
returns-in_err-export-clause-outcome c noted names s d says dn kind =
    let q = spoken s (export_named d c.args.name.now c.args.span) in
    refused_outcome (OneSaid c.alias.new.graph noted names c.args.span d c.args.name.now) q _ _ c.from_residual.ensures.1
    (subst (λ (r : Answer (State × Denoted)). IsRefusal r c.in_err-export.field-0.0) (needs_same d InstanceOperation.Spread c.args.span q kind) (c.in_err-export.ensures.outcome noted names s d says dn))

pub returns-clause-outcome : goal.returns-clause-outcome
returns-clause-outcome c noted names s d says dn kind =
    let q = spoken s (export_named d c.args.name.now c.args.span) in
    held_to (SaysThat c.alias.new.graph noted names) (OneSaid c.alias.new.graph noted names c.args.span d c.args.name.now) q c.in_ok-export.export _
    (subst (λ (r : Answer (State × Denoted)). IsHeld (SaysThat c.alias.new.graph noted names) r c.in_ok-export.export) (needs_same d InstanceOperation.Spread c.args.span q kind) (c.in_ok-export.ensures.outcome noted names s d says dn))
    (λ p x. (x.0, record { name = c.in_ok-from_str.ensures.ok; denotes = x.1; span = refl }))
