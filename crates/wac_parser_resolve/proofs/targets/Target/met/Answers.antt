use Rattle.std.proofs.Common.{subst}
use Rattle.wac_types_base.specs.Collection.{IsAcyclic}
use Rattle.wac_parser_refusals.proofs.Outcomes.{refused_outcome}
use Rattle.wac_parser_resolve.specs.Meeting.{target_met}
use Rattle.wac_parser_resolve.proofs.Meeting.{Passed}
use Rattle.wac_parser_resolve.proofs.MeetingSaid.{exports_told, instances_refused, statements_refused}
use Rattle.wac_parser_resolve.proofs.TargetMet.{on_ok}
use Rattle.wac_parser_resolve.proofs.targets.Target.met.Goals as goal

pub returns-clause-ok : goal.returns-clause-ok
returns-clause-ok c =
    on_ok c.exports_met.result (λ exports. record { statements = c.in_ok-statements_met.ensures.ok; instances = c.in_ok-instances_met.ensures.ok; exports = exports }) c.exports_met.ensures.ok

pub returns-clause-outcome : goal.returns-clause-outcome
returns-clause-outcome c ids names s p w of asked says exported =
    exports_told c.args.graph.now c.see_sound.ensures (subst IsAcyclic c.types.ensures c.see_acyclic.ensures) c.args.self.now c.args.exports.now s p w of c.args.noted.imports.now.noted.items ids
    c.args.noted.instances.now.noted.items names c.args.noted.exports.now.noted.items asked says exported c.exports_met.result c.in_ok-statements_met.ensures.outcome c.in_ok-instances_met.ensures.outcome c.exports_met.ensures.outcome

pub returns-in_err-instances_met-clause-outcome : goal.returns-in_err-instances_met-clause-outcome
returns-in_err-instances_met-clause-outcome c ids names s p w of asked says exported =
    refused_outcome Passed (target_met s p w) _ _ c.from_residual-in_err-instances_met.ensures.1
    (instances_refused c.args.graph.now c.see_sound.ensures (subst IsAcyclic c.types.ensures c.see_acyclic.ensures) c.args.self.now c.args.exports.now s p w of c.args.noted.imports.now.noted.items ids
    c.args.noted.instances.now.noted.items names c.args.noted.exports.now.noted.items asked says exported c.in_err-instances_met.field-0.0 c.in_ok-statements_met.ensures.outcome c.in_err-instances_met.ensures.outcome)

pub returns-in_err-statements_met-clause-outcome : goal.returns-in_err-statements_met-clause-outcome
returns-in_err-statements_met-clause-outcome c ids names s p w of asked says exported =
    refused_outcome Passed (target_met s p w) _ _ c.from_residual.ensures.1
    (statements_refused c.args.graph.now c.see_sound.ensures (subst IsAcyclic c.types.ensures c.see_acyclic.ensures) c.args.self.now c.args.exports.now s p w of c.args.noted.imports.now.noted.items ids
    c.args.noted.instances.now.noted.items names c.args.noted.exports.now.noted.items asked says exported c.in_err-statements_met.field-0.0 c.in_err-statements_met.ensures.outcome)
