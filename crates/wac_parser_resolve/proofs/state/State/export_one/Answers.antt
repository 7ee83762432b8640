use Rattle.std.proofs.Common.{false, subst}
use Rattle.std.specs.Prelude.{⊤}
use Rattle.wac_parser_refusals.specs.Causes.{Answer}
use Rattle.wac_parser_refusals.specs.Outcomes.{IsHeld, IsRefusal}
use Rattle.wac_parser_refusals.proofs.Outcomes.{refused_outcome}
use Rattle.wac_parser_resolve.specs.Ascribing.{Denoted, State}
use Rattle.wac_parser_resolve.specs.Denoting.{export_named, spoken}
use Rattle.wac_parser_resolve.specs.InExpressions.{SaysThat}
use Rattle.wac_parser_resolve.specs.Said.{IsSaid}
use Rattle.wac_parser_resolve.specs.Saying.{export_one, exported}
use Rattle.wac_parser_resolve.proofs.ExportStates.{alias_outcome, alias_refused, beside_it, said_spoken}
use Rattle.wac_parser_resolve.proofs.Spreading.{needs_same}
use Rattle.wac_parser_resolve.proofs.state.State.export_one.Goals as goal

pub returns-in_err-one-clause-outcome : goal.returns-in_err-one-clause-outcome
returns-in_err-one-clause-outcome c own s d said dn one =
    let b = c.args.self.now in
    let at = c.args.access in
    let n = c.args.text.now in
    let f : Denoted → Answer State = λ e. exported e false s (record { string = n; span = at.access }) in
    refused_outcome (λ (q : State) (u : ⊤). IsSaid own (beside_it b c.alias.new.graph b.exports) q) (export_one at.access d s n) _ _ c.from_residual.ensures.1
    (alias_refused c.alias.new.graph b.board.instances.noted.items b.nodes s f (export_named d n at.access) c.in_err-one.field-0.0
    (subst (λ (r : Answer (State × Denoted)). IsRefusal r c.in_err-one.field-0.0) (needs_same d at.operation at.instance (spoken s (export_named d n at.access)) one)
    (c.in_err-one.ensures.outcome b.board.instances.noted.items b.nodes s d said.board.says dn)))

pub returns-clause-outcome : goal.returns-clause-outcome
returns-clause-outcome c own s d said dn one =
    let b = c.args.self.now in
    let h = c.alias.new.graph in
    let at = c.args.access in
    let n = c.args.text.now in
    let noted = b.board.instances.noted.items in
    let f : Denoted → Answer State = λ e. exported e false s (record { string = n; span = at.access }) in
    alias_outcome h noted b.nodes s f (λ (q : State) (u : ⊤). IsSaid own c.export.new.self q) (export_named d n at.access) c.in_ok-one.one c.export.result
    (subst (λ (r : Answer (State × Denoted)). IsHeld (SaysThat h noted b.nodes) r c.in_ok-one.one) (needs_same d at.operation at.instance (spoken s (export_named d n at.access)) one)
    (c.in_ok-one.ensures.outcome noted b.nodes s d said.board.says dn))
    (λ e says denotes. c.export.ensures.outcome own s e (said_spoken own b h s e said c.in_ok-one.ensures.inner c.in_ok-one.ensures.within says) denotes)
