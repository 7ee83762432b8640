use Rattle.std.proofs.Common.{ℕ, List, arith, refl, inl, subst, ◌∙◌}
use Rattle.wac_types_base.specs.Entries.{names_of}
use Rattle.wac_types_base.specs.Graph.{Among}
use Rattle.wac_types_base.proofs.Loops.{get-place}
use Rattle.wac_parser_lexer.specs.declared.span.SourceSpan.{SourceSpan as Span}
use Rattle.wac_parser_refusals.specs.Outcomes.{IsHeld}
use Rattle.wac_parser_refusals.proofs.Outcomes.{refused_outcome}
use Rattle.wac_parser_resolve.specs.Giving.{gives_of}
use Rattle.wac_parser_resolve.specs.InTargets.{IsTold, AreInstancesMet, all_pass, instance_test}
use Rattle.wac_parser_resolve.specs.Targeting.{IsInstanceMet}
use Rattle.wac_parser_resolve.proofs.Meeting.{Passed, all_passed, come_next, next_passes, next_refused, none_to_come, noted_among}
use Rattle.wac_parser_resolve.proofs.targets.Target.instances_met.Goals as goal

pub loop-node-init : goal.loop-node-init
loop-node-init c = record { come = λ k m. inl m; rest = refl }

pub instance_met-requires-clause-node : goal.instance_met-requires-clause-node
instance_met-requires-clause-node c =
    let xs = c.deref-node-items.result.now in
    let at = get-place xs c.loop-node.node-index c.loop-node-item.result c.loop-node-test.true c.loop-node-item.is in
    c.requires.instances c.loop-node-item.result.0
    (subst (λ (es : List (ℕ × Span)). Among c.loop-node-item.result.0 (names_of es)) (c.deref-node-items.ensures.value ∙ c.entries.ensures.entries)
    (noted_among xs c.loop-node.node-index c.loop-node-item.result.0 c.loop-node-item.result.1 at))

pub loop-node-preserved : goal.loop-node-preserved
loop-node-preserved c =
    let xs = c.deref-node-items.result.now in
    let x = c.loop-node-item.result in
    let at = get-place xs c.loop-node.node-index x c.loop-node-test.true c.loop-node-item.is in
    record {
      come = come_next (IsInstanceMet c.args.graph.now (gives_of c.args.self.now)) xs c.loop-node.node-index x.0 x.1 at c.loop-node.invariant.come c.in_ok-instance_met.ensures.ok;
      rest = next_passes (λ e. instance_test c.args.self.now c.args.graph.now e.0) xs c.loop-node.node-index x at c.loop-node.invariant.rest c.in_ok-instance_met.ensures.outcome;
    }

pub returns-in_err-instance_met-clause-outcome : goal.returns-in_err-instance_met-clause-outcome
returns-in_err-instance_met-clause-outcome c =
    let xs = c.deref-node-items.result.now in
    let x = c.loop-node-item.result in
    let at = get-place xs c.loop-node.node-index x c.loop-node-test.true c.loop-node-item.is in
    subst (λ (es : List (ℕ × Span)). IsTold (all_pass (λ e. instance_test c.args.self.now c.args.graph.now e.0) es) c.from_residual.result) (c.deref-node-items.ensures.value ∙ c.entries.ensures.entries)
    (refused_outcome Passed (all_pass (λ e. instance_test c.args.self.now c.args.graph.now e.0) xs) _ _ c.from_residual.ensures.1
    (next_refused (λ e. instance_test c.args.self.now c.args.graph.now e.0) xs c.loop-node.node-index x at c.loop-node.invariant.rest c.in_err-instance_met.field-0.0 c.in_err-instance_met.ensures.outcome))

pub returns-clause-ok : goal.returns-clause-ok
returns-clause-ok c =
    subst (AreInstancesMet c.args.graph.now (gives_of c.args.self.now)) (c.deref-node-items.ensures.value ∙ c.entries.ensures.entries)
    (none_to_come (IsInstanceMet c.args.graph.now (gives_of c.args.self.now)) c.deref-node-items.result.now c.loop-node.node-index (omega (arith, c.loop-node-test.false)) c.loop-node.invariant.come)

pub returns-clause-outcome : goal.returns-clause-outcome
returns-clause-outcome c =
    subst (λ (es : List (ℕ × Span)). IsHeld Passed (all_pass (λ e. instance_test c.args.self.now c.args.graph.now e.0) es) tt) (c.deref-node-items.ensures.value ∙ c.entries.ensures.entries)
    (all_passed (λ e. instance_test c.args.self.now c.args.graph.now e.0) c.deref-node-items.result.now c.loop-node.node-index (omega (arith, c.loop-node-test.false)) c.loop-node.invariant.rest)
