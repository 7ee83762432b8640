use Rattle.std.proofs.Common.{◌≡◌, Some, slice_get, refl, subst, ◌∙◌}
use Rattle.std.specs.Cmp.Lexicographic.{same_text}
use Rattle.std.proofs.lemmas.Bool.{both_ways}
use Rattle.std.proofs.lemmas.Slice.Eq.{bytes_eq-Decides}
use Rattle.wac_types_base.specs.Graph.{Among}
use Rattle.wac_types_base.proofs.Loops.{get-place}
use Rattle.wac_graph_plug.specs.Plans.{imports_given}
use Rattle.wac_graph_plug.proofs.Planning.{given_at, none_given}
use Rattle.wac_graph_plug.proofs.plan.Plan.has_given.Goals as goal

pub returns-then-is : goal.returns-then-is
returns-then-is c =
    let all = c.args.self.now.arguments.items in
    let at = get-place c.deref-argument-items.result.now c.loop-argument.argument-index c.argument-item.result c.loop-argument-test.true c.argument-item.is in
    let among = given_at all c.loop-argument.argument-index c.argument-item.result (subst (λ l. slice_get l c.loop-argument.argument-index ≡ Some c.argument-item.result) c.deref-argument-items.ensures.value at) in
    (λ t. subst (λ n. Among n (imports_given all)) (same_text c.argument-item.result.given.import c.args.import.now c.if-is.ensures) among, λ m. refl)

pub loop-argument-preserved : goal.loop-argument-preserved
loop-argument-preserved c =
    let all = c.args.self.now.arguments.items in
    let at = get-place c.deref-argument-items.result.now c.loop-argument.argument-index c.argument-item.result c.loop-argument-test.true c.argument-item.is in
    none_given c.args.import.now all c.loop-argument.argument-index c.argument-item.result (subst (λ l. slice_get l c.loop-argument.argument-index ≡ Some c.argument-item.result) c.deref-argument-items.ensures.value at)
    (λ e. both_ways c.is.result c.if-is.false (c.is.ensures ∙ (bytes_eq-Decides c.argument-item.result.given.import c.args.import.now).1 e)) c.loop-argument.invariant
