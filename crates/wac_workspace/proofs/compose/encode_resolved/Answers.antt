use Rattle.std.proofs.Common.{rules, ◌≡◌, true, sym, ap, subst, ◌∙◌}
use Rattle.wac_types_base.specs.Record.{Collection}
use Rattle.wac_types_base.specs.Collection.{IsAcyclic}
use Rattle.wac_types_base.specs.Stated.{stated_world}
use Rattle.wac_graph_core.specs.Graph.{Graph}
use Rattle.wac_parser_resolve.specs.Meeting.{uses_are_named}
use Rattle.wac_parser_resolve.specs.Resolved.{graph_of, places_of, target_of}
use Rattle.wac_workspace.proofs.Meeting.{met_named}
use Rattle.wac_workspace.specs.Steps.{IsAfterwards, IsUnmet}
use Rattle.wac_workspace.proofs.Resolved.{target_unmet}
use Rattle.wac_workspace.proofs.compose.encode_resolved.Goals as goal

pub test_target-requires-clause-named : goal.test_target-requires-clause-named
test_target-requires-clause-named g c =
    let t = c.in-Some.target in
    let G : Graph = graph_of c.args.resolution in
    let same : c.types-types.result.now ≡ G.types = c.types-types.ensures ∙ ap (λ (x : Graph). x.types) c.graph.ensures in
    subst (λ (ts : Collection). uses_are_named (stated_world ts t) ≡ true) (sym same)
    (met_named G (subst IsAcyclic same c.see_acyclic.ensures) (target_of c.args.resolution) t (sym c.target.ensures ∙ c.in-Some.is) c.requires)

pub returns-in_err-test_target-clause-late : goal.returns-in_err-test_target-clause-late
returns-in_err-test_target-clause-late g c =
    let r = c.args.resolution in
    let t = c.in-Some.target in
    let G : Graph = graph_of r in
    let encoded = c.in_ok-encoded.encoded in
    let e = c.in_err-test_target.field-0.0 in
    let same : c.types-types.result.now ≡ G.types = c.types-types.ensures ∙ ap (λ (x : Graph). x.types) c.graph.ensures in
    let unmet = subst (λ (ts : Collection). IsUnmet (stated_world ts t) (stated_world encoded.types encoded.world) e) same c.in_err-test_target.ensures.unmet in
    let late = target_unmet G (places_of r) c.args.options t encoded.types encoded.world e c.in_ok-encoded.ensures.free c.in_ok-encoded.ensures.resolved unmet in
    let told : IsAfterwards G (places_of r) (target_of r) c.args.options e = subst (λ o. IsAfterwards G (places_of r) o c.args.options e) (sym (sym c.target.ensures ∙ c.in-Some.is)) late in
    search rules
