use Rattle.std.proofs.Common.{Option, refl, subst}
use Rattle.std.proofs.lemmas.Result.{err_from_is_err_and}
use Rattle.wac_parser_tree.specs.declared.document.Document.{Document}
use Rattle.wac_parser_tree.specs.Views.{view_document}
use Rattle.wac_types_base.specs.Stated.{Stated}
use Rattle.wac_parser_refusals.specs.Outcomes.{IsHeld}
use Rattle.wac_parser_resolve.specs.Ascribing.{State}
use Rattle.wac_parser_resolve.specs.InDocuments.{HoldsAll, IsErrorOf}
use Rattle.wac_parser_resolve.specs.Resolved.{graph_of, places_of, target_of}
use Rattle.wac_parser_resolve.specs.Knowing.{handed_list}
use Rattle.wac_parser_resolve.specs.Meeting.{resolved}
use Rattle.wac_workspace.proofs.Resolved.{accepted, composed, graph_held, importing, late_afterwards, late_resolving, meant}
use Rattle.wac_workspace.proofs.compose.encode_document.Goals as goal

pub returns-in_err-resolution-clause-late : goal.returns-in_err-resolution-clause-late
returns-in_err-resolution-clause-late c =
    let ps = handed_list c.args.«packages».now in
    let f = c.in_err-resolution.field-0.0 in
    let told = subst (λ (d : Document). IsErrorOf (resolved (view_document d) ps) f) c.new.ensures c.in_err-resolution.ensures.outcome in
    let p = err_from_is_err_and c.from_residual-in_err-resolution.result c.from_residual-in_err-resolution.ensures.1 in
    rw p.1 (late_resolving c.args.options (resolved (view_document c.args.document.now) ps) f p.0 told p.2)

pub returns-clause-late : goal.returns-clause-late
returns-clause-late c =
    let ps = handed_list c.args.«packages».now in
    let d = view_document c.args.document.now in
    let q = resolved d ps in
    let r = c.in_ok-resolution.resolution in
    let built = subst (λ (d : Document). IsHeld (λ (s : State × Option Stated) b. HoldsAll s (graph_of b) (places_of b) (target_of b)) (resolved (view_document d) ps) r) c.new.ensures c.in_ok-resolution.ensures.outcome in
    late_afterwards graph_of places_of target_of d ps r c.args.options c.encode_resolved.result c.requires.validate built c.encode_resolved.ensures.late

pub returns-clause-accepted : goal.returns-clause-accepted
returns-clause-accepted c =
    let ps = handed_list c.args.«packages».now in
    let d = view_document c.args.document.now in
    let r = c.in_ok-resolution.resolution in
    let built = subst (λ (d : Document). IsHeld (λ (s : State × Option Stated) b. HoldsAll s (graph_of b) (places_of b) (target_of b)) (resolved (view_document d) ps) r) c.new.ensures c.in_ok-resolution.ensures.outcome in
    accepted graph_of places_of target_of d ps r c.args.options c.encode_resolved.result c.requires.validate built c.encode_resolved.ensures.free

pub returns-clause-means : goal.returns-clause-means
returns-clause-means c =
    let ps = handed_list c.args.«packages».now in
    let d = view_document c.args.document.now in
    let q = resolved d ps in
    let r = c.in_ok-resolution.resolution in
    let built = subst (λ (d : Document). IsHeld (λ (s : State × Option Stated) b. HoldsAll s (graph_of b) (places_of b) (target_of b)) (resolved (view_document d) ps) r) c.new.ensures c.in_ok-resolution.ensures.outcome in
    meant d ps (graph_of r) c.encode_resolved.result c.args.options (graph_held graph_of places_of target_of q r (graph_of r) refl built) c.encode_resolved.ensures.means
    c.encode_resolved.ensures.ascribed

pub returns-clause-imports : goal.returns-clause-imports
returns-clause-imports c =
    let ps = handed_list c.args.«packages».now in
    let d = view_document c.args.document.now in
    let q = resolved d ps in
    let r = c.in_ok-resolution.resolution in
    let built = subst (λ (d : Document). IsHeld (λ (s : State × Option Stated) b. HoldsAll s (graph_of b) (places_of b) (target_of b)) (resolved (view_document d) ps) r) c.new.ensures c.in_ok-resolution.ensures.outcome in
    importing d ps (graph_of r) c.encode_resolved.result c.args.options (graph_held graph_of places_of target_of q r (graph_of r) refl built) c.encode_resolved.ensures.imports
    c.encode_resolved.ensures.imported

pub returns-clause-composed : goal.returns-clause-composed
returns-clause-composed c =
    let ps = handed_list c.args.«packages».now in
    let d = view_document c.args.document.now in
    let q = resolved d ps in
    let r = c.in_ok-resolution.resolution in
    let built = subst (λ (d : Document). IsHeld (λ (s : State × Option Stated) b. HoldsAll s (graph_of b) (places_of b) (target_of b)) (resolved (view_document d) ps) r) c.new.ensures c.in_ok-resolution.ensures.outcome in
    composed graph_of places_of target_of d ps r c.encode_resolved.result built c.encode_resolved.ensures.resolved c.encode_resolved.ensures.target
