use Rattle.std.proofs.Common.{Bool, ap, subst}
use Rattle.std.proofs.lemmas.Result.{err_from_is_err_and}
use Rattle.wac_graph_encode.specs.declared.options.EncodeOptions.{EncodeOptions}
use Rattle.wac_parser_tree.specs.Views.{view_document}
use Rattle.wac_parser_resolve.specs.Knowing.{handed_list}
use Rattle.wac_parser_resolve.specs.Meeting.{resolved}
use Rattle.wac_workspace.specs.Resolving.{Accepts}
use Rattle.wac_workspace.proofs.Resolved.{composed_named, importing_named, meant_named, told_named, unencoded}
use Rattle.wac_workspace.proofs.compose.compose_document.Goals as goal

pub returns-clause-accepted : goal.returns-clause-accepted
returns-clause-accepted c =
    subst (λ (define : Bool). Accepts define (view_document c.args.document.now) c.args.«packages».now) (ap (λ (o : EncodeOptions). o.define_components) c.validated.ensures) c.in_ok-encoded.ensures.accepted

pub returns-clause-means : goal.returns-clause-means
returns-clause-means c =
    let q = resolved (view_document c.args.document.now) (handed_list c.args.«packages».now) in
    let e = c.in_ok-encoded.encoded in
    let o = c.in_ok-output.output in
    meant_named c.validated.result c.args.options q e.bytes.items o.bytes.items (ap (λ (x : EncodeOptions). x.define_components) c.validated.ensures) (ap (λ b. b.items) c.in_ok-output.ensures.bytes) c.in_ok-encoded.ensures.means

pub returns-clause-imports : goal.returns-clause-imports
returns-clause-imports c =
    let q = resolved (view_document c.args.document.now) (handed_list c.args.«packages».now) in
    let e = c.in_ok-encoded.encoded in
    let o = c.in_ok-output.output in
    importing_named c.validated.result c.args.options q e.bytes.items o.bytes.items (ap (λ (x : EncodeOptions). x.define_components) c.validated.ensures) (ap (λ b. b.items) c.in_ok-output.ensures.bytes) c.in_ok-encoded.ensures.imports

pub returns-clause-processor : goal.returns-clause-processor
returns-clause-processor c =
    told_named c.validated.result c.args.options c.in_ok-encoded.encoded.bytes.items c.in_ok-output.output.bytes.items c.validated.ensures (ap (λ b. b.items) c.in_ok-output.ensures.bytes) c.in_ok-encoded.ensures.processor

pub returns-clause-composed : goal.returns-clause-composed
returns-clause-composed c =
    let q = resolved (view_document c.args.document.now) (handed_list c.args.«packages».now) in
    composed_named q c.in_ok-encoded.encoded c.in_ok-output.output c.in_ok-output.ensures.types c.in_ok-output.ensures.world c.in_ok-encoded.ensures.composed

pub returns-in_err-encoded-clause-refused : goal.returns-in_err-encoded-clause-refused
returns-in_err-encoded-clause-refused c =
    let q = resolved (view_document c.args.document.now) (handed_list c.args.«packages».now) in
    let p = err_from_is_err_and c.from_residual-in_err-encoded.result c.from_residual-in_err-encoded.ensures.1 in
    rw (p.1, p.2) (unencoded c.args.next c.args.options c.validated.result q c.in_err-encoded.field-0.0 c.validated.ensures c.in_ok-numbers.ensures.next.room c.in_err-encoded.ensures.late)
