use Rattle.std.proofs.Common.{Option}
use Rattle.wac_types_base.specs.Stated.{Stated}
use Rattle.wac_parser_tree.specs.Views.{view_document}
use Rattle.wac_parser_tree.specs.declared.document.Document.{Document}
use Rattle.wac_parser_resolve.specs.declared.resolver.Resolved.{Resolved}
use Rattle.wac_parser_resolve.specs.declared.resolver.Said.{Said}
use Rattle.wac_parser_resolve.specs.Ascribing.{State}
use Rattle.wac_parser_resolve.specs.InDocuments.{HoldsAll}
use Rattle.wac_parser_resolve.specs.Knowing.{handed_list}
use Rattle.wac_parser_resolve.specs.Meeting.{resolved}
use Rattle.wac_parser_resolve.specs.Resolved.{asked_of, graph_of, places_of, places_said, target_of}
use Rattle.wac_parser_resolve.proofs.Documented.{error_told, holds_as}
use Rattle.wac_parser_resolve.proofs.Asking.{held_map}
use Rattle.wac_parser_resolve.proofs.resolver.AstResolver.resolve.Goals as goal

pub returns-in-Ok-clause-outcome : goal.returns-in-Ok-clause-outcome
returns-in-Ok-clause-outcome c =
    let said = c.in-Ok.said in
    let r = c.with_document.result in
    held_map (λ (q : State × Option Stated) (x : Said). HoldsAll q x.graph (places_said x) x.target) (λ (q : State × Option Stated) (x : Resolved Document). HoldsAll q (graph_of x) (places_of x) (target_of x))
    (resolved (view_document (asked_of c.args.self)) (handed_list c.args.«packages».now)) said r
    (λ q h. holds_as said.graph (graph_of r) (places_said said) (places_of r) said.target (target_of r) q c.with_document.ensures.graph c.with_document.ensures.places c.with_document.ensures.target h) c.in-Ok.ensures.outcome

pub returns-in-Err-clause-outcome : goal.returns-in-Err-clause-outcome
returns-in-Err-clause-outcome c =
    error_told (resolved (view_document (asked_of c.args.self)) (handed_list c.args.«packages».now)) c.in-Err.refusal c.into_error.result c.into_error.ensures c.in-Err.ensures.outcome
