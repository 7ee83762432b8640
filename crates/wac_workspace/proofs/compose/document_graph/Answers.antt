use Rattle.std.proofs.Common.{Option, subst}
use Rattle.wac_parser_tree.specs.declared.document.Document.{Document}
use Rattle.wac_parser_tree.specs.Views.{view_document}
use Rattle.wac_types_base.specs.Stated.{Stated}
use Rattle.wac_parser_refusals.specs.Outcomes.{IsHeld}
use Rattle.wac_parser_resolve.specs.Ascribing.{State}
use Rattle.wac_parser_resolve.specs.InDocuments.{HoldsAll}
use Rattle.wac_parser_resolve.specs.Resolved.{graph_of, places_of, target_of}
use Rattle.wac_parser_resolve.specs.Knowing.{handed_list}
use Rattle.wac_parser_resolve.specs.Meeting.{resolved}
use Rattle.wac_workspace.proofs.Resolved.{graph_held}
use Rattle.wac_workspace.proofs.compose.document_graph.Goals as goal

pub returns-clause-graph : goal.returns-clause-graph
returns-clause-graph c =
    let ps = handed_list c.args.«packages».now in
    let r = c.in_ok-resolution.resolution in
    let built = subst (λ (d : Document). IsHeld (λ (s : State × Option Stated) b. HoldsAll s (graph_of b) (places_of b) (target_of b)) (resolved (view_document d) ps) r) c.new.ensures c.in_ok-resolution.ensures.outcome in
    graph_held graph_of places_of target_of (resolved (view_document c.args.document.now) ps) r c.into_graph.result c.into_graph.ensures built
