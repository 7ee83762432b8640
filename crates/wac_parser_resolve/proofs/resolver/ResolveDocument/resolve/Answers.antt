use Rattle.std.proofs.Common.{Option}
use Rattle.wac_types_base.specs.Stated.{Stated}
use Rattle.wac_parser_resolve.specs.declared.resolver.Resolved.{Resolved}
use Rattle.wac_parser_resolve.specs.declared.resolver.Said.{Said}
use Rattle.wac_parser_resolve.specs.Ascribing.{State}
use Rattle.wac_parser_resolve.specs.InDocuments.{HoldsAll}
use Rattle.wac_parser_resolve.specs.Resolved.{graph_of, graph_said, places_of, places_said, target_of, target_said}
use Rattle.wac_parser_resolve.proofs.Documented.{holds_as}
use Rattle.wac_parser_resolve.proofs.Asking.{held_map}
use Rattle.wac_parser_resolve.proofs.resolver.ResolveDocument.resolve.Goals as goal

pub returns-clause-outcome : goal.returns-clause-outcome
returns-clause-outcome g c =
    let said = c.in_ok-said.said in
    let r = c.with_document.result in
    held_map (λ (q : State × Option Stated) (x : Said). HoldsAll q (graph_said x) (places_said x) (target_said x)) (λ (q : State × Option Stated) (x : Resolved _). HoldsAll q (graph_of x) (places_of x) (target_of x)) _ said r
    (λ q h. holds_as said.graph (graph_of r) (places_said said) (places_of r) said.target (target_of r) q c.with_document.ensures.graph c.with_document.ensures.places c.with_document.ensures.target h) c.in_ok-said.ensures.outcome
