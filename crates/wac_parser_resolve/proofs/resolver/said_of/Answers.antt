use Rattle.std.proofs.Common.{Option}
use Rattle.wac_types_base.specs.Stated.{Stated}
use Rattle.wac_parser_tree.specs.Views.{view_document, view_package_name}
use Rattle.wac_parser_refusals.proofs.Outcomes.{refused_outcome}
use Rattle.wac_parser_resolve.specs.declared.resolver.Said.{Said}
use Rattle.wac_parser_resolve.specs.Ascribing.{State, start}
use Rattle.wac_parser_resolve.specs.InDocuments.{HoldsAll, places_in}
use Rattle.wac_parser_resolve.specs.InTargets.{HoldsDocument}
use Rattle.wac_parser_resolve.specs.Knowing.{handed_list}
use Rattle.wac_parser_resolve.specs.Meeting.{resolved}
use Rattle.wac_parser_resolve.specs.Resolved.{places_said}
use Rattle.wac_parser_resolve.proofs.Documented.{built, holds_as}
use Rattle.wac_parser_resolve.proofs.Asking.{held_map}
use Rattle.wac_parser_resolve.proofs.resolver.said_of.Goals as goal

pub say_document-requires-clause-said : goal.say_document-requires-clause-said
say_document-requires-clause-said c = (start (view_document c.args.document.now) (handed_list c.args.«packages».now), c.new-state.ensures.starts (view_document c.args.document.now))

pub returns-clause-outcome : goal.returns-clause-outcome
returns-clause-outcome c =
    let d = view_document c.args.document.now in
    let ps = handed_list c.args.«packages».now in
    let own = c.args.document.now.directive.«package» in
    let b = c.say_document.new.state in
    let said = c.come_to.result in
    held_map (HoldsDocument own b) (λ (q : State × Option Stated) (x : Said). HoldsAll q x.graph (places_said x) x.target) (resolved d ps) c.in_ok-target.target said
    (λ q h. holds_as b.board.types.graph said.graph (places_in b) (places_said said) c.in_ok-target.target said.target q c.come_to.ensures.graph c.come_to.ensures.places c.come_to.ensures.target (built (view_package_name own) b q.0 c.see_sound.ensures h.0, h.1))
    (c.in_ok-target.ensures.outcome (start d ps) (c.new-state.ensures.starts d))

pub returns-in_err-target-clause-outcome : goal.returns-in_err-target-clause-outcome
returns-in_err-target-clause-outcome c =
    let d = view_document c.args.document.now in
    let ps = handed_list c.args.«packages».now in
    refused_outcome (λ (q : State × Option Stated) (x : Said). HoldsAll q x.graph (places_said x) x.target) (resolved d ps) c.from_residual.result c.in_err-target.field-0.0 c.from_residual.ensures.1
    (c.in_err-target.ensures.outcome (start d ps) (c.new-state.ensures.starts d))
