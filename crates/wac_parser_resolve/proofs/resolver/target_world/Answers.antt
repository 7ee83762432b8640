use Rattle.std.proofs.Common.{ap, subst, ◌∙◌}
use Rattle.wac_types_base.specs.Record.{Collection}
use Rattle.wac_types_base.specs.Collection.{IsAcyclic}
use Rattle.wac_types_base.specs.Entries.{Name}
use Rattle.wac_types_base.specs.Stated.{Stated, desc, kind_of, stated_of}
use Rattle.wac_parser_tree.specs.Views.{view_package_path}
use Rattle.wac_parser_refusals.specs.Causes.{NotWorld}
use Rattle.wac_parser_refusals.specs.Outcomes.{Refuses}
use Rattle.wac_parser_refusals.proofs.Outcomes.{after_held, after_refused, refused_outcome, then_refused}
use Rattle.wac_parser_declare.specs.Holding.{Holds}
use Rattle.wac_parser_declare.specs.Scope.{path_item}
use Rattle.wac_parser_resolve.specs.Ascribing.{context}
use Rattle.wac_parser_resolve.specs.InTargets.{IsWorldHeld}
use Rattle.wac_parser_resolve.specs.Meeting.{target_world, target_by}
use Rattle.wac_parser_resolve.proofs.MeetingWorld.{world_held, world_refused}
use Rattle.wac_parser_resolve.proofs.resolver.target_world.Goals as goal

pub returns-in-Some-clause-said : goal.returns-in-Some-clause-said
returns-in-Some-clause-said c = c.in_ok-kind.ensures.said

pub returns-in-Some-clause-outcome : goal.returns-in-Some-clause-outcome
returns-in-Some-clause-outcome c s said =
    let d = c.item_at.new.state.board.types.graph.types in
    let p = view_package_path c.args.path.now in
    after_held (λ (x : Stated). target_by (kind_of x) p x) (Holds d) (IsWorldHeld d) (path_item (context s) p) c.in_ok-kind.kind c.in-Some.id (c.in_ok-kind.ensures.outcome s said)
    (λ x h. world_held d (subst IsAcyclic c.types-types.ensures c.see_acyclic.ensures) p x c.in_ok-kind.kind c.in-Some.id h c.in-Some.ensures.is)

pub returns-in-None-clause-outcome : goal.returns-in-None-clause-outcome
returns-in-None-clause-outcome c s said =
    let d = c.item_at.new.state.board.types.graph.types in
    let p = view_package_path c.args.path.now in
    after_refused (λ (x : Stated). target_by (kind_of x) p x) (Holds d) (path_item (context s) p) c.in_ok-kind.kind c.not_world.result (c.in_ok-kind.ensures.outcome s said)
    (λ x h. world_refused d (subst IsAcyclic c.types-types.ensures c.see_acyclic.ensures) p x c.in_ok-kind.kind c.not_world.result h c.in-None.ensures.is
    (subst (λ (n : Name). Refuses c.not_world.result (NotWorld p.string n) p.span) (c.desc.ensures ∙ ap (λ (y : Collection). desc (stated_of y c.in_ok-kind.kind)) c.types-types.ensures) c.not_world.ensures))

pub returns-in_err-kind-clause-outcome : goal.returns-in_err-kind-clause-outcome
returns-in_err-kind-clause-outcome c s said =
    let p = view_package_path c.args.path.now in
    refused_outcome (IsWorldHeld c.item_at.new.state.board.types.graph.types) (target_world s p) _ _ c.from_residual.ensures.1
    (then_refused (λ (x : Stated). target_by (kind_of x) p x) (path_item (context s) p) c.in_err-kind.field-0.0 (c.in_err-kind.ensures.outcome s said))
