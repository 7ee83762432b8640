use Rattle.std.proofs.Common.{map, Some, subst, sym}
use Rattle.wac_types_base.specs.Stated.{Stated, interface_of}
use Rattle.wac_parser_tree.specs.Trees as t
use Rattle.wac_parser_tree.specs.Views.{view_interface_decl, view_interface_item}
use Rattle.wac_parser_refusals.specs.Causes.{Answer, each, pure}
use Rattle.wac_parser_refusals.proofs.Outcomes.{after_held, refused_outcome, then_refused}
use Rattle.wac_parser_declare.specs.Bodies as stated
use Rattle.wac_parser_declare.specs.Bodies.{no_body}
use Rattle.wac_parser_declare.specs.InBodies.{IsBody}
use Rattle.wac_parser_declare.specs.Interfaces.{exporting, interface_decl, interface_item}
use Rattle.wac_parser_declare.specs.Making.{AnInstance, identifier_of, interface_with}
use Rattle.wac_parser_declare.specs.Scope.{identifier}
use Rattle.wac_parser_declare.proofs.Fresh.{new_before}
use Rattle.wac_parser_declare.proofs.interfaces.interface_decl.Goals as goal

pub returns-in_err-body-clause-outcome : goal.returns-in_err-body-clause-outcome
returns-in_err-body-clause-outcome g c x s =
    let decl = c.args.decl.now in
    let n = decl.id.string.now in
    let made : stated.Body → Answer Stated = λ b. pure (interface_of (Some (identifier x.own n)) b.uses b.items) in
    refused_outcome (AnInstance (g.T.GrowingTypes.collection c.interface_items.new.types)) (interface_decl x (view_interface_decl decl)) _ _ c.from_residual.ensures.1
    (then_refused made (each (interface_item x (exporting (Some n))) no_body (map view_interface_item decl.items.items)) _ (c.in_err-body.ensures.outcome x s))

pub returns-clause-outcome : goal.returns-clause-outcome
returns-clause-outcome g c x s =
    let decl = c.args.decl.now in
    let n = decl.id.string.now in
    let own = c.args.context.own.now in
    let mid = g.T.GrowingTypes.collection c.interface_items.new.types in
    let new = g.T.GrowingTypes.collection c.add_named.new.types in
    let made : stated.Body → Answer Stated = λ b. pure (interface_of (Some (identifier x.own n)) b.uses b.items) in
    after_held made (IsBody mid) (AnInstance new) (each (interface_item x (exporting (Some n))) no_body (map view_interface_item decl.items.items)) c.in_ok-body.body c.in_ok-id.id
    (c.in_ok-body.ensures.outcome x s)
    (λ b held. subst (λ (o : t.PackageName). AnInstance new (interface_of (Some (identifier o n)) b.uses b.items) c.in_ok-id.id) (sym s.own)
    (subst (λ (y : stated.Body). AnInstance new (interface_with (Some (identifier_of own n)) y) c.in_ok-id.id) held c.in_ok-id.ensures.made))

pub returns-clause-fresh : goal.returns-clause-fresh
returns-clause-fresh g c = new_before (g.T.GrowingTypes.collection c.args.types.now) (g.T.GrowingTypes.collection c.interface_items.new.types) _ c.in_ok-body.ensures.grows c.in_ok-id.ensures.fresh
