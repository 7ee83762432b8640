use Rattle.std.proofs.Common.{map, option_map, subst}
use Rattle.wac_parser_tree.specs.Views.{view_interface_item}
use Rattle.wac_parser_refusals.specs.Causes.{Answer, each}
use Rattle.wac_parser_refusals.specs.Outcomes.{IsHeld, IsRefusal}
use Rattle.wac_parser_refusals.proofs.Outcomes.{refused_outcome}
use Rattle.wac_parser_declare.specs.Bodies as stated
use Rattle.wac_parser_declare.specs.Bodies.{no_body}
use Rattle.wac_parser_declare.specs.InBodies.{IsBody}
use Rattle.wac_parser_declare.specs.Interfaces.{exporting, interface_item}
use Rattle.wac_parser_declare.proofs.BodyLoops.{answered_body}
use Rattle.wac_parser_declare.proofs.interfaces.interface_items.Goals as goal

pub add_items-requires-clause-body : goal.add_items-requires-clause-body
add_items-requires-clause-body g c = c.new-body.ensures.stands (g.T.GrowingTypes.collection c.args.types.now)

pub returns-in_err-add_items-clause-outcome : goal.returns-in_err-add_items-clause-outcome
returns-in_err-add_items-clause-outcome g c x s =
    let items = map view_interface_item c.args.items.now.items in
    let f : stated.Body → Answer stated.Body = λ b. each (interface_item x (exporting (option_map (λ n. n.now) c.args.name))) b items in
    refused_outcome (IsBody (g.T.GrowingTypes.collection c.add_items.new.types)) (f no_body) _ _ c.from_residual.ensures.1
    (subst (λ (b : stated.Body). IsRefusal (f b) c.in_err-add_items.field-0.0) (c.new-body.ensures.nothing (g.T.GrowingTypes.collection c.args.types.now)) (c.in_err-add_items.ensures.outcome x s))

pub returns-clause-outcome : goal.returns-clause-outcome
returns-clause-outcome g c x s =
    let items = map view_interface_item c.args.items.now.items in
    let f : stated.Body → Answer stated.Body = λ b. each (interface_item x (exporting (option_map (λ n. n.now) c.args.name))) b items in
    let new = g.T.GrowingTypes.collection c.add_items.new.types in
    subst (λ (b : stated.Body). IsHeld (IsBody new) (f b) c.add_items.new.body) (c.new-body.ensures.nothing (g.T.GrowingTypes.collection c.args.types.now))
    (answered_body new c.add_items.new.body _ (c.in_ok-add_items.ensures.outcome x s))
