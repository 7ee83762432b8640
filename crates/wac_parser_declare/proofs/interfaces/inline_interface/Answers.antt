use Rattle.std.proofs.Common.{map, None}
use Rattle.wac_types_base.specs.Stated.{Stated, interface_of}
use Rattle.wac_parser_tree.specs.Views.{view_inline_interface, view_interface_item}
use Rattle.wac_parser_refusals.specs.Causes.{Answer, each, pure}
use Rattle.wac_parser_refusals.proofs.Outcomes.{refused_outcome, then_refused}
use Rattle.wac_parser_declare.specs.Bodies as stated
use Rattle.wac_parser_declare.specs.Bodies.{no_body}
use Rattle.wac_parser_declare.specs.Interfaces.{exporting, inline_interface, interface_item}
use Rattle.wac_parser_declare.specs.Making.{AnInstance}
use Rattle.wac_parser_declare.proofs.interfaces.inline_interface.Goals as goal

pub returns-in_err-body-clause-outcome : goal.returns-in_err-body-clause-outcome
returns-in_err-body-clause-outcome g c x s =
    let items = map view_interface_item c.args.interface.now.items.items in
    let made : stated.Body → Answer Stated = λ b. pure (interface_of None b.uses b.items) in
    refused_outcome (AnInstance (g.T.GrowingTypes.collection c.interface_items.new.types)) (inline_interface x (view_inline_interface c.args.interface.now)) _ _ c.from_residual.ensures.1
    (then_refused made (each (interface_item x (exporting None)) no_body items) _ (c.in_err-body.ensures.outcome x s))
