use Rattle.std.specs.Prelude.{⊤}
use Rattle.std.proofs.Common.{subst, sym}
use Rattle.wac_parser_tree.specs.declared.interface.InterfaceItem.{InterfaceItem}
use Rattle.wac_parser_tree.specs.declared.interface.Use.{Use}
use Rattle.wac_parser_tree.specs.Views.{view_interface_item, view_use}
use Rattle.wac_parser_refusals.specs.Outcomes.{IsOutcome}
use Rattle.wac_parser_declare.specs.Bodies as stated
use Rattle.wac_parser_declare.specs.Bodies.{use_types}
use Rattle.wac_parser_declare.specs.Held.{holder_of, stated_body}
use Rattle.wac_parser_declare.specs.InBodies.{IsBody}
use Rattle.wac_parser_declare.specs.Interfaces.{interface_item}
use Rattle.wac_parser_declare.proofs.interfaces.interface_item.Goals as goal

pub returns-in-Use-clause-outcome : goal.returns-in-Use-clause-outcome
returns-in-Use-clause-outcome g c x s =
    let h = holder_of c.args.holder in
    let b = stated_body (g.T.GrowingTypes.collection c.args.types.now) c.args.body.now in
    let k : stated.Body → ⊤ → Type 0 = λ y u. IsBody (g.T.GrowingTypes.collection c.use_types.new.types) y c.use_types.new.body in
    let r = c.use_types.result in
    subst (λ (i : InterfaceItem). IsOutcome k (interface_item x h b (view_interface_item i)) r) (sym c.in-Use.is)
    (subst (λ (u : Use). IsOutcome k (use_types x h b (view_use u)) r) c.deref.ensures (c.use_types.ensures.outcome x s))
