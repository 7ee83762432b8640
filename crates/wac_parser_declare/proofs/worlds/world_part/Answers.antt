use Rattle.std.specs.Prelude.{⊤}
use Rattle.std.proofs.Common.{subst, sym}
use Rattle.wac_parser_tree.specs.declared.world.WorldItem.{WorldItem}
use Rattle.wac_parser_tree.specs.Views.{view_world_item}
use Rattle.wac_parser_refusals.specs.Outcomes.{IsOutcome}
use Rattle.wac_parser_declare.specs.Bodies as stated
use Rattle.wac_parser_declare.specs.Held.{stated_body}
use Rattle.wac_parser_declare.specs.InBodies.{IsBody}
use Rattle.wac_parser_declare.specs.Worlds.{world_part}
use Rattle.wac_parser_declare.proofs.worlds.world_part.Goals as goal

pub returns-in-Use-clause-outcome : goal.returns-in-Use-clause-outcome
returns-in-Use-clause-outcome g c x s =
    let b = stated_body (g.T.GrowingTypes.collection c.args.types.now) c.args.body.now in
    let k : stated.Body → ⊤ → Type 0 = λ y u. IsBody (g.T.GrowingTypes.collection c.use_types.new.types) y c.use_types.new.body in
    subst (λ (i : WorldItem). IsOutcome k (world_part x c.args.world.now b (view_world_item i)) c.use_types.result) (sym c.in-Use.is) (c.use_types.ensures.outcome x s)

pub returns-in-Import-clause-outcome : goal.returns-in-Import-clause-outcome
returns-in-Import-clause-outcome g c x s =
    let b = stated_body (g.T.GrowingTypes.collection c.args.types.now) c.args.body.now in
    let k : stated.Body → ⊤ → Type 0 = λ y u. IsBody (g.T.GrowingTypes.collection c.world_item.new.types) y c.world_item.new.body in
    subst (λ (i : WorldItem). IsOutcome k (world_part x c.args.world.now b (view_world_item i)) c.world_item.result) (sym c.in-Import.is) (c.world_item.ensures.outcome x s)

pub returns-in-Export-clause-outcome : goal.returns-in-Export-clause-outcome
returns-in-Export-clause-outcome g c x s =
    let b = stated_body (g.T.GrowingTypes.collection c.args.types.now) c.args.body.now in
    let k : stated.Body → ⊤ → Type 0 = λ y u. IsBody (g.T.GrowingTypes.collection c.world_item-in-Export.new.types) y c.world_item-in-Export.new.body in
    subst (λ (i : WorldItem). IsOutcome k (world_part x c.args.world.now b (view_world_item i)) c.world_item-in-Export.result) (sym c.in-Export.is) (c.world_item-in-Export.ensures.outcome x s)
